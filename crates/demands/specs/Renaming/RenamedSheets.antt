-- Document 02, K14, the notions: "two full table sheets with the same first three lines, one got from the other by a one-to-one renaming of the ink
-- levels", and two net sheets where "their gate lines agree in left and right throughout and in every table but the last. The last tables differ by
-- that renaming at each digit that some assignment reaches." Stated for the sheets' bytes.
-- Assumes nothing.
use Rattle.std.specs.Prelude.{◌<◌, ◌^◌, ◌≡◌}
use Rattle.laws.specs.Prelude.{ℕ, ◌∙◌, sym, ap, refl, subst⁻¹, List, map, length, length-append, length-map}
use Rattle.rules.specs.Calls.Answers.{accepted, ink_in}
use Rattle.rules.specs.Calls.OpenCells.{read_full}
use Rattle.rules.specs.Sheets.Printed.{printed_net}
use Rattle.rules.specs.Sheets.Reading.{read_net}
use Rattle.rules.specs.Sheets.Sheets.{Header, Gate, Net, Table}
use Rattle.rules.specs.Text.{digit_byte}
use Rattle.laws.specs.Lists.Places.{map_at}
use Rattle.laws.specs.Calls.Settling.{marks_of_table}
use Rattle.trees.specs.Trees.NetTables.{levels_pos}
use Rattle.trees.specs.Renaming.Renaming.{Renamed, SameInks, renamed_same, marks_renamed}
use Rattle.trees.specs.Renaming.ButLast.{ButLastField, but_last_printed}
use Rattle.trees.specs.Renaming.RenamedGates.{RenamedGates}
use Rattle.demands.specs.Sheets.FullSheets.{FullTableRules, full_sheet, full_accepted}
use Rattle.demands.specs.Sheets.FirstLines.{three_lines}
use Rattle.demands.specs.Sheets.TableLines.{same_table_lines}
use Rattle.demands.specs.Settling.Settles.{table_path}

-- ---- two full table sheets

-- both accepted and full, and r renames the levels of the one to those of the other
pub record RenamedTables (r : ℕ → ℕ) (s other : List ℕ) : Type 0 where
  pub table : Table
  pub renamed : Table
  pub reads : read_full s ≡ accepted table
  pub reads_other : read_full other ≡ accepted renamed
  -- "with the same first three lines"
  pub lines : three_lines s ≡ three_lines other
  -- "a one-to-one renaming of the ink levels"
  pub levels : (v : ℕ) → v < table.header.levels → r v < table.header.levels
  pub one_to_one : (u v : ℕ) → u < table.header.levels → v < table.header.levels → r u ≡ r v → u ≡ v
  -- "one got from the other by" it
  pub inks : renamed.inks ≡ map r table.inks

-- the table with its inks renamed
abbrev pub renamed_table : (ℕ → ℕ) → Table → Table
renamed_table r t = record { header = t.header; inks = map r t.inks }

-- the tables of two such sheets, and their levels and inputs, by one letter each
pub record Letters : Type 0 where
  pub t : Table
  pub u : Table
  pub m : ℕ
  pub n : ℕ

abbrev pub letters_of : (r : ℕ → ℕ) (s other : List ℕ) → RenamedTables r s other → Letters
letters_of r s other both =
    let t = both.table in
    record { t = t; u = renamed_table r t; m = t.header.levels; n = t.header.inputs }

module _ (r : ℕ → ℕ) (s other : List ℕ) (both : RenamedTables r s other) where
  open letters_of r s other both use {t, u, m, n}

  pub kept_one : FullTableRules t
  kept_one = (full_accepted s t both.reads).1

  pub positive : 0 < m
  positive = levels_pos m kept_one.header.levels

  -- the other sheet's table is that one
  pub is_renamed : both.renamed ≡ u
  is_renamed =
      let read = ((full_sheet s t).0 both.reads).0 in
      let read_other = ((full_sheet other both.renamed).0 both.reads_other).0 in
      table_path both.renamed u (sym ((same_table_lines s other t both.renamed read read_other).0 both.lines)) both.inks

  pub reads_renamed : read_full other ≡ accepted u
  reads_renamed = both.reads_other ∙ ap accepted is_renamed

  pub kept_other : FullTableRules u
  kept_other = (full_accepted other u reads_renamed).1

  pub renamed_inks_below : (p : ℕ) → p < m ^ n → ink_in t.inks p < m
  renamed_inks_below p h = kept_one.below p (subst⁻¹ (λ (k : ℕ). p < k) kept_one.count h)

  pub inks_renamed : Renamed m n r (ink_in t.inks) (ink_in u.inks)
  inks_renamed = record {
    levels = both.levels;
    one_to_one = both.one_to_one;
    inks = λ p h. map_at r t.inks p 0 0 (subst⁻¹ (λ (k : ℕ). p < k) kept_one.count h);
  }

  pub same_inks : SameInks m n (ink_in t.inks) (ink_in u.inks)
  same_inks = renamed_same m n r (ink_in t.inks) (ink_in u.inks) renamed_inks_below inks_renamed

  -- they have the same marks
  pub same_marks : marks_of_table t ≡ marks_of_table u
  same_marks = marks_renamed m n positive (ink_in t.inks) (ink_in u.inks) same_inks

-- ---- two net sheets

-- Both are accepted. They are the same bytes except for the last line's table field. The two last tables differ by the renaming at each digit that
-- some assignment reaches, and are 0 elsewhere.
pub record RenamedNets (r : ℕ → ℕ) (sheet other : List ℕ) : Type 0 where
  pub net : Net
  pub renamed : Net
  pub reads : read_net sheet ≡ accepted net
  pub reads_other : read_net other ≡ accepted renamed
  pub header : renamed.header ≡ net.header
  pub gates : RenamedGates net.header.levels net.header.inputs r net.gates renamed.gates
  pub bytes : ButLastField sheet other (map digit_byte gates.lines.last.digits) (map digit_byte gates.lines.digits)

-- sheets that differ in one field have the same length if its two forms do
field_long : (sheet other field theirs : List ℕ) → ButLastField sheet other field theirs → length field ≡ length theirs → length sheet ≡ length other
field_long sheet other field theirs bytes same = rw (bytes.ours, bytes.theirs) (simp (length-append, same))

-- so the two net sheets have the same length
pub renamed_long : (r : ℕ → ℕ) (sheet other : List ℕ) → RenamedNets r sheet other → length sheet ≡ length other
renamed_long r sheet other nets =
    field_long sheet other _ _ nets.bytes (simp length-map (nets.gates.count ∙ sym nets.gates.count_renamed))

-- for two nets under one header
pub nets_renamed : (r : ℕ → ℕ) (header : Header) (gates others : List Gate)
    → read_net (printed_net (record { header = header; gates = gates })) ≡ accepted (record { header = header; gates = gates })
    → read_net (printed_net (record { header = header; gates = others })) ≡ accepted (record { header = header; gates = others })
    → RenamedGates header.levels header.inputs r gates others
    → RenamedNets r (printed_net (record { header = header; gates = gates })) (printed_net (record { header = header; gates = others }))
nets_renamed r header gates others reads reads_other renamed = record {
  net = record { header = header; gates = gates };
  renamed = record { header = header; gates = others };
  reads = reads;
  reads_other = reads_other;
  header = refl;
  gates = renamed;
  bytes = but_last_printed header gates others renamed.lines;
}
