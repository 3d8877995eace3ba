-- An accepted sheet of a full table (document 02, K13): which sheets these are, which rules their tables follow, and the numbers that refuse others.
-- Assumes nothing.
use Rattle.std.specs.Prelude.{◌<◌, ◌^◌, ◌≡◌, ◌↔◌, ◌∷◌}
use Rattle.laws.specs.Prelude.{ℕ, ◌∙◌, sym, ap, refl, subst, List, [], arith, length}
use Rattle.rules.specs.Calls.Answers.{accepted, refused, ink_in}
use Rattle.rules.specs.Calls.OpenCells.{read_full}
use Rattle.rules.specs.Lists.{all, any}
use Rattle.rules.specs.Sheets.Printed.{printed_table}
use Rattle.rules.specs.Sheets.Reading.{read_table, table_of_net}
use Rattle.rules.specs.Sheets.SheetRules.{HeaderRules, NetRules, TableRules, FullTable}
use Rattle.rules.specs.Sheets.Sheets.{Net, Table}
use Rattle.laws.specs.Lists.Distinct.{In, wider}
use Rattle.laws.specs.Calls.OpenCells.{turned_back_lem, left_open, whole, full_read, read_full_lem, read_accepted, full_table_lem, table_full}
use Rattle.laws.specs.Calls.Answers.{not_refused}
use Rattle.readback.specs.Readers.Numbers.{table_numbers, table_refusal}
use Rattle.readback.specs.Sheets.ReadBack.{table_accepted, table_read_back}
use Rattle.trees.specs.Trees.NetTables.{levels_pos, inputs_several, kept_table, net_full}

-- a full table follows every rule: one ink below m for each cell
pub record FullTableRules (t : Table) : Type 0 where
  pub header : HeaderRules t.header
  pub count : length t.inks ≡ t.header.levels ^ t.header.inputs
  pub below : FullTable t

-- what most proofs about one need: several inputs, and inks below the levels
pub record FullFacts (t : Table) : Type 0 where
  pub pos : 0 < t.header.levels
  pub several : 1 < t.header.inputs
  pub inks_below : (p : ℕ) → p < t.header.levels ^ t.header.inputs → ink_in t.inks p < t.header.levels

pub full_facts : (t : Table) → FullTableRules t → FullFacts t
full_facts t kept = record {
  pos = levels_pos t.header.levels kept.header.levels;
  several = inputs_several t.header.inputs kept.header.inputs;
  inks_below = λ p h. kept.below p (rw kept.count h);
}

module _ (t : Table) where
  pub full_kept : TableRules t → FullTable t → FullTableRules t
  full_kept kept below = record { header = kept.header; count = kept.count; below = below }

  -- it follows the rules of a table sheet
  pub full_keeps : FullTableRules t → TableRules t
  full_keeps kept = record { header = kept.header; count = kept.count; within = λ k h. omega (arith, kept.below k h) }

-- a net's table is such a table
pub net_kept : (net : Net) → NetRules net → FullTableRules (table_of_net net)
net_kept net kept = full_kept (table_of_net net) (kept_table net kept) (net_full net kept)

module _ (s : List ℕ) (t : Table) where
  -- a sheet of a full table is an accepted table sheet whose table is full, ..
  pub full_sheet : (read_full s ≡ accepted t) ↔ ((read_table s ≡ accepted t) × FullTable t)
  full_sheet = (
    λ e. let (reads, on) = read_accepted s t e in (reads, table_full t (table_accepted s t reads).1 on),
    λ (reads, below). read_full_lem s t reads (full_table_lem t below),
  )

  -- .. and so the print of a full table that follows the rules
  pub full_accepted : read_full s ≡ accepted t → (s ≡ printed_table t) × FullTableRules t
  full_accepted e =
      let (reads, below) = full_sheet.0 e in
      let (is, kept) = table_accepted s t reads in
      (is, full_kept t kept below)

pub full_read_back : (t : Table) → FullTableRules t → read_full (printed_table t) ≡ accepted t
full_read_back t kept = (full_sheet (printed_table t) t).1 (table_read_back t (full_keeps t kept), kept.below)

-- "A sheet that keeps every rule of this section .. is accepted.", for full tables
pub full_sheets : (s : List ℕ) → ((t : Table) × (read_full s ≡ accepted t)) ↔ ((t : Table) × FullTableRules t × (s ≡ printed_table t))
full_sheets s = (
  λ (t, e). let (is, kept) = full_accepted s t e in (t, kept, is),
  λ (t, kept, is). (t, ap read_full is ∙ full_read_back t kept),
)

-- ---- refusals

abbrev pub full_numbers : List ℕ
full_numbers = 1 ∷ 2 ∷ 3 ∷ 4 ∷ 5 ∷ 6 ∷ 27 ∷ []

pub full_refusal : (s : List ℕ) (number place : ℕ) → read_full s ≡ refused number place → In number full_numbers
unfolding any all
full_refusal s number place e = elim (full_read s) [
  | turned_back_lem k at read back ↦
      let same : k ≡ number = cc in
      subst (λ (j : ℕ). In j full_numbers) same (wider table_numbers full_numbers refl k (table_refusal s k at read))
  | left_open t _ k _ back ↦
      let same : 27 ≡ number = cc in
      subst (λ (j : ℕ). In j full_numbers) same refl
  | whole t _ _ reads ↦ absurd (not_refused t number place (sym reads ∙ e))
]
