-- Where a loose sheet is refused: the place is at most the sheet's length. The place of a repeated row is its first field, which is before what is
-- judged then. So each reader is considered with a place that is not after its start.
-- Assumes nothing.
use Rattle.std.specs.Prelude.{◌≤◌, ◌+◌, ◌^◌, ◌*◌, ◌≡◌, ◌∷◌, ◌++◌}
use Rattle.laws.specs.Prelude.{ℕ, suc, zero, ◌∙◌, ap, refl, true, false, Bool, List, [], arith, eqb, length, test_cases}
use Rattle.laws.specs.Prelude.{length-append}
use Rattle.rules.specs.Calls.Answers.{refused}
use Rattle.rules.specs.Lists.{any}
use Rattle.rules.specs.Sheets.Fields.{Read, read, turned_back, Reader, then, ◌>>=◌, give, Judged, good, bad, Judge, run, past, separator, past_spaces, spaces_in}
use Rattle.rules.specs.Sheets.Fields.{spaces, loose, loose_separator, after_field_in, field_of_in, field_in, the_word, closed}
use Rattle.rules.specs.Sheets.Reading.{answered}
use Rattle.rules.specs.Sheets.Sheets.{levels_field, inputs_field, name_field, name_fields_in, header_lines_in, ink_field}
use Rattle.rules.specs.Text.{space, newline}
use Rattle.rules.specs.Sheets.LooseSheet.{Row, LooseTable, any_level, index_fields, is_of, not_given, row_from, loose_rows, loose_sheet, read_loose}
use Rattle.laws.specs.Lists.Runs.{run_past}
use Rattle.readback.specs.Tables.LooseFields.{loose_at_space, loose_at_other}
use Rattle.readback.specs.Readers.Refused.{PlacesWithin}

-- the result of a reader at a place, in a text that ends at `end`: reading stops at or after the place, with what is left, or the sheet is refused
-- within the text
abbrev Stops : {A : Type 0} → ℕ → ℕ → Read A → Type 0
Stops at end (read a rest place) = (at ≤ place) × (place + length rest ≡ end)
Stops at end (turned_back number place) = place ≤ end

-- this holds for `r` wherever it starts at or after `first`
record Within {A : Type 0} (first : ℕ) (r : Reader A) : Type 0 where
  pub stops : (s : List ℕ) (at : ℕ) → first ≤ at → Stops at (at + length s) (r s at)

module _ (first : ℕ) where
  within_give : {A : Type 0} (a : A) → Within first (give a)
  within_give a = record { stops = λ s at h. (omega arith, refl) }

  within_then : {A B : Type 0} {r : Reader A} (next : A → Reader B) → Within first r → ((a : A) → Within first (next a)) → Within first (r >>= next)
  unfolding then
  within_then {A} {B} {r} next w k = record { stops = λ s at h. go s at h (r s at) (w.stops s at h) }
    where
      later : (u : Read B) (at middle end : ℕ) → at ≤ middle → Stops middle end u → Stops at end u
      later (read b rest place) at middle end l (i, j) = (omega arith, j)
      later (turned_back number place) at middle end l i = i

      go : (s : List ℕ) (at : ℕ) → first ≤ at → (u : Read A) → Stops at (at + length s) u → Stops at (at + length s) (then u next)
      go s at h (turned_back number place) i = i
      go s at h (read a rest place) (i, j) = later (next a rest place) at place (at + length s) i (rw j at ((k a).stops rest place (omega arith)))

  -- ---- a field

  spaces_length : (s : List ℕ) → spaces_in s + length (past_spaces s) ≡ length s
  spaces_length [] = unfold spaces_in past_spaces in refl
  spaces_length (b ∷ s) = test_cases (eqb b space)
      (λ e. rw ((loose_at_space b s e).0, (loose_at_space b s e).1) (omega (arith, spaces_length s)))
      (λ e. rw ((loose_at_other b s e).0, (loose_at_other b s e).1) (omega (arith, spaces_length s)))

  within_spaces : {A : Type 0} (a : A) → Within first (spaces a)
  unfolding spaces
  within_spaces a = record { stops = λ s at h. (omega arith, omega (arith, spaces_length s)) }

  within_separator : {A : Type 0} (a : A) (due : ℕ) → Within first (separator a due)
  unfolding separator
  within_separator {A} a due = record { stops = at_byte }
    where
      go : (s : List ℕ) (at : ℕ) (t : Bool) → Stops {A = A} at (at + suc (length s)) (elim t [ true ↦ read a s (suc at) | false ↦ turned_back 1 at ])
      go s at true = (omega arith, omega arith)
      go s at false = omega arith

      at_byte : (s : List ℕ) (at : ℕ) → first ≤ at → Stops at (at + length s) (separator a due s at)
      at_byte [] at h = omega arith
      at_byte (b ∷ s) at h = go s at (eqb b due)

  within_loose : {A : Type 0} (a : A) (due : ℕ) → Within first (loose_separator a due)
  unfolding loose_separator
  within_loose {A} a due = record { stops = λ s at h. go s at h (eqb due space) }
    where
      go : (s : List ℕ) (at : ℕ) → first ≤ at → (t : Bool) → Stops {A = A} at (at + length s)
          (elim t [ true ↦ then (separator a due s at) spaces | false ↦ then (spaces a s at) (λ a. separator a due) ])
      go s at h true = (within_then spaces (within_separator a due) within_spaces).stops s at h
      go s at h false = (within_then (λ a. separator a due) (within_spaces a) (λ a. within_separator a due)).stops s at h

  within_field : {A : Type 0} (judge : Judge A) (due : ℕ) → Within first (field_in loose judge due)
  unfolding field_in field_of_in after_field_in
  within_field {A} judge due = record { stops = λ s at h. go s at h (run s) (ap length (run_past s) ∙ length-append (run s) (past s)) }
    where
      behind : (u : Read A) (end from to : ℕ) → from ≤ to → Stops to end u → Stops from end u
      behind (read b rest place) end from to l (i, j) = (omega arith, j)
      behind (turned_back number place) end from to l i = i

      verdict : (s : List ℕ) (at : ℕ) → first ≤ at → (w : List ℕ) (u : Judged A) → length s ≡ length w + length (past s)
          → Stops at (at + length s) (after_field_in loose u due (past s) at (at + length w))
      verdict s at h w (bad number) l = omega arith
      verdict s at h w (good a) l =
          let ends : at + length w + length (past s) ≡ at + length s = omega arith in
          behind (loose_separator a due (past s) (at + length w)) (at + length s) at (at + length w) (omega arith)
          (rw ends at ((within_loose a due).stops (past s) (at + length w) (omega arith)))

      go : (s : List ℕ) (at : ℕ) → first ≤ at → (w : List ℕ) → length s ≡ length w + length (past s)
          → Stops at (at + length s) (field_of_in loose judge due w (past s) at)
      go s at h [] l = omega arith
      go s at h (b ∷ w) l = verdict s at h (b ∷ w) (judge (b ∷ w)) l

  -- ---- the sheet's parts

  within_names : (last count : ℕ) (earlier : List (List ℕ)) → Within first (name_fields_in loose last count earlier)
  unfolding name_fields_in
  within_names last zero earlier = within_give earlier
  within_names last (suc zero) earlier = within_then _ (within_field (name_field earlier) last) (λ w. within_give (earlier ++ (w ∷ [])))
  within_names last (suc (suc count)) earlier =
      within_then _ (within_field (name_field earlier) space) (λ w. within_names last (suc count) (earlier ++ (w ∷ [])))

  within_header : (last : ℕ) → Within first (header_lines_in loose last)
  unfolding header_lines_in
  within_header last =
      within_then _ (within_field (the_word "levels") space) (λ _.
      within_then _ (within_field (the_word "inputs") newline) (λ _.
      within_then _ (within_field levels_field space) (λ m.
      within_then _ (within_field (inputs_field m) newline) (λ n.
      within_then _ (within_names last n []) (λ names. within_give _)))))

  within_index : (m count before : ℕ) → Within first (index_fields m count before)
  unfolding index_fields
  within_index m zero before = within_give before
  within_index m (suc count) before = within_then _ (within_field (any_level m) space) (λ l. within_index m count (before * m + l))

  within_not_given : (earlier : List Row) (p : ℕ) → Within first (not_given first earlier p)
  unfolding not_given
  within_not_given earlier p = record { stops = λ s at h. go s at h (any (is_of p) earlier) }
    where
      go : (s : List ℕ) (at : ℕ) → first ≤ at → (t : Bool) → Stops {A = Unit {0}} at (at + length s)
          (elim t [ true ↦ turned_back 20 first | false ↦ read tt s at ])
      go s at h true = omega arith
      go s at h false = (omega arith, refl)

  within_row : (m n : ℕ) (earlier : List Row) → Within first (row_from m n earlier first)
  unfolding row_from
  within_row m n earlier =
      within_then _ (within_index m n 0) (λ p.
      within_then _ (within_not_given earlier p) (λ _.
      within_then _ (within_field (ink_field m) newline) (λ ink. within_give _)))

within_rows : (m n count : ℕ) (earlier : List Row) → Within 0 (loose_rows m n count earlier)
unfolding loose_rows
within_rows m n zero earlier = within_give 0 earlier
within_rows m n (suc count) earlier =
    within_then 0 {r = λ s at. row_from m n earlier at s at} _ (record { stops = λ s at h. (within_row at m n earlier).stops s at (omega arith) })
    (λ row. within_rows m n count (earlier ++ (row ∷ [])))

within_closed : Within 0 closed
unfolding closed
within_closed = record { stops = ends }
  where
    ends : (s : List ℕ) (at : ℕ) → 0 ≤ at → Stops at (at + length s) (closed s at)
    ends [] at h = (omega arith, refl)
    ends (b ∷ s) at h = omega arith

within_sheet : Within 0 loose_sheet
unfolding loose_sheet
within_sheet =
    within_then 0 _ (within_header 0 space) (λ h.
    within_then 0 _ (within_field 0 (the_word "ink") newline) (λ _.
    within_then 0 _ (within_rows h.levels h.inputs (h.levels ^ h.inputs) []) (λ rows.
    within_then 0 _ within_closed (λ _. within_give 0 _))))

-- the place of every refusal of a loose sheet is at most the sheet's length
pub loose_place : PlacesWithin read_loose
unfolding read_loose answered
loose_place s number place e = go (loose_sheet s 0) (within_sheet.stops s 0 (omega arith)) e
  where
    go : (u : Read LooseTable) → Stops 0 (0 + length s) u → answered u ≡ refused number place → place ≤ length s
    go (read t rest p) i e = absurd (let z : ◌≡◌ {A = ℕ} 0 1 = cc in omega arith)
    go (turned_back k p) i e = let same : p ≡ place = cc in omega arith
