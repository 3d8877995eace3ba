-- A row of a loose sheet.
-- Assumes nothing.
use Rattle.std.specs.Prelude.{◌<◌, ◌≤◌, ◌^◌, ◌≡◌, Result, Ok, Err}
use Rattle.laws.specs.Prelude.{ℕ, ◌∙◌, sym, ap, refl, true, false, List, arith, get_or, drop}
use Rattle.rules.specs.Lists.{any}
use Rattle.rules.specs.Text.{newline, newline_byte}
use Rattle.rules.specs.Sheets.Fields.{Read, read, turned_back, Reader, then, ◌>>=◌, give, field_in, loose}
use Rattle.rules.specs.Sheets.Sheets.{ink_field}
use Rattle.rules.specs.Sheets.LooseSheet.{Row, is_of, not_given, row_from}
use Rattle.answers.specs.declared.refusal.Kind.TheVariants as kinds
use Rattle.answers.specs.declared.refusal.Refusal.{Refusal}
use Rattle.fields.specs.Chained.{never_both}
use Rattle.fields.specs.Steps.{Step, read_as, step_as, itself}
use Rattle.fields.specs.Taken.{field_read_in}
use Rattle.fields.specs.declared.steps.Field.{Field}
use Rattle.table_reader.specs.Inks.{ink_told}
use Rattle.loose_sheets.specs.Reader.Index.{IndexRead}
use Rattle.loose_sheets.specs.declared.reader.row.RowRead.{RowRead}

-- the result of reading a row in the sheet s
abbrev pub row_as : List ℕ → Result RowRead Refusal → Read Row
row_as s r = read_as (λ (row : RowRead). record { index = row.index; ink = row.ink }) (λ (row : RowRead). row.next) s r

-- `given` has a 0 at each index below k that no row named, and at no other
pub record LooseGiven (k : ℕ) (rows : List Row) (given : List ℕ) : Type 0 where
  pub named : (p : ℕ) → p < k → (get_or given p 0 ≡ 0 → ⊥) → any (is_of p) rows ≡ true
  pub left : (p : ℕ) → p < k → get_or given p 0 ≡ 0 → any (is_of p) rows ≡ false

-- the ink of the row that names index p
unfoldable pub ink_of_row : ℕ → ℕ → Reader Row
ink_of_row m p = field_in loose (ink_field m) newline >>= λ ink. give (record { index = p; ink = ink })

-- reading a row at `at`, after any rows that `given` represents
pub record RowReads (s : List ℕ) (at m n : ℕ) (given : List ℕ) (r : Result RowRead Refusal) : Type 0 where
  pub reads : (earlier : List Row) → LooseGiven (m ^ n) earlier given → row_as s r ≡ row_from m n earlier at (drop at s) at
  pub held : (row : RowRead) → r ≡ Ok row → (row.index < m ^ n) × (row.ink ≤ m) × (get_or given row.index 0 ≡ 0)

-- ---- the ink

module _ (s : List ℕ) (at m p : ℕ) (step : Step) (ink : step_as itself s step ≡ field_in loose (ink_field m) newline_byte (drop at s) at) where
  pub ink_back : (e : Refusal) → step ≡ Err e → row_as s (Err e) ≡ ink_of_row m p (drop at s) at
  unfolding ink_of_row then newline
  ink_back e is = rw (← ink, is) refl

  pub loose_row_ink_on : (found : Field) → step ≡ Ok found
      → row_as s (Ok (record { index = p; ink = found.value; next = found.next })) ≡ ink_of_row m p (drop at s) at
  unfolding ink_of_row then newline
  loose_row_ink_on found is = rw (← ink, is) refl

-- an ink that was read is a level, or m for an open cell, and the index is the given one
pub ink_told_within : (s : List ℕ) (at m p : ℕ) (r : Result RowRead Refusal) → row_as s r ≡ ink_of_row m p (drop at s) at
    → (row : RowRead) → r ≡ Ok row → (row.index ≡ p) × (row.ink ≤ m)
unfolding ink_of_row then
ink_told_within s at m p r e row is = go (field_in loose (ink_field m) newline (drop at s) at) refl (sym (ap (row_as s) is) ∙ e)
  where
    go : (x : Read ℕ) → field_in loose (ink_field m) newline (drop at s) at ≡ x
        → row_as s (Ok row) ≡ then x (λ ink. give (record { index = p; ink = ink })) → (row.index ≡ p) × (row.ink ≤ m)
    go (read a rest place) f h =
        let same_row : ◌≡◌ {A = Row} (record { index = row.index; ink = row.ink }) (record { index = p; ink = a }) = cc in (
          ap (λ (row : Row). row.index) same_row,
          rw (ap (λ (row : Row). row.ink) same_row)
              (ink_told m _ a (field_read_in loose (ink_field m) a newline (drop at s) rest at place f).0),
        )
    go (turned_back number place) f h = let z : ◌≡◌ {A = ℕ} 0 1 = cc in absurd (omega arith)

-- ---- the whole row

module _ (s : List ℕ) (at m n : ℕ) (given : List ℕ) (step : Step) (index : IndexRead s at m n step) where
  pub loose_row_back : (e : Refusal) → step ≡ Err e → RowReads s at m n given (Err e)
  unfolding row_from then
  loose_row_back e is =
      record { reads = λ earlier _. rw (← index.reads, is) refl; held = λ row q. absurd (never_both (Err e) e row refl q) }

  module _ (found : Field) (on : step ≡ Ok found) where
    pub row_given : (get_or given found.value 0 ≡ 0 → ⊥) → RowReads s at m n given (Err (record { kind = kinds.RepeatedRow; place = at }))
    unfolding row_from then not_given
    row_given twice =
        record {
          reads = λ earlier marks. rw (← index.reads, on, marks.named found.value (index.below found on) twice, not_given) refl;
          held = λ row q. absurd (never_both (Err _) _ row refl q);
        }

    pub row_on : (r : Result RowRead Refusal) → get_or given found.value 0 ≡ 0 → row_as s r ≡ ink_of_row m found.value (drop found.next s) found.next
        → RowReads s at m n given r
    unfolding row_from then not_given ink_of_row
    row_on r once ink =
        record {
          reads = λ earlier marks. rw (← index.reads, on, marks.left found.value (index.below found on) once, not_given) ink;
          held = λ row is.
              let (same_index, within) = ink_told_within s found.next m found.value r ink row is in
              (rw same_index (index.below found on), within, rw same_index once);
        }
