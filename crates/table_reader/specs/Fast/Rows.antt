-- The rows, one after the other.
-- Assumes nothing.
use Rattle.std.specs.Prelude.{◌<◌, ◌≤◌, ◌+◌, ◌-◌, ◌^◌, ◌≡◌, ◌∷◌, ◌++◌, Ok, Err}
use Rattle.laws.specs.Prelude.{ℕ, suc, ◌∙◌, sym, ap, refl, List, [], add-one, arith, length, take, drop}
use Rattle.laws.specs.Prelude.{set, take-suc-set}
use Rattle.laws.specs.Lists.Bounds.{Below, below_append}
use Rattle.rules.specs.Sheets.Fields.{then}
use Rattle.rules.specs.Sheets.Sheets.{levels_at, level_fields, row_lines}
use Rattle.answers.specs.declared.refusal.Refusal.{Refusal}
use Rattle.fields.specs.Steps.{Step, step_as, itself}
use Rattle.fields.specs.declared.steps.Field.{Field}
use Rattle.fields.specs.Chained.{field_then_then, never_both}
use Rattle.table_reader.specs.Row.{row_line, row_ink}

-- reading all rows from `at` on; their inks are at the front of `cells`
pub record RowsRead (s : List ℕ) (at m n : ℕ) (cells : List ℕ) (r : Step) : Type 0 where
  pub reads : step_as (λ _. take (m ^ n) cells) s r ≡ row_lines m n 0 (m ^ n) [] (drop at s) at
  pub held : (found : Field) → r ≡ Ok found → Below (suc m) (take (m ^ n) cells)

rows_more : (m n p count : ℕ) (inks t : List ℕ) (q : ℕ)
    → row_lines m n p (suc count) inks t q ≡ then (row_line m (levels_at m n p) t q) (λ ink. row_lines m n (suc p) count (inks ++ (ink ∷ [])))
unfolding row_lines row_line
rows_more m n p count inks t q = sym (field_then_then (level_fields (levels_at m n p) t q) _ _)

-- p rows are read, and the rows from here are the rows from the start
pub record TableReached (s : List ℕ) (at m n : ℕ) (cells : List ℕ) (place p : ℕ) : Type 0 where
  pub most : p ≤ m ^ n
  pub inks : Below (suc m) (take p cells)
  pub reads : row_lines m n 0 (m ^ n) [] (drop at s) at ≡ row_lines m n p (m ^ n - p) (take p cells) (drop place s) place

-- and `levels` begins with the levels of the next row
pub record InRows (s : List ℕ) (at m n : ℕ) (cells levels : List ℕ) (place p : ℕ) : Type 0 where
  pub reached : TableReached s at m n cells place p
  pub due : take n levels ≡ levels_at m n p

module _ (s : List ℕ) (at m n : ℕ) (cells : List ℕ) (place p : ℕ) (rows : TableReached s at m n cells place p) where
  -- cells after those of the rows read do not matter
  pub reached_kept : (after : List ℕ) → take p after ≡ take p cells → TableReached s at m n after place p
  reached_kept after e = record { most = rows.most; inks = rw e rows.inks; reads = rw e rows.reads }

  pub rows_done : m ^ n ≤ p → RowsRead s at m n cells (Ok (record { value = 0; next = place }))
  unfolding row_lines
  rows_done done =
      let all : p ≡ m ^ n = omega (arith, rows.most) in
      let none_left : m ^ n - p ≡ 0 = omega arith in
      record { reads = rw (rows.reads, none_left, all) refl; held = λ _ _. rw (← all) rows.inks }

  module _ (more : p < m ^ n) (step : Step) (row : step_as itself s step ≡ row_line m (levels_at m n p) (drop place s) place) where
    onward : row_lines m n 0 (m ^ n) [] (drop at s) at
        ≡ then (step_as itself s step) (λ ink. row_lines m n (suc p) (m ^ n - (p + 1)) (take p cells ++ (ink ∷ [])))
    onward =
        let counted : m ^ n - p ≡ suc (m ^ n - (p + 1)) = omega arith in
        rows.reads
        ∙ (ap (λ k. row_lines m n p k (take p cells) (drop place s) place) counted
        ∙ (rows_more m n p (m ^ n - (p + 1)) (take p cells) (drop place s) place
        ∙ ap (λ x. then x (λ ink. row_lines m n (suc p) (m ^ n - (p + 1)) (take p cells ++ (ink ∷ [])))) (sym row)))

    pub rows_back : (e : Refusal) → step ≡ Err e → RowsRead s at m n cells (Err e)
    unfolding then
    rows_back e is = record { reads = rw (onward, is) refl; held = λ found q. absurd (never_both (Err e) e found refl q) }

    module _ (ink : Field) (on : step ≡ Ok ink) where
      pub ink_within : ink.value ≤ m
      ink_within = row_ink m (levels_at m n p) (drop place s) (drop ink.next s) place ink.value ink.next (sym row ∙ ap (step_as itself s) on)

      pub reached_next : p < length cells → TableReached s at m n (set cells p ink.value) ink.next (p + 1)
      unfolding then
      reached_next here =
          record {
            most = omega arith;
            inks = rw stored (below_append (suc m) (take p cells) (ink.value ∷ []) rows.inks (omega (arith, ink_within), tt));
            reads = rw (onward, on, stored, add-one) refl;
          }
        where
          stored : take (p + 1) (set cells p ink.value) ≡ take p cells ++ (ink.value ∷ [])
          stored = rw (add-one) (take-suc-set cells p ink.value here)

-- the row that was read is the one given by `levels`
pub row_due : {s : List ℕ} {at m n : ℕ} {cells levels : List ℕ} {place p : ℕ} → InRows s at m n cells levels place p → (step : Step)
    → step_as itself s step ≡ row_line m (take n levels) (drop place s) place → step_as itself s step ≡ row_line m (levels_at m n p) (drop place s) place
row_due {s} {at} {m} {n} {cells} {levels} {place} rows step row = row ∙ ap (λ ls. row_line m ls (drop place s) place) rows.due
