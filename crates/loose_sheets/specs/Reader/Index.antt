-- The input fields of a row, one after the other: the index of its assignment.
-- Assumes nothing.
use Rattle.std.specs.Prelude.{◌<◌, ◌≤◌, ◌+◌, ◌-◌, ◌^◌, ◌*◌, ◌≡◌, Ok, Err}
use Rattle.laws.specs.Prelude.{ℕ, suc, ◌∙◌, sym, ap, refl, List, sub-zero, pow-zero, pow-le-pow_right, lt_of_lt_of_le}
use Rattle.laws.specs.Prelude.{mul_comm, pow-succ', add-one, arith, drop, digits_lt}
use Rattle.rules.specs.Text.{space, space_byte}
use Rattle.rules.specs.Sheets.Fields.{then, field_in, loose}
use Rattle.rules.specs.Sheets.LooseSheet.{any_level, index_fields}
use Rattle.answers.specs.declared.refusal.Refusal.{Refusal}
use Rattle.fields.specs.Chained.{never_both}
use Rattle.fields.specs.Steps.{Step, step_as, itself}
use Rattle.fields.specs.Taken.{field_on_in}
use Rattle.fields.specs.declared.steps.Field.{Field}
use Rattle.loose_sheets.specs.Reader.Levels.{level_told}

-- reading the n input fields from `at` on
pub record IndexRead (s : List ℕ) (at m n : ℕ) (r : Step) : Type 0 where
  pub reads : step_as itself s r ≡ index_fields m n 0 (drop at s) at
  pub below : (index : Field) → r ≡ Ok index → index.value < m ^ n

-- i fields are read, and the index from here is the index from the start
pub record InIndex (s : List ℕ) (at m n place index i : ℕ) : Type 0 where
  pub most : i ≤ n
  pub below : index < m ^ i
  pub reads : index_fields m n 0 (drop at s) at ≡ index_fields m (n - i) index (drop place s) place

pub index_start : (s : List ℕ) (at m n : ℕ) → InIndex s at m n at 0 0
index_start s at m n = record { most = omega arith; below = rw pow-zero (omega arith); reads = rw (sub-zero n) refl }

module _ (s : List ℕ) (at m n place index i : ℕ) (row : InIndex s at m n place index i) where
  pub index_done : n ≤ i → IndexRead s at m n (Ok (record { value = index; next = place }))
  unfolding index_fields
  index_done done =
      let all : i ≡ n = omega (arith, row.most) in
      let none_left : n - i ≡ 0 = omega arith in
      record { reads = sym (rw none_left at row.reads); below = λ found e. let is : index ≡ found.value = value_of found e in rw (← is, ← all) row.below }
    where
      value_of : (found : Field) → ◌≡◌ {A = Step} (Ok (record { value = index; next = place })) (Ok found) → index ≡ found.value
      value_of found e = let is : ◌≡◌ {A = Field} (record { value = index; next = place }) found = cc in ap (λ (f : Field). f.value) is

  module _ (more : i < n) (step : Step) (level : step_as itself s step ≡ field_in loose (any_level m) space_byte (drop place s) place) where
    onward : index_fields m n 0 (drop at s) at ≡ then (step_as itself s step) (λ l. index_fields m (n - (i + 1)) (index * m + l))
    unfolding index_fields space
    onward =
        let counted : n - i ≡ suc (n - (i + 1)) = omega arith in
        row.reads
        ∙ (ap (λ k. index_fields m k index (drop place s) place) counted
        ∙ ap (λ x. then x (λ l. index_fields m (n - (i + 1)) (index * m + l))) (sym level))

    pub index_back : (e : Refusal) → step ≡ Err e → IndexRead s at m n (Err e)
    unfolding then
    index_back e is = record { reads = rw (onward, is) refl; below = λ found q. absurd (never_both (Err e) e found refl q) }

    module _ (found : Field) (on : step ≡ Ok found) where
      pub level_below : found.value < m
      level_below = level_told m _ found.value (field_on_in s step place found on loose itself (any_level m) space_byte level).judged

      pub index_below : index * m + found.value < m ^ (i + 1)
      index_below = rw (add-one, pow-succ', mul_comm m (m ^ i)) (digits_lt row.below level_below)

      -- it stays below the number of cells
      pub index_fits : 0 < m → index * m + found.value < m ^ n
      index_fits pos = lt_of_lt_of_le index_below (pow-le-pow_right pos (omega arith))

      pub index_next : InIndex s at m n found.next (index * m + found.value) (i + 1)
      unfolding then
      index_next = record { most = omega arith; below = index_below; reads = rw (onward, on) refl }
