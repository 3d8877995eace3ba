-- The verdict on bare cells, one law for each outcome, and what follows if they are accepted.
-- Assumes nothing.
use Rattle.std.specs.Prelude.{◌<◌, ◌≤◌, ◌^◌, ◌≡◌}
use Rattle.laws.specs.Prelude.{ℕ, ◌∙◌, sym, ap, refl, true, false, Bool, not, and-false, List, arith, eqb, leb, length, get_or}
use Rattle.laws.specs.Prelude.{eq-eqb, eqb-true, ne_eqb, lt-ltb, le-ltb, eqb-false, le-leb, test_cases}
use Rattle.rules.specs.Limits.{size_fits}
use Rattle.rules.specs.Lists.{all, first_place}
use Rattle.rules.specs.Sheets.SheetRules.{TableRules}
use Rattle.rules.specs.Sheets.Sheets.{Table}
use Rattle.rules.specs.Calls.Answers as answers
use Rattle.rules.specs.Calls.BareCells.{bare_cells}
use Rattle.laws.specs.Calls.Answers.{not_refused}
use Rattle.laws.specs.Lists.FirstPlaces.{all_place}
use Rattle.laws.specs.Numbers.Sizes.{kept_fits}
use Rattle.laws.specs.Lists.Tests.{all_each}

module _ (m n : ℕ) (cells : List ℕ) where
  pub bare_size : size_fits m n ≡ false → answers.refused 9 0 ≡ bare_cells m n cells
  unfolding bare_cells
  bare_size e = rw (e, bare_cells)

  pub bare_length : (length cells ≡ m ^ n → ⊥) → answers.refused 9 0 ≡ bare_cells m n cells
  unfolding bare_cells
  bare_length ne = rw (ne_eqb (length cells) (m ^ n) ne, and-false (size_fits m n), bare_cells)

  module _ (fits : size_fits m n ≡ true) (count : length cells ≡ m ^ n) (k : ℕ)
      (over : k ≡ first_place (λ c. not (leb c m)) cells) where
    pub bare_cell : k < length cells → answers.refused 10 k ≡ bare_cells m n cells
    unfolding bare_cells
    bare_cell h =
        rw (fits, eq-eqb (length cells) (m ^ n) count, all_place (λ c. leb c m) cells, ← over, lt-ltb k (length cells) h, bare_cells)
        (ap (answers.refused 10) over)

    pub bare_good : length cells ≤ k → answers.accepted tt ≡ bare_cells m n cells
    unfolding bare_cells
    bare_good h =
        rw (fits, eq-eqb (length cells) (m ^ n) count, all_place (λ c. leb c m) cells, ← over, le-ltb k (length cells) h, bare_cells)

  -- no cell is above m
  pub bare_within : size_fits m n ≡ true → length cells ≡ m ^ n → ((k : ℕ) → k < length cells → get_or cells k 0 ≤ m) → answers.accepted tt ≡ bare_cells m n cells
  unfolding bare_cells
  bare_within fits count within =
      rw (fits, eq-eqb (length cells) (m ^ n) count, all_each (λ c. leb c m) 0 cells (λ k h. le-leb _ _ (within k h)), bare_cells)

  never : answers.accepted tt ≡ bare_cells m n cells → answers.refused 9 0 ≡ bare_cells m n cells → ⊥
  never e r = let z : ◌≡◌ {A = ℕ} 0 1 = cc in omega arith

  pub bare_accepted : answers.accepted tt ≡ bare_cells m n cells → (size_fits m n ≡ true) × (length cells ≡ m ^ n)
  bare_accepted e = go (size_fits m n) refl (eqb (length cells) (m ^ n)) refl
    where
      go : (s : Bool) → size_fits m n ≡ s → (t : Bool) → eqb (length cells) (m ^ n) ≡ t → (size_fits m n ≡ true) × (length cells ≡ m ^ n)
      go true fits true count = (fits, eqb-true _ _ count)
      go true fits false count = absurd (never e (bare_length (eqb-false _ _ count)))
      go false fits t count = absurd (never e (bare_size fits))

  -- .. and no cell is above m
  pub bare_inks : answers.accepted tt ≡ bare_cells m n cells → all (λ c. leb c m) cells ≡ true
  unfolding bare_cells
  bare_inks e = test_cases (all (λ c. leb c m) cells)
      (λ h. h)
      (λ h.
      let (fits, count) = bare_accepted e in
      let back : bare_cells m n cells ≡ answers.refused 10 (first_place (λ c. not (leb c m)) cells) =
      rw (fits, eq-eqb (length cells) (m ^ n) count, h, bare_cells) in
      absurd (not_refused tt 10 _ (e ∙ back)))

-- the inks of a table that follows the rules are accepted as bare cells
pub bare_kept : (t : Table) → TableRules t → bare_cells t.header.levels t.header.inputs t.inks ≡ answers.accepted tt
bare_kept t kept = sym (bare_within t.header.levels t.header.inputs t.inks (kept_fits t.header kept.header) kept.count kept.within)
