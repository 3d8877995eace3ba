-- Walking a list or a range from the front: what is known about the rest from a place on, one step further, and where the walk stops.
-- Assumes nothing.
use Rattle.std.specs.Prelude.{◌<◌, ◌≤◌, ◌+◌, ◌-◌, ◌≡◌, ◌∷◌}
use Rattle.laws.specs.Prelude.{ℕ, ◌∙◌, sym, ap, true, false, Bool, List, map, add-zero, add-one, arith, length, get_or}
use Rattle.laws.specs.Prelude.{drop, drop_of_length-le, drop-cons}
use Rattle.rules.specs.Lists.{range, all, any, find, first_place}
use Rattle.std.proofs.Math.Option.{none, some}
use Rattle.laws.specs.Lists.Ranges.{range_next, range_none}

-- ---- a list

-- the rest from place k on is the element there, and the rest after it
pub rest : (xs : List ℕ) (k : ℕ) → k < length xs → drop k xs ≡ get_or xs k 0 ∷ drop (k + 1) xs
rest xs k h = drop-cons xs k 0 h ∙ ap {B = List ℕ} (λ (j : ℕ). get_or xs k 0 ∷ drop j xs) (sym (add-one k))

module _ (test : ℕ → Bool) (xs : List ℕ) (k : ℕ) where
  pub all_next : k < length xs → test (get_or xs k 0) ≡ true → all test (drop (k + 1) xs) ≡ all test (drop k xs)
  unfolding all
  all_next h e = rw (rest xs k h, e, all)

  pub all_stop : k < length xs → test (get_or xs k 0) ≡ false → all test (drop k xs) ≡ false
  unfolding all
  all_stop h e = rw (rest xs k h, e, all)

  pub all_end : length xs ≤ k → all test (drop k xs) ≡ true
  unfolding all
  all_end h = rw (drop_of_length-le xs h)

  pub place_next : k < length xs → test (get_or xs k 0) ≡ false
      → k + 1 + first_place test (drop (k + 1) xs) ≡ k + first_place test (drop k xs)
  unfolding first_place
  place_next h e = rw (rest xs k h, e, first_place) (omega arith)

  pub place_stop : k < length xs → test (get_or xs k 0) ≡ true → k + first_place test (drop k xs) ≡ k
  unfolding first_place
  place_stop h e = rw (rest xs k h, e, first_place) (add-zero k)

  pub place_end : length xs ≤ k → k + first_place test (drop k xs) ≡ k
  unfolding first_place
  place_end h = rw (drop_of_length-le xs h) (add-zero k)

-- ---- a range

module _ {A : Type 0} (test : A → Bool) (f : ℕ → A) (i end : ℕ) where
  pub any_next : i < end → test (f i) ≡ false → any test (map f (range (i + 1) (end - (i + 1)))) ≡ any test (map f (range i (end - i)))
  unfolding any
  any_next h e = rw (range_next i end h, e, any)

  pub any_stop : i < end → test (f i) ≡ true → any test (map f (range i (end - i))) ≡ true
  unfolding any
  any_stop h e = rw (range_next i end h, e, any)

  pub any_end : end ≤ i → any test (map f (range i (end - i))) ≡ false
  unfolding any
  any_end h = rw (range_none i end h)

module _ (test : ℕ → Bool) (i end : ℕ) where
  pub find_next : i < end → test i ≡ false → find test (range (i + 1) (end - (i + 1))) ≡ find test (range i (end - i))
  unfolding find
  find_next h e = rw (range_next i end h, e, find)

  pub find_stop : i < end → test i ≡ true → find test (range i (end - i)) ≡ some i
  unfolding find
  find_stop h e = rw (range_next i end h, e, find)

  pub find_end : end ≤ i → find test (range i (end - i)) ≡ none
  unfolding find
  find_end h = rw (range_none i end h)
