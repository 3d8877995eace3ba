-- Assignments: "An assignment gives each input a level." Each assignment is the levels of exactly one index, so a statement about every
-- index below m to the n is a statement about every assignment.
-- Assumes nothing.
use Rattle.std.specs.Prelude.{◌<◌, ◌+◌, ◌^◌, ◌*◌, ◌/◌, ◌≡◌, ◌↔◌, ◌∷◌, ◌++◌}
use Rattle.laws.specs.Prelude.{ℕ, suc, zero, ◌∙◌, sym, ap, refl, subst, List, [], append_assoc}
use Rattle.laws.specs.Prelude.{append-nil, zero-add, add-zero, pow-suc, pow-zero, div-lt_iff_lt-mul, div-add-mod', suc-add, add-suc, arith, length}
use Rattle.laws.specs.Prelude.{get_or, digits_lt, digits_mod, digits_div, lt-one}
use Rattle.rules.specs.Lists.{range}
use Rattle.rules.specs.Sheets.Sheets.{levels_at}
use Rattle.laws.specs.Numbers.Levels.{levels_length, levels_below, levels_suc}

-- "An assignment gives each input a level.": n levels below m, in the order of the inputs
pub record Assignment (m n : ℕ) (ls : List ℕ) : Type 0 where
  pub count : length ls ≡ n
  pub below : (i : ℕ) → i < n → get_or ls i 0 < m

-- the index whose digits are those of p followed by the levels
unfoldable pub index_from : ℕ → ℕ → List ℕ → ℕ
index_from m p [] = p
index_from m p (l ∷ ls) = index_from m (p * m + l) ls

-- The index of an assignment: its levels read as digits, the first input slowest.
unfoldable pub index_of : ℕ → List ℕ → ℕ
index_of m ls = index_from m 0 ls

-- every level is below m
abbrev Below : ℕ → List ℕ → Type 0
Below m ls = (i : ℕ) → i < length ls → get_or ls i 0 < m

-- ---- from levels to an index and back

-- digits below m give an index with that many more digits, ..
from_below : (m k p : ℕ) (ls : List ℕ) → p < m ^ k → Below m ls → index_from m p ls < m ^ (length ls + k)
unfolding index_from
from_below m k p [] h below = rw zero-add h
from_below m k p (l ∷ ls) h below =
    rw (suc-add, ← add-suc (length ls) k)
    (from_below m (suc k) (p * m + l) ls (rw pow-suc (digits_lt h (below 0 (omega arith)))) (λ i j. below (suc i) (omega arith)))

-- .. whose levels are those before, then these
levels_from : (m k p : ℕ) (ls : List ℕ) → Below m ls → levels_at m (length ls + k) (index_from m p ls) ≡ levels_at m k p ++ ls
unfolding index_from
levels_from m k p [] below = rw (zero-add, append-nil)
levels_from m k p (l ∷ ls) below =
    let l< : l < m = below 0 (omega arith) in
    rw (suc-add, ← add-suc (length ls) k)
    (levels_from m (suc k) (p * m + l) ls (λ i j. below (suc i) (omega arith))
    ∙ rw (levels_suc, digits_div p l<, digits_mod p l<, append_assoc))

-- one more level is one more digit
from_last : (m p : ℕ) (ls : List ℕ) (l : ℕ) → index_from m p (ls ++ (l ∷ [])) ≡ index_from m p ls * m + l
unfolding index_from
from_last m p [] l = refl
from_last m p (x ∷ ls) l = from_last m (p * m + x) ls l

-- the index of an index's levels is that index
pub index_levels : (m n p : ℕ) → 0 < m → p < m ^ n → index_of m (levels_at m n p) ≡ p
unfolding index_of
index_levels m zero p pos h = unfold levels_at range index_from in sym (lt-one (rw pow-zero at h))
index_levels m (suc n) p pos h =
    let front = index_levels m n (p / m) pos ((div-lt_iff_lt-mul pos).1 (rw pow-suc at h)) in
    rw (levels_suc, from_last, front) (div-add-mod' p m)

module _ (m n : ℕ) (ls : List ℕ) (given : Assignment m n ls) where
  below : Below m ls
  below i h = given.below i (omega (arith, given.count))

  -- the index of an assignment is one of the table's, ..
  pub index_of_below : index_of m ls < m ^ n
  unfolding index_of
  index_of_below = rw (add-zero, given.count) at (from_below m 0 0 ls (rw pow-zero (omega arith)) below)

  -- .. and its levels are the assignment
  pub levels_index : levels_at m n (index_of m ls) ≡ ls
  unfolding index_of
  levels_index = rw (add-zero, given.count) at (levels_from m 0 0 ls below) ∙ (unfold levels_at range in refl)

-- an index's levels are an assignment
pub levels_given : (m n p : ℕ) → 0 < m → Assignment m n (levels_at m n p)
levels_given m n p pos = record { count = levels_length m n p; below = λ i h. levels_below m n p i pos h }

-- Every list of n levels below m is the levels of exactly one index below m to the n: there is one, and any other is equal to it.
pub one_index : (m n : ℕ) → 0 < m → (ls : List ℕ) → Assignment m n ls
    → (p : ℕ) × (p < m ^ n) × (levels_at m n p ≡ ls) × ((q : ℕ) → q < m ^ n → levels_at m n q ≡ ls → q ≡ p)
one_index m n pos ls given = (
  index_of m ls,
  index_of_below m n ls given,
  levels_index m n ls given,
  λ q h e. sym (index_levels m n q pos h) ∙ ap (index_of m) e,
)

-- So something holds at every index exactly if it holds at every assignment.
pub each_assignment : (m n : ℕ) → 0 < m → (P : List ℕ → ℕ → Type 0)
    → ((p : ℕ) → p < m ^ n → P (levels_at m n p) p) ↔ ((ls : List ℕ) → Assignment m n ls → P ls (index_of m ls))
each_assignment m n pos P = (
  λ each ls given. subst (λ (l : List ℕ). P l (index_of m ls)) (levels_index m n ls given) (each (index_of m ls) (index_of_below m n ls given)),
  λ each p h. subst (λ (q : ℕ). P (levels_at m n p) q) (index_levels m n p pos h) (each (levels_at m n p) (levels_given m n p pos)),
)
