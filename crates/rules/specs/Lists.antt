-- A few functions on lists that the definitions share. Nothing here comes from document 01.
-- The branches of a test are lazy (`elim`), so evaluation of a long list stops at the first element that decides.
-- Assumes nothing.
use Rattle.std.specs.Prelude.{ℕ, zero, suc, ◌+◌, Bool, true, false, List, [], ◌∷◌, ◌++◌, eqb}
use Rattle.std.proofs.Math.Option.{Option, none, some}

-- `count` numbers from `from` on
unfoldable pub range : ℕ → ℕ → List ℕ
range from zero = []
range from (suc count) = from ∷ range (suc from) count

-- every element passes
unfoldable pub all : {A : Type 0} → (A → Bool) → List A → Bool
all test [] = true
all test (x ∷ xs) = elim (test x) [ true ↦ all test xs | false ↦ false ]

-- some element passes
unfoldable pub any : {A : Type 0} → (A → Bool) → List A → Bool
any test [] = false
any test (x ∷ xs) = elim (test x) [ true ↦ true | false ↦ any test xs ]

-- the place of the first element that passes, or the length if there is none
unfoldable pub first_place : {A : Type 0} → (A → Bool) → List A → ℕ
first_place test [] = zero
first_place test (x ∷ xs) = elim (test x) [ true ↦ zero | false ↦ suc (first_place test xs) ]

-- the elements that pass, in order
unfoldable pub those : {A : Type 0} → (A → Bool) → List A → List A
those test [] = []
those test (x ∷ xs) = elim (test x) [ true ↦ x ∷ those test xs | false ↦ those test xs ]

-- the lists that the elements give, joined
unfoldable pub concat_map : {A B : Type 0} → (A → List B) → List A → List B
concat_map f [] = []
concat_map f (x ∷ xs) = f x ++ concat_map f xs

-- the same numbers in the same order
unfoldable pub same : List ℕ → List ℕ → Bool
same [] [] = true
same [] (y ∷ ys) = false
same (x ∷ xs) [] = false
same (x ∷ xs) (y ∷ ys) = elim (eqb x y) [ true ↦ same xs ys | false ↦ false ]

-- the first element that passes
unfoldable pub find : {A : Type 0} → (A → Bool) → List A → Option A
find test [] = none
find test (x ∷ xs) = elim (test x) [ true ↦ some x | false ↦ find test xs ]

-- the sum of a list of numbers
unfoldable pub total : List ℕ → ℕ
total [] = 0
total (x ∷ xs) = x + total xs

-- some entries, followed by one for each item: what `next` gives from all entries before it
unfoldable pub with_each : {A B : Type 0} → (List A → B → A) → List A → List B → List A
with_each next entries [] = entries
with_each next entries (x ∷ xs) = with_each next (entries ++ (next entries x ∷ [])) xs

-- all of this file computes
unfoldable pub computing : Unit {0}
unfolding range all any first_place those concat_map same find total with_each
computing = tt
