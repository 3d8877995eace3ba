-- Document 01, section 'Groups'. A table is given as `f`, the ink at each index.
-- Assumes nothing.
use Rattle.std.specs.Prelude.{ℕ, zero, suc, ◌+◌, ◌-◌, ◌*◌, ◌/◌, ◌%◌, ◌^◌, Bool, true, false, cond, List, [], ◌∷◌, ◌++◌, map, length, eqb}
use Rattle.rules.specs.Lists.{range, all, any, those, concat_map}

-- "A group is a set of inputs, numbered by the sum of 2 to the power i over its members, where i is the place in line 3 from
-- 0."
unfoldable pub member : ℕ → ℕ → Bool
member i g = eqb (g / 2 ^ i % 2) 1

-- how many members it has
unfoldable pub size : ℕ → ℕ → ℕ
size n g = length (those (λ i. member i g) (range 0 n))

-- the group of all inputs
unfoldable pub whole_group : ℕ → ℕ
whole_group n = 2 ^ n - 1

-- the group of "the other inputs"
unfoldable pub others : ℕ → ℕ → ℕ
others n g = whole_group n - g

-- A group's assignments, each as the index that has level 0 at every other input, counted with the "first-listed member
-- slowest". So an assignment of a group plus one of the other inputs is an index.
unfoldable pub points : ℕ → ℕ → ℕ → List ℕ
points m zero g = 0 ∷ []
points m (suc n) g =
    concat_map (λ p. elim (member n g) [ true ↦ map (λ l. p * m + l) (range 0 m) | false ↦ p * m ∷ [] ]) (points m n g)

-- the part of an index in the group: its levels at the members, 0 elsewhere
unfoldable pub part : ℕ → ℕ → ℕ → ℕ → ℕ
part m zero g p = 0
part m (suc n) g p = part m n g (p / m) * m + cond (member n g) (p % m) 0

-- "Two assignments of a group are alike when, for every assignment of the other inputs, the ink is the same."
unfoldable pub alike_over : (ℕ → ℕ) → List ℕ → ℕ → ℕ → Bool
alike_over f ys p q = all (λ y. eqb (f (p + y)) (f (q + y))) ys

-- .. over all of them
unfoldable pub alike : ℕ → ℕ → (ℕ → ℕ) → ℕ → ℕ → ℕ → Bool
alike m n f g p q = alike_over f (points m n (others n g)) p q

-- The first of each class, "in the order in which they first appear".
unfoldable pub firsts : {A : Type 0} → (A → A → Bool) → List A → List A → List A
firsts same kept [] = kept
firsts same kept (p ∷ ps) = elim (any (same p) kept) [ true ↦ firsts same kept ps | false ↦ firsts same (kept ++ (p ∷ [])) ps ]

-- a group's classes, each by its first assignment
unfoldable pub classes : ℕ → ℕ → (ℕ → ℕ) → ℕ → List ℕ
classes m n f g = let ys = points m n (others n g) in firsts (alike_over f ys) [] (points m n g)

-- "The group's multiplicity is the number of classes"
unfoldable pub multiplicity : ℕ → ℕ → (ℕ → ℕ) → ℕ → ℕ
multiplicity m n f g = length (classes m n f g)

-- all of this file computes
unfoldable pub computing : Unit {0}
unfolding member size whole_group others points part alike_over alike firsts classes multiplicity
computing = tt
