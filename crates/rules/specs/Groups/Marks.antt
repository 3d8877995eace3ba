-- Document 01, section 'Marks'.
-- Assumes nothing.
use Rattle.std.specs.Prelude.{ℕ, zero, suc, ◌+◌, ◌-◌, ◌*◌, ◌/◌, ◌%◌, ◌^◌, Bool, true, false, not, ◌&&◌, ◌||◌, List, [], ◌∷◌, ◌++◌, get_or, eqb, leb}
use Rattle.std.proofs.Math.Option.{none, some}
use Rattle.rules.specs.Lists.{range, all, any, those, concat_map, find}
use Rattle.rules.specs.Groups.Groups.{member, size, multiplicity}

-- every member of a is a member of g
unfoldable pub inside : ℕ → ℕ → ℕ → Bool
inside n a g = all (λ i. not (member i a) || member i g) (range 0 n)

-- the mark of g in a list that holds each group's mark at its number
abbrev pub mark_in : List ℕ → ℕ → ℕ
mark_in marks g = get_or marks g 0

-- g "parts into two non-empty groups that both have mark 2": a and the rest of g, where a is neither 0 nor g
unfoldable pub parts_at : ℕ → List ℕ → ℕ → ℕ → Bool
parts_at n marks g a = inside n a g && eqb (mark_in marks a) 2 && eqb (mark_in marks (g - a)) 2

-- "0 if it is empty or its multiplicity is over m; 2 if it has one member, or its multiplicity is at most m and it parts
-- into two non-empty groups that both have mark 2; 1 otherwise." `marks` holds the marks of the groups below g.
unfoldable pub mark_of : ℕ → ℕ → (ℕ → ℕ) → List ℕ → ℕ → ℕ
mark_of m n f marks g =
    elim (eqb g 0 || not (leb (multiplicity m n f g) m)) [
      | true ↦ 0
      | false ↦ elim (eqb (size n g) 1 || any (parts_at n marks g) (range 1 (g - 1))) [ true ↦ 2 | false ↦ 1 ]
    ]

-- the marks of the groups below `count`
unfoldable pub marks_below : ℕ → ℕ → (ℕ → ℕ) → ℕ → List ℕ
marks_below m n f zero = []
marks_below m n f (suc count) = let marks = marks_below m n f count in marks ++ (mark_of m n f marks count ∷ [])

-- "Every group has a mark"
unfoldable pub marks_of : ℕ → ℕ → (ℕ → ℕ) → List ℕ
marks_of m n f = marks_below m n f (2 ^ n)

-- ---- how marks are stored

-- "The length needed is 2 to the n, divided by 4" (document 02, K7)
unfoldable pub marks_length : ℕ → ℕ
marks_length n = 2 ^ n / 4

-- "Marks are packed four to a byte, group 0 in the lowest two bits of byte 0." (document 02, K7) Fewer than four left over get no byte; the
-- number of groups is a multiple of four.
unfoldable pub stored_marks : List ℕ → List ℕ
stored_marks [] = []
stored_marks (a ∷ []) = []
stored_marks (a ∷ b ∷ []) = []
stored_marks (a ∷ b ∷ c ∷ []) = []
stored_marks (a ∷ b ∷ c ∷ d ∷ marks) = (a + 4 * b + 16 * c + 64 * d) ∷ stored_marks marks

-- the mark of group g in stored bytes: two bits of byte g / 4
unfoldable pub mark_stored : List ℕ → ℕ → ℕ
mark_stored bytes g = get_or bytes (g / 4) 0 / 4 ^ (g % 4) % 4

-- all marks in stored bytes
unfoldable pub unpacked : List ℕ → List ℕ
unpacked [] = []
unpacked (byte ∷ bytes) = byte % 4 ∷ byte / 4 % 4 ∷ byte / 16 % 4 ∷ byte / 64 % 4 ∷ unpacked bytes

-- the groups, fewest members first, then lowest number
unfoldable pub by_size : ℕ → List ℕ
by_size n = concat_map (λ k. those (λ g. eqb (size n g) k) (range 0 (2 ^ n))) (range 0 (n + 1))

-- "no tree; place: the group of fewest members, then lowest number, with mark 1". Such a group exists whenever the whole group's mark is not 2
-- (`no_tree_place_lem` in the crate `trees`), so `none ↦ 0` is never used.
unfoldable pub no_tree_place : ℕ → List ℕ → ℕ
no_tree_place n marks = elim (find (λ g. eqb (mark_in marks g) 1) (by_size n)) [ none ↦ 0 | some g ↦ g ]

-- all of this file computes
unfoldable pub computing : Unit {0}
unfolding inside parts_at mark_of marks_below marks_of marks_length stored_marks mark_stored unpacked by_size no_tree_place
computing = tt
