-- The rule for a group's mark, as the code applies it: first whether there are few classes, then whether the group splits.
-- Assumes nothing.
use Rattle.std.specs.Prelude.{◌<◌, ◌≤◌, ◌-◌, ◌^◌, ◌≡◌, ◌||◌}
use Rattle.laws.specs.Prelude.{ℕ, ◌∙◌, ap, true, false, or-true, List, arith, eqb, eq-eqb, ne_eqb, lt-ltb, le-ltb, le-leb}
use Rattle.laws.specs.Prelude.{lt-leb}
use Rattle.rules.specs.Lists.{range, any}
use Rattle.rules.specs.Groups.Groups.{size, multiplicity}
use Rattle.rules.specs.Groups.Marks.{parts_at, mark_of}
use Rattle.rules.specs.Nets.Wirings.{first_input}
use Rattle.rules.specs.Nets.Settled.{split_of}
use Rattle.trees.specs.Groups.Members.{size_one, size_single, first_member}
use Rattle.radix.specs.Parts.{without_first}
use Rattle.marks.specs.Splits.{split_found}

-- the mark of a group that has at most m classes
unfoldable pub few_mark : ℕ → List ℕ → ℕ → ℕ
few_mark n marks g = elim (eqb (size n g) 1 || any (parts_at n marks g) (range 1 (g - 1))) [ true ↦ 2 | false ↦ 1 ]

-- ---- few classes

module _ (m n : ℕ) (f : ℕ → ℕ) (marks : List ℕ) (g : ℕ) where
  pub mark_empty : g ≡ 0 → 0 ≡ mark_of m n f marks g
  unfolding mark_of
  mark_empty e = rw (eq-eqb g 0 e, mark_of)

  -- a group with more than m classes has mark 0
  pub many_mark : m < multiplicity m n f g → 0 ≡ mark_of m n f marks g
  unfolding mark_of
  many_mark h = rw (lt-leb (multiplicity m n f g) m h, or-true (eqb g 0), mark_of)

  pub few_mark_lem : (g ≡ 0 → ⊥) → multiplicity m n f g ≤ m → few_mark n marks g ≡ mark_of m n f marks g
  unfolding mark_of few_mark
  few_mark_lem some h = rw (ne_eqb g 0 some, le-leb (multiplicity m n f g) m h, mark_of)

-- the group splits

module _ (n : ℕ) (marks : List ℕ) (g : ℕ) (some : 0 < g) (g< : g < 2 ^ n) (rest : ℕ) (is_rest : rest ≡ g - 2 ^ first_input n g) where
  pub mark_single : rest ≡ 0 → 2 ≡ few_mark n marks g
  unfolding few_mark
  mark_single none =
      let one : g ≡ 2 ^ first_input n g = omega (arith, (without_first n g some g<).0) in
      let single : size n g ≡ 1 = ap (size n) one ∙ size_single (first_input n g) n (first_member n g g< some).0 in
      rw (single, few_mark)

  module _ (several : rest ≡ 0 → ⊥) (split : ℕ) (is_split : split ≡ split_of n marks g) where
    not_single : size n g ≡ 1 → ⊥
    not_single one = several (omega (arith, (size_one n g g< one).1))

    pub mark_parted : split < g → 2 ≡ few_mark n marks g
    unfolding few_mark
    mark_parted h = rw (split_found n marks g some g<, ← is_split, lt-ltb split g h, or-true (eqb (size n g) 1), few_mark)

    pub mark_one : g ≤ split → 1 ≡ few_mark n marks g
    unfolding few_mark
    mark_one h = rw (ne_eqb (size n g) 1 not_single, split_found n marks g some g<, ← is_split, le-ltb split g h, few_mark)
