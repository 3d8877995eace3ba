-- The parts of a group that hold its first-listed input, in the order of the code: that input and a part of the others, by rising number.
-- Assumes nothing.
use Rattle.std.specs.Prelude.{◌<◌, ◌≤◌, ◌+◌, ◌-◌, ◌^◌, ◌≡◌, ◌&&◌}
use Rattle.laws.specs.Prelude.{ℕ, refl, true, false, Bool, and-eq-true_iff, and-true, List, arith, eqb, pow_pos}
use Rattle.std.specs.Int.Bits.{and_self}
use Rattle.rules.specs.Groups.Groups.{member}
use Rattle.rules.specs.Groups.Marks.{inside, mark_in, parts_at}
use Rattle.rules.specs.Nets.Wirings.{first_input}
use Rattle.trees.specs.Trees.MarkTwo.{is_a}
use Rattle.trees.specs.Groups.MarkRule.{parts_at_holds}
use Rattle.radix.specs.Parts.{PartOf, Next, without_first}
use Rattle.marks.specs.Splits.{holds_part, part_holds}

-- what the search looks for

-- a and the rest of g have mark 2
abbrev pub both_two : List ℕ → ℕ → ℕ → Bool
both_two marks g a = eqb (mark_in marks a) 2 && eqb (mark_in marks (g - a)) 2

-- A test for A that only a part of g that holds the first-listed input passes; `look` is what the code tests for such a part.
pub record Looked (g : ℕ) (test : ℕ → ℕ → Bool) (look : ℕ → Bool) : Type 0 where
  pub within : (n a : ℕ) → test n a ≡ true → (inside n a g ≡ true) × (member (first_input n g) a ≡ true)
  pub at_part : (n a : ℕ) → inside n a g ≡ true → member (first_input n g) a ≡ true → test n a ≡ look a

module _ (marks : List ℕ) (g : ℕ) where
  -- document 01's A
  abbrev pub settled_test : ℕ → ℕ → Bool
  settled_test n a = is_a n marks g a

  pub settled_looked : Looked g settled_test (both_two marks g)
  unfolding parts_at
  settled_looked =
      record {
        within = λ n a e. let sides = (and-eq-true_iff (parts_at n marks g a) _).0 e in ((parts_at_holds n marks g a sides.0).0, sides.1);
        at_part = λ n a is_inside is_held_lem. rw (is_inside, is_held_lem) (and-true _);
      }

-- a test is false if its passing is absurd
pub fails : (test : Bool) → (test ≡ true → ⊥) → test ≡ false
fails true h = absurd (h refl)
fails false h = refl

-- ---- the parts

module _ (g rest : ℕ) (some : 0 < g) (is_rest : (n : ℕ) → g < 2 ^ n → rest ≡ g - 2 ^ first_input n g) where
  module _ (n : ℕ) (g< : g < 2 ^ n) where
    -- the first-listed input by itself
    pub first : g - rest ≡ 2 ^ first_input n g
    first = omega (arith, is_rest n g<, (without_first n g some g<).0)

    -- a part that holds it is the first-listed input and a part of the others, ..
    pub is_part_of : (u : ℕ) → u < g → inside n u g ≡ true → member (first_input n g) u ≡ true → (g - rest ≤ u) × PartOf (u - (g - rest)) rest
    is_part_of u u< is_inside is_held_lem = let is = holds_part n g some g< u (omega arith) is_inside is_held_lem in rw (first, is_rest n g<) is

    -- .. and those two together are a part that holds it
    pub part_at : (part : ℕ) → part < rest → PartOf part rest
        → (0 < (g - rest) + part) × ((g - rest) + part < g) × (inside n ((g - rest) + part) g ≡ true) × (member (first_input n g) ((g - rest) + part) ≡ true)
    part_at part more is_part =
        let holds = part_holds n g some g< part (rw (← (is_rest n g<)) is_part) in (
          omega (arith, first, pow_pos (first_input n g)),
          omega (arith, more, first, is_rest n g<, (without_first n g some g<).0),
          rw first holds.0,
          rw first holds.1,
        )

  -- ---- what passes

  module _ (test : ℕ → ℕ → Bool) (look : ℕ → Bool) (looked : Looked g test look) (n : ℕ) (g< : g < 2 ^ n) where
    -- a passing part is the first-listed input and a part of the others: nothing below that input by itself passes, ..
    passes : (u : ℕ) → u < g → test n u ≡ true → (g - rest ≤ u) × PartOf (u - (g - rest)) rest
    passes u u< e = let is = looked.within n u e in is_part_of n g< u u< is.0 is.1

    pub none_below : (u : ℕ) → u < g - rest → test n u ≡ false
    none_below u u< = fails _ (λ e. omega (arith, (passes u (omega arith) e).0))

    -- .. and nothing between a part and the next passes
    pub none_between : (part next : ℕ) → part < rest → Next rest part next → (u : ℕ) → (g - rest) + part < u → u < (g - rest) + next → test n u ≡ false
    none_between part next more after u low high =
        fails (test n u) λ e.
        let is = passes u (omega (arith, after.least rest more (and_self rest), is_rest n g<)) e in
        omega (arith, after.least (u - (g - rest)) (omega arith) is.1)

    -- the part of g that is tested
    pub here : (part : ℕ) → part < rest → PartOf part rest → (0 < (g - rest) + part) × ((g - rest) + part < g)
        × (test n ((g - rest) + part) ≡ look ((g - rest) + part))
    here part more is_part =
        let at = part_at n g< part more is_part in
        (at.0, at.1, looked.at_part n ((g - rest) + part) at.2 at.3)
