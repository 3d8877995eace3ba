-- A group with one of its members removed.
-- Assumes nothing.
use Rattle.std.specs.Prelude.{◌<◌, ◌≤◌, ◌+◌, ◌-◌, ◌^◌, ◌≡◌}
use Rattle.laws.specs.Prelude.{ℕ, suc, ◌∙◌, sym, ap, true, arith, eqb-true}
use Rattle.rules.specs.Groups.Groups.{member, size}
use Rattle.rules.specs.Groups.Marks.{inside}
use Rattle.rules.specs.Nets.Trees.{Apart}
use Rattle.trees.specs.Groups.Members.{member_single, single_below, member_inside, inside_le, rest_apart, size_single, size_join}
use Rattle.trees.specs.Groups.Joins.{apart_sym}
use Rattle.trees.specs.Trees.MarkTwo.{rest_inside}

module _ (n g i : ℕ) (g< : g < 2 ^ n) (i< : i < n) (is : member i g ≡ true) where
  -- the member by itself is inside the group, ..
  pub alone_inside : inside n (2 ^ i) g ≡ true
  alone_inside = member_inside n (2 ^ i) g (λ j j< e. rw (eqb-true j i (sym (member_single j i) ∙ e)) is)

  pub alone_le : 2 ^ i ≤ g
  alone_le = inside_le n (2 ^ i) g (single_below i n i<) g< alone_inside

  -- .. and shares no input with the rest
  pub off_apart : Apart n (g - 2 ^ i) (2 ^ i)
  off_apart = apart_sym n (2 ^ i) (g - 2 ^ i) (rest_apart n (2 ^ i) g (single_below i n i<) g< alone_inside)

  -- the rest is a part, ..
  pub off_inside : inside n (g - 2 ^ i) g ≡ true
  off_inside = rest_inside n (2 ^ i) g (single_below i n i<) g< alone_inside

  -- .. and has one member fewer
  pub off_size : size n g ≡ suc (size n (g - 2 ^ i))
  off_size =
      let whole : 2 ^ i + (g - 2 ^ i) ≡ g = omega (arith, alone_le) in
      ap (size n) (sym whole)
      ∙ size_join n (2 ^ i) (g - 2 ^ i) (single_below i n i<) (omega arith) (rest_apart n (2 ^ i) g (single_below i n i<) g< alone_inside)
      ∙ omega (arith, size_single i n i<)
