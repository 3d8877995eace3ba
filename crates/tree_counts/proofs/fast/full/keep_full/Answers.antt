-- `tree_counts::fast::full::keep_full` meets its contract. The loop's invariant: the recorded counts are right, and the parts passed have mark 2, so
-- the next one, if it has mark 2, is full. Assumes nothing.
use Rattle.std.specs.Prelude.{◌<◌, ◌≤◌, ◌^◌, ◌≡◌}
use Rattle.laws.specs.Prelude.{ℕ, ◌∙◌, ap, List, arith, length, length-set}
use lib.Bits.{and_self}
use Rattle.rules.specs.Limits.{most_inputs}
use Rattle.rules.specs.Groups.Marks.{mark_in}
use Rattle.trees.specs.Groups.Members.{size_le}
use Rattle.trees.specs.Families.FamilyCounts.{group_trees}
use Rattle.trees.specs.Families.FamilyBounds.{trees_on}
use Rattle.tree_counts.specs.Counts.{Countable, one_kept}
use Rattle.tree_counts.specs.Fast.Full.{TwosTo, twos_next, last_full, full_count}
use Rattle.tree_counts.specs.Walking.{passed_next}
use Rattle.tree_counts.proofs.fast.full.keep_full.Goals as goal

pub trees_on-count-requires : goal.trees_on-count-requires
trees_on-count-requires c =
    let part : ℕ = c.next_part-part.result in
    let g : ℕ = c.args.g in
    let marks : List ℕ = c.args.marks.now in
    let group : Countable marks c.args.counts.now g = c.requires in
    let part_le : part ≤ g = c.next_part-part.ensures.least g c.loop-part-test.true (and_self g) in
    let small : part < 2 ^ most_inputs = omega (arith, part_le, group.below) in
    let part = part in
    omega (arith, c.members_of.ensures most_inputs small, size_le most_inputs part)

pub loop-part-preserved : goal.loop-part-preserved
loop-part-preserved c =
    let counts : List ℕ = c.loop-part.counts in
    let g : ℕ = c.args.g in
    let marks : List ℕ = c.args.marks.now in
    let group : Countable marks c.args.counts.now g = c.requires in
    let part : ℕ = c.next_part-part.result in
    let part_le : part ≤ g = c.next_part-part.ensures.least g c.loop-part-test.true (and_self g) in
    let has_room : part < length counts = omega (arith, part_le, group.room, c.loop-part.invariant.0) in
    let small : part < 2 ^ most_inputs = omega (arith, part_le, group.below) in
    let has_two : mark_in marks part ≡ 2 = omega (arith, c.mark_at.ensures) in
    let twos : TwosTo marks g part = twos_next marks g c.loop-part.part part c.next_part-part.ensures has_two c.loop-part.invariant.3 in
    let is_count : (k : ℕ) → part < 2 ^ k → c.trees_on-count.result ≡ group_trees k marks part = λ k part<.
    c.trees_on-count.ensures
    ∙ ap trees_on (c.members_of.ensures k part<)
    ∙ full_count marks part (omega (arith, c.next_part-part.ensures.above)) small
    (last_full marks g part small c.next_part-part.ensures.part twos) k part< in (
      length-set counts part c.trees_on-count.result ∙ c.loop-part.invariant.0,
      one_kept marks counts part c.trees_on-count.result c.loop-part.invariant.1 has_room is_count,
      passed_next g c.loop-part.part part c.loop-part-test.true c.next_part-part.ensures,
      twos,
    )
