-- `classes::counting::more_classes_than_levels` meets its contract: the count is above m exactly if there are more classes. Assumes nothing.
use Rattle.std.specs.Prelude.{◌+◌}
use Rattle.laws.specs.Prelude.{arith, length}
use Rattle.rules.specs.Groups.Groups.{classes, multiplicity}
use Rattle.rules.specs.Calls.Answers.{ink_in}
use Rattle.classes.specs.Chains.{no_chains}
use Rattle.classes.specs.Firsts.{front_test, group_front}
use Rattle.classes.specs.Keys.{key_none}
use Rattle.classes.specs.Within.{group_room, lists_within}
use Rattle.classes.proofs.counting.more_classes_than_levels.Goals as goal

pub group_offsets-counts-requires : goal.group_offsets-counts-requires
group_offsets-counts-requires c =
    (group_room c.requires.0 c.args.g, c.requires.2)

pub class_firsts-requires : goal.class_firsts-requires
class_firsts-requires c =
    let a = c.args in
    let room = c.requires.0 in
    let fronts = c.group_offsets-counts.ensures in (
      c.requires.1,
      omega (arith, c.requires.1),
      omega (arith, c.requires.1),
      omega (arith, c.requires.1),
      omega arith,
      no_chains 1,
      λ p. rw key_none (omega arith),
      lists_within a.m a.n room.some a.g c.requires.2 (length a.cells.now) room.for_cells fronts.0 fronts.1,
    )

pub returns : goal.returns
unfolding multiplicity
returns c =
    let fronts = c.group_offsets-counts.ensures in
    let a = c.args in
    front_test a.m (classes a.m a.n (ink_in a.cells.now) a.g)
    (group_front a.m a.n a.g (ink_in a.cells.now) fronts.0 fronts.1 (a.m + 1) c.class_firsts.ensures)
