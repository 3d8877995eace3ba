-- `classes::multiplicity::counted` meets its contract: the work arrays have room for the classes.
-- Assumes nothing.
use Rattle.laws.specs.Prelude.{arith, length}
use Rattle.rules.specs.Groups.Groups.{others, classes, multiplicity}
use Rattle.rules.specs.Calls.Answers.{ink_in}
use Rattle.laws.specs.Numbers.Sizes.{sized}
use Rattle.radix.specs.Fronts.{part_is}
use Rattle.classes.specs.Chains.{no_chains}
use Rattle.classes.specs.Fast.Halves.{points_nested}
use Rattle.classes.specs.Firsts.{classes_fit, front_all, group_front}
use Rattle.classes.specs.Within.{lists_within, inks_below}
use Rattle.classes.proofs.multiplicity.counted.Goals as goal

pub group_offsets-counts-requires : goal.group_offsets-counts-requires
group_offsets-counts-requires c =
    let t = c.args.table in
    let fit = sized t.levels t.inputs t.full.size in (
      record {
        some = omega (arith, fit.levels_least);
        inputs = omega (arith, fit.inputs_most);
        small = omega (arith, fit.cells_most);
        for_xs = c.requires.1;
        for_ys = c.requires.2;
      },
      c.requires.0,
    )

pub fast_firsts-requires : goal.fast_firsts-requires
fast_firsts-requires c =
    let t = c.args.table in
    let fit = sized t.levels t.inputs t.full.size in
    let (own, other) = c.group_offsets-counts.ensures in (
      record {
        for_firsts = c.requires.3;
        for_links = c.requires.4;
        few = c.requires.5;
        no_chains = no_chains 256;
        for_keys = omega arith;
        inside = lists_within t.levels t.inputs (omega (arith, fit.levels_least)) c.args.group c.requires.0 (length t.cells.now)
            (omega (arith, t.full.count)) own other;
      },
      omega (arith, fit.cells_most, t.full.count),
      fit.levels_most,
      inks_below t.levels t.inputs t.cells.now t.full,
      points_nested t.levels t.inputs (others t.inputs c.args.group) _ (part_is other),
    )

pub returns : goal.returns
unfolding multiplicity
returns c =
    let a = c.args in
    let t = a.table in
    let (own, other) = c.group_offsets-counts.ensures in
    let all = classes_fit t.levels t.inputs (omega (arith, (sized t.levels t.inputs t.full.size).levels_least)) (ink_in t.cells.now) a.group in
    (front_all (length a.xs.now) (classes t.levels t.inputs (ink_in t.cells.now) a.group)
    (group_front t.levels t.inputs a.group (ink_in t.cells.now) own other (length a.xs.now) c.fast_firsts.ensures)
    (omega (arith, all, c.requires.1))).count
