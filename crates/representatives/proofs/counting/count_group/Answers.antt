-- `representatives::counting::count_group` meets its contract: rows from a group inside it, columns from a group of other inputs. Assumes nothing.
use Rattle.laws.specs.Prelude.{arith}
use Rattle.rules.specs.Calls.Answers.{ink_in}
use Rattle.radix.specs.Parts.{part_inside, part_apart}
use Rattle.representatives.specs.Counting.{front_listed}
use Rattle.representatives.specs.Working.{step_level, step_own_places, step_covering, step_cover, step_before_counted, step_run, step_columns}
use Rattle.representatives.specs.Working.{step_columns_listed}
use Rattle.representatives.proofs.counting.count_group.Goals as goal

pub cover-rows-requires : goal.cover-rows-requires
cover-rows-requires c =
    let a = c.args in
    let pre = c.requires in
    let is_part = part_inside a.n a.from a.g pre.4 in
    step_covering pre.0 pre.1 pre.3 (part_apart a.n a.from a.g a.idle is_part pre.1.apart) pre.5 is_part (omega arith) pre.1.group pre.0.for_xs

pub few_inside-below-requires : goal.few_inside-below-requires
few_inside-below-requires c =
    let pre = c.requires in
    step_before_counted pre.0 pre.1 pre.2 c.without-before.ensures

pub cover-heads-requires : goal.cover-heads-requires
cover-heads-requires c =
    let pre = c.requires in
    step_columns pre.0 pre.1 pre.2 c.without-before.ensures c.few_inside-below.ensures.0 c.few_inside-below.ensures.1 pre.0.for_ys

pub offset_bounds-weights-first_of : goal.offset_bounds-weights-first_of
offset_bounds-weights-first_of c =
    let pre = c.requires in omega (arith, (step_run pre.0 pre.1 pre.2 c.first_of.ensures).1, pre.0.inputs)

pub bounds-weights-first_of : goal.bounds-weights-first_of
bounds-weights-first_of c =
    let pre = c.requires in omega (arith, (step_run pre.0 pre.1 pre.2 c.first_of.ensures).1, pre.0.all_weighed)

pub classify-requires : goal.classify-requires
classify-requires c =
    let a = c.args in
    let pre = c.requires in
    let is_part = part_inside a.n a.from a.g pre.4 in
    let is_free = part_apart a.n a.from a.g a.idle is_part pre.1.apart in
    record {
      levels = pre.0.levels;
      inputs = pre.0.inputs;
      group = pre.1.group;
      some = pre.2;
      lower = pre.3;
      for_cells = pre.0.for_cells;
      for_kept = step_own_places pre.0 pre.1;
      for_firsts = pre.0.for_firsts;
      rows = front_listed a.m a.n (step_level pre.0 pre.1) (ink_in a.cells.now) a.g _ c.cover-rows.result c.cover-rows.ensures.inside_out
          (c.cover-rows.ensures.cover (ink_in a.cells.now) (step_cover pre.0 pre.1 pre.3 is_free pre.5 is_part (omega arith)
          pre.1.group));
      columns =
          step_columns_listed pre.0 pre.1 pre.2 c.without-before.ensures c.few_inside-below.ensures.0 c.few_inside-below.ensures.1
          (step_run pre.0 pre.1 pre.2 c.first_of.ensures).2 c.cover-heads.ensures;
    }

pub overflow_sub-run : goal.overflow_sub-run
overflow_sub-run c = let pre = c.requires in (step_run pre.0 pre.1 pre.2 c.first_of.ensures).0
