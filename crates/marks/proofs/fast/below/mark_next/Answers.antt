-- `marks::fast::below::mark_next` meets its contract: a group with idle members has the mark of the rest; any other has the mark given by its
-- classes, and becomes known. Assumes nothing.
use Rattle.laws.specs.Prelude.{◌∙◌, arith}
use Rattle.representatives.specs.Known.{known_next}
use Rattle.marks.specs.Fast.Below.{found_mark, skipped_mark, skipped_known, next_counted}
use Rattle.marks.proofs.fast.below.mark_next.Goals as goal

pub returns-then-rest-g : goal.returns-then-rest-g
returns-then-rest-g c =
    let pre = c.requires in
    record {
      is = c.idle_mark.ensures ∙ skipped_mark (omega (arith, pre.0.levels)) pre.1.group _ pre.1.all_idle pre.1.written
          c.without-rest.ensures
          c.if-rest-g.true;
      known = skipped_known pre.1 c.without-rest.ensures c.if-rest-g.true;
    }

pub keep_group-count-requires : goal.keep_group-count-requires
keep_group-count-requires c =
    let pre = c.requires in
    (pre.0, next_counted pre.1 c.without-rest.ensures (omega (arith, c.if-rest-g.false)))

pub returns : goal.returns
returns c =
    let pre = c.requires in
    record {
      is = found_mark (omega (arith, pre.0.levels)) pre.1.group c.keep_group-count.ensures.found c.mark_by.ensures;
      known = λ h h< free. known_next pre.0.levels (omega (arith, pre.1.group, pre.0.for_counts)) c.keep_group-count.ensures.below
          c.keep_group-count.ensures.found h h< (λ lower. pre.1.known h lower free);
    }
