-- `jobs::next::mark_one` meets its contract: a small table, the whole group of a full table, which has few classes, or any group. Assumes nothing.
use Rattle.laws.specs.Prelude.{◌∙◌, arith, pow_mono}
use Rattle.rules.specs.Calls.Answers.{ink_in}
use Rattle.laws.specs.Numbers.Sizes.{sized}
use Rattle.marks.specs.Fast.Below.{stored_whole_mark}
use Rattle.jobs.specs.Stepping.{whole_some}
use Rattle.jobs.proofs.next.mark_one.Goals as goal

pub few_mark-requires : goal.few_mark-requires
few_mark-requires c =
    let size = sized _ _ c.requires.fits in (
      whole_some _ (omega (arith, size.inputs_least)) _ (c.is_whole_of_full.ensures c.if-is_whole_of_full.true).0,
      omega (arith, c.requires.group, pow_mono size.inputs_most),
      omega (arith, c.requires.group, c.requires.room),
    )

pub returns-then-is_whole_of_full : goal.returns-then-is_whole_of_full
returns-then-is_whole_of_full c =
    let a = c.args in
    let size = sized _ _ c.requires.fits in
    let (is, small) = c.is_whole_of_full.ensures c.if-is_whole_of_full.true in
    c.few_mark.ensures a.n c.requires.group
    ∙ stored_whole_mark a.m a.n (ink_in a.inks.now) a.marks.now _ (omega (arith, size.levels_least))
    (whole_some _ (omega (arith, size.inputs_least)) _ is) is small

pub mark_within-requires-else-is_whole_of_full : goal.mark_within-requires-else-is_whole_of_full
mark_within-requires-else-is_whole_of_full c =
    (c.requires, omega (arith, c.requires.count, (sized _ _ c.requires.fits).cells_most), omega arith)
