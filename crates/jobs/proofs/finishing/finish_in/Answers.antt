-- `jobs::finishing::finish_in` meets its contract: the job's lines are read, or there is no table. Assumes nothing.
use Rattle.std.specs.Prelude.{◌^◌}
use Rattle.laws.specs.Prelude.{◌∙◌, arith, take}
use Rattle.rules.specs.Text.{space}
use Rattle.jobs.specs.Forms.{fronted, not_fronted, front_size}
use Rattle.jobs.specs.Finishing.{finish_none, finish_front}
use Rattle.jobs.proofs.finishing.finish_in.Goals as goal

pub power-count-requires : goal.power-count-requires
unfolding space
power-count-requires c =
    let size = front_size _ _ (fronted _ _ c.header_lines.ensures _ c.in-Ok.is) in
    (size.levels_most, omega (arith, size.inputs_most))

pub slice_bounds-finish_under-end : goal.slice_bounds-finish_under-end
unfolding space
slice_bounds-finish_under-end c =
    omega (arith, c.power-count.ensures, (front_size _ _ (fronted _ _ c.header_lines.ensures _ c.in-Ok.is)).cells_most, c.requires)

pub returns-in-Err : goal.returns-in-Err
unfolding space
returns-in-Err c = λ own_marks. finish_none _ _ own_marks _ (not_fronted _ _ c.header_lines.ensures _ c.in-Err.is _) _ _ _

pub returns-in-Ok : goal.returns-in-Ok
unfolding space
returns-in-Ok c = λ own_marks.
    c.finish_under.ensures (take (2 ^ c.in-Ok.read.header.inputs) own_marks)
    ∙ finish_front _ _ (fronted _ _ c.header_lines.ensures _ c.in-Ok.is) _ own_marks _ _ c.power-count.ensures _ _ _

pub finish_under-requires : goal.finish_under-requires
unfolding space
finish_under-requires c = fronted _ _ c.header_lines.ensures _ c.in-Ok.is
