-- `fields::ends::loosely_separated` meets its contract: spaces before a line feed, or more of them after a space.
-- Assumes nothing.
use Rattle.std.proofs.lemmas.Result.{err_from_is_err_and}
use Rattle.fields.specs.Judging.{loose_line_end, field_loose_back, loose_space}
use Rattle.fields.proofs.ends.loosely_separated.Goals as goal

pub returns-then-due-ne-SPACE : goal.returns-then-due-ne-SPACE
returns-then-due-ne-SPACE c = loose_line_end _ _ _ _ c.separated.result c.if-due-ne-SPACE.true (rw c.spaces_end.ensures at c.separated.ensures)

pub returns-in_err-field : goal.returns-in_err-field
returns-in_err-field c =
    let p = err_from_is_err_and c.from_residual.result c.from_residual.ensures.1 in
    rw (p.1, p.2) (field_loose_back _ c.args.end _ _ _ c.if-due-ne-SPACE.false c.separated-2.ensures _ c.in_err-field.was)

pub returns : goal.returns
returns c = rw c.spaces_end-2.ensures (loose_space _ c.args.end _ _ _ c.if-due-ne-SPACE.false c.separated-2.ensures _ c.in_ok-field.was)
