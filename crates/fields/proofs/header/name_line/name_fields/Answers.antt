-- `fields::header::name_line::name_fields` meets its contract. The loop's invariant: the names from here are the names from the start.
-- Assumes nothing.
use Rattle.std.proofs.lemmas.Result.{err_from_is_err_and}
use Rattle.laws.specs.Prelude.{sym, subst, arith}
use Rattle.fields.specs.Steps.{layout_of}
use Rattle.fields.specs.Header.NameLine.{Reading, names_start, names_done, names_back, names_next}
use Rattle.fields.proofs.header.name_line.name_fields.Goals as goal

pub loop-i-init : goal.loop-i-init
loop-i-init c =
    let a = c.args in
    subst (λ header. Reading (layout_of a.layout) a.s.now a.at a.levels a.inputs a.last header a.at 0) (sym c.no_names-header.ensures)
    (names_start _ _ _ _ _ _)

pub name_field-requires : goal.name_field-requires
name_field-requires c = (omega (arith, c.loop-i.invariant.most, c.requires), c.loop-i.invariant.held)

pub returns-in_err-name : goal.returns-in_err-name
returns-in_err-name c =
    let p = err_from_is_err_and c.from_residual.result c.from_residual.ensures.1 in
    rw (p.1, p.2)
    (names_back _ _ _ _ _ _ _ _ _ c.loop-i.invariant _ _ c.loop-i-test.true
    c.due_after-due.ensures c.name_field.ensures _ c.in_err-name.was)

pub loop-i-preserved : goal.loop-i-preserved
loop-i-preserved c =
    names_next _ _ _ _ _ _ _ _ _ c.loop-i.invariant _ _ c.loop-i-test.true c.due_after-due.ensures
    c.name_field.ensures _
    c.requires c.in_ok-name.was

pub returns : goal.returns
returns c = names_done _ _ _ _ _ _ _ _ _ c.loop-i.invariant c.loop-i-test.false
