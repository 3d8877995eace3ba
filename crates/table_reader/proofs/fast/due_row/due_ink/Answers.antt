-- `table_reader::fast::due_row::due_ink` meets its contract: it finds nothing, or has compared all bytes of the row.
-- Assumes nothing.
use Rattle.laws.specs.Prelude.{◌∙◌, sym, arith}
use Rattle.table_reader.specs.Fast.Stand.{digit_stands, sign_stands}
use Rattle.table_reader.proofs.fast.due_row.due_ink.Goals as goal

pub returns-then-ink-eq-SIGN : goal.returns-then-ink-eq-SIGN
returns-then-ink-eq-SIGN c =
    let pre = c.requires in
    sign_stands _ _ _ _ _ _ _ (λ k. omega (arith, c.type_inv.s k)) (omega (arith, pre.5)) pre.2 pre.3 (c.levels_due.ensures c.if-not-levels_due.false)
    (sym c.four_bytes.ensures.0 ∙ c.if-four_bytes-before.false) _ (omega arith) (sym c.two_bytes-ink.ensures.0 ∙ c.if-ink-eq-SIGN.true)

pub returns : goal.returns
returns c =
    let pre = c.requires in
    digit_stands _ _ _ _ _ _ _ (λ k. omega (arith, c.type_inv.s k)) (omega (arith, pre.5)) pre.2 pre.3 (c.levels_due.ensures c.if-not-levels_due.false)
    (sym c.four_bytes.ensures.0 ∙ c.if-four_bytes-before.false) _ (omega arith) _ (omega (arith, c.if-m-ink.false)) pre.4
    (omega (arith, c.two_bytes-ink.ensures.0, c.if-ink-lt-INK.false))
