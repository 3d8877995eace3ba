-- `arrivals::sheet::times::digits_value` meets its contract. The loop's invariant: the digits so far write `value`.
-- Assumes nothing.
use Rattle.laws.specs.Prelude.{◌∙◌, sym}
use Rattle.arrivals.specs.Sheet.Times.{count_end, count_stop, count_next, ascii_digit}
use Rattle.arrivals.proofs.sheet.times.digits_value.Goals as goal

pub returns-then-not-is_ascii_digit : goal.returns-then-not-is_ascii_digit
returns-then-not-is_ascii_digit c =
    count_stop _ _ _ c.loop-b.invariant c.loop-b-test.true
    (sym (ascii_digit _) ∙ sym c.is_ascii_digit.ensures.value ∙ c.if-not-is_ascii_digit.true)

pub loop-b-preserved : goal.loop-b-preserved
loop-b-preserved c =
    count_next _ _ _ c.loop-b.invariant c.loop-b-test.true
    (sym (ascii_digit _) ∙ sym c.is_ascii_digit.ensures.value ∙ c.if-not-is_ascii_digit.false)

pub returns : goal.returns
returns c = count_end _ _ _ c.loop-b.invariant c.loop-b-test.false
