-- `arrivals::sheet::times::judge_time` meets its contract, by the tests and the value of the digits.
-- Assumes nothing.
use Rattle.laws.specs.Prelude.{◌∙◌, sym, ap}
use Rattle.fields.specs.Steps.{option_of}
use Rattle.arrivals.specs.Sheet.Times.{leads_short, time_lead, time_digits, time_over, time_low, time_good}
use Rattle.arrivals.proofs.sheet.times.judge_time.Goals as goal

pub returns-then-not-is_lead : goal.returns-then-not-is_lead
returns-then-not-is_lead c = time_lead _ _ (sym c.is_lead.ensures ∙ c.if-not-is_lead.true)

pub digits_value-requires : goal.digits_value-requires
digits_value-requires c = leads_short _ (sym c.is_lead.ensures ∙ c.if-not-is_lead.false)

pub returns-in-Some : goal.returns-in-Some
returns-in-Some c =
    time_good _ _ (sym c.is_lead.ensures ∙ c.if-not-is_lead.false) _ _ c.digits_value.ensures (ap option_of c.in-Some.is)
    c.if-value-le-MOST_TIME.true c.if-least-value.true

pub returns-in_default : goal.returns-in_default
returns-in_default c =
    time_over _ _ (sym c.is_lead.ensures ∙ c.if-not-is_lead.false) _ _ c.digits_value.ensures (ap option_of c.in-Some.is)
    c.if-value-le-MOST_TIME.false

pub returns-in_default-2 : goal.returns-in_default-2
returns-in_default-2 c =
    time_low _ _ (sym c.is_lead.ensures ∙ c.if-not-is_lead.false) _ _ c.digits_value.ensures (ap option_of c.in-Some.is)
    c.if-least-value.false

pub returns-in_default-3 : goal.returns-in_default-3
returns-in_default-3 c = time_digits _ _ _ c.digits_value.ensures (ap option_of c.in_default.is)
