-- `shallower::which::which_by` meets its contract, in each arm. Assumes nothing.
use Rattle.std.specs.Prelude.{◌≡◌, Result}
use Rattle.laws.specs.Prelude.{ℕ, ◌∙◌, sym, ap₂}
use Rattle.rules.specs.Calls.Shallower as rules
use Rattle.rules.specs.Calls.Shallower.{which_by}
use Rattle.laws.specs.Calls.Shallower.{hands_second_shallower, first_kept, hands_first_readable, hands_second_readable, hands_none}
use Rattle.answers.specs.declared.refusal.Refusal.{Refusal}
use Rattle.answers.specs.AnswerMaps.{answer_of}
use Rattle.shallower.proofs.which.which_by.Goals as goal

-- two answers that are known
by : (first second a b : Result ℕ Refusal) (w : rules.Which) → first ≡ a → second ≡ b → which_by (answer_of a) (answer_of b) ≡ w
    → w ≡ which_by (answer_of first) (answer_of second)
by first second a b w e d is = sym (ap₂ (λ (x y : Result ℕ Refusal). which_by (answer_of x) (answer_of y)) e d ∙ is)

pub returns-then-b-a : goal.returns-then-b-a
returns-then-b-a c = by _ _ _ _ _ c.in-Ok-Ok.is-0 c.in-Ok-Ok.is-1 (hands_second_shallower _ _ c.if-b-a.true)

pub returns-else-b-a : goal.returns-else-b-a
returns-else-b-a c = by _ _ _ _ _ c.in-Ok-Ok.is-0 c.in-Ok-Ok.is-1 (first_kept _ _ c.if-b-a.false)

pub returns-in-Ok-Err : goal.returns-in-Ok-Err
returns-in-Ok-Err c = by _ _ _ _ _ c.in-Ok-Err.is-0 c.in-Ok-Err.is-1 (hands_first_readable _ _ _)

pub returns-in-Err-Ok : goal.returns-in-Err-Ok
returns-in-Err-Ok c = by _ _ _ _ _ c.in-Err-Ok.is-0 c.in-Err-Ok.is-1 (hands_second_readable _ _ _)

pub returns-in-Err-Err : goal.returns-in-Err-Err
returns-in-Err-Err c = by _ _ _ _ _ c.in-Err-Err.is-0 c.in-Err-Err.is-1 (hands_none _ _ _ _)
