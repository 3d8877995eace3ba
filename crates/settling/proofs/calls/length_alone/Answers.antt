-- `settling::calls::length_alone` meets its contract: a refusal, or the length. Assumes nothing.
use Rattle.std.proofs.lemmas.Result.{err_from_is_err_and}
use Rattle.laws.specs.Prelude.{sym, ap}
use Rattle.rules.specs.Calls.Answers.{onward}
use Rattle.laws.specs.Calls.ShallowSettling.{plain_answer}
use Rattle.settling.specs.Answered.{layered_by}
use Rattle.settling.proofs.calls.length_alone.Goals as goal

pub returns-in_err-answer : goal.returns-in_err-answer
unfolding plain_answer onward
returns-in_err-answer g c number place =
    let p = err_from_is_err_and c.from_residual.result c.from_residual.ensures.1 in
    rw (p.1, p.2) (sym (ap (λ r. plain_answer (layered_by number place r)) c.in_err-answer.was))

pub returns : goal.returns
unfolding plain_answer onward
returns g c number place = sym (ap (λ r. plain_answer (layered_by number place r)) c.in_ok-answer.was)
