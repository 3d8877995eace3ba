-- `keeping::answer::with_changed` meets its contract, in each arm. Assumes nothing.
use Rattle.laws.specs.Prelude.{sym, ap}
use Rattle.settling.specs.Answered.{plain_by}
use Rattle.keeping.specs.KeepAnswers.{with_changed}
use Rattle.keeping.proofs.answer.with_changed.Goals as goal

pub returns-in-Ok : goal.returns-in-Ok
unfolding with_changed
returns-in-Ok g c number place = sym (ap (λ r. with_changed c.args.changed (plain_by number place r)) c.in-Ok.is)

pub returns-in-Err : goal.returns-in-Err
unfolding with_changed
returns-in-Err g c number place = sym (ap (λ r. with_changed c.args.changed (plain_by number place r)) c.in-Err.is)
