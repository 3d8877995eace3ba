-- `settling::marked::write_layered` meets its contract: a refusal, or the length with the layers. Assumes nothing.
use Rattle.std.proofs.lemmas.Result.{err_from_is_err_and}
use Rattle.std.specs.Prelude.{Result}
use Rattle.laws.specs.Prelude.{ℕ, sym, ap}
use Rattle.rules.specs.Calls.Answers.{onward}
use Rattle.rules.specs.Calls.ShallowSettling.{layered}
use Rattle.answers.specs.declared.refusal.Refusal.{Refusal}
use Rattle.answers.specs.AnswerMaps.{answer_of}
use Rattle.settling.specs.Outcomes.{written_layers}
use Rattle.settling.proofs.marked.write_layered.Goals as goal

pub returns-in_err-length : goal.returns-in_err-length
unfolding layered onward
returns-in_err-length c =
    let count = c.layers-layers in
    let p = err_from_is_err_and c.from_residual.result c.from_residual.ensures.1 in
    rw (p.1, p.2) (λ cells marks.
    written_layers _ count.result c.write_sheet.result
    (sym (ap (λ (r : Result ℕ Refusal). layered count.result (answer_of r)) c.in_err-length.was)) _ count.ensures
    cells marks _ _ (c.write_sheet.ensures cells marks))

pub returns : goal.returns
unfolding layered onward
returns c cells marks =
    let count = c.layers-layers in
    written_layers _ count.result c.write_sheet.result
    (sym (ap (λ (r : Result ℕ Refusal). layered count.result (answer_of r)) c.in_ok-length.was)) _ count.ensures
    cells marks _ _ (c.write_sheet.ensures cells marks)
