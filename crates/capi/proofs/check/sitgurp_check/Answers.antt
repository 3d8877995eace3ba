-- `capi::check::sitgurp_check` meets its contract: it is the check, its verdict as four numbers. Assumes nothing.
use Rattle.laws.specs.Prelude.{◌∙◌, ap}
use Rattle.rules.specs.Calls.Checking.{Checked}
use Rattle.capi.specs.Numbers.Verdict.{flat_verdict}
use Rattle.capi.proofs.check.sitgurp_check.Goals as goal

pub returns : goal.returns
returns c =
    let did = c.check.ensures in
    record {
      answer = c.from.ensures ∙ ap (λ (r : Checked). flat_verdict r.answer) did;
      cells_then = ap (λ (r : Checked). r.cells) did;
    }
