-- `capi::mark::sitgurp_marking` meets its contract: it is the marking call, its answer as two numbers. Assumes nothing.
use Rattle.laws.specs.Prelude.{◌∙◌, ap}
use Rattle.rules.specs.Calls.Marking.{Marked}
use Rattle.capi.specs.Numbers.Flat.{flat_of}
use Rattle.capi.proofs.mark.sitgurp_marking.Goals as goal

pub returns : goal.returns
returns c =
    let did = c.marking.ensures in
    record {
      answer = c.from.ensures ∙ ap (λ (r : Marked). flat_of r.answer) did;
      buffer = ap (λ (r : Marked). r.marks) did;
    }
