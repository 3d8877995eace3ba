-- `capi::tidy::sitgurp_tidy` meets its contract: it is tidying, its answer as two numbers. Assumes nothing.
use Rattle.laws.specs.Prelude.{◌∙◌, ap}
use Rattle.rules.specs.Calls.Tidying.{Tidied}
use Rattle.capi.specs.Numbers.Flat.{flat_of}
use Rattle.capi.proofs.tidy.sitgurp_tidy.Goals as goal

pub returns : goal.returns
returns c =
    let did = c.tidy.ensures in
    record {
      answer = c.from.ensures ∙ ap (λ (r : Tidied). flat_of r.answer) did;
      cells_then = ap (λ (r : Tidied). r.cells) did;
      output_then = ap (λ (r : Tidied). r.output) did;
    }
