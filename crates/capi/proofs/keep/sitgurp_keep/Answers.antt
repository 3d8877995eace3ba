-- `capi::keep::sitgurp_keep` meets its contract: it is the call, its answer as four numbers. Assumes nothing.
use Rattle.laws.specs.Prelude.{◌∙◌, ap}
use Rattle.rules.specs.Calls.Keeping.{KeptWiring}
use Rattle.capi.specs.Numbers.Kept.{flat_kept}
use Rattle.capi.proofs.keep.sitgurp_keep.Goals as goal

pub returns : goal.returns
returns c =
    let did = c.keep.ensures in
    record {
      answer = c.from.ensures ∙ ap (λ (r : KeptWiring). flat_kept r.answer) did;
      cells_then = ap (λ (r : KeptWiring). r.cells) did;
      output_then = ap (λ (r : KeptWiring). r.output) did;
    }
