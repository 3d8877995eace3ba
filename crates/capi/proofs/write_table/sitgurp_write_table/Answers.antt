-- `capi::write_table::sitgurp_write_table` meets its contract: it is table writing, its answer as two numbers. Assumes nothing.
use Rattle.laws.specs.Prelude.{◌∙◌, ap}
use Rattle.rules.specs.Calls.TableWriting.{Written}
use Rattle.capi.specs.Numbers.Flat.{flat_of}
use Rattle.capi.proofs.write_table.sitgurp_write_table.Goals as goal

pub returns : goal.returns
returns c =
    let did = c.write_table.ensures in
    record {
      answer = c.from.ensures ∙ ap (λ (r : Written). flat_of r.answer) did;
      output_then = ap (λ (r : Written). r.output) did;
    }
