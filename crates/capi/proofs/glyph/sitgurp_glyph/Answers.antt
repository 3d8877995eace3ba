-- `capi::glyph::sitgurp_glyph` meets its contract: it is the glyph call, its answer as two numbers. Assumes nothing.
use Rattle.laws.specs.Prelude.{◌∙◌, ap}
use Rattle.rules.specs.Calls.TableWriting.{Written}
use Rattle.capi.specs.Numbers.Flat.{flat_of}
use Rattle.capi.proofs.glyph.sitgurp_glyph.Goals as goal

pub returns : goal.returns
returns c =
    let did = c.glyph.ensures in
    record {
      answer = c.from.ensures ∙ ap (λ (r : Written). flat_of r.answer) did;
      output_then = ap (λ (r : Written). r.output) did;
    }
