-- `glyphs::call::glyph` meets its contract: the refusal of the net sheet, or the result of printing its glyph.
-- Assumes nothing.
use Rattle.std.proofs.lemmas.Result.{err_from_is_err_and}
use Rattle.laws.specs.Prelude.{sym}
use Rattle.laws.specs.Calls.Glyphs as outcomes
use Rattle.accepted.specs.Taken.{net_refused_lem, net_taken}
use Rattle.glyphs.proofs.call.glyph.Goals as goal

pub print_accepted-requires : goal.print_accepted-requires
print_accepted-requires c = net_taken _ _ c.read_net.ensures _ c.in_ok-read.was

pub returns-in_err-read : goal.returns-in_err-read
returns-in_err-read c =
    let p = err_from_is_err_and c.from_residual.result c.from_residual.ensures.1 in
    rw (p.1, p.2) (sym (outcomes.glyph_refused _ _ _ _ _ _ _ _ (net_refused_lem _ _ c.read_net.ensures _ c.in_err-read.was)))
