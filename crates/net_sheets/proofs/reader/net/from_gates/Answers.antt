-- `net_sheets::reader::net::from_gates` meets its contract: the gate lines, with nothing after them, and every earlier gate used.
-- Assumes nothing.
use Rattle.std.proofs.lemmas.Result.{err_from_is_err_and}
use Rattle.laws.specs.Prelude.{◌∙◌, sym}
use Rattle.net_sheets.specs.Reader.NetReading.{gates_back, gates_over, gates_room, gates_unused, gates_closed}
use Rattle.net_sheets.proofs.reader.net.from_gates.Goals as goal

pub returns-in_err-read : goal.returns-in_err-read
returns-in_err-read c =
    let p = err_from_is_err_and c.from_residual.result c.from_residual.ensures.1 in
    rw (p.1, p.2) (gates_back _ _ _ c.requires _ c.gate_lines.ensures _ c.in_err-read.was)

pub returns-then-read-s : goal.returns-then-read-s
returns-then-read-s c = gates_over _ _ _ c.requires _ c.gate_lines.ensures _ c.in_ok-read.was c.if-read-s.true

pub earlier_used-requires : goal.earlier_used-requires
earlier_used-requires c = gates_room _ _ _ c.requires _ c.gate_lines.ensures _ c.in_ok-read.was

pub returns-then-not-earlier_used : goal.returns-then-not-earlier_used
returns-then-not-earlier_used c =
    gates_unused _ _ _ c.requires _ c.gate_lines.ensures _ c.in_ok-read.was c.if-read-s.false
    (sym c.earlier_used.ensures ∙ c.if-not-earlier_used.true)

pub returns : goal.returns
returns c =
    gates_closed _ _ _ c.requires _ c.gate_lines.ensures _ c.in_ok-read.was c.if-read-s.false
    (sym c.earlier_used.ensures ∙ c.if-not-earlier_used.false)
