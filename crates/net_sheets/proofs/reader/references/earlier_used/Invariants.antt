-- `net_sheets::reader::references::earlier_used` meets its contract. The loop's invariant: all earlier gates are marked exactly when those from `k` on are.
-- Assumes nothing.
use Rattle.std.specs.Prelude.{◌≡◌}
use Rattle.net_sheets.specs.Reader.References.{marked_on}
use Rattle.net_sheets.proofs.reader.references.earlier_used.Given as goal

abbrev pub invariant-loop-k : goal.invariant-loop-k
invariant-loop-k l = marked_on l.used l.inputs l.gates 0 ≡ marked_on l.used l.inputs l.gates l.k
