-- `net_sheets::reader::references::is_used` meets its contract. The loop's invariant: some gate uses r exactly when one from `k` on does.
-- Assumes nothing.
use Rattle.std.specs.Prelude.{◌-◌, ◌≡◌}
use Rattle.laws.specs.Prelude.{map, eqb}
use Rattle.rules.specs.Lists.{range, any}
use Rattle.rules.specs.Sheets.Sheets.{used_by}
use Rattle.nets.specs.Forms.{gate_of, gates_of}
use Rattle.net_sheets.proofs.reader.references.is_used.Given as goal

abbrev pub invariant-loop-k : goal.invariant-loop-k
invariant-loop-k l = any (eqb l.r) (used_by (gates_of l.net)) ≡ any (eqb l.r) (used_by (map (gate_of l.net) (range l.k (l.net.gates - l.k))))
