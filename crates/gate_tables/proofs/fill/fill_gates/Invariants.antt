-- `gate_tables::fill::fill_gates` meets its contract. The loop's invariant: the first `k` links are filled, and the rows of their wires are written.
-- Assumes nothing.
use Rattle.std.specs.Prelude.{◌+◌, ◌*◌, ◌≡◌}
use Rattle.laws.specs.Prelude.{length}
use Rattle.rules.specs.Calls.Answers.{ink_in}
use Rattle.nets.specs.Room.{most_wires}
use Rattle.wirings.specs.Links.{links_in}
use Rattle.gate_tables.specs.Store.{WireRows}
use Rattle.gate_tables.specs.Filled.{Going}
use Rattle.gate_tables.proofs.FillTurn.{groups_of}
use Rattle.gate_tables.proofs.fill.fill_gates.Given as goal

abbrev pub invariant-loop-k : goal.invariant-loop-k
invariant-loop-k l = record {
  work : length l.ys ≡ length l.initial.ys;
  long : length l.wires ≡ most_wires * 11;
  going : Going l.m l.n (ink_in l.cells) (links_in l.wiring) l.k l.net;
  rows : WireRows l.m l.n (ink_in l.cells) (groups_of l.n (links_in l.wiring)) (l.n + l.k) l.wires;
}
