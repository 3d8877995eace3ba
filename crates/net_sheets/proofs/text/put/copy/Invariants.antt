-- `net_sheets::text::put::copy` meets its contract. The loop's invariant: the bytes of `t` from i on are left to write, at `at + i`.
-- Assumes nothing.
use Rattle.std.specs.Prelude.{◌+◌}
use Rattle.laws.specs.Prelude.{drop}
use Rattle.net_sheets.specs.Text.Put.{NetLeft}
use Rattle.net_sheets.proofs.text.put.copy.Given as goal

abbrev pub invariant-loop-i : goal.invariant-loop-i
invariant-loop-i l = NetLeft l.out (l.at + l.i) (drop l.i l.t) l.initial.out l.at l.t
