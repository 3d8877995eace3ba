-- `marks::packing::store` meets its contract. The loop's invariant: the bytes so far are at the buffer's front. Assumes nothing.
use Rattle.std.specs.Prelude.{◌*◌, ◌≡◌}
use Rattle.laws.specs.Prelude.{take}
use Rattle.rules.specs.Groups.Marks.{stored_marks}
use Rattle.rules.specs.Calls.Answers.{written}
use Rattle.marks.proofs.packing.store.Given as goal

abbrev pub invariant-loop-i : goal.invariant-loop-i
invariant-loop-i l = l.buffer ≡ written l.initial.buffer (stored_marks (take (4 * l.i) l.marks))
