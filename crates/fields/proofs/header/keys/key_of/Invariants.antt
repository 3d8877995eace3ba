-- `fields::header::keys::key_of` meets its contract. The loop's invariant: the key is that of the bytes from `i` on.
-- Assumes nothing.
use Rattle.std.specs.Prelude.{◌≤◌}
use Rattle.laws.specs.Prelude.{length, drop}
use Rattle.fields.specs.Header.Keys.{IsKey}
use Rattle.fields.proofs.header.keys.key_of.Given as goal

abbrev pub invariant-loop-i : goal.invariant-loop-i
invariant-loop-i l = (l.i ≤ length l.w) × IsKey (drop l.i l.w) l.key
