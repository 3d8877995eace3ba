-- `classes::keys::key` meets its contract. The loop's invariant: the key so far and the remaining columns give the key. Assumes nothing.
use Rattle.std.specs.Prelude.{◌<◌, ◌≡◌}
use Rattle.laws.specs.Prelude.{drop}
use Rattle.rules.specs.Calls.Answers.{ink_in}
use Rattle.classes.specs.Keys.{key_bound, key_from, key_of}
use Rattle.classes.proofs.keys.key.Given as goal

abbrev pub invariant-loop-y : goal.invariant-loop-y
invariant-loop-y l = (key_from l.m (ink_in l.cells) l.p l.made (drop l.y-index l.y-items) ≡ key_of l.m (ink_in l.cells) l.ys l.width l.p) × (l.made < key_bound)
