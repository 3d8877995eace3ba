-- `nets::layers::layers` meets its contract. The loop's invariant: the layers of the first k gates are known. Assumes nothing.
use Rattle.nets.proofs.Depths.{Depths}
use Rattle.nets.proofs.layers.layers.Given as goal

abbrev pub invariant-loop-k : goal.invariant-loop-k
invariant-loop-k l = Depths l.net l.k l.depths
