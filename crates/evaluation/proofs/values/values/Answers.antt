-- `evaluation::values::values` meets its contract: both ways do. Assumes nothing.
use Rattle.laws.specs.Prelude.{arith}
use Rattle.nets.specs.Sound.{sound_size}
use Rattle.evaluation.proofs.values.values.Goals as goal

pub power-requires : goal.power-requires
power-requires c = let size = sound_size _ c.requires.sound in (size.levels_most, omega (arith, size.inputs_most))
