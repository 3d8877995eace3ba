-- `wirings::fast::floors::floor_of` meets its contract, by the length of a number in bits. Assumes nothing.
use Rattle.laws.specs.Prelude.{arith}
use Rattle.wirings.specs.Fast.Floors.{floor_zeros}
use Rattle.wirings.proofs.fast.floors.floor_of.Goals as goal

pub returns : goal.returns
returns c = floor_zeros c.args.members (omega (arith, c.if-members-eq0.false)) (omega arith)
