-- `radix::members::first_of` meets its contract, by the law of the zeros below the lowest bit. Assumes nothing.
use native.Mathlib.Omega.{arith}
use Rattle.radix.specs.Members.{trailing_first}
use Rattle.radix.proofs.members.first_of.Goals as goal

pub returns : goal.returns
returns c = λ n g<. trailing_first 64 n c.args.g c.requires (omega arith) g<
