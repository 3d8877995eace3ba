-- `radix::members::member_of` meets its contract: a shift is a division by a power of two. Assumes nothing.
use Rattle.laws.specs.Prelude.{refl}
use Rattle.rules.specs.Groups.Groups.{member}
use Rattle.radix.proofs.members.member_of.Goals as goal

pub returns : goal.returns
unfolding member
returns c = refl
