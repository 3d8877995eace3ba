-- `radix::members::members_of` meets its contract: a group's number has a bit for each member. Assumes nothing.
use Rattle.radix.specs.Members.{ones_size}
use Rattle.radix.proofs.members.members_of.Goals as goal

pub returns : goal.returns
returns c n g< = ones_size n c.args.g g<
