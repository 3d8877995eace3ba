-- `radix::members::single` meets its contract: a group has one member if nothing is left without its first-listed one. Assumes nothing.
use Rattle.radix.specs.Members.{single_test}
use Rattle.radix.proofs.members.single.Goals as goal

pub returns : goal.returns
returns c n g< = single_test n c.args.g c.requires g< c.without_first.result (c.without_first.ensures n g<)
