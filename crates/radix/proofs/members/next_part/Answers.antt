-- `radix::members::next_part` meets its contract, by the law of the next part. Assumes nothing.
use Rattle.radix.specs.Widths.{most_members}
use Rattle.radix.specs.Parts.{next_part}
use Rattle.radix.proofs.members.next_part.Goals as goal

pub returns : goal.returns
returns c = next_part most_members c.args.all c.args.part c.requires.0 c.requires.1 c.requires.2
