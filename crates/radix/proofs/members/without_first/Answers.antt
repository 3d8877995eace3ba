-- `radix::members::without_first` meets its contract, by the law of subtracting one. Assumes nothing.
use Rattle.radix.specs.Parts.{without_first}
use Rattle.radix.proofs.members.without_first.Goals as goal

pub returns : goal.returns
returns c = λ n g<. (without_first n c.args.g c.requires g<).1
