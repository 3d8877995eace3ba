-- `table_reader::fast::words::middle_of` meets its contract.
-- Assumes nothing.
use Rattle.laws.specs.Prelude.{refl, lt-ltb, le-ltb}
use Rattle.table_reader.specs.Fast.Words.{middle_of}
use Rattle.table_reader.proofs.fast.words.middle_of.Goals as goal

pub returns-then-front-lt8 : goal.returns-then-front-lt8
unfolding middle_of
returns-then-front-lt8 c = rw (lt-ltb c.args.front 8 c.if-front-lt8.true) refl

pub returns : goal.returns
unfolding middle_of
returns c = rw (le-ltb c.args.front 8 c.if-front-lt8.false) refl
