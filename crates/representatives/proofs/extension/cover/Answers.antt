use Rattle.laws.specs.Prelude.{arith}
use Rattle.representatives.specs.Extension.{covering_room, covering_spreading, covering_covered}
use Rattle.representatives.proofs.extension.cover.Goals as goal

pub copy-requires : goal.copy-requires
copy-requires c = let pre = c.requires in omega (arith, pre.stored, covering_room pre)

pub spread-requires : goal.spread-requires
spread-requires c = covering_spreading c.requires c.copy.ensures c.copy.auto.to

pub returns : goal.returns
returns c =
    covering_covered c.requires c.copy.ensures c.copy.auto.to c.spread.ensures
    c.spread.auto.out
