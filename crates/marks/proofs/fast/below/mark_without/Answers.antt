-- `marks::fast::below::mark_without` meets its contract. Assumes nothing.
use Rattle.laws.specs.Prelude.{arith}
use Rattle.marks.specs.Fast.Below.{by_rest}
use Rattle.marks.proofs.fast.below.mark_without.Goals as goal

pub returns : goal.returns
returns c =
    by_rest _ c.without-rest.ensures (omega (arith, c.without-rest.ensures, c.if-rest-g.false)) c.idle_mark.ensures
