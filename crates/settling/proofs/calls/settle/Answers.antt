-- `settling::calls::settle` meets its contract: the settled choice, without the count of layers. Assumes nothing.
use Rattle.laws.specs.Prelude.{◌∙◌}
use Rattle.settling.specs.Answered.{alone_by_kind}
use Rattle.settling.specs.Calls.{made_plain, settles_plain}
use Rattle.settling.proofs.calls.settle.Goals as goal

pub returns : goal.returns
returns c =
    let a = c.args in
    made_plain c.settle_by.result c.length_alone.result (alone_by_kind _ _ c.length_alone.ensures) _ _ _ _ c.settle_by.ensures
    ∙ settles_plain a.s.now a.cells.now a.marks.now a.out.now
