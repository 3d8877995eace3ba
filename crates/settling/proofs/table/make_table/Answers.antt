-- `settling::table::make_table` meets its contract: the settled choice, without the count of layers. Assumes nothing.
use Rattle.laws.specs.Prelude.{◌∙◌}
use Rattle.laws.specs.Calls.ShallowSettling.{plain_into}
use Rattle.settling.specs.Answered.{alone_by_kind}
use Rattle.settling.specs.Calls.{made_plain}
use Rattle.settling.proofs.table.make_table.Goals as goal

pub returns : goal.returns
returns c =
    made_plain c.settle_into.result c.length_alone.result (alone_by_kind _ _ c.length_alone.ensures) _ _ _ _ c.settle_into.ensures
    ∙ plain_into _ _ _ _ _
