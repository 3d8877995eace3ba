-- `settling::chosen::settle_net` meets its contract. Assumes nothing.
use Rattle.laws.specs.Prelude.{◌∙◌, arith}
use Rattle.accepted.specs.Taken.{sound, own_most}
use Rattle.settling.specs.Calls.{net_given, net_settled}
use Rattle.settling.proofs.chosen.settle_net.Goals as goal

pub slice_bounds-settle_into-end : goal.slice_bounds-settle_into-end
slice_bounds-settle_into-end c =
    let table = c.table-count in
    omega (arith, table.ensures.result, own_most _ _ _ c.requires, table.auto)

pub settle_into-requires : goal.settle_into-requires
settle_into-requires c = net_given _ _ _ c.requires _ _ _ c.table-count.ensures

pub returns : goal.returns
returns c =
    let a = c.args in
    c.settle_into.ensures
    ∙ net_settled _ _ _ c.requires _ _ _ c.table-count.ensures a.choice a.cells.now a.marks.now a.out.now

pub table-count-requires : goal.table-count-requires
table-count-requires c = (sound _ _ _ c.requires, own_most _ _ _ c.requires)
