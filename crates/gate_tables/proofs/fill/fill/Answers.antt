-- `gate_tables::fill::fill` meets its contract: no gate's group has too many classes. Assumes nothing.
use Rattle.rules.specs.Nets.Filling.{input_groups}
use Rattle.rules.specs.Calls.Answers.{ink_in}
use Rattle.wirings.specs.Links.{links_in}
use Rattle.gate_tables.specs.Filled.{fillable_blank, filled_all}
use Rattle.gate_tables.proofs.fill.fill.Goals as goal

pub fill_while_few-requires : goal.fill_while_few-requires
fill_while_few-requires c = (
  c.requires.0,
  c.requires.1,
  fillable_blank c.args.m c.args.n c.requires.0.some (ink_in c.args.cells.now)
      (input_groups c.args.n) (links_in c.args.wiring) c.requires.2,
)

pub returns : goal.returns
returns c =
    let a = c.args in
    filled_all a.m a.n c.requires.0.some (ink_in a.cells.now) a.wiring c.fill_while_few.result c.requires.2 c.fill_while_few.ensures
