-- `gate_tables::chosen::chosen_net` meets its contract: the chosen wiring can be filled, and filled, it is the net that the choice makes.
-- Assumes nothing.
use Rattle.laws.specs.Prelude.{ℕ, subst, subst⁻¹, List}
use Rattle.rules.specs.Nets.Leaves.{leaves_of}
use Rattle.rules.specs.Calls.Answers.{ink_in}
use Rattle.trees.specs.Leaves.LeafGroup.{leaves_below}
use Rattle.wirings.specs.declared.choice.Choice.{Choice}
use Rattle.wirings.specs.declared.forms.Wiring.{Wiring}
use Rattle.wirings.specs.Choice.{split_by, LayersRoom}
use Rattle.wirings.specs.Chosen.{Choosable, Chosen}
use Rattle.gate_tables.specs.Sized.{sized_cells}
use Rattle.gate_tables.specs.MadeNet.{LayersKnown, WithTree, some_level, layers_room, choosable, leaves_two, chosen_count, chosen_fillable, chosen_made}
use Rattle.gate_tables.proofs.chosen.chosen_net.Goals as goal

-- the leaves are those of the table
module _ (choice : Choice) (m n : ℕ) (cells marks fewest : List ℕ) (leaves : ℕ) (table : WithTree m n cells marks leaves) where
  own_layers : LayersKnown choice n marks leaves fewest → LayersKnown choice n marks (leaves_of m n (ink_in cells)) fewest
  own_layers = subst (λ (g : ℕ). LayersKnown choice n marks g fewest) table.5

  own_wiring : (w : Wiring) → Chosen n (split_by choice n marks fewest) leaves w → Chosen n (split_by choice n marks fewest) (leaves_of m n (ink_in cells)) w
  own_wiring w = subst (λ (g : ℕ). Chosen n (split_by choice n marks fewest) g w) table.5

pub choose-wiring-requires : goal.choose-wiring-requires
choose-wiring-requires c =
    let a = c.args in
    let t = c.requires.table in
    let f = ink_in a.cells.now in
    let pos = some_level a.m a.n t.0 in
    let own = leaves_of a.m a.n f in
    let below = leaves_below a.m a.n pos f in
    let layers = own_layers a.choice a.m a.n a.cells.now a.marks.now a.fewest.now a.leaves t c.requires.layers in (
      subst⁻¹ (Choosable a.n a.marks.now (split_by a.choice a.n a.marks.now a.fewest.now)) t.5
          (choosable a.choice a.m a.n pos f a.marks.now a.fewest.now t.3 own below layers (sized_cells a.m a.n a.cells.now t.0 t.1).inputs
          (leaves_two a.m a.n t.0 f t.4)),
      subst⁻¹ (λ (g : ℕ). LayersRoom a.choice g a.fewest.now) t.5 (layers_room a.choice a.n a.marks.now own a.fewest.now layers below),
    )

pub fill-requires : goal.fill-requires
fill-requires c =
    let a = c.args in
    let t = c.requires.table in
    let f = ink_in a.cells.now in
    let w = c.choose-wiring.result in
    let layers = own_layers a.choice a.m a.n a.cells.now a.marks.now a.fewest.now a.leaves t c.requires.layers in
    let chosen = own_wiring a.choice a.m a.n a.cells.now a.marks.now a.fewest.now a.leaves t w c.choose-wiring.ensures in (
      sized_cells a.m a.n a.cells.now t.0 t.1,
      chosen_count a.choice a.m a.n f t.0 t.4 a.marks.now a.fewest.now t.3 layers w chosen,
      chosen_fillable a.choice a.m a.n f t.0 t.4 a.marks.now a.fewest.now t.3 layers w chosen,
    )

pub returns : goal.returns
returns c =
    let a = c.args in
    let t = c.requires.table in
    let w = c.choose-wiring.result in
    let layers = own_layers a.choice a.m a.n a.cells.now a.marks.now a.fewest.now a.leaves t c.requires.layers in
    let chosen = own_wiring a.choice a.m a.n a.cells.now a.marks.now a.fewest.now a.leaves t w c.choose-wiring.ensures in
    chosen_made a.choice a.m a.n (ink_in a.cells.now) t.0 t.4 a.marks.now a.fewest.now t.3 layers w chosen t.2 c.fill.result c.fill.ensures
