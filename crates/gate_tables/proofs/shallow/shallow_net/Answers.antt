-- `gate_tables::shallow::shallow_net` meets its contract: the fewest layers inside the leaves are found first. Assumes nothing.
use Rattle.std.specs.Prelude.{◌≤◌, ◌^◌, ◌≡◌}
use Rattle.laws.specs.Prelude.{ℕ, true, arith, length, rules, pow_mono}
use Rattle.rules.specs.Limits.{most_inputs, size_fits}
use Rattle.rules.specs.Calls.Answers.{ink_in}
use Rattle.laws.specs.Numbers.Sizes.{sized}
use Rattle.trees.specs.Leaves.LeafGroup.{leaves_below}
use Rattle.gate_tables.specs.MadeNet.{some_level}
use Rattle.gate_tables.proofs.shallow.shallow_net.Goals as goal

groups_fit : (m n : ℕ) → size_fits m n ≡ true → 2 ^ n ≤ 2 ^ most_inputs
groups_fit m n fits = pow_mono {i = n} {j = most_inputs} (sized m n fits).inputs_most

pub fewest_layers-requires : goal.fewest_layers-requires
fewest_layers-requires c =
    let a = c.args in
    let below = leaves_below a.m a.n (some_level _ _ c.requires.0) (ink_in a.cells.now) in
    (omega (arith, (sized a.m a.n c.requires.0).inputs_most), c.requires.3.room, groups_fit a.m a.n c.requires.0, omega (arith, below, c.requires.5))

pub chosen_net-requires-clause-layers : goal.chosen_net-requires-clause-layers
chosen_net-requires-clause-layers c =
    let long : length c.fewest_layers.new.fewest ≡ 2 ^ most_inputs = search rules in
    (omega (arith, groups_fit c.args.m c.args.n c.requires.0, long), c.fewest_layers.ensures)
