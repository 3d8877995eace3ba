-- `wirings::forms::link` meets its contract: one more gate is added. Assumes nothing.
use Rattle.std.specs.Prelude.{◌-◌, ◌≡◌}
use Rattle.laws.specs.Prelude.{arith, length, rules}
use Rattle.rules.specs.Limits.{most_inputs}
use Rattle.wirings.specs.Links.{linked}
use Rattle.wirings.proofs.forms.link.Goals as goal

pub returns : goal.returns
returns c =
    let a = c.args in
    let lefts : length a.wiring.left ≡ most_inputs - 1 = search rules in
    let rights : length a.wiring.right ≡ most_inputs - 1 = search rules in
    linked a.wiring a.left a.right (omega (arith, c.requires)) (omega (arith, c.requires))
