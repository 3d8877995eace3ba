-- `wirings::fewest_layers::fewer_by` meets its contract: a part with fewer layers, or the first. Assumes nothing.
use Rattle.std.specs.Prelude.{◌<◌}
use Rattle.laws.specs.Prelude.{◌∙◌, sym, inr, arith}
use Rattle.rules.specs.Nets.Shallow.{split_layers}
use Rattle.wirings.proofs.fewest_layers.fewer_by.Goals as goal
use Rattle.wirings.proofs.fewest_layers.fewer_by.Goals.{then-least-eq0-via-then-least-eq0, then-least-eq0-via-else-least-eq0+then-layers-least}

pub returns-then-least-eq0 : goal.returns-then-least-eq0
unfolding split_layers
returns-then-least-eq0 c =
    let found = c.split_layers-layers.ensures in
    let some : 0 < c.split_layers-layers.result = omega (arith, found) in
    record {
      as_before = λ was. elim c.then-least-eq0.branch [
        | then-least-eq0-via-then-least-eq0 w ↦ absurd (omega (arith, w.if-least-eq0.true))
        | then-least-eq0-via-else-least-eq0+then-layers-least w ↦ (some, omega (arith, w.if-layers-least.true))
      ];
      by_part = λ two. (some, omega (arith, found));
      is = inr (sym c.both_two.ensures ∙ c.if-both_two.true, sym found);
    }
