-- `classes::alike::class_of` meets its contract. The loop's invariant: none of the first j is alike. Assumes nothing.
use Rattle.std.specs.Prelude.{◌≡◌}
use Rattle.laws.specs.Prelude.{◌∙◌, sym, arith, length-take-le}
use Rattle.cells.specs.Bound.{first_is}
use Rattle.classes.proofs.alike.class_of.Goals as goal

pub returns-then-alike : goal.returns-then-alike
returns-then-alike c = first_is _ _ c.loop-j.j (omega arith) c.loop-j.invariant (λ _. sym c.alike.ensures ∙ c.if-alike.true)

pub returns : goal.returns
returns c =
    let all : c.args.count ≡ c.loop-j.j = omega (arith, length-take-le c.args.count c.args.firsts.now c.requires.0) in
    all ∙ first_is _ _ c.loop-j.j (omega arith) c.loop-j.invariant (λ h. absurd (omega arith))
