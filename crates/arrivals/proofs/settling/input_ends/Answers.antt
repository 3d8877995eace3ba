-- `arrivals::settling::input_ends` meets its contract. The loop's invariant: the first i inputs have their ends.
-- Assumes nothing.
use Rattle.std.specs.Prelude.{◌≡◌}
use Rattle.laws.specs.Prelude.{ℕ, ◌∙◌, ap, refl, subst, arith}
use Rattle.arrivals.specs.Ends.{ends_in}
use Rattle.arrivals.specs.Wires.{WiresAt, from_of, to_of, first_times, arrival_inputs_none, inputs_more}
use Rattle.arrivals.proofs.settling.input_ends.Goals as goal

pub loop-i-init : goal.loop-i-init
loop-i-init c = arrival_inputs_none c.args.times _ refl

pub loop-i-preserved : goal.loop-i-preserved
loop-i-preserved c =
    inputs_more c.args.times _ _ c.loop-i.invariant (omega (arith, c.loop-i-test.true, c.requires.0, c.requires.1.many))
    (omega (arith, c.loop-i-test.true, c.requires.0)) _ _ (c.ends_of.ensures ∙ ap ends_in c.arrival_of-arrival.ensures)

pub returns : goal.returns
returns c =
    let times = c.args.times in
    let all : c.loop-i.i ≡ c.args.inputs = omega (arith, c.loop-i.auto, c.loop-i-test.false) in
    subst (λ (n : ℕ). WiresAt (first_times from_of times n) (first_times to_of times n) c.loop-i.ends) all c.loop-i.invariant
