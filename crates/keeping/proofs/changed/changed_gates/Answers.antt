-- `keeping::changed::changed_gates` meets its contract. The loop's invariant: `set` has the changed gates among the first k. Assumes nothing.
use Rattle.std.specs.Prelude.{◌<◌, ◌≤◌, ◌+◌, ◌^◌}
use Rattle.laws.specs.Prelude.{ℕ, ◌∙◌, sym, ap, arith, pow_mono}
use Rattle.nets.specs.Sound.{gates_count, sound_size}
use Rattle.keeping.specs.Changed.{set_none, set_small, set_all, set_same, set_more}
use Rattle.keeping.proofs.changed.changed_gates.Goals as goal
use Rattle.keeping.proofs.changed.changed_gates.Goals.{then-not-same_table, else-not-same_table}

pub loop-k-init : goal.loop-k-init
loop-k-init c = set_none c.args.old c.args.new

pub loop-k-preserved : goal.loop-k-preserved
loop-k-preserved c =
    let a = c.args in
    let in_new : c.loop-k.k < a.new.gates = omega (arith, c.requires.2, c.loop-k-test.true) in
    elim c.if-not-same_table.branch [
      | then-not-same_table w ↦
          w.set-is ∙ ap (λ (set : ℕ). set + w.power-set.result) c.loop-k.invariant
          ∙ sym (set_more a.old a.new c.loop-k.k c.loop-k-test.true in_new (sym c.same_table.ensures ∙ w.if-not-same_table.true) _ w.power-set.ensures)
      | else-not-same_table w ↦
          w.set-is ∙ c.loop-k.invariant
          ∙ sym (set_same a.old a.new c.loop-k.k c.loop-k-test.true in_new (sym c.same_table.ensures ∙ w.if-not-same_table.false))
    ]

pub returns : goal.returns
returns c =
    let a = c.args in
    c.loop-k.invariant ∙ set_all a.old a.new c.loop-k.k (omega (arith, c.loop-k.auto, c.loop-k-test.false))

pub power-set-requires : goal.power-set-requires
power-set-requires c =
    (omega arith, omega (arith, gates_count c.args.old c.requires.0, (sound_size c.args.old c.requires.0).inputs_most, c.loop-k-test.true))

pub overflow_add-set : goal.overflow_add-set
overflow_add-set c =
    let few : c.loop-k.k + 1 ≤ 15 = omega (arith, gates_count c.args.old c.requires.0, (sound_size c.args.old c.requires.0).inputs_most, c.loop-k-test.true) in
    let most : 2 ^ (c.loop-k.k + 1) ≤ 2 ^ 15 = pow_mono few in
    omega (arith, most, set_small c.args.old c.args.new c.loop-k.k, c.loop-k.invariant, c.power-set.ensures)
