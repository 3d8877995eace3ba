-- `evaluation::lists::inputs::lay_inputs` meets its contract. The loop's invariant: the first i inputs have their lists. Assumes nothing.
use Rattle.std.specs.Prelude.{◌<◌, ◌≤◌, ◌^◌, ◌/◌, ◌≡◌}
use Rattle.laws.specs.Prelude.{ℕ, ◌∙◌, ap, refl, pow-suc, pow-le-pow_right, add-one, arith}
use Rattle.rules.specs.Lists.{range, total}
use Rattle.nets.specs.declared.forms.Net.{Net}
use Rattle.nets.specs.Sound.{Sound, sound_size, net_levels_pos}
use Rattle.evaluation.specs.Lists.Wires.{start_more, input_count}
use Rattle.evaluation.specs.Lists.Laid.{InputReady, wires_listed_none, weight_next, input_ready, input_lists_more}
use Rattle.evaluation.proofs.lists.inputs.lay_inputs.Goals as goal

-- an input's bit is small
bit_small : (net : Net) → Sound net → (i : ℕ) → i < net.inputs → (i < 12) × (2 ^ i ≤ 4096)
bit_small net sound i turn =
    let low : i < 12 = omega (arith, (sound_size net sound).inputs_most) in
    let most : 2 ^ i ≤ 2 ^ 12 = let low' : i ≤ 12 = omega arith in pow-le-pow_right (omega arith) low' in
    (low, most)

pub loop-i-init : goal.loop-i-init
unfolding total range
loop-i-init c =
    (c.power-weight.ensures ∙ ap (λ (k : ℕ). c.args.net.levels ^ k) (omega arith), refl, refl, wires_listed_none _ _ _ refl c.requires.1)

pub loop-i-preserved : goal.loop-i-preserved
loop-i-preserved c =
    let net : Net = c.args.net in
    let sound : Sound net = c.requires.0 in
    let i : ℕ = c.loop-i.i in
    let weight_is = weight_next net sound i c.loop-i.weight c.loop-i-test.true c.loop-i.invariant.0 in
    let l = c.loop-i in
    let inputs = c.loop-i-test.true in (
      weight_is ∙ ap (λ (k : ℕ). net.levels ^ k) (omega arith),
      omega (arith, l.invariant.1, start_more net sound l.i, input_count net sound l.i inputs),
      rw (add-one, pow-suc) (omega (arith, l.invariant.2)),
      input_lists_more net sound l.i l.spans l.lists l.invariant.3 inputs l.at _ l.invariant.1 weight_is l.bit l.invariant.2 _
          c.lay_input.ensures,
    )

pub returns : goal.returns
returns c =
    let end : c.loop-i.i ≡ c.args.net.inputs = omega (arith, c.loop-i-test.false) in
    rw end at c.loop-i.invariant.3

pub power-weight-requires : goal.power-weight-requires
power-weight-requires c = let size = sound_size _ c.requires.0 in (size.levels_most, omega (arith, size.inputs_most))

pub nonzero_div-weight : goal.nonzero_div-weight
nonzero_div-weight c =
    let net : Net = c.args.net in
    let sound : Sound net = c.requires.0 in
    net_levels_pos net sound

pub lay_input-requires : goal.lay_input-requires
lay_input-requires c =
    let i : ℕ = c.loop-i.i in
    let net : Net = c.args.net in
    let sound : Sound net = c.requires.0 in
    let weight_is = weight_next net sound i c.loop-i.weight c.loop-i-test.true c.loop-i.invariant.0 in
    let ready : InputReady net.levels (c.loop-i.weight / net.levels) c.loop-i.at c.loop-i.lists =
    input_ready net sound i c.loop-i.spans c.loop-i.lists c.loop-i.invariant.3 c.loop-i-test.true c.loop-i.at _ c.loop-i.invariant.1 weight_is in
    ready

pub offset_bounds-spans-i : goal.offset_bounds-spans-i
offset_bounds-spans-i c = omega (arith, bit_small c.args.net c.requires.0 c.loop-i.i c.loop-i-test.true, c.loop-i.invariant.2)

pub bounds-spans-i : goal.bounds-spans-i
bounds-spans-i c = omega (arith, bit_small c.args.net c.requires.0 c.loop-i.i c.loop-i-test.true, c.loop-i.invariant.2)

pub overflow_add-at : goal.overflow_add-at
overflow_add-at c =
    let i : ℕ = c.loop-i.i in
    let net : Net = c.args.net in
    let sound : Sound net = c.requires.0 in
    let weight_is = weight_next net sound i c.loop-i.weight c.loop-i-test.true c.loop-i.invariant.0 in
    let ready : InputReady net.levels (c.loop-i.weight / net.levels) c.loop-i.at c.loop-i.lists =
    input_ready net sound i c.loop-i.spans c.loop-i.lists c.loop-i.invariant.3 c.loop-i-test.true c.loop-i.at _ c.loop-i.invariant.1 weight_is in
    omega (arith, ready.room, c.loop-i.invariant.3.long)

pub overflow_add-bit : goal.overflow_add-bit
overflow_add-bit c = omega (arith, bit_small c.args.net c.requires.0 c.loop-i.i c.loop-i-test.true, c.loop-i.invariant.2)
