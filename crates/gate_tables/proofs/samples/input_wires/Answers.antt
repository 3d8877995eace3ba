-- `gate_tables::samples::input_wires` meets its contract. The loop's invariant: the rows of the first `i` inputs are written. Assumes nothing.
use Rattle.std.specs.Prelude.{◌^◌, ◌*◌, ◌≡◌}
use Rattle.laws.specs.Prelude.{ℕ, ◌∙◌, sym, ap, refl, subst, mul_comm, arith, get_or}
use Rattle.rules.specs.Nets.Filling.{input_groups}
use Rattle.radix.specs.Weights.{weight_fits}
use Rattle.trees.specs.Filling.Fillings.{inputs_grouped}
use Rattle.gate_tables.specs.Store.{WireRows, input_wire, rows_next}
use Rattle.gate_tables.proofs.samples.input_wires.Goals as goal

pub level_points-requires : goal.level_points-requires
level_points-requires c =
    let power = c.power in
    let a = c.args in (
      omega (arith, c.requires),
      omega (
        arith,
        weight_fits a.m a.n c.loop-i.i c.requires.0 c.loop-i-test.true,
        ap (λ (w : ℕ). w * a.m) power.ensures,
        mul_comm a.m power.result,
        c.requires.3,
      ),
    )

pub loop-i-preserved : goal.loop-i-preserved
loop-i-preserved c =
    let group : get_or (input_groups c.args.n) c.loop-i.i 0 ≡ 2 ^ c.loop-i.i = (inputs_grouped c.args.n).1 c.loop-i.i c.loop-i-test.true in
    let l = c.loop-i in
    let a = c.args in
    let power = c.power-in-loop-i in (
      c.put_row.ensures.long ∙ l.invariant.0,
      λ f. rows_next a.m a.n c.requires.0 f (input_groups a.n) l.i l.wires (l.invariant.1 f) power.result a.m _ _ c.requires.1
          (power.ensures ∙ sym group)
          (input_wire a.m a.n c.requires.0 f l.i _ c.power.result c.loop-i-test.true group
          c.power.ensures _ _ c.level_points.ensures)
          c.put_row.ensures _ refl,
    )

pub returns : goal.returns
returns c =
    let l = c.loop-i in
    let a = c.args in
    subst (λ (k : ℕ). (f : ℕ → ℕ) → WireRows a.m a.n f (input_groups a.n) k l.wires) (omega arith) l.invariant.1
