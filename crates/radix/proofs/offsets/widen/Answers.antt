-- `radix::offsets::widen` meets its contract. The loop's invariant: the first `j` entries are those of the widened list.
-- Assumes nothing.
use Rattle.std.specs.Prelude.{◌<◌, ◌^◌, ◌*◌, ◌≡◌}
use Rattle.laws.specs.Prelude.{ℕ, ◌∙◌, refl, subst, subst⁻¹, mul-one, mul-le-mul_left, arith, take}
use Rattle.laws.specs.Prelude.{take_all}
use Rattle.radix.proofs.Widening.{whole, whole_length, starts, entry, turn, small}
use Rattle.radix.proofs.offsets.widen.Goals as goal

pub loop-j-init : goal.loop-j-init
loop-j-init c = let a = c.args in starts a.out.now a.len a.w a.m c.requires.1 c.requires.2

pub overflow_add-out : goal.overflow_add-out
overflow_add-out c =
    let a = c.args in
    let pre = c.requires in
    let l = c.loop-j in
    record {
      fits = subst⁻¹ (λ (x : ℕ). x < 2 ^ 16)
          (entry a.out.now a.len a.w a.m pre.1 pre.2 l.out l.j l.auto.j pre.0 (omega arith) l.invariant)
          (small a.out.now a.len a.w a.m pre.1 pre.2 pre.3 l.j (omega arith));
    }

pub loop-j-preserved : goal.loop-j-preserved
loop-j-preserved c =
    let a = c.args in
    let pre = c.requires in
    let l = c.loop-j in
    turn a.out.now a.len a.w a.m pre.1 pre.2 l.out l.j _ (omega arith) (omega arith) l.invariant
    (entry a.out.now a.len a.w a.m pre.1 pre.2 l.out l.j l.auto.j pre.0 (omega arith) l.invariant)

pub returns : goal.returns
returns c =
    let a = c.args in
    let pre = c.requires in
    let l = c.loop-j in
    let end : l.j ≡ a.len * a.m = omega (arith, mul-le-mul_left a.len c.requires.1, mul-one a.len) in (
      refl,
      subst (λ (k : ℕ). take k l.out ≡ take k (whole a.out.now a.len a.w a.m pre.1 pre.2)) end l.invariant
          ∙ take_all (a.len * a.m) _ (omega (arith, whole_length a.out.now a.len a.w a.m pre.1 pre.2)),
    )
