-- `representatives::witnesses::agree` meets its contract: each step compares one more level. Assumes nothing.
use Rattle.laws.specs.Prelude.{ℕ, ap, subst⁻¹, arith, ◌-◌, ◌/◌}
use Rattle.representatives.specs.Shifts.{shifted}
use Rattle.representatives.proofs.Agreeing.{Agrees, agrees_all, agrees_same, agrees_other}
use Rattle.representatives.proofs.witnesses.agree.Goals as goal
use Rattle.representatives.proofs.witnesses.agree.Goals.{then-u-m, else-u-m}

pub loop-i-preserved : goal.loop-i-preserved
loop-i-preserved c =
    let a = c.args in
    let l = c.loop-i in
    let more = c.loop-i-test.true in
    elim c.if-u-m.branch [
      | then-u-m w ↦ subst⁻¹ (λ (r : ℕ). Agrees a.m a.n a.x a.y a.s r (l.u / a.m) (l.v / a.m) (l.i - 1)) w.rest-is
          (agrees_other l.invariant more c.requires.1 (ap (λ (k : ℕ). 65535 - k) (shifted (l.i - 1) (omega (arith, l.invariant.low)))))
      | else-u-m w ↦ subst⁻¹ (λ (r : ℕ). Agrees a.m a.n a.x a.y a.s r (l.u / a.m) (l.v / a.m) (l.i - 1)) w.rest-is
          (agrees_same l.invariant more w.if-u-m.false)
    ]

pub returns-then-u-v : goal.returns-then-u-v
returns-then-u-v c = agrees_all c.loop-i.invariant c.if-u-v.true
