-- `radix::members::members` meets its contract. The loop's invariant: the members so far, plus those among the inputs that are
-- left, are all members. Assumes nothing.
use Rattle.std.specs.Prelude.{◌+◌, ◌-◌, ◌≡◌}
use Rattle.laws.specs.Prelude.{suc, ap, arith}
use Rattle.rules.specs.Groups.Groups.{size}
use Rattle.trees.specs.Groups.Members.{size_suc, size_le}
use Rattle.radix.proofs.members.members.Goals as goal

pub loop-i-preserved : goal.loop-i-preserved
loop-i-preserved c =
    let n = c.args.n in
    let l = c.loop-i in
    let one : n - l._i ≡ suc (n - (l._i + 1)) = omega arith in
    (omega arith, omega (arith, ap (λ k. size k l.rest) one, size_suc (n - (l._i + 1)) l.rest))

pub returns : goal.returns
returns c =
    let n = c.args.n in
    let l = c.loop-i in
    let none : n - l._i ≡ 0 = omega arith in
    omega (arith, ap (λ k. size k l.rest) none, size_le 0 l.rest)
