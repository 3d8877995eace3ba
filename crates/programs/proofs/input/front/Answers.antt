-- `programs::input::front` meets its contract. Assumes nothing.
use Rattle.laws.specs.Prelude.{sym, ap, sub-zero, take, take_all}
use Rattle.programs.proofs.input.front.Goals as goal

pub returns-then-count-s : goal.returns-then-count-s
returns-then-count-s c = ap (λ k. take k c.args.s.now) (sub-zero c.args.count)

pub returns : goal.returns
returns c = sym (take_all _ _ c.if-count-s.false)
