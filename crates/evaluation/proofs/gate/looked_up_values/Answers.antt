-- `evaluation::gate::looked_up_values` meets its contract. The loop's invariant: the gate has its first p values. Assumes nothing.
use Rattle.laws.specs.Prelude.{arith}
use Rattle.evaluation.specs.Lists.Runs.{run_all}
use Rattle.evaluation.specs.Gates.{digit_there}
use Rattle.evaluation.proofs.gate.looked_up_values.Goals as goal

pub bounds-digits-from : goal.bounds-digits-from
bounds-digits-from c =
    let h = c.loop-p in
    digit_there _ _ _ _ _ _ _ _ c.requires h.p h.wires h.invariant c.loop-p-test.true

pub returns : goal.returns
returns c = run_all _ _ _ _ _ _ (omega arith) c.loop-p-test.false c.loop-p.invariant
