-- `representatives::rows::runs_apart` meets its contract: the first head whose runs differ gives a column. Assumes nothing.
use Rattle.laws.specs.Prelude.{arith}
use Rattle.rules.specs.Calls.Answers.{ink_in}
use Rattle.representatives.specs.Columns.{run_within, runs_alike, heads_next, run_differs}
use Rattle.representatives.proofs.rows.runs_apart.Goals as goal

pub overflow_add-p : goal.overflow_add-p
overflow_add-p c = let a = c.args in omega (arith, run_within a.run a.heads.now a.p c.loop-head.head-index c.requires.0 (omega arith) c.requires.1)

pub overflow_add-q : goal.overflow_add-q
overflow_add-q c = let a = c.args in omega (arith, run_within a.run a.heads.now a.q c.loop-head.head-index c.requires.0 (omega arith) c.requires.2)

pub run_apart-requires : goal.run_apart-requires
run_apart-requires c =
    let a = c.args in
    let i = c.loop-head.head-index in
    (run_within a.run a.heads.now a.p i c.requires.0 (omega arith) c.requires.1, run_within a.run a.heads.now a.q i c.requires.0 (omega arith) c.requires.2)

pub returns-in-Some : goal.returns-in-Some
returns-in-Some c =
    let a = c.args in
    run_differs (ink_in a.cells.now) a.run a.heads.now a.p a.q c.loop-head.head-index c.in-Some.ensures (omega arith)

pub loop-head-preserved : goal.loop-head-preserved
loop-head-preserved c =
    let a = c.args in
    let l = c.loop-head in
    heads_next (ink_in a.cells.now) a.run a.heads.now a.p a.q l.head-index c.in_default.ensures l.invariant

pub returns : goal.returns
returns c =
    let a = c.args in
    runs_alike a.run a.heads.now (ink_in a.cells.now) a.p a.q (λ j z j< z<. c.loop-head.invariant j z (omega arith) z<)
