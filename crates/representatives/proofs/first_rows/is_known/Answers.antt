-- `representatives::first_rows::is_known` meets its contract: the first that is alike, or none of them. Assumes nothing.
use Rattle.laws.specs.Prelude.{◌∙◌, sym, arith, length-take-le, get_or-take, lt-ltb, le-ltb}
use Rattle.rules.specs.Calls.Answers.{ink_in}
use Rattle.rules.specs.Groups.Groups.{alike_over}
use Rattle.classes.specs.Firsts.{search_is}
use Rattle.representatives.specs.Columns.{columns_of}
use Rattle.representatives.proofs.first_rows.is_known.Goals as goal

pub returns-then-alike_by : goal.returns-then-alike_by
returns-then-alike_by c =
    let a = c.args in
    let long = length-take-le a.count a.firsts.now c.requires.2 in
    let i = c.loop-q.q-index in
    let alike = rw (get_or-take a.count a.firsts.now i 0 (omega arith)) at (sym c.alike_by.ensures ∙ c.if-alike_by.true) in
    let test = alike_over (ink_in a.cells.now) (columns_of a.run a.heads.now) a.p in
    sym (lt-ltb _ _ (omega (arith, search_is test a.firsts.now a.count i c.requires.2 (omega arith) c.loop-q.invariant (λ _. alike))))

pub returns : goal.returns
returns c =
    let a = c.args in
    let long = length-take-le a.count a.firsts.now c.requires.2 in
    let test = alike_over (ink_in a.cells.now) (columns_of a.run a.heads.now) a.p in
    sym (le-ltb _ _ (omega (
      arith,
      search_is test a.firsts.now a.count a.count c.requires.2 (omega arith) (λ i h. c.loop-q.invariant i (omega arith)) (λ h. absurd (omega arith)),
    )))
