-- `gate_tables::fill::join` meets its contract: one more gate is added. Assumes nothing.
use Rattle.std.specs.Prelude.{◌+◌, ◌*◌, ◌≡◌, ◌++◌}
use Rattle.std.proofs.lemmas.Slice.{put_mid-paste}
use Rattle.laws.specs.Prelude.{ℕ, ◌∙◌, ap, List, arith, length, length-take, take, drop, take-take, rules}
use Rattle.nets.specs.Room.{most_gates, most_digits}
use Rattle.gate_tables.specs.Growth.{joined_table}
use Rattle.gate_tables.proofs.fill.join.Goals as goal

pub returns : goal.returns
returns c =
    let a = c.args in
    let lefts : length a.net.left ≡ most_gates = search rules in
    let rights : length a.net.right ≡ most_gates = search rules in
    let digits : length a.net.digits ≡ most_digits = search rules in
    let count : ℕ = a.m * a.m in
    let at : ℕ = a.net.gates * count in
    let front : take count (take count a.table.now) ≡ take count a.table.now = take-take count count a.table.now (omega arith) in
    joined_table a.m a.left a.right a.table.now a.net _ (omega (arith, c.requires.1)) (omega (arith, c.requires.1)) (omega (arith, c.requires.2))
    c.requires.0
    (put_mid-paste at _ a.net.digits _ (take count a.table.now) count c.copy_from_slice.ensures.after (omega arith)
    (omega (arith, length-take count a.table.now, c.requires.0))
    ∙ ap (λ (xs : List ℕ). take at a.net.digits ++ xs ++ drop (at + count) a.net.digits) front)
