-- `representatives::first_rows::is_known` meets its contract. The loop's invariant: none so far is alike. Assumes nothing.
use Rattle.std.specs.Prelude.{◌<◌, ◌≡◌}
use Rattle.laws.specs.Prelude.{ℕ, false, get_or}
use Rattle.rules.specs.Calls.Answers.{ink_in}
use Rattle.rules.specs.Groups.Groups.{alike_over}
use Rattle.representatives.specs.Columns.{columns_of}
use Rattle.representatives.proofs.first_rows.is_known.Given as goal

abbrev pub invariant-loop-q : goal.invariant-loop-q
invariant-loop-q l = (i : ℕ) → i < l.q-index → alike_over (ink_in l.cells) (columns_of l.run l.heads) l.p (get_or l.firsts i 0) ≡ false
