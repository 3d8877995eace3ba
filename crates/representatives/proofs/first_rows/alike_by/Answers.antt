-- `representatives::first_rows::alike_by` meets its contract: if a column distinguishes two rows, they are not alike. Assumes nothing.
use Rattle.std.specs.Prelude.{◌≡◌, Option, Some, None, is_some}
use Rattle.laws.specs.Prelude.{ℕ, sym, List, Bool, true, false, false≢true, not}
use Rattle.rules.specs.Groups.Groups.{alike_over}
use Rattle.rules.specs.Calls.Answers.{ink_in}
use Rattle.representatives.specs.Columns.{columns_of, ApartBy}
use Rattle.representatives.specs.Apart.{unlike_at}
use Rattle.representatives.proofs.first_rows.alike_by.Goals as goal

-- two rows are alike if no column is found: b is what `is_none` returns
none_apart : (f : ℕ → ℕ) (ys : List ℕ) (p q : ℕ) (r : Option ℕ) (b : Bool) → ApartBy f ys p q r → is_some r ≡ not b → b ≡ alike_over f ys p q
none_apart f ys p q None true alike t = sym alike
none_apart f ys p q (Some y) false apart t = sym (unlike_at f ys p q y apart.0 apart.1)
none_apart f ys p q None false alike t = absurd (false≢true t)
none_apart f ys p q (Some y) true apart t = absurd (false≢true (sym t))

pub returns-then-cells-p : goal.returns-then-cells-p
returns-then-cells-p c =
    let a = c.args in
    sym (unlike_at (ink_in a.cells.now) (columns_of a.run a.heads.now) a.p a.q a.hint c.requires.1 c.if-cells-p.true)

pub returns : goal.returns
returns c = none_apart _ _ _ _ _ _ c.column_apart.ensures c.is_none.ensures
