-- Gate lists joined end to end: their references, their tables and their values.
-- Assumes nothing.
use Rattle.std.specs.Prelude.{◌+◌, ◌≡◌, ◌∷◌, ◌++◌}
use Rattle.laws.specs.Prelude.{ℕ, suc, refl, List, [], add-zero, arith, length}
use Rattle.rules.specs.Sheets.SheetRules.{RefersBack, Tables}
use Rattle.rules.specs.Sheets.Sheets.{Gate, used_by}

-- the references that the two use
pub used_append : (xs ys : List Gate) → used_by (xs ++ ys) ≡ used_by xs ++ used_by ys
unfolding used_by
used_append [] ys = refl
used_append (x ∷ xs) ys = rw (used_append xs ys)

-- references back; `j` references come before the second list
pub refers_append : (k j : ℕ) (xs ys : List Gate) → j ≡ k + length xs → RefersBack k xs → RefersBack j ys → RefersBack k (xs ++ ys)
refers_append k j [] ys e back next = rw (e, add-zero) at next
refers_append k j (x ∷ xs) ys e back next = (back.0, back.1, refers_append (suc k) j xs ys (omega arith) back.2 next)

-- tables of m·m digits below m
pub tables_append : (m : ℕ) (xs ys : List Gate) → Tables m xs → Tables m ys → Tables m (xs ++ ys)
tables_append m [] ys t u = u
tables_append m (x ∷ xs) ys t u = (t.0, tables_append m xs ys t.1 u)
