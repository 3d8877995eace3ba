-- A table sheet: what printing it requires.
-- Assumes nothing.
use Rattle.std.specs.Prelude.{◌<◌, ◌≤◌}
use Rattle.laws.specs.Prelude.{ℕ, List, arith, length, get_or}
use Rattle.rules.specs.Limits.{most_levels}
use Rattle.laws.specs.Numbers.Sizes.{levels_fit_lem}
use Rattle.nets.specs.declared.forms.Header.{Header}
use Rattle.nets.specs.Forms.{header_of}
use Rattle.accepted.specs.Taken.{Given}
use Rattle.net_sheets.specs.Text.Names.{NamesInside}

-- levels are digits, and inks are no more than a digit
pub record TableInside (s : List ℕ) (h : Header) (inks : List ℕ) : Type 0 where
  pub names : NamesInside s h
  pub some_levels : 0 < h.levels
  pub levels : h.levels ≤ most_levels
  pub digits : (k : ℕ) → k < length inks → get_or inks k 0 < 10

-- a table that keeps the rules of document 01 meets the requirements of printing
pub table_inside : (s : List ℕ) (h : Header) (inks : List ℕ) → Given s h inks → TableInside s h inks
unfolding header_of
table_inside s h inks given =
    let kept = given.kept in
    let fit = (levels_fit_lem h.levels).0 kept.header.levels in
    record { names = given.names; some_levels = omega arith; levels = fit.1; digits = λ k l. omega (arith, fit.1, kept.within k l) }
