-- The bounds of levels, inputs and cells as inequalities.
-- Assumes nothing.
use Rattle.std.specs.Prelude.{◌≤◌, ◌+◌, ◌-◌, ◌^◌, ◌≡◌, ◌↔◌, ◌&&◌, ◌||◌}
use Rattle.laws.specs.Prelude.{ℕ, true, Bool, not, and-eq-true_iff, arith, leb, le-leb, leb-true}
use Rattle.rules.specs.Limits.{fewest_levels, most_levels, fewest_inputs, most_inputs, most_cells, levels_fit, inputs_fit, cells_fit_of, size_fits}
use Rattle.rules.specs.Lists.{range, all}
use Rattle.rules.specs.Sheets.SheetRules.{HeaderRules}
use Rattle.rules.specs.Sheets.Sheets.{Header}
use Rattle.laws.specs.Lists.Ranges.{mem_range}
use Rattle.laws.specs.Lists.Tests.{all_mem, both_leb}

pub record Size (m n : ℕ) : Type 0 where
  pub levels_least : fewest_levels ≤ m
  pub levels_most : m ≤ most_levels
  pub inputs_least : fewest_inputs ≤ n
  pub inputs_most : n ≤ most_inputs
  pub cells_most : m ^ n ≤ most_cells

pub levels_fit_lem : (m : ℕ) → (levels_fit m ≡ true) ↔ ((fewest_levels ≤ m) × (m ≤ most_levels))
unfolding levels_fit
levels_fit_lem m = both_leb fewest_levels m m most_levels

pub inputs_fit_lem : (n : ℕ) → (inputs_fit n ≡ true) ↔ ((fewest_inputs ≤ n) × (n ≤ most_inputs))
unfolding inputs_fit
inputs_fit_lem n = both_leb fewest_inputs n n most_inputs

pub sized : (m n : ℕ) → size_fits m n ≡ true → Size m n
unfolding size_fits cells_fit_of
sized m n e =
    let (sides, cells) = (and-eq-true_iff (levels_fit m && inputs_fit n) (cells_fit_of m n)).0 e in
    let (levels, inputs) = (and-eq-true_iff (levels_fit m) (inputs_fit n)).0 sides in
    let (a, b) = (levels_fit_lem m).0 levels in
    let (c, d) = (inputs_fit_lem n).0 inputs in
    record { levels_least = a; levels_most = b; inputs_least = c; inputs_most = d; cells_most = leb-true _ _ cells }

-- a header that follows the rules is within the bounds
pub kept_fits : (h : Header) → HeaderRules h → size_fits h.levels h.inputs ≡ true
unfolding size_fits
kept_fits h kept =
    (and-eq-true_iff (levels_fit h.levels && inputs_fit h.inputs) (cells_fit_of h.levels h.inputs)).1
    ((and-eq-true_iff (levels_fit h.levels) (inputs_fit h.inputs)).1 (kept.levels, kept.inputs), kept.cells)

pub kept_size : (h : Header) → HeaderRules h → Size h.levels h.inputs
kept_size h kept = sized h.levels h.inputs (kept_fits h kept)

-- ---- one test over all sizes that a sheet, or bare cells, may have

unfoldable pub every_size : (ℕ → ℕ → Bool) → Bool
every_size test =
    all (λ m. all (λ n. not (cells_fit_of m n) || test m n) (range fewest_inputs (most_inputs + 1 - fewest_inputs)))
    (range fewest_levels (most_levels + 1 - fewest_levels))

-- what it tests holds at each
pub at_size : (test : ℕ → ℕ → Bool) → every_size test ≡ true → (m n : ℕ) → Size m n → test m n ≡ true
unfolding every_size cells_fit_of
at_size test every m n size =
    let row = all_mem (λ k. all (λ n. not (cells_fit_of k n) || test k n) (range fewest_inputs (most_inputs + 1 - fewest_inputs)))
    (mem_range fewest_levels (most_levels + 1 - fewest_levels) m size.levels_least (omega (arith, size.levels_most))) every in
    rw (le-leb _ _ size.cells_most) at
    (all_mem (λ n. not (cells_fit_of m n) || test m n)
    (mem_range fewest_inputs (most_inputs + 1 - fewest_inputs) n size.inputs_least (omega (arith, size.inputs_most))) row)

-- a bound on what depends only on the size
pub bounded_at : (bound : ℕ → ℕ → ℕ) (most : ℕ) → every_size (λ m n. leb (bound m n) most) ≡ true → (m n : ℕ) → Size m n → bound m n ≤ most
bounded_at bound most every m n size = leb-true (bound m n) most (at_size (λ m n. leb (bound m n) most) every m n size)
