-- A run of cells is overwritten, and all others are unchanged.
-- Assumes nothing.
use Rattle.std.specs.Prelude.{◌<◌, ◌≤◌, ◌+◌, ◌≡◌}
use Rattle.laws.specs.Prelude.{ℕ, ◌∙◌, sym, refl, List, ℕ_discrete, arith, length, get_or, set, length-set, get_or-set_same}
use Rattle.laws.specs.Prelude.{get_or-set_other}

-- the `count` cells from `at` on are the values of f, and the others are unchanged
pub record Run (at count : ℕ) (f : ℕ → ℕ) (before after : List ℕ) : Type 0 where
  pub same : length after ≡ length before
  pub front : (q : ℕ) → q < at → get_or after q 0 ≡ get_or before q 0
  pub back : (q : ℕ) → at + count ≤ q → get_or after q 0 ≡ get_or before q 0
  pub there : (p : ℕ) → p < count → get_or after (at + p) 0 ≡ f p

pub run_none : (at : ℕ) (f : ℕ → ℕ) (before : List ℕ) → Run at 0 f before before
run_none at f before = record { same = refl; front = λ q h. refl; back = λ q h. refl; there = λ p h. absurd (omega arith) }

-- one more cell
pub column_run_more : (at p : ℕ) (f : ℕ → ℕ) (before after : List ℕ) (v : ℕ) → Run at p f before after → at + p < length before → v ≡ f p
    → Run at (p + 1) f before (set after (at + p) v)
column_run_more at p f before after v run room is =
    record {
      same = length-set after (at + p) v ∙ run.same;
      front = λ q h. get_or-set_other after (at + p) q v 0 (λ e. omega arith) ∙ run.front q h;
      back = λ q h. get_or-set_other after (at + p) q v 0 (λ e. omega arith) ∙ run.back q (omega arith);
      there = λ q h. go q h (ℕ_discrete q p);
    }
  where
    go : (q : ℕ) → q < p + 1 → Dec (q ≡ p) → get_or (set after (at + p) v) (at + q) 0 ≡ f q
    go q h (yes e) = rw e (get_or-set_same after (at + p) v 0 (omega (arith, run.same)) ∙ is)
    go q h (no other) = get_or-set_other after (at + p) (at + q) v 0 (λ e. other (omega arith)) ∙ run.there q (omega arith)

-- all cells are written
pub run_all : (at p count : ℕ) (f : ℕ → ℕ) (before after : List ℕ) → p ≤ count → count ≤ p → Run at p f before after → Run at count f before after
run_all at p count f before after low all run = let e : p ≡ count = omega arith in rw (sym e) run
