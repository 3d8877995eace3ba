-- Two runs of a table's inks.
-- Assumes nothing.
use Rattle.std.specs.Prelude.{◌<◌, ◌+◌, ◌-◌, ◌≡◌, ◌≢◌}
use Rattle.laws.specs.Prelude.{ℕ, dec_lt, arith}

-- the `count` inks from a on equal those from b on
abbrev pub SameRuns : (ℕ → ℕ) → ℕ → ℕ → ℕ → Type 0
SameRuns f a b count = (j : ℕ) → j < count → f (a + j) ≡ f (b + j)

-- the first `z` inks are equal, and the next differ
pub record RunApart (f : ℕ → ℕ) (a b run z : ℕ) : Type 0 where
  pub low : z < run
  pub same : SameRuns f a b z
  pub differ : f (a + z) ≢ f (b + z)

-- if the inks from there on are equal too, so are all of them
pub same_further : (f : ℕ → ℕ) (a b k count : ℕ) → SameRuns f a b k → SameRuns f (a + k) (b + k) count → SameRuns f a b (k + count)
same_further f a b k count before after j h = go (dec_lt j k)
  where
    go : Dec (j < k) → f (a + j) ≡ f (b + j)
    go (yes low) = before j low
    go (no high) =
        let left : a + k + (j - k) ≡ a + j = omega arith in
        let right : b + k + (j - k) ≡ b + j = omega arith in
        rw (left, right) at (after (j - k) (omega arith))
