-- A lister's place. "it starts only on an accepted sheet": after k turns on one, its place is where line 4 + k begins, counted from 0, or the
-- sheet's end if there is no such line. On any other sheet its place is the end from the start, where no line is left.
-- Assumes nothing.
use Rattle.std.specs.Prelude.{◌+◌, ◌≡◌}
use Rattle.laws.specs.Prelude.{ℕ, min, List, length, drop}
use Rattle.rules.specs.Calls.Answers.{accepted, refused}
use Rattle.rules.specs.Sheets.Reading.{read_net}
use Rattle.rules.specs.Calls.Lister.{line_length, after_lines}

-- where line j begins, or the sheet's end
unfoldable pub line_start : List ℕ → ℕ → ℕ
line_start s j = min (after_lines s j) (length s)

-- a lister's place after k turns
unfoldable pub stands_at : List ℕ → ℕ → ℕ
stands_at s k = elim (read_net s) [ accepted net ↦ line_start s (4 + k) | refused number place ↦ length s ]

-- the place after the line at `at` and its line feed, or the sheet's end
unfoldable pub line_after_of : List ℕ → ℕ → ℕ
line_after_of s at = min (at + line_length (drop at s) + 1) (length s)

-- One turn of a lister: from `at` to the place after the line there, and from the place after k turns to that after k + 1.
pub record Onward (s : List ℕ) (at next : ℕ) : Type 0 where
  pub here : next ≡ line_after_of s at
  pub turn : (k : ℕ) → at ≡ stands_at s k → next ≡ stands_at s (k + 1)
