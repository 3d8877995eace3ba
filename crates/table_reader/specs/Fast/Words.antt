-- Eight bytes as one number: four levels, each with the space after it, as read and as expected.
-- Assumes nothing.
use Rattle.std.specs.Prelude.{◌<◌, ◌≤◌, ◌+◌, ◌-◌, ◌*◌, ◌≡◌}
use Rattle.laws.specs.Prelude.{ℕ, cond, List, dec_lt, arith, ltb, get_or, lt-ltb, le-ltb}
use Rattle.rules.specs.Limits.{most_inputs}
use Rattle.rules.specs.Text.{zero_byte, space_byte}
use Rattle.table_reader.specs.declared.fast.words.Words.{Words}

-- the byte at k and the one after it
abbrev pub pair_at : List ℕ → ℕ → ℕ
pair_at s k = get_or s k 0 + 256 * get_or s (k + 1) 0

-- a level with a space after it
abbrev pub due_pair : ℕ → ℕ
due_pair l = zero_byte + 256 * space_byte + l

-- four such numbers as one
abbrev pub packed : ℕ → ℕ → ℕ → ℕ → ℕ
packed a b c d = (a + 65536 * b) + 4294967296 * (c + 65536 * d)

abbrev pub word_at : List ℕ → ℕ → ℕ
word_at s at = packed (pair_at s at) (pair_at s (at + 2)) (pair_at s (at + 4)) (pair_at s (at + 4 + 2))

abbrev pub due_word : List ℕ → ℕ → ℕ
due_word levels i =
    packed (due_pair (get_or levels i 0)) (due_pair (get_or levels (i + 1) 0)) (due_pair (get_or levels (i + 2) 0)) (due_pair (get_or levels (i + 2 + 1) 0))

-- where the second four begin
unfoldable pub middle_of : ℕ → ℕ
middle_of front = cond (ltb front 8) (front - 4) 4

-- the expected words of four levels or more
pub record WideWords (levels : List ℕ) (front : ℕ) (words : Words) : Type 0 where
  pub first : words.first ≡ due_word levels 0
  pub middle : words.middle ≡ due_word levels (middle_of front)
  pub last : words.last ≡ due_word levels (front - 4)

abbrev pub WordsOf : List ℕ → ℕ → Words → Type 0
WordsOf levels front words = 4 ≤ front → WideWords levels front words

-- the middle four overlap or adjoin the first four and the last four
pub middle_near : (front : ℕ) → 4 ≤ front → front ≤ most_inputs → (middle_of front ≤ front - 4) × (middle_of front ≤ 4) × (front - 4 ≤ middle_of front + 4)
unfolding middle_of
middle_near front wide few = go (dec_lt front 8)
  where
    go : Dec (front < 8) → (middle_of front ≤ front - 4) × (middle_of front ≤ 4) × (front - 4 ≤ middle_of front + 4)
    go (yes low) = rw (lt-ltb front 8 low) (omega arith, omega arith, omega arith)
    go (no high) = rw (le-ltb front 8 (omega (arith, high))) (omega (arith, high), omega arith, omega arith)
