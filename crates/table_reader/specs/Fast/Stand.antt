-- Levels at the expected places, four of them checked by eight bytes as one number.
-- Assumes nothing.
use Rattle.std.specs.Prelude.{◌<◌, ◌≤◌, ◌+◌, ◌-◌, ◌*◌, ◌≡◌, ◌∷◌, ◌++◌}
use Rattle.laws.specs.Prelude.{ℕ, ◌∙◌, sym, ap, List, [], dec_lt, ℕ_discrete, arith, length, get_or, take}
use Rattle.rules.specs.Limits.{most_levels, most_inputs}
use Rattle.rules.specs.Text.{zero_byte, space_byte, newline_byte, open_byte}
use Rattle.table_reader.specs.declared.fast.words.Words.{Words}
use Rattle.table_reader.specs.Fast.Plain.{OneByte, Plain, two_plain, two_bytes_are}
use Rattle.table_reader.specs.Fast.Words.{pair_at, due_pair, word_at, due_word, middle_of, WideWords, middle_near}
use Rattle.table_reader.specs.Fast.Due.{AreDigits, LevelsStand, RowStands, levels_stand, all_levels, due_row, open_row}

-- ---- equal numbers have equal parts

small : (a b x y : ℕ) → a < 65536 → b < 65536 → a + 65536 * x ≡ b + 65536 * y → (a ≡ b) × (x ≡ y)
small a b x y a< b< e = (omega (arith, e), omega (arith, e))

large : (a b x y : ℕ) → a < 4294967296 → b < 4294967296 → a + 4294967296 * x ≡ b + 4294967296 * y → (a ≡ b) × (x ≡ y)
large a b x y a< b< e = (omega (arith, e), omega (arith, e))

-- ---- four levels are there

module _ (s levels : List ℕ) (at n : ℕ) (bytes : (k : ℕ) → get_or s k 0 < 256) (digits : AreDigits levels n) (room : at + 2 * n ≤ length s) where
  pair_plain : (k p : ℕ) → k < n → p ≡ at + 2 * k → pair_at s p ≡ due_pair (get_or levels k 0) → Plain s (at + 2 * k) (get_or levels k 0) space_byte
  pair_plain k p k< is e =
      let here : pair_at s (at + 2 * k) ≡ due_pair (get_or levels k 0) = ap (pair_at s) (sym is) ∙ e in
      two_plain s (at + 2 * k) (get_or levels k 0) space_byte (omega arith) (bytes (at + 2 * k)) (digits k k<) here

  pair_below : (p : ℕ) → pair_at s p < 65536
  pair_below p = omega (arith, bytes p, bytes (p + 1))

  module _ (i : ℕ) (most : i + 4 ≤ n) (same : word_at s (at + 2 * i) ≡ due_word levels i) where
    due_below : (k : ℕ) → k < n → due_pair (get_or levels k 0) < 65536
    due_below k k< = omega (arith, digits k k<)

    halves : (pair_at s (at + 2 * i) + 65536 * pair_at s (at + 2 * i + 2) ≡ due_pair (get_or levels i 0) + 65536 * due_pair (get_or levels (i + 1) 0))
        × (pair_at s (at + 2 * i + 4) + 65536 * pair_at s (at + 2 * i + 4 + 2)
        ≡ due_pair (get_or levels (i + 2) 0) + 65536 * due_pair (get_or levels (i + 2 + 1) 0))
    halves =
        large _ _ _ _ (omega (arith, pair_below (at + 2 * i), pair_below (at + 2 * i + 2)))
        (omega (arith, digits i (omega arith), digits (i + 1) (omega arith))) same

    first_two : (pair_at s (at + 2 * i) ≡ due_pair (get_or levels i 0)) × (pair_at s (at + 2 * i + 2) ≡ due_pair (get_or levels (i + 1) 0))
    first_two = small _ _ _ _ (pair_below (at + 2 * i)) (due_below i (omega arith)) halves.0

    last_two : (pair_at s (at + 2 * i + 4) ≡ due_pair (get_or levels (i + 2) 0)) × (pair_at s (at + 2 * i + 4 + 2) ≡ due_pair (get_or levels (i + 2 + 1) 0))
    last_two = small _ _ _ _ (pair_below (at + 2 * i + 4)) (due_below (i + 2) (omega arith)) halves.1

    pub four_plain : (k : ℕ) → i ≤ k → k < i + 4 → Plain s (at + 2 * k) (get_or levels k 0) space_byte
    four_plain k low high = go (ℕ_discrete k i) (ℕ_discrete k (i + 1)) (ℕ_discrete k (i + 2))
      where
        go : Dec (k ≡ i) → Dec (k ≡ i + 1) → Dec (k ≡ i + 2) → Plain s (at + 2 * k) (get_or levels k 0) space_byte
        go (yes e) second third = rw e (pair_plain i _ (omega arith) (omega arith) first_two.0)
        go (no _) (yes e) third = rw e (pair_plain (i + 1) _ (omega arith) (omega arith) first_two.1)
        go (no _) (no _) (yes e) = rw e (pair_plain (i + 2) _ (omega arith) (omega arith) last_two.0)
        go (no x) (no y) (no z) =
            let e : k ≡ i + 2 + 1 = omega (arith, x, y, z) in
            rw e (pair_plain (i + 2 + 1) _ (omega arith) (omega arith) last_two.1)

-- ---- all levels are there

pub wide_stand : (s levels : List ℕ) (at front : ℕ) (words : Words) → 4 ≤ front → front ≤ length levels → AreDigits levels front → at + 2 * front ≤ length s
    → front ≤ most_inputs → WideWords levels front words → ((k : ℕ) → get_or s k 0 < 256)
    → word_at s (at + 2 * 0) ≡ words.first → word_at s (at + 2 * middle_of front) ≡ words.middle → word_at s (at + 2 * (front - 4)) ≡ words.last
    → LevelsStand s at (take front levels) (at + 2 * front)
wide_stand s levels at front words wide long digits room few due bytes first middle last =
    let near = middle_near front wide few in
    levels_stand s levels at front long (λ k k<. go near k k< (dec_lt k 4) (dec_lt k (middle_of front + 4)))
  where
    go : (middle_of front ≤ front - 4) × (middle_of front ≤ 4) × (front - 4 ≤ middle_of front + 4) → (k : ℕ) → k < front
        → Dec (k < 4) → Dec (k < middle_of front + 4) → Plain s (at + 2 * k) (get_or levels k 0) space_byte
    go near k k< (yes low) _ = four_plain s levels at front bytes digits room 0 (omega arith) (first ∙ due.first) k (omega arith) (omega arith)
    go near k k< (no past) (yes low) =
        four_plain s levels at front bytes digits room (middle_of front) (omega (arith, near)) (middle ∙ due.middle) k (omega (arith, near, past)) low
    go near k k< (no past) (no later) =
        four_plain s levels at front bytes digits room (front - 4) (omega arith) (last ∙ due.last) k (omega (arith, near, later)) (omega arith)

-- ---- a whole row: the levels before its last two are there, and these two are checked as four bytes, and the ink as two

module _ (s ls : List ℕ) (m at end before last : ℕ) (bytes : (k : ℕ) → get_or s k 0 < 256) (room : end + 6 ≤ length s) (before< : before < 10)
    (last< : last < 10) (front : LevelsStand s at ls end)
    (same : pair_at s end + 65536 * pair_at s (end + 2) ≡ due_pair before + 65536 * due_pair last) where
  pairs : (pair_at s end ≡ due_pair before) × (pair_at s (end + 2) ≡ due_pair last)
  pairs = small _ _ _ _ (omega (arith, bytes end, bytes (end + 1))) (omega (arith, before<)) same

  before_last : LevelsStand s at (ls ++ (before ∷ [])) (end + 2)
  before_last = all_levels s ls m at end before front (two_plain s end before space_byte (omega arith) (bytes end) before< pairs.0)

  level : Plain s (end + 2) last space_byte
  level = two_plain s (end + 2) last space_byte (omega arith) (bytes (end + 2)) last< pairs.1

  module _ (next : ℕ) (all : next ≡ end + 6) where
    -- with a digit as its ink, ..
    pub digit_stands : (ink : ℕ) → ink < m → m ≤ most_levels → pair_at s (end + 4) ≡ zero_byte + 256 * newline_byte + ink
        → RowStands s at m (ls ++ (before ∷ []) ++ (last ∷ [])) ink next
    digit_stands ink below few is =
        let there : end + 4 ≡ end + 2 + 2 = omega arith in
        let after : end + 2 + 2 + 2 ≡ next = omega (arith, all) in
        let digit : Plain s (end + 4) ink newline_byte = two_plain s (end + 4) ink newline_byte (omega arith) (bytes (end + 4)) (omega arith) is in
        rw after at (due_row s (ls ++ (before ∷ [])) m at (end + 2) last before_last level ink (rw there at digit) below)

    -- .. or with the sign of an open cell
    pub sign_stands : pair_at s (end + 4) ≡ open_byte + 256 * newline_byte → RowStands s at m (ls ++ (before ∷ []) ++ (last ∷ [])) m next
    sign_stands is =
        let there : end + 4 ≡ end + 2 + 2 = omega arith in
        let after : end + 2 + 2 + 2 ≡ next = omega (arith, all) in
        let sign : OneByte s (end + 4) open_byte newline_byte =
        two_bytes_are s (end + 4) open_byte newline_byte (omega arith) (bytes (end + 4)) (omega arith) is in
        rw after at (open_row s (ls ++ (before ∷ [])) m at (end + 2) last before_last level (rw there at sign))
