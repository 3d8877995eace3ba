-- A row with the expected bytes, two bytes at a time.
-- Assumes nothing.
use Rattle.std.specs.Prelude.{◌<◌, ◌≤◌, ◌+◌, ◌*◌, ◌≡◌, ◌∷◌, ◌++◌}
use Rattle.laws.specs.Prelude.{ℕ, suc, ◌∙◌, sym, ap, subst, refl, List, [], add-zero, arith, length, get_or}
use Rattle.laws.specs.Prelude.{take, drop, length-take-le, get_or-take}
use Rattle.rules.specs.Text.{space, newline, space_byte, newline_byte, open_byte}
use Rattle.rules.specs.Sheets.Fields.{read, then, field}
use Rattle.rules.specs.Sheets.Sheets.{level_field, ink_field, level_fields}
use Rattle.laws.specs.Nets.Inks.{field_open}
use Rattle.fields.specs.Chained.{field_then_then}
use Rattle.fields.specs.Runs.{is_space, is_newline, is_neither}
use Rattle.table_reader.specs.Fast.Plain.{OneByte, Plain, byte_read, plain_read}
use Rattle.table_reader.specs.Inks.{ink_digit}
use Rattle.table_reader.specs.Levels.{level_good}
use Rattle.table_reader.specs.Row.{row_line}

-- the first n levels are digits
abbrev pub AreDigits : List ℕ → ℕ → Type 0
AreDigits levels n = (k : ℕ) → k < n → get_or levels k 0 < 10

-- the bytes of a row with `front` levels before the last two
abbrev pub row_bytes : ℕ → ℕ
row_bytes front = 2 * front + 6

-- the levels `ls` are at `at`, each followed by a space, and end at `next`
abbrev pub LevelsStand : List ℕ → ℕ → List ℕ → ℕ → Type 0
LevelsStand s at ls next = read tt (drop next s) next ≡ level_fields ls (drop at s) at

-- the row with the levels `ls` is at `at`, with this ink, and the next one begins at `next`
pub record RowStands (s : List ℕ) (at m : ℕ) (ls : List ℕ) (ink next : ℕ) : Type 0 where
  pub reads : read ink (drop next s) next ≡ row_line m ls (drop at s) at
  pub within : ink ≤ m

-- ---- the levels

module _ (s : List ℕ) (place : ℕ) where
  plain_level : (due : ℕ) → Plain s place due space_byte → read tt (drop (place + 2) s) (place + 2) ≡ field (level_field due) space_byte (drop place s) place
  plain_level due plain = plain_read (level_field due) tt s place due space_byte (is_space space_byte refl) plain (level_good due)

  sign_ink : (m : ℕ) → OneByte s place open_byte newline_byte → read m (drop (place + 2) s) (place + 2) ≡ field (ink_field m) newline_byte (drop place s) place
  sign_ink m sign =
      byte_read (ink_field m) m s place open_byte newline_byte (is_neither open_byte (λ e. omega (arith, e)) (λ e. omega (arith, e)))
      (is_newline newline_byte refl) sign (field_open m open_byte refl)

  plain_ink : (m ink : ℕ) → ink < m → Plain s place ink newline_byte
      → read ink (drop (place + 2) s) (place + 2) ≡ field (ink_field m) newline_byte (drop place s) place
  plain_ink m ink below plain = plain_read (ink_field m) ink s place ink newline_byte (is_newline newline_byte refl) plain (ink_digit m ink below)

-- all levels are there, two bytes each
pub plain_stand : (s ls : List ℕ) (at : ℕ) → ((k : ℕ) → k < length ls → Plain s (at + 2 * k) (get_or ls k 0) space_byte)
    → LevelsStand s at ls (at + 2 * length ls)
unfolding level_fields then space
plain_stand s [] at plain = rw (add-zero at) refl
plain_stand s (l ∷ ls) at plain =
    let end : at + 2 + 2 * length ls ≡ at + 2 * suc (length ls) = omega arith in
    let first : Plain s at l space_byte = rw (add-zero at) at (plain 0 (omega arith)) in
    let rest = plain_stand s ls (at + 2)
    (λ k h. subst (λ (p : ℕ). Plain s p (get_or ls k 0) space_byte) (omega arith) (plain (suc k) (omega arith))) in
    rw (← (plain_level s at l first)) (rw end at rest)

pub levels_stand : (s levels : List ℕ) (at n : ℕ) → n ≤ length levels → ((k : ℕ) → k < n → Plain s (at + 2 * k) (get_or levels k 0) space_byte)
    → LevelsStand s at (take n levels) (at + 2 * n)
levels_stand s levels at n long plain =
    let all : length (take n levels) ≡ n = length-take-le n levels long in
    rw all at (plain_stand s (take n levels) at (λ k h. let below : k < n = omega (arith, all) in rw get_or-take (plain k below)))

-- ---- the whole row

fields_append : (xs ys t : List ℕ) (q : ℕ) → level_fields (xs ++ ys) t q ≡ then (level_fields xs t q) (λ _. level_fields ys)
unfolding level_fields then
fields_append [] ys t q = refl
fields_append (x ∷ xs) ys t q =
    ap (then (field (level_field x) space t q)) (λ i. λ _. λ t' q'. fields_append xs ys t' q' i)
    ∙ sym (field_then_then (field (level_field x) space t q) (λ _. level_fields xs) (λ _. level_fields ys))

module _ (s ls : List ℕ) (m at end last : ℕ) (front : LevelsStand s at ls end) (level : Plain s end last space_byte) where
  pub all_levels : LevelsStand s at (ls ++ (last ∷ [])) (end + 2)
  unfolding level_fields then space
  all_levels = rw (fields_append ls (last ∷ []) (drop at s) at, ← front, ← (plain_level s end last level)) refl

  -- with a digit as its ink, ..
  pub due_row : (ink : ℕ) → Plain s (end + 2) ink newline_byte → ink < m → RowStands s at m (ls ++ (last ∷ [])) ink (end + 2 + 2)
  unfolding row_line then newline
  due_row ink digit below = record { reads = rw (← all_levels) (plain_ink s (end + 2) m ink below digit); within = omega arith }

  -- .. or with the sign of an open cell
  pub open_row : OneByte s (end + 2) open_byte newline_byte → RowStands s at m (ls ++ (last ∷ [])) m (end + 2 + 2)
  unfolding row_line then newline
  open_row sign = record { reads = rw (← all_levels) (sign_ink s (end + 2) m sign); within = omega arith }
