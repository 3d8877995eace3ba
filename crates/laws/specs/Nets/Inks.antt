-- An ink as a field of a row: a digit below m, or the sign of an open cell (document 02, K13).
-- Assumes nothing.
use Rattle.std.specs.Prelude.{◌-◌, ◌≡◌, ◌∷◌}
use Rattle.laws.specs.Prelude.{ℕ, true, false, Bool, [], eqb, eq-eqb, ne_eqb}
use Rattle.rules.specs.Sheets.Fields.{Judged, good, bad, judged}
use Rattle.rules.specs.Sheets.Sheets.{ink_field, ink_byte}
use Rattle.rules.specs.Text.{digit_byte, open_byte, is_digit}

-- ---- the byte that an ink is written as

pub open_byte_lem : (m ink : ℕ) → ink ≡ m → ink_byte m ink ≡ open_byte
unfolding ink_byte
open_byte_lem m ink e = rw (eq-eqb ink m e, ink_byte)

pub level_byte : (m ink : ℕ) → (ink ≡ m → ⊥) → ink_byte m ink ≡ digit_byte ink
unfolding ink_byte
level_byte m ink ne = rw (ne_eqb ink m ne, ink_byte)

-- ---- a field of one byte, judged

pub field_open : (m b : ℕ) → b ≡ open_byte → ink_field m (b ∷ []) ≡ good m
unfolding ink_field
field_open m b e = rw (eq-eqb b open_byte e, ink_field)

pub field_digit : (m b : ℕ) → (b ≡ open_byte → ⊥) → ink_field m (b ∷ []) ≡ judged (is_digit m b) (b - 48) 6
unfolding ink_field
field_digit m b ne = rw (ne_eqb b open_byte ne, ink_field)

-- a bad field is refused with 6
pub field_bad : (m b k : ℕ) → ink_field m (b ∷ []) ≡ bad k → k ≡ 6
unfolding ink_field
field_bad m b k = go (eqb b open_byte) (is_digit m b)
  where
    go : (sign digit : Bool) → ◌≡◌ {A = Judged ℕ} (elim sign [ true ↦ good m | false ↦ judged digit (b - 48) 6 ]) (bad k) → k ≡ 6
    go true digit e = cc
    go false true e = cc
    go false false e = cc
