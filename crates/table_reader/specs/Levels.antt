-- A level field, by its byte.
-- Assumes nothing.
use Rattle.std.specs.Prelude.{◌+◌, ◌≡◌, ◌∷◌}
use Rattle.laws.specs.Prelude.{ℕ, sym, refl, true, false, Bool, List, [], eqb, length, get_or}
use Rattle.rules.specs.Lists.{same}
use Rattle.rules.specs.Text.{digit_byte, zero_byte}
use Rattle.rules.specs.Sheets.Fields.{good}
use Rattle.rules.specs.Sheets.Sheets.{level_field}
use Rattle.laws.specs.Lists.Same.{same_refl, same_length}
use Rattle.laws.specs.Lists.Places.{one_byte}

same_one : (w : List ℕ) (x : ℕ) → length w ≡ 1 → same w (x ∷ []) ≡ eqb (get_or w 0 0) x
unfolding same
same_one w x e =
    rw (one_byte w e) (elim (eqb (get_or w 0 0) x) as (λ t. elim t as (λ _. Bool) [ true ↦ true | false ↦ false ] ≡ t) [ true ↦ refl | false ↦ refl ])

module _ (due : ℕ) (w : List ℕ) where
  pub level_long : (length w ≡ 1 → ⊥) → false ≡ same w (digit_byte due ∷ [])
  level_long h = sym (same_length w (digit_byte due ∷ []) h)

  pub table_level_byte : length w ≡ 1 → eqb (get_or w 0 0) (zero_byte + due) ≡ same w (digit_byte due ∷ [])
  unfolding digit_byte
  table_level_byte one = sym (same_one w (zero_byte + due) one)

-- the expected digit is good
pub level_good : (due : ℕ) → level_field due ((zero_byte + due) ∷ []) ≡ good tt
unfolding level_field digit_byte
level_good due = rw (same_refl ((zero_byte + due) ∷ []))
