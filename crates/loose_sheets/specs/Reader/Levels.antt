-- An input field: one digit below m.
-- Assumes nothing.
use Rattle.std.specs.Prelude.{◌<◌, ◌+◌, ◌≡◌, ◌∷◌}
use Rattle.laws.specs.Prelude.{ℕ, ◌∙◌, sym, refl, List, []}
use Rattle.rules.specs.Text.{zero_byte}
use Rattle.rules.specs.Sheets.Fields.{good}
use Rattle.rules.specs.Sheets.LooseSheet.{any_level}
use Rattle.table_reader.specs.Digits.{digit_below, digit_is, digit_told}

pub any_level_lem : (m : ℕ) (w : List ℕ) → digit_below m 5 w ≡ any_level m w
unfolding any_level digit_below
any_level_lem m [] = refl
any_level_lem m (b ∷ []) = refl
any_level_lem m (b ∷ c ∷ w) = refl

-- the digit of a level is good
pub level_digit : (m l : ℕ) → l < m → any_level m ((zero_byte + l) ∷ []) ≡ good l
level_digit m l h = sym (any_level_lem m ((zero_byte + l) ∷ [])) ∙ digit_is m 5 l h

-- a level that was read is below m
pub level_told : (m : ℕ) (w : List ℕ) (l : ℕ) → any_level m w ≡ good l → l < m
level_told m w l e = digit_told m 5 w l (any_level_lem m w ∙ e)
