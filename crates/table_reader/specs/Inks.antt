-- An ink field: the sign of an open cell, or a digit.
-- Assumes nothing.
use Rattle.std.specs.Prelude.{◌<◌, ◌≤◌, ◌+◌, ◌≡◌, ◌∷◌}
use Rattle.laws.specs.Prelude.{ℕ, ◌∙◌, sym, ap, refl, true, false, Bool, false≢true, List, [], arith}
use Rattle.rules.specs.Lists.{same}
use Rattle.rules.specs.Text.{zero_byte, open_byte}
use Rattle.rules.specs.Sheets.Fields.{read, good, field, run}
use Rattle.rules.specs.Sheets.Sheets.{ink_field}
use Rattle.fields.specs.Taken.{taken_field_read}
use Rattle.laws.specs.Nets.Inks.{field_open, field_digit}
use Rattle.laws.specs.Lists.Same.{same_refl, same_true}
use Rattle.table_reader.specs.Digits.{digit_below, digit_is, digit_told}

pub ink_open : (m : ℕ) (w : List ℕ) → same w (open_byte ∷ []) ≡ true → good m ≡ ink_field m w
ink_open m w e = rw (same_true w (open_byte ∷ []) e) (sym (field_open m open_byte refl))

-- any other ink
pub ink_digits : (m : ℕ) (w : List ℕ) → same w (open_byte ∷ []) ≡ false → digit_below m 6 w ≡ ink_field m w
unfolding ink_field digit_below
ink_digits m [] e = refl
ink_digits m (b ∷ []) e = sym (field_digit m b (λ is. false≢true (sym e ∙ ap (λ x. same (x ∷ []) (open_byte ∷ [])) is ∙ same_refl (open_byte ∷ []))))
ink_digits m (b ∷ c ∷ w) e = refl

-- the digit of an ink is good
pub ink_digit : (m ink : ℕ) → ink < m → ink_field m ((zero_byte + ink) ∷ []) ≡ good ink
unfolding digit_below
ink_digit m ink h = field_digit m (zero_byte + ink) (λ e. omega (arith, e)) ∙ digit_is m 6 ink h

-- an ink that was read is a level, or m for an open cell
pub ink_told : (m : ℕ) (w : List ℕ) (ink : ℕ) → ink_field m w ≡ good ink → ink ≤ m
ink_told m w ink e = go (same w (open_byte ∷ [])) refl
  where
    go : (sign : Bool) → same w (open_byte ∷ []) ≡ sign → ink ≤ m
    go true is =
        let opens = ink_open m w is in
        let all : ink ≡ m = cc in
        omega arith
    go false is = omega (arith, digit_told m 6 w ink (ink_digits m w is ∙ e))

pub ink_read : (m due : ℕ) (t rest : List ℕ) (at ink next : ℕ) → field (ink_field m) due t at ≡ read ink rest next → ink ≤ m
ink_read m due t rest at ink next e = ink_told m (run t) ink (taken_field_read (ink_field m) ink due t rest at next e).0
