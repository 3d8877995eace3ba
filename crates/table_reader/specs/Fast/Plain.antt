-- A field of one byte, mostly a digit, with the required separator after it: two bytes, compared as one number.
-- Assumes nothing.
use Rattle.std.specs.Prelude.{◌<◌, ◌+◌, ◌*◌, ◌≡◌, ◌∷◌}
use Rattle.laws.specs.Prelude.{ℕ, ap, refl, true, false, List, [], add-one, arith, length, get_or, drop, eq-eqb}
use Rattle.rules.specs.Text.{zero_byte}
use Rattle.rules.specs.Sheets.Fields.{Read, read, Judge, good, is_separator, run, past, separator, after_field_in, field_of_in, field, field_in}
use Rattle.laws.specs.Lists.Walks.{rest}
use Rattle.fields.specs.Runs.{is_neither}

-- the byte b is at `at`, and the byte `due` after it
pub record OneByte (s : List ℕ) (at b due : ℕ) : Type 0 where
  pub within : at + 1 < length s
  pub byte : get_or s at 0 ≡ b
  pub after : get_or s (at + 1) 0 ≡ due

-- the digit d
abbrev pub Plain : List ℕ → ℕ → ℕ → ℕ → Type 0
Plain s at d due = OneByte s at (zero_byte + d) due

-- equal two-byte numbers mean equal bytes, for a digit, whose byte is below 256, ..
pub two_plain : (s : List ℕ) (at d due : ℕ) → at + 1 < length s → get_or s at 0 < 256 → d < 10
    → get_or s at 0 + 256 * get_or s (at + 1) 0 ≡ zero_byte + 256 * due + d → Plain s at d due
two_plain s at d due within byte few e = record { within = within; byte = omega arith; after = omega arith }

-- .. and for any byte
pub two_bytes_are : (s : List ℕ) (at b due : ℕ) → at + 1 < length s → get_or s at 0 < 256 → b < 256
    → get_or s at 0 + 256 * get_or s (at + 1) 0 ≡ b + 256 * due → OneByte s at b due
two_bytes_are s at b due within byte few e = record { within = within; byte = omega arith; after = omega arith }

-- a run of one byte, and what follows it
module _ (b due : ℕ) (t : List ℕ) (inside : is_separator b ≡ false) (ends : is_separator due ≡ true) where
  run_one : run (b ∷ due ∷ t) ≡ b ∷ []
  unfolding run
  run_one = rw (run, inside, run, ends)

  past_one : past (b ∷ due ∷ t) ≡ due ∷ t
  unfolding past
  past_one = rw (past, inside, past, ends)

-- the field is the byte, and its separator follows
byte_run : (s : List ℕ) (at b due : ℕ) → is_separator b ≡ false → is_separator due ≡ true → OneByte s at b due
    → (run (drop at s) ≡ b ∷ []) × (past (drop at s) ≡ drop (at + 1) s)
byte_run s at b due inside ends plain =
    rw (here, rest s (at + 1) plain.within, plain.after)
    (run_one b due (drop (at + 1 + 1) s) inside ends, past_one b due (drop (at + 1 + 1) s) inside ends)
  where
    here : drop at s ≡ b ∷ drop (at + 1) s
    here = rw (rest s at (omega (arith, plain.within)), plain.byte)

digit_inside : (d : ℕ) → is_separator (zero_byte + d) ≡ false
digit_inside d = is_neither (zero_byte + d) (λ e. omega (arith, e)) (λ e. omega (arith, e))

pub plain_run : (s : List ℕ) (at d due : ℕ) → is_separator due ≡ true → Plain s at d due
    → (run (drop at s) ≡ (zero_byte + d) ∷ []) × (past (drop at s) ≡ drop (at + 1) s)
plain_run s at d due ends plain = byte_run s at (zero_byte + d) due (digit_inside d) ends plain

-- the field is read, and reading continues two bytes on
pub byte_read : {A : Type 0} (judge : Judge A) (a : A) (s : List ℕ) (at b due : ℕ) → is_separator b ≡ false → is_separator due ≡ true → OneByte s at b due
    → judge (b ∷ []) ≡ good a → read a (drop (at + 2) s) (at + 2) ≡ field judge due (drop at s) at
unfolding field_in field_of_in after_field_in separator
byte_read {A} judge a s at b due inside ends plain is =
    let (one, past_it) = byte_run s at b due inside ends plain in
    let two : at + 2 ≡ at + 1 + 1 = omega arith in
    rw (one, past_it, is, rest s (at + 1) plain.within, plain.after, separator, eq-eqb due due refl)
    (rw two (ap {B = Read A} (read a (drop (at + 1 + 1) s)) (add-one (at + 1))))

pub plain_read : {A : Type 0} (judge : Judge A) (a : A) (s : List ℕ) (at d due : ℕ) → is_separator due ≡ true → Plain s at d due
    → judge ((zero_byte + d) ∷ []) ≡ good a → read a (drop (at + 2) s) (at + 2) ≡ field judge due (drop at s) at
plain_read judge a s at d due ends plain is = byte_read judge a s at (zero_byte + d) due (digit_inside d) ends plain is
