-- Bytes: the ones that the formats name, quoted text, and decimal values.
-- Assumes nothing.
use Rattle.std.specs.Prelude.{ℕ, zero, suc, ◌+◌, ◌-◌, ◌*◌, ◌/◌, ◌%◌, Bool, true, false, ◌&&◌, List, [], ◌∷◌, ◌++◌, leb, ltb}
use Prim.Native.Char.{code}
use Prim.Native.String.{String, [] as no_text, ◌∷◌ as ◌then◌}
use Rattle.rules.specs.Lists.{same}

-- "space (32)", as a number
abbrev pub space_byte : ℕ
space_byte = 32

-- and as a name that a proof unfolds if it needs the number
unfoldable pub space : ℕ
space = space_byte

-- "line feed (byte 10)", the same two
abbrev pub newline_byte : ℕ
newline_byte = 10

unfoldable pub newline : ℕ
newline = newline_byte

-- a quoted text as its bytes (the texts here are ASCII)
unfoldable pub text : String → List ℕ
text no_text = []
text (c then s) = code c ∷ text s

-- the byte of the digit 0
abbrev pub zero_byte : ℕ
zero_byte = 48

-- a digit's byte
unfoldable pub digit_byte : ℕ → ℕ
digit_byte d = zero_byte + d

-- `-`, the sign of an open cell (document 02, K13)
abbrev pub open_byte : ℕ
open_byte = 45

-- is `b` the byte of a digit below `m`? (m is at most 10)
unfoldable pub is_digit : ℕ → ℕ → Bool
is_digit m b = leb zero_byte b && ltb b (zero_byte + m)

-- "No decimal value has a needless leading zero." `fuel` is at least the number of digits less one.
unfoldable pub decimal_f : ℕ → ℕ → List ℕ
decimal_f zero n = digit_byte (n % 10) ∷ []
decimal_f (suc fuel) n =
    elim (ltb n 10) [ true ↦ digit_byte n ∷ [] | false ↦ decimal_f fuel (n / 10) ++ (digit_byte (n % 10) ∷ []) ]

-- a number as a decimal value: it has at most n + 1 digits
unfoldable pub decimal : ℕ → List ℕ
decimal n = decimal_f n n

-- the number that some digits write, after digits that wrote `before`
unfoldable pub value_of : ℕ → List ℕ → ℕ
value_of before [] = before
value_of before (b ∷ w) = value_of (before * 10 + (b - zero_byte)) w

-- is `w` the decimal value of a number? Then that number is the one its digits write.
unfoldable pub is_decimal : List ℕ → Bool
is_decimal w = same w (decimal (value_of 0 w))

-- all of this file computes
unfoldable pub computing : Unit {0}
unfolding space newline text digit_byte is_digit decimal_f decimal value_of is_decimal
computing = tt
