-- The place of the next line feed, and the line after a line.
-- Assumes nothing.
use Rattle.std.specs.Prelude.{◌<◌, ◌≤◌, ◌+◌, ◌≡◌, ◌∷◌}
use Rattle.laws.specs.Prelude.{ℕ, suc, zero, ◌∙◌, ap, true, false, List, [], add-one, arith, eqb, length, get_or, drop, length-drop}
use Rattle.laws.specs.Prelude.{drop_of_length-le, drop-cons, eq-eqb, ne_eqb}
use Rattle.rules.specs.Text.{newline}
use Rattle.rules.specs.Calls.Lister.{line_length, after_lines}
use Rattle.lister.specs.Places.{line_start, line_after_of, Onward}
use Rattle.lister.specs.Standing.{start_next, stands_next}

-- ---- a line's end

-- a line is within the sheet
line_short : (s : List ℕ) → line_length s ≤ length s
unfolding line_length
line_short [] = omega arith
line_short (b ∷ s) =
    let h = line_short s in
    elim (eqb b newline) as (λ t. elim t [ true ↦ zero | false ↦ suc (line_length s) ] ≤ suc (length s)) [ true ↦ omega arith | false ↦ omega arith ]

pub line_within : (s : List ℕ) (at : ℕ) → at ≤ length s → at + line_length (drop at s) ≤ length s
line_within s at h = omega (arith, line_short (drop at s), length-drop at s)

module _ (s : List ℕ) (i : ℕ) where
  -- at the sheet's end no byte is left
  pub end_here : length s ≤ i → i ≡ i + line_length (drop i s)
  unfolding line_length
  end_here h = rw (drop_of_length-le s h) (omega arith)

  -- at a line feed the line ends
  pub feed_here : i < length s → get_or s i 0 ≡ 10 → i ≡ i + line_length (drop i s)
  unfolding line_length newline
  feed_here h e = rw (drop-cons s i 0 h, eq-eqb (get_or s i 0) 10 e, line_length) (omega arith)

  -- at any other byte the line continues
  pub byte_here : i < length s → (get_or s i 0 ≡ 10 → ⊥) → i + 1 + line_length (drop (i + 1) s) ≡ i + line_length (drop i s)
  unfolding line_length newline
  byte_here h e = rw (drop-cons s i 0 h, ne_eqb (get_or s i 0) 10 e, line_length, add-one i) (omega arith)

-- ---- one more turn

pub onward : (s : List ℕ) (at next : ℕ) → next ≡ line_after_of s at → Onward s at next
onward s at next e = record { here = e; turn = λ k d. e ∙ ap (line_after_of s) d ∙ stands_next s k }

-- the gate lines begin four lines after the front
pub fourth : (s : List ℕ) (a b c d : ℕ) → Onward s 0 a → Onward s a b → Onward s b c → Onward s c d → d ≡ line_start s 4
unfolding line_start after_lines
fourth s a b c d h i j k =
    k.here ∙ ap (line_after_of s)
    (j.here ∙ ap (line_after_of s) (i.here ∙ ap (line_after_of s) (h.here ∙ ap (line_after_of s) (omega arith) ∙ start_next s 0) ∙ start_next s 1) ∙ start_next s 2)
    ∙ start_next s 3
