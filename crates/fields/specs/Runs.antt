-- A field's end, and the end of some spaces, byte by byte.
-- Assumes nothing.
use Rattle.std.specs.Prelude.{◌<◌, ◌≤◌, ◌+◌, ◌-◌, ◌≡◌}
use Rattle.laws.specs.Prelude.{ℕ, ◌∙◌, sym, refl, true, false, List, [], add-zero, add-sub_cancel_left, add-one, arith, length}
use Rattle.laws.specs.Prelude.{get_or, take, drop, length-drop, drop_of_length-le, drop-cons, drop-drop, eq-eqb, ne_eqb}
use Rattle.rules.specs.Text.{space, newline, space_byte, newline_byte}
use Rattle.rules.specs.Sheets.Fields.{is_separator, run, past_spaces, spaces_in}
use Rattle.laws.specs.Lists.Runs.{field_end, run_front, run_most, at_space, at_other, spaces_rest}

pub is_space : (b : ℕ) → b ≡ space_byte → is_separator b ≡ true
unfolding is_separator space newline
is_space b e = simp (eq-eqb b space_byte e)

pub is_newline : (b : ℕ) → b ≡ newline_byte → is_separator b ≡ true
unfolding is_separator space newline
is_newline b e = rw e refl

pub is_neither : (b : ℕ) → (b ≡ space_byte → ⊥) → (b ≡ newline_byte → ⊥) → is_separator b ≡ false
unfolding is_separator space newline
is_neither b h k = simp (ne_eqb b space_byte h, ne_eqb b newline_byte k)

module _ (s : List ℕ) (at : ℕ) where
  pub ends_within : at ≤ length s → field_end s at ≤ length s
  unfolding field_end
  ends_within h = omega (arith, run_most (drop at s), length-drop at s)

  pub ends_here : length s ≤ at → field_end s at ≡ at
  unfolding field_end run
  ends_here h = rw (drop_of_length-le s h) (add-zero at)

  pub ends_at : at < length s → is_separator (get_or s at 0) ≡ true → field_end s at ≡ at
  unfolding field_end run
  ends_at h e = rw (drop-cons s at 0, e, run) (add-zero at)

  pub ends_later : at < length s → is_separator (get_or s at 0) ≡ false → field_end s (at + 1) ≡ field_end s at
  unfolding field_end run
  ends_later h e = rw (drop-cons s at 0, e, run, add-one) (omega arith)

  -- the bytes up to there are the field
  pub field_part : take (field_end s at - at) (drop at s) ≡ run (drop at s)
  unfolding field_end
  field_part = rw add-sub_cancel_left (run_front (drop at s))

  pub field_none : length s ≤ at → [] ≡ run (drop at s)
  unfolding run
  field_none h = rw (drop_of_length-le s h)

-- ---- spaces

-- where the spaces at `at` end
unfoldable pub spaces_end : List ℕ → ℕ → ℕ
spaces_end s at = at + spaces_in (drop at s)

module _ (s : List ℕ) (at : ℕ) where
  pub spaces_none : length s ≤ at → spaces_end s at ≡ at
  unfolding spaces_end spaces_in
  spaces_none h = rw (drop_of_length-le s h) (add-zero at)

  pub spaces_here : at < length s → (get_or s at 0 ≡ space_byte → ⊥) → spaces_end s at ≡ at
  unfolding spaces_end space
  spaces_here h e = rw (drop-cons s at 0, (at_other _ _ (ne_eqb _ _ e)).0) (add-zero at)

  pub spaces_later : at < length s → get_or s at 0 ≡ space_byte → spaces_end s (at + 1) ≡ spaces_end s at
  unfolding spaces_end space
  spaces_later h e = rw (drop-cons s at 0, (at_space _ _ (eq-eqb _ _ e)).0, add-one) (omega arith)

  -- the bytes after them
  pub spaces_past : drop (spaces_end s at) s ≡ past_spaces (drop at s)
  unfolding spaces_end
  spaces_past = sym (drop-drop (spaces_in (drop at s)) at s) ∙ spaces_rest (drop at s)
