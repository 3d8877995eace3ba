-- A digit with its separator right after it, as a field of a loose sheet.
-- Assumes nothing.
use Rattle.std.specs.Prelude.{◌<◌, ◌+◌, ◌≡◌, ◌∷◌, Ok}
use Rattle.laws.specs.Prelude.{ℕ, ◌∙◌, sym, ap, refl, true, List, [], arith, drop}
use Rattle.rules.specs.Text.{zero_byte, space_byte, newline_byte}
use Rattle.rules.specs.Sheets.Fields.{read, Judge, good, is_separator, separator, loose_separator, after_field_in, field_of_in, field_in, loose}
use Rattle.rules.specs.Sheets.Sheets.{ink_field}
use Rattle.rules.specs.Sheets.LooseSheet.{any_level}
use Rattle.fields.specs.Judging.{separator_due, loose_space, loose_line_end}
use Rattle.fields.specs.Runs.{is_space, is_newline, spaces_end, spaces_here}
use Rattle.fields.specs.declared.steps.Field.{Field}
use Rattle.table_reader.specs.Fast.Plain.{Plain, plain_run}
use Rattle.table_reader.specs.Inks.{ink_digit}
use Rattle.loose_sheets.specs.Reader.Levels.{level_digit}

module _ (s : List ℕ) (at d due : ℕ) (plain : Plain s at d due) where
  -- the separator, two bytes on
  two_on : separator d due (drop (at + 1) s) (at + 1) ≡ read d (drop (at + 2) s) (at + 2)
  two_on =
      let two : at + 1 + 1 ≡ at + 2 = omega arith in
      sym (separator_due s (at + 1) d due plain.within plain.after) ∙ ap (λ k. read d (drop k s) k) two

  -- the field is the digit
  field_is : {A : Type 0} (judge : Judge A) (a : A) → is_separator due ≡ true → judge ((zero_byte + d) ∷ []) ≡ good a
      → field_in loose judge due (drop at s) at ≡ loose_separator a due (drop (at + 1) s) (at + 1)
  unfolding field_in field_of_in after_field_in
  field_is judge a ends is = let (one, rest) = plain_run s at d due ends plain in rw (one, rest, is) refl

module _ (s : List ℕ) (at m d : ℕ) (below : d < m) where
  abbrev two : Field
  two = record { value = d; next = at + 2 }

  pub plain_level : Plain s at d space_byte
      → read d (drop (spaces_end s (at + 2)) s) (spaces_end s (at + 2)) ≡ field_in loose (any_level m) space_byte (drop at s) at
  plain_level plain =
      loose_space s (at + 1) d space_byte (Ok two) refl (sym (two_on s at d space_byte plain)) two refl
      ∙ sym (field_is s at d space_byte plain (any_level m) d (is_space space_byte refl) (level_digit m d below))

  pub plain_ink : Plain s at d newline_byte → read d (drop (at + 2) s) (at + 2) ≡ field_in loose (ink_field m) newline_byte (drop at s) at
  plain_ink plain =
      loose_line_end s (at + 1) d newline_byte (Ok two) (λ e. omega (arith, e)) (rw here (sym (two_on s at d newline_byte plain)))
      ∙ sym (field_is s at d newline_byte plain (ink_field m) d (is_newline newline_byte refl) (ink_digit m d below))
    where
      here : spaces_end s (at + 1) ≡ at + 1
      here = spaces_here s (at + 1) plain.within (λ e. omega (arith, e, plain.after))
