-- Two or three fixed words, to the end of their line.
-- Assumes nothing.
use Rattle.std.specs.Prelude.{◌≡◌, Ok, Err}
use Rattle.laws.specs.Prelude.{ℕ, ◌∙◌, ap, refl, List, drop}
use Rattle.rules.specs.Sheets.Fields.{Reader, ◌>>=◌, then, field, field_in, Layout, strict}
use Rattle.rules.specs.Text.{space_byte, newline_byte}
use Rattle.fields.specs.Chained.{chained_back, chained_on, field_then_then}
use Rattle.answers.specs.declared.refusal.Refusal.{Refusal}
use Rattle.fields.specs.Steps.{Step, step_as, nothing, spelled}
use Rattle.fields.specs.declared.steps.Field.{Field}

unfoldable pub two_words_in : Layout → List ℕ → List ℕ → Reader (Unit {0})
two_words_in layout a b = field_in layout (spelled a) space_byte >>= λ _. field_in layout (spelled b) newline_byte

unfoldable pub three_words : List ℕ → List ℕ → List ℕ → Reader (Unit {0})
three_words a b c = field (spelled a) space_byte >>= λ _. two_words_in strict b c

-- a word, then the rest of the line
module _ (layout : Layout) (s : List ℕ) (at : ℕ) (a : List ℕ) (rest : Reader (Unit {0})) (first : Step)
    (reads : step_as nothing s first ≡ field_in layout (spelled a) space_byte (drop at s) at) where
  pub word_back : (e : Refusal) → first ≡ Err e → step_as nothing s (Err e) ≡ (field_in layout (spelled a) space_byte >>= λ _. rest) (drop at s) at
  word_back e is = chained_back {R = Field} nothing (field_in layout (spelled a) space_byte) _ s at first reads (λ r. nothing r.value) (λ r. r.next) (Err e) e is refl

  pub word_on : (field : Field) (r : Step) → first ≡ Ok field → step_as nothing s r ≡ rest (drop field.next s) field.next
      → step_as nothing s r ≡ (field_in layout (spelled a) space_byte >>= λ _. rest) (drop at s) at
  word_on field r is onward =
      chained_on {R = Field} nothing (field_in layout (spelled a) space_byte) (λ _. rest) s at first reads (λ r. nothing r.value) (λ r. r.next) r field is onward

-- three words and the lines after them, field by field
pub three_words_then : {A : Type 0} (a b c : List ℕ) (rest : Reader A) (s : List ℕ) (at : ℕ)
    → (three_words a b c >>= λ _. rest) s at
    ≡ (field (spelled a) space_byte >>= λ _. field (spelled b) space_byte >>= λ _. field (spelled c) newline_byte >>= λ _. rest) s at
unfolding three_words two_words_in
three_words_then a b c rest s at =
    field_then_then (field (spelled a) space_byte s at) _ _
    ∙ ap (then (field (spelled a) space_byte s at))
    (λ i _ u p. field_then_then (field (spelled b) space_byte u p) (λ _. field (spelled c) newline_byte) (λ _. rest) i)
