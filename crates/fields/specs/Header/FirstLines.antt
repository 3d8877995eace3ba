-- The first three lines, field by field.
-- Assumes nothing.
use Rattle.std.specs.Prelude.{◌≤◌, ◌≡◌, Result, Ok, Err}
use Rattle.laws.specs.Prelude.{ℕ, ◌∙◌, refl, true, List, [], drop, le-leb}
use Rattle.rules.specs.Text.{space, newline, text}
use Rattle.rules.specs.Limits.{levels_fit, inputs_fit, cells_fit_of, size_fits, fewest_inputs, most_inputs}
use Rattle.rules.specs.Sheets.Fields.{Reader, ◌>>=◌, give, field_in, the_word, Layout}
use Rattle.rules.specs.Sheets.Sheets as sheets
use Rattle.rules.specs.Sheets.Sheets.{levels_field, inputs_field, name_fields_in, header_lines_in}
use Rattle.nets.specs.Forms.{header_of, NamesHeld}
use Rattle.nets.specs.declared.forms.Header.{Header}
use Rattle.fields.specs.Chained.{chained_back, chained_on, field_then_then, never_both}
use Rattle.answers.specs.declared.refusal.Refusal.{Refusal}
use Rattle.fields.specs.Steps.{Step, read_as, step_as, spelled}
use Rattle.fields.specs.declared.steps.Field.{Field}
use Rattle.fields.specs.Words.{two_words_in}
use Rattle.fields.specs.Header.NameLine.{NamesShort, NamesRead, header_as}
use Rattle.fields.specs.declared.header.name_line.HeaderRead.{HeaderRead}

-- the properties of a header that was read
pub record HeaderHeld (s : List ℕ) (h : Header) : Type 0 where
  pub fits : size_fits h.levels h.inputs ≡ true
  pub names : NamesHeld s h h.inputs
  pub short : NamesShort h h.inputs

-- `reader` reads the rest of the first three lines, with the result r
pub record HeaderRest (s : List ℕ) (at : ℕ) (reader : Reader sheets.Header) (r : Result HeaderRead Refusal) : Type 0 where
  pub reads : header_as s r ≡ reader (drop at s) at
  pub held : (read : HeaderRead) → r ≡ Ok read → HeaderHeld s read.header

abbrev pub from_names : Layout → ℕ → ℕ → ℕ → Reader sheets.Header
from_names layout last m n = name_fields_in layout last n [] >>= λ names. give (record { levels = m; inputs = n; names = names })

unfoldable pub from_inputs : Layout → ℕ → ℕ → Reader sheets.Header
from_inputs layout last m = field_in layout (inputs_field m) newline >>= from_names layout last m

unfoldable pub from_levels : Layout → ℕ → Reader sheets.Header
from_levels layout last = field_in layout levels_field space >>= from_inputs layout last

-- ---- one field, then the rest

module _ {A : Type 0} (f : ℕ → A) (one : Reader A) (rest : A → Reader sheets.Header) (s : List ℕ) (at : ℕ) (step : Step)
    (reads : step_as f s step ≡ one (drop at s) at) where
  pub rest_back : (e : Refusal) → step ≡ Err e → HeaderRest s at (one >>= rest) (Err e)
  rest_back e is =
      record {
        reads = chained_back {R = HeaderRead} f one rest s at step reads (λ r. header_of s r.header) (λ r. r.next) (Err e) e is refl;
        held = λ read q. absurd (never_both (Err e) e read refl q);
      }

  pub rest_on : (field : Field) (r : Result HeaderRead Refusal) → step ≡ Ok field → HeaderRest s field.next (rest (f field.value)) r
      → HeaderRest s at (one >>= rest) r
  rest_on field r is onward =
      record {
        reads = chained_on {R = HeaderRead} f one rest s at step reads (λ r. header_of s r.header) (λ r. r.next) r field is onward.reads;
        held = onward.held;
      }

pub from_names_lem : (layout : Layout) (s : List ℕ) (at m n last : ℕ) (r : Result HeaderRead Refusal) → NamesRead layout s at m n last r
    → levels_fit m ≡ true → fewest_inputs ≤ n → n ≤ most_inputs → cells_fit_of m n ≡ true → HeaderRest s at (from_names layout last m n) r
unfolding size_fits inputs_fit
from_names_lem layout s at m n last r names ml n2 n11 cells =
    record {
      reads = names.reads;
      held = λ read e.
          let told = names.told read e in
          record {
            fits = rw (told.levels, told.inputs, ml, le-leb fewest_inputs n n2, le-leb n most_inputs n11, cells) refl;
            names = rw told.inputs told.held;
            short = rw told.inputs told.short;
          };
    }

-- line 1, then the rest
pub from_first : (layout : Layout) (s : List ℕ) (last : ℕ) (r : Result HeaderRead Refusal)
    → HeaderRest s 0 (two_words_in layout (text "levels") (text "inputs") >>= λ _. from_levels layout last) r → HeaderRest s 0 (header_lines_in layout last) r
unfolding header_lines_in from_levels from_inputs two_words_in spelled the_word space newline
from_first layout s last r rest = record { reads = rest.reads ∙ field_then_then (field_in layout (the_word "levels") space s 0) _ _; held = rest.held }
