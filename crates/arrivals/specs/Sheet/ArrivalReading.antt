-- The result of reading an arrival sheet.
-- Assumes nothing.
use Rattle.std.specs.Prelude.{◌<◌, ◌≤◌, ◌≡◌, Result, Ok, Err}
use Rattle.laws.specs.Prelude.{ℕ, ◌∙◌, ap, subst, refl, List, [], length, drop, drop_of_length-le, drop-cons}
use Rattle.rules.specs.Text.{space, newline, text}
use Rattle.rules.specs.Sheets.Fields.{Reader, then, ◌>>=◌, give, the_word, closed}
use Rattle.rules.specs.Sheets.Reading.{answered}
use Rattle.rules.specs.Sheets.ArrivalSheet.{Arrival, arrival_lines, arrival_sheet, read_arrivals}
use Rattle.fields.specs.Chained.{Answers, answers_back, answers_on, never_both}
use Rattle.fields.specs.Steps.{Step, step_as, nothing, spelled}
use Rattle.fields.specs.Words.{three_words, three_words_then}
use Rattle.fields.specs.declared.steps.Field.{Field}
use Rattle.answers.specs.AnswerMaps.{answer_as}
use Rattle.answers.specs.declared.refusal.Kind.TheVariants as kinds
use Rattle.answers.specs.declared.refusal.Refusal.{Refusal}
use Rattle.arrivals.specs.declared.sheet.lines.Span.{Span}
use Rattle.arrivals.specs.declared.sheet.lines.TimesRead.{TimesRead}
use Rattle.arrivals.specs.Sheet.Lines.{arrivals_in, TimesHeld, LinesRead}

-- reading a whole arrival sheet for inputs with these names
pub record ArrivalsReads (names : List (List ℕ)) (s : List ℕ) (r : Result (List Span) Refusal) : Type 0 where
  pub answer : answer_as (λ times. arrivals_in times (length names)) r ≡ read_arrivals names s
  pub held : (times : List Span) → r ≡ Ok times → TimesHeld times (length names)

-- `reader` reads the rest of an arrival sheet
abbrev pub ArrivalsRest : List (List ℕ) → List ℕ → ℕ → Reader (List Arrival) → Result (List Span) Refusal → Type 0
ArrivalsRest names s at reader r = Answers s at reader (λ times. arrivals_in times (length names)) (λ times. TimesHeld times (length names)) r

-- line 1
abbrev pub heading_line : Reader (Unit {0})
heading_line = three_words (text "name") (text "from") (text "to")

-- the lines, and the end after them
unfoldable pub from_lines : List (List ℕ) → Reader (List Arrival)
from_lines names = arrival_lines names [] >>= λ arrivals. closed >>= λ _. give arrivals

-- ---- from the lines on

module _ (names : List (List ℕ)) (s : List ℕ) (at : ℕ) (r : Result TimesRead Refusal) (lines : LinesRead names s at r) where
  pub lines_back : (e : Refusal) → r ≡ Err e → ArrivalsRest names s at (from_lines names) (Err e)
  unfolding from_lines then answered
  lines_back e is = record { answer = rw (← lines.reads, is) refl; held = λ times q. absurd (never_both (Err e) e times refl q) }

  module _ (read : TimesRead) (is : r ≡ Ok read) where
    -- nothing may follow the last line
    pub lines_over : read.next < length s → ArrivalsRest names s at (from_lines names) (Err (record { kind = kinds.Layout; place = read.next }))
    unfolding from_lines then closed answered
    lines_over more =
        record {
          answer = rw (← lines.reads, is, drop-cons s read.next 0) refl;
          held = λ times q. absurd (never_both (Err _) _ times refl q);
        }

    pub lines_closed : length s ≤ read.next → ArrivalsRest names s at (from_lines names) (Ok read.times)
    unfolding from_lines then closed answered
    lines_closed end =
        record {
          answer = rw (← lines.reads, is, drop_of_length-le s end) refl;
          held = λ times q. subst (λ (ts : List Span). TimesHeld ts (length names)) (the_times times q) (lines.held read is);
        }
      where
        the_times : (times : List Span) → ◌≡◌ {A = Result (List Span) Refusal} (Ok read.times) (Ok times) → read.times ≡ times
        the_times times q = cc

-- ---- the whole sheet

-- the sheet is line 1, and the rest
sheet_split : (names : List (List ℕ)) (s : List ℕ) → (heading_line >>= λ _. from_lines names) s 0 ≡ arrival_sheet names s 0
unfolding arrival_sheet from_lines spelled the_word space newline
sheet_split names s = three_words_then (text "name") (text "from") (text "to") (from_lines names) s 0

whole : (names : List (List ℕ)) (s : List ℕ) (r : Result (List Span) Refusal) → ArrivalsRest names s 0 (heading_line >>= λ _. from_lines names) r
    → ArrivalsReads names s r
unfolding read_arrivals
whole names s r rest = record { answer = rest.answer ∙ ap answered (sheet_split names s); held = rest.held }

module _ (names : List (List ℕ)) (s : List ℕ) (step : Step) (reads : step_as nothing s step ≡ heading_line (drop 0 s) 0) where
  pub arrival_heading_back : (e : Refusal) → step ≡ Err e → ArrivalsReads names s (Err e)
  arrival_heading_back e is = whole names s (Err e) (answers_back nothing heading_line (λ _. from_lines names) s 0 step reads _ _ e is)

  pub arrival_heading_on : (field : Field) (r : Result (List Span) Refusal) → step ≡ Ok field → ArrivalsRest names s field.next (from_lines names) r
      → ArrivalsReads names s r
  arrival_heading_on field r is onward =
      whole names s r (answers_on nothing heading_line (λ _. from_lines names) s 0 step reads _ _ field r is onward)
