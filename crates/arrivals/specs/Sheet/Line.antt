-- One line, field by field.
-- Assumes nothing.
use Rattle.std.specs.Prelude.{◌≤◌, ◌≡◌, ◌&&◌, Result, Ok, Err}
use Rattle.laws.specs.Prelude.{ℕ, refl, subst, and-eq-true_iff, List, leb, drop, leb-true}
use Rattle.rules.specs.Text.{space, newline, newline_byte, value_of, is_decimal}
use Rattle.rules.specs.Limits.{most_time}
use Rattle.rules.specs.Sheets.Fields.{Read, Reader, ◌>>=◌, give, field, run}
use Rattle.rules.specs.Sheets.ArrivalSheet.{Arrival, arrival_of, time_field}
use Rattle.fields.specs.Chained.{chained_back, chained_on, never_both}
use Rattle.fields.specs.Steps.{Step, read_as, step_as, itself}
use Rattle.fields.specs.Taken.{field_on, field_judged_good}
use Rattle.fields.specs.declared.steps.Field.{Field}
use Rattle.answers.specs.declared.refusal.Refusal.{Refusal}
use Rattle.arrivals.specs.declared.sheet.lines.LineRead.{LineRead}
use Rattle.arrivals.specs.declared.sheet.lines.Span.{Span}

unfoldable pub from_to : ℕ → Reader Arrival
from_to from = field (time_field from) newline >>= λ to. give (arrival_of from to)

unfoldable pub from_from : Reader Arrival
from_from = field (time_field 0) space >>= from_to

-- the arrival of an input with these two times
abbrev pub arrival_in : Span → Arrival
arrival_in span = arrival_of span.from span.to

-- the two times are in order and within the bound
abbrev pub SpanHeld : Span → Type 0
SpanHeld span = (span.from ≤ span.to) × (span.to ≤ most_time)

-- a line that was read, in the definitions
abbrev pub line_as : List ℕ → Result LineRead Refusal → Read Arrival
line_as s r = read_as (λ line. arrival_in line.span) (λ line. line.next) s r

-- `reader` reads the rest of a line, with the result r
pub record LineRest (s : List ℕ) (at : ℕ) (reader : Reader Arrival) (r : Result LineRead Refusal) : Type 0 where
  pub reads : line_as s r ≡ reader (drop at s) at
  pub held : (line : LineRead) → r ≡ Ok line → SpanHeld line.span

-- ---- one field, then the rest

module _ {A : Type 0} (f : ℕ → A) (one : Reader A) (rest : A → Reader Arrival) (s : List ℕ) (at : ℕ) (step : Step)
    (reads : step_as f s step ≡ one (drop at s) at) where
  pub line_back : (e : Refusal) → step ≡ Err e → LineRest s at (one >>= rest) (Err e)
  line_back e is =
      record {
        reads = chained_back {R = LineRead} f one rest s at step reads (λ line. arrival_in line.span) (λ line. line.next) (Err e) e is refl;
        held = λ line q. absurd (never_both (Err e) e line refl q);
      }

  pub line_on : (field : Field) (r : Result LineRead Refusal) → step ≡ Ok field → LineRest s field.next (rest (f field.value)) r
      → LineRest s at (one >>= rest) r
  line_on field r is onward =
      record {
        reads = chained_on {R = LineRead} f one rest s at step reads (λ line. arrival_in line.span) (λ line. line.next) r field is onward.reads;
        held = onward.held;
      }

-- a time that was read is within its bounds
pub time_on : (s : List ℕ) (step : Step) (at : ℕ) (time : Field) → step ≡ Ok time → (least due : ℕ)
    → step_as itself s step ≡ field (time_field least) due (drop at s) at → (time.value ≤ most_time) × (least ≤ time.value)
unfolding time_field
time_on s step at time on least due e =
    let w = run (drop at s) in
    let told = field_on s step at time on itself (time_field least) due e in
    let (test, is) = field_judged_good (is_decimal w && leb (value_of 0 w) most_time && leb least (value_of 0 w)) (value_of 0 w) time.value 19 told.judged in
    let (front, high) = (and-eq-true_iff (is_decimal w && leb (value_of 0 w) most_time) (leb least (value_of 0 w))).0 test in
    let (_, most) = (and-eq-true_iff (is_decimal w) (leb (value_of 0 w) most_time)).0 front in
    (rw is at (leb-true (value_of 0 w) most_time most), rw is at (leb-true least (value_of 0 w) high))

-- the second time ends the line
pub to_on : (s : List ℕ) (step : Step) (at from : ℕ) → step_as itself s step ≡ field (time_field from) newline_byte (drop at s) at
    → (time : Field) → step ≡ Ok time
    → LineRest s at (from_to from) (Ok (record { span = record { from = from; to = time.value }; next = time.next }))
unfolding from_to newline
to_on s step at from reads time e =
    let bounds = time_on s step at time e from newline_byte reads in
    record {
      reads = chained_on {R = LineRead} itself (field (time_field from) newline_byte) (λ to. give (arrival_of from to)) s at step reads
          (λ line. arrival_in line.span) (λ line. line.next)
          (Ok (record { span = record { from = from; to = time.value }; next = time.next })) time e refl;
      held = λ line q. subst (λ (own : LineRead). SpanHeld own.span) (the_line line q) (bounds.1, bounds.0);
    }
  where
    the_line : (line : LineRead)
        → ◌≡◌ {A = Result LineRead Refusal} (Ok (record { span = record { from = from; to = time.value }; next = time.next })) (Ok line)
        → record { span = record { from = from; to = time.value }; next = time.next } ≡ line
    the_line line q = cc
