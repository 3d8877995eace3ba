-- The lines, one after the other.
-- Assumes nothing.
use Rattle.std.specs.Prelude.{◌<◌, ◌≤◌, ◌+◌, ◌≡◌, ◌∷◌, ◌++◌, Result, Ok, Err, All}
use Rattle.std.proofs.lemmas.List.{take_more_set, map_push}
use Rattle.std.proofs.lemmas.List.Elements.{All-nil, All-same, All-push}
use Rattle.laws.specs.Prelude.{ℕ, ◌∙◌, sym, ap, subst, refl, List, [], map, zero-add, add-one, arith, length, get_or, take, drop, set, length-set}
use Rattle.laws.specs.Prelude.{replicate, drop_of_length-le, drop-cons}
use Rattle.rules.specs.Limits.{most_inputs}
use Rattle.rules.specs.Sheets.Fields.{Read, then}
use Rattle.rules.specs.Sheets.ArrivalSheet.{Arrival, arrival_line, arrival_lines}
use Rattle.laws.specs.Lists.Ranges.{map_range_at}
use Rattle.nets.specs.Forms.{name_in, header_of, names_in}
use Rattle.nets.specs.declared.forms.Header.{Header}
use Rattle.fields.specs.Chained.{never_both}
use Rattle.fields.specs.Steps.{read_as}
use Rattle.answers.specs.declared.refusal.Refusal.{Refusal}
use Rattle.arrivals.specs.declared.sheet.lines.LineRead.{LineRead}
use Rattle.arrivals.specs.declared.sheet.lines.Span.{Span}
use Rattle.arrivals.specs.declared.sheet.lines.TimesRead.{TimesRead}
use Rattle.arrivals.specs.Sheet.Line.{LineRest, arrival_in, SpanHeld, line_as}

-- the arrivals of the first `count` inputs
unfoldable pub arrivals_in : List Span → ℕ → List Arrival
arrivals_in times count = map arrival_in (take count times)

-- the properties of the times that were read
pub record TimesHeld (times : List Span) (count : ℕ) : Type 0 where
  pub many : length times ≡ most_inputs
  pub order : All SpanHeld (take count times)

-- the lines of so many inputs, in the definitions
abbrev pub lines_as : ℕ → List ℕ → Result TimesRead Refusal → Read (List Arrival)
lines_as count s r = read_as (λ read. arrivals_in read.times count) (λ read. read.next) s r

-- reading the lines of inputs with these names from `at` on
pub record LinesRead (names : List (List ℕ)) (s : List ℕ) (at : ℕ) (r : Result TimesRead Refusal) : Type 0 where
  pub reads : lines_as (length names) s r ≡ arrival_lines names [] (drop at s) at
  pub held : (read : TimesRead) → r ≡ Ok read → TimesHeld read.times (length names)

-- the name of input i
pub name_at : (s : List ℕ) (h : Header) (i : ℕ) → i < h.inputs → get_or (names_in s h) i [] ≡ name_in s h i
unfolding header_of
name_at s h i below = map_range_at (name_in s h) 0 h.inputs i [] below ∙ ap (name_in s h) (zero-add i)

-- ---- one more line

lines_more : (names : List (List ℕ)) (i : ℕ) (earlier : List Arrival) (t : List ℕ) (p : ℕ) → i < length names
    → arrival_lines (drop i names) earlier t p ≡ then (arrival_line (get_or names i []) t p) (λ a. arrival_lines (drop (i + 1) names) (earlier ++ (a ∷ [])))
unfolding arrival_lines
lines_more names i earlier t p h = rw (add-one, drop-cons names i [] h, arrival_lines) refl

arrivals_more : (times : List Span) (i : ℕ) (span : Span) → i < length times
    → arrivals_in (set times i span) (i + 1) ≡ arrivals_in times i ++ (arrival_in span ∷ [])
unfolding arrivals_in
arrivals_more times i span h = ap (map arrival_in) (take_more_set times i span h) ∙ map_push arrival_in (take i times) span

-- the loop's state: i lines are read, and the lines from here are the lines from the start
pub record ArrivalReading (names : List (List ℕ)) (s : List ℕ) (at : ℕ) (times : List Span) (place i : ℕ) : Type 0 where
  pub held : TimesHeld times i
  pub reads : arrival_lines names [] (drop at s) at ≡ arrival_lines (drop i names) (arrivals_in times i) (drop place s) place

pub lines_start : (names : List (List ℕ)) (s : List ℕ) (at : ℕ)
    → ArrivalReading names s at (replicate most_inputs (record { from = 0; to = 0 })) at 0
unfolding arrivals_in
lines_start names s at = record { held = record { many = refl; order = All-nil SpanHeld }; reads = refl }

module _ (names : List (List ℕ)) (s : List ℕ) (at : ℕ) (times : List Span) (place i : ℕ) (reading : ArrivalReading names s at times place i) where
  pub lines_done : length names ≡ i → LinesRead names s at (Ok (record { times = times; next = place }))
  unfolding arrival_lines
  lines_done all =
      let done : length names ≤ i = omega arith in
      record {
        reads = rw (reading.reads, drop_of_length-le names done, all) refl;
        held = λ read q. subst (λ (ts : List Span). TimesHeld ts (length names)) (the_times read q) (rw all reading.held);
      }
    where
      the_times : (read : TimesRead) → ◌≡◌ {A = Result TimesRead Refusal} (Ok (record { times = times; next = place })) (Ok read) → times ≡ read.times
      the_times read q = cc

  module _ (more : i < length names) (name : List ℕ) (is : name ≡ get_or names i []) (r : Result LineRead Refusal)
      (reads : LineRest s place (arrival_line name) r) where
    onward : arrival_lines names [] (drop at s) at
        ≡ then (line_as s r) (λ a. arrival_lines (drop (i + 1) names) (arrivals_in times i ++ (a ∷ [])))
    onward =
        reading.reads
        ∙ lines_more names i (arrivals_in times i) (drop place s) place more
        ∙ ap (λ x. then x (λ a. arrival_lines (drop (i + 1) names) (arrivals_in times i ++ (a ∷ []))))
        (ap (λ w. arrival_line w (drop place s) place) (sym is) ∙ sym reads.reads)

    pub arrival_lines_back : (e : Refusal) → r ≡ Err e → LinesRead names s at (Err e)
    unfolding then
    arrival_lines_back e q = record { reads = rw (onward, q) refl; held = λ read p. absurd (never_both (Err e) e read refl p) }

    pub arrival_lines_next : (line : LineRead) → i < most_inputs → r ≡ Ok line
        → ArrivalReading names s at (set times i line.span) line.next (i + 1)
    unfolding then
    arrival_lines_next line room e =
        let held = reading.held in
        let fits : i < length times = omega (arith, held.many) in
        record {
          held =
              record {
                many = length-set times i line.span ∙ held.many;
                order =
                    All-same SpanHeld _ _ (take_more_set times i line.span fits) (All-push SpanHeld (take i times) line.span held.order (reads.held line e));
              };
          reads = rw (onward, e, arrivals_more times i line.span fits) refl;
        }
