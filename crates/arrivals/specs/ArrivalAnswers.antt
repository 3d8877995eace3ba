-- The meaning of the call's answer in the definitions: its number and values in each case. And the answer as a function of what was read.
-- Assumes nothing.
use Rattle.std.specs.Prelude.{◌≡◌, Result, Ok, Err}
use Rattle.laws.specs.Prelude.{ℕ, ◌∙◌, sym, ap, subst, List, map, length}
use Rattle.rules.specs.Calls.Answers.{accepted}
use Rattle.rules.specs.Sheets.ArrivalSheet.{Arrival, earliest_of, latest_of, read_arrivals}
use Rattle.rules.specs.Nets.Arrivals as rules
use Rattle.rules.specs.Nets.Arrivals.{quarter, settling_time, earliest_settling, latest_settling, ends_of, arrivals_call}
use Rattle.laws.specs.Calls.Arrivals.{arrivals_refused_lem, arrivals_timed}
use Rattle.nets.specs.declared.forms.Header.{Header}
use Rattle.nets.specs.declared.forms.Net.{Net}
use Rattle.nets.specs.Forms.{gates_of, header_of, names_in, net_in, names_count}
use Rattle.accepted.specs.Taken.{NetTaken}
use Rattle.answers.specs.AnswerMaps.{answer_as}
use Rattle.answers.specs.Kinds.{number_of}
use Rattle.answers.specs.declared.refusal.Refusal.{Refusal}
use Rattle.arrivals.specs.Sheet.ArrivalReading.{ArrivalsReads}
use Rattle.arrivals.specs.Sheet.Lines.{TimesHeld, arrivals_in}
use Rattle.arrivals.specs.declared.sheet.lines.Span.{Span}
use Rattle.arrivals.specs.declared.arrival.Ends.{Ends}
use Rattle.arrivals.specs.declared.call.ArrivalsRefusal.{ArrivalsRefusal}
use Rattle.arrivals.specs.declared.call.ArrivalsRefusal.TheVariants as refusals
use Rattle.arrivals.specs.Wires.{settled}

abbrev pub ends_as : Ends → rules.Ends
ends_as ends = record { earliest = ends.earliest; latest = ends.latest }

abbrev pub turned_as : ArrivalsRefusal → rules.Timing
turned_as (refusals.Net e) = rules.net_refused (number_of e.kind) e.place
turned_as (refusals.Arrivals e) = rules.arrivals_refused (number_of e.kind) e.place

abbrev pub timing_as : Result Ends ArrivalsRefusal → rules.Timing
timing_as (Ok ends) = rules.settles (ends_as ends)
timing_as (Err e) = turned_as e

-- ---- an arrival sheet for an accepted net sheet

module _ (s : List ℕ) (h : Header) (net : Net) (taken : NetTaken s h net) (t : List ℕ) (r : Result (List Span) Refusal)
    (read : ArrivalsReads (names_in s h) t r) where
  own_inputs : length (names_in s h) ≡ net.inputs
  own_inputs = names_count s h ∙ sym taken.inputs

  pub sheet_refused : (delay : ℕ) (e : Refusal) → r ≡ Err e → turned_as (refusals.Arrivals e) ≡ arrivals_call s t delay
  sheet_refused delay e is =
      sym (arrivals_refused_lem s t delay (net_in s h net) taken.reads (number_of e.kind) e.place (sym read.answer ∙ ap (answer_as _) is))

  module _ (times : List Span) (e : r ≡ Ok times) where
    pub sheet_held : TimesHeld times net.inputs
    sheet_held = subst (TimesHeld times) own_inputs (read.held times e)

    sheet_reads : read_arrivals (names_in s h) t ≡ accepted (arrivals_in times net.inputs)
    sheet_reads = sym read.answer ∙ ap (answer_as _) e ∙ ap (λ (count : ℕ). accepted (arrivals_in times count)) own_inputs

    -- the net by value settles as the sheet's does
    as_sheet : (arrivals : List Arrival) (delay : ℕ) → ends_as (settled net arrivals delay) ≡ ends_of (net_in s h net) arrivals delay
    unfolding ends_of earliest_settling latest_settling header_of
    as_sheet arrivals delay =
        λ i. record {
          earliest = quarter (settling_time (taken.inputs i) (gates_of net) delay (map earliest_of arrivals));
          latest = quarter (settling_time (taken.inputs i) (gates_of net) delay (map latest_of arrivals));
        }

    pub sheet_settles : (delay : ℕ) (ends : Ends) → ends ≡ settled net (arrivals_in times net.inputs) delay
        → rules.settles (ends_as ends) ≡ arrivals_call s t delay
    sheet_settles delay ends is =
        ap (λ (some : Ends). rules.settles (ends_as some)) is
        ∙ ap rules.settles (as_sheet (arrivals_in times net.inputs) delay)
        ∙ sym (arrivals_timed s t delay (net_in s h net) taken.reads (arrivals_in times net.inputs) sheet_reads)
