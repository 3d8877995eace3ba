-- Checking two sheets: a refusal, the cells buffer, then the inks.
-- Assumes nothing.
use Rattle.std.specs.Prelude.{◌<◌, ◌≤◌, ◌-◌, ◌^◌, ◌≡◌, Result, Ok, Err}
use Rattle.laws.specs.Prelude.{ℕ, ◌∙◌, sym, ap, refl, ap₂, subst⁻¹, true, List, arith, length, take}
use Rattle.rules.specs.Calls.Answers as answers
use Rattle.rules.specs.Calls.Answers.{neither}
use Rattle.rules.specs.Calls.Checking.{Checked, turned_down, same_header, checked_into, check_call}
use Rattle.laws.specs.Calls.Checking.{same_header_lem, check_net_refused, check_table_refused, check_accepted, check_12, check_13, check_compared}
use Rattle.answers.specs.AnswerMaps.{named_of}
use Rattle.answers.specs.Kinds.{number_of}
use Rattle.answers.specs.declared.named.SheetRefusal.{SheetRefusal}
use Rattle.net_sheets.specs.declared.reader.net.NetRead.{NetRead}
use Rattle.nets.specs.declared.forms.Header.{Header}
use Rattle.nets.specs.Forms.{header_of, table_in, net_in}
use Rattle.nets.specs.Evaluating.{Tabled}
use Rattle.table_reader.specs.TableReading.{inks_in}
use Rattle.accepted.specs.Taken.{front, inks_front}
use Rattle.accepted.specs.Both.{BothTaken, BothReads, Judges, both_turned, both_onward, both_length}
use Rattle.checking.specs.CheckAnswers.{compared_into}

module _ (s t inks cells : List ℕ) (r : Result NetRead SheetRefusal) (reads : BothReads s t inks r) where
  refusal : answers.Named → ℕ → ℕ → Checked
  refusal who number place = record { answer = turned_down who number place; cells = cells }

  judges : Judges s t refusal (λ net table. checked_into net table cells) (check_call s t cells)
  unfolding refusal
  judges =
      record {
        net_back_lem = check_net_refused s t cells;
        table_back = check_table_refused s t cells;
        goes_on = check_accepted s t cells;
        differ = λ net table. check_12 net table cells;
      }

  pub check_refused : (e : SheetRefusal) → r ≡ Err e
      → record { answer = turned_down (named_of e.named) (number_of e.refusal.kind) e.refusal.place; cells = cells } ≡ check_call s t cells
  unfolding refusal
  check_refused e is = both_turned s t refusal (λ net table. checked_into net table cells) (check_call s t cells) judges inks r reads e is

  module _ (read : NetRead) (on : r ≡ Ok read) (count : ℕ) (is : count ≡ read.header.levels ^ read.header.inputs) where
    abbrev h : Header
    h = read.header

    taken : BothTaken s t h read.net inks
    taken = reads.held read on

    onward : checked_into (net_in s h read.net) (table_in s h (inks_in inks h)) cells ≡ check_call s t cells
    onward = both_onward s t refusal (λ net table. checked_into net table cells) (check_call s t cells) judges inks r reads read on

    inks_length : length (inks_in inks h) ≡ count
    inks_length = ap length (sym (inks_front s h inks count is)) ∙ both_length s t h read.net inks taken count is

    same : same_header (header_of s h) (header_of s h) ≡ true
    same = same_header_lem (header_of s h) (header_of s h) refl

    pub cells_short : length cells < count → record { answer = turned_down neither 13 count; cells = cells } ≡ check_call s t cells
    cells_short short =
        (λ i. record { answer = turned_down neither 13 (sym inks_length i); cells = cells })
        ∙ sym (check_13 (net_in s h read.net) (table_in s h (inks_in inks h)) cells same (subst⁻¹ (λ (n : ℕ). length cells < n) inks_length short))
        ∙ onward

    pub cells_long : count ≤ length cells → (before after : List ℕ) (all : ℕ) → Tabled read.net before after all → (checked : Checked)
        → checked ≡ compared_into h.levels (take (count - 0) after) (take (count - 0) inks) cells → checked ≡ check_call s t cells
    unfolding header_of
    cells_long long before after all did checked e =
        let fits : length (inks_in inks h) ≤ length cells = omega (arith, inks_length) in
        e ∙ ap₂ (λ (xs ys : List ℕ). compared_into h.levels xs ys cells) (front s h read.net taken.own before after all count did is)
        (inks_front s h inks count is)
        ∙ sym (check_compared (net_in s h read.net) (table_in s h (inks_in inks h)) cells same fits)
        ∙ onward
