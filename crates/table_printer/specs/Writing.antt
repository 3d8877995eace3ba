-- Table writing: the table sheet measured, then printed.
-- Assumes nothing.
use Rattle.std.specs.Prelude.{◌<◌, ◌≤◌, ◌-◌, ◌^◌, ◌≡◌, Result}
use Rattle.laws.specs.Prelude.{ℕ, ◌∙◌, sym, subst, List, length, take}
use Rattle.rules.specs.Sheets.Sheets.{Table}
use Rattle.rules.specs.Sheets.Printed.{printed_table}
use Rattle.rules.specs.Calls.TableWriting.{Written, write_table_call}
use Rattle.rules.specs.Calls.Answers.{accepted, refused}
use Rattle.rules.specs.Sheets.Reading.{table_of_net}
use Rattle.laws.specs.Calls.TableWriting.{table_15, table_written}
use Rattle.answers.specs.AnswerMaps.{answer_of}
use Rattle.answers.specs.declared.refusal.Refusal.{Refusal}
use Rattle.nets.specs.declared.forms.Header.{Header}
use Rattle.nets.specs.declared.forms.Net.{Net}
use Rattle.nets.specs.Evaluating.{Tabled}
use Rattle.nets.specs.Forms.{net_in, table_in}
use Rattle.table_printer.specs.Lengths.{Measures}
use Rattle.net_sheets.specs.Text.Put.{NetWrote}
use Rattle.accepted.specs.Taken.{NetTaken, names_inside, own_length, front_length, front_table}

-- the answer, and the output after the call
abbrev pub table_written_of : Result ℕ Refusal → List ℕ → Written
table_written_of r output = record { answer = answer_of r; output = output }

module _ (s : List ℕ) (h : Header) (net : Net) (taken : NetTaken s h net) (count need : ℕ) (is : count ≡ h.levels ^ h.inputs)
    (measures : Measures h count need)
    (output : List ℕ) where
  need_is : need ≡ length (printed_table (table_of_net (net_in s h net)))
  unfolding table_of_net
  need_is = measures s (table_of_net (net_in s h net)).inks (names_inside s h taken.header) (own_length s h net taken ∙ sym is)

  pub table_output_short : length output < need → record { answer = refused 15 need; output = output } ≡ write_table_call s output
  table_output_short short =
      (λ i. record { answer = refused 15 (need_is i); output = output })
      ∙ sym (table_15 s output (net_in s h net) taken.reads (subst (λ (k : ℕ). length output < k) need_is short))

  module _ (long : need ≤ length output) (before after : List ℕ) (all : ℕ) (did : Tabled net before after all) where
    pub output_long : length (printed_table (table_in s h (take (count - 0) after))) ≤ length output
    output_long =
        subst (λ (k : ℕ). k ≤ length output) (measures s (take (count - 0) after) (names_inside s h taken.header)
        (front_length s h net taken before after all count did is)) long

    pub table_output_written : (filled : List ℕ) (answer : ℕ) → NetWrote output (printed_table (table_in s h (take (count - 0) after))) filled answer
        → record { answer = accepted answer; output = filled } ≡ write_table_call s output
    table_output_written filled answer wrote =
        let told : NetWrote output (printed_table (table_of_net (net_in s h net))) filled answer =
        subst (λ (t : Table). NetWrote output (printed_table t) filled answer) (front_table s h net taken before after all count did is) wrote in
        (λ i. record { answer = accepted (told.length i); output = told.text i })
        ∙ sym (table_written s output (net_in s h net) taken.reads (subst (λ (k : ℕ). k ≤ length output) need_is long))
