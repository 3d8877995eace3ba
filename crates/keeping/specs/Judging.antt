-- Keeping a wiring for two sheets: a refusal, then a full table.
-- Assumes nothing.
use Rattle.std.specs.Prelude.{◌<◌, ◌≤◌, ◌-◌, ◌^◌, ◌≡◌, Result, Ok, Err}
use Rattle.laws.specs.Prelude.{ℕ, ◌∙◌, sym, ap, refl, true, false, Bool, List, lt_of_not-le, dec_le, length, get_or, take, lt-ltb}
use Rattle.laws.specs.Prelude.{le-ltb}
use Rattle.rules.specs.Sheets.Sheets as sheets
use Rattle.rules.specs.Sheets.Sheets.{Table}
use Rattle.rules.specs.Sheets.Printed.{printed_net}
use Rattle.rules.specs.Calls.Answers as answers
use Rattle.rules.specs.Calls.Answers.{accepted, refused, table_named, written}
use Rattle.rules.specs.Calls.OpenCells.{full, full_table}
use Rattle.rules.specs.Calls.Checking.{same_header}
use Rattle.rules.specs.Calls.Keeping.{kept_net, roomy_before, leaves_out, turned_away, KeptWiring, kept_into, keep_call}
use Rattle.laws.specs.Calls.Checking.{same_header_lem}
use Rattle.laws.specs.Calls.OpenCells.{read_full_lem}
use Rattle.laws.specs.Calls.Settling.{sheet_15, sheet_written}
use Rattle.laws.specs.Calls.Keeping.{keep_net_refused, keep_table_refused, keep_accepted, keep_12, keep_27, keep_13, keep_23_0, keep_23, keep_15, keep_written}
use Rattle.answers.specs.AnswerMaps.{refused_by}
use Rattle.answers.specs.Kinds.{number_of}
use Rattle.answers.specs.declared.named.SheetRefusal.{SheetRefusal}
use Rattle.answers.specs.declared.refusal.Refusal.{Refusal}
use Rattle.nets.specs.declared.forms.Header.{Header}
use Rattle.nets.specs.declared.forms.Net.{Net}
use Rattle.nets.specs.Forms.{header_of, table_in, net_in}
use Rattle.table_reader.specs.TableReading.{inks_in}
use Rattle.net_sheets.specs.declared.reader.net.NetRead.{NetRead}
use Rattle.accepted.specs.Taken.{Given, inks_front, inks_table, inks_full}
use Rattle.accepted.specs.Both.{BothTaken, BothReads, Judges, both_turned, both_onward, both_kept}
use Rattle.keeping.specs.Rewriting.{full_short, full_long}
use Rattle.keeping.specs.KeepAnswers.{turned_by, with_changed, sheet_kept, filled_into, full_into}

-- after refusal 27

module _ (net : sheets.Net) (t : Table) (cells output : List ℕ) (same : same_header net.header t.header ≡ true) (whole : full_table t ≡ accepted tt) where
  past_13 : length t.inks ≤ length cells → kept_into net t cells output ≡ filled_into net t cells output
  unfolding filled_into sheet_kept with_changed
  past_13 long = go (leaves_out net t) refl (dec_le (length net.gates) (roomy_before net t)) (dec_le (length (printed_net (kept_net net t))) (length output))
    where
      go : (b : Bool) → leaves_out net t ≡ b → Dec (length net.gates ≤ roomy_before net t) → Dec (length (printed_net (kept_net net t)) ≤ length output)
          → kept_into net t cells output ≡ filled_into net t cells output
      go true out _ _ = keep_23_0 net t cells output same whole long out ∙ sym (rw (out, filled_into))
      go false takes (no crowded) _ =
          keep_23 net t cells output same whole long takes (lt_of_not-le crowded) ∙ sym (rw (takes, lt-ltb _ _ (lt_of_not-le crowded), filled_into))
      go false takes (yes roomy) (no short) =
          keep_15 net t cells output same whole long takes roomy (lt_of_not-le short)
          ∙ sym (rw (
            takes,
            le-ltb _ _ roomy,
            filled_into,
            sheet_kept,
            sheet_15 (printed_net (kept_net net t)) (written cells t.inks) (written cells t.inks) output (lt_of_not-le short),
          ))
      go false takes (yes roomy) (yes fits) =
          keep_written net t cells output same whole long takes roomy fits
          ∙ sym (rw (
            takes,
            le-ltb _ _ roomy,
            filled_into,
            sheet_kept,
            sheet_written (printed_net (kept_net net t)) (written cells t.inks) (written cells t.inks) output fits,
          ))

  past_27 : kept_into net t cells output ≡ full_into net t cells output
  past_27 = go (dec_le (length t.inks) (length cells))
    where
      go : Dec (length t.inks ≤ length cells) → kept_into net t cells output ≡ full_into net t cells output
      go (yes long) = past_13 long ∙ full_long net t cells output long
      go (no short) = keep_13 net t cells output same whole (lt_of_not-le short) ∙ full_short net t cells output (lt_of_not-le short)

-- ---- two sheets

module _ (s t : List ℕ) (h : Header) (net : Net) (inks : List ℕ) (taken : BothTaken s t h net inks) (count : ℕ) (is : count ≡ h.levels ^ h.inputs) where
  -- no ink is above the number of levels
  pub inks_within : (p : ℕ) → p < length (take (count - 0) inks) → get_or (take (count - 0) inks) p 0 ≤ h.levels
  unfolding header_of
  inks_within = (both_kept s t h net inks taken count is).within

  -- the inks are a full table of the net's header
  pub both_given : accepted tt ≡ full h.levels (take (count - 0) inks) → Given s h (take (count - 0) inks)
  unfolding full_table header_of
  both_given whole =
      inks_full s h inks count is t
      (read_full_lem t (table_in s h (inks_in inks h)) taken.table (ap (full h.levels) (sym (inks_front s h inks count is)) ∙ sym whole)) taken.own.header

module _ (s t inks cells output : List ℕ) (r : Result NetRead SheetRefusal) (reads : BothReads s t inks r) where
  refusal : answers.Named → ℕ → ℕ → KeptWiring
  refusal who number place = record { answer = turned_away who number place; cells = cells; output = output }

  judges : Judges s t refusal (λ net table. kept_into net table cells output) (keep_call s t cells output)
  unfolding refusal
  judges =
      record {
        net_back_lem = keep_net_refused s t cells output;
        table_back = keep_table_refused s t cells output;
        goes_on = keep_accepted s t cells output;
        differ = λ net table. keep_12 net table cells output;
      }

  pub keep_refused : (e : SheetRefusal) → r ≡ Err e → record { answer = turned_by e; cells = cells; output = output } ≡ keep_call s t cells output
  unfolding refusal
  keep_refused e is = both_turned s t refusal (λ net table. kept_into net table cells output) (keep_call s t cells output) judges inks r reads e is

  module _ (read : NetRead) (on : r ≡ Ok read) (count : ℕ) (is : count ≡ read.header.levels ^ read.header.inputs) where
    abbrev h : Header
    h = read.header

    onward : kept_into (net_in s h read.net) (table_in s h (take (count - 0) inks)) cells output ≡ keep_call s t cells output
    onward =
        ap (λ (table : Table). kept_into (net_in s h read.net) table cells output) (inks_table s h inks count is)
        ∙ both_onward s t refusal (λ net table. kept_into net table cells output) (keep_call s t cells output) judges inks r reads read on

    same : same_header (header_of s h) (header_of s h) ≡ true
    same = same_header_lem (header_of s h) (header_of s h) refl

    -- refusal 27, which names the table sheet
    pub table_open : (e : Refusal) → refused_by e ≡ full h.levels (take (count - 0) inks)
        → record { answer = turned_away table_named (number_of e.kind) e.place; cells = cells; output = output } ≡ keep_call s t cells output
    unfolding full_table header_of
    table_open e told =
        sym (keep_27 (net_in s h read.net) (table_in s h (take (count - 0) inks)) cells output same (number_of e.kind) e.place (sym told)) ∙ onward

    pub full_told : accepted tt ≡ full h.levels (take (count - 0) inks)
        → (k : KeptWiring) → k ≡ full_into (net_in s h read.net) (table_in s h (take (count - 0) inks)) cells output → k ≡ keep_call s t cells output
    unfolding full_table header_of
    full_told whole k e = e ∙ sym (past_27 (net_in s h read.net) (table_in s h (take (count - 0) inks)) cells output same (sym whole)) ∙ onward
