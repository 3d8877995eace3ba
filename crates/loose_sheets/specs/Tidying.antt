-- Tidying: a loose sheet that was read, its cells and its table sheet.
-- Assumes nothing.
use Rattle.std.specs.Prelude.{◌<◌, ◌≤◌, ◌^◌, ◌≡◌, Result, Ok, Err}
use Rattle.laws.specs.Prelude.{ℕ, suc, ◌∙◌, sym, ap, refl, subst, true, false, Bool, false≢true, List, arith, length}
use Rattle.laws.specs.Prelude.{take, length-take-le}
use Rattle.rules.specs.Limits.{most_cells}
use Rattle.rules.specs.Sheets.Sheets.{Table}
use Rattle.rules.specs.Sheets.Printed.{printed_table}
use Rattle.rules.specs.Calls.Answers.{accepted, refused, written}
use Rattle.rules.specs.Sheets.Reading.{read_table}
use Rattle.rules.specs.Sheets.LooseSheet.{LooseTable, read_loose, table_of_loose}
use Rattle.rules.specs.Calls.Tidying.{Tidied, tidied_sheet, tidied_into, tidy_call}
use Rattle.laws.specs.Lists.Bounds.{Below, below_at}
use Rattle.laws.specs.Calls.Tidying.{tidy_accepted, tidied_13, tidied_sheet_lem, tidied_15, tidied_written}
use Rattle.readback.specs.Sheets.ReadBack.{table_accepted}
use Rattle.readback.specs.Tables.LooseTables.{in_order_of, strict_read, strict_same}
use Rattle.nets.specs.Forms.{header_of, table_in}
use Rattle.nets.specs.declared.forms.Header.{Header}
use Rattle.fields.specs.Header.FirstLines.{HeaderHeld}
use Rattle.answers.specs.AnswerMaps.{answer_of, answer_as, refused_by}
use Rattle.answers.specs.declared.refusal.Refusal.{Refusal}
use Rattle.table_reader.specs.TableReading.{TableReads, inks_in}
use Rattle.loose_sheets.specs.Reader.LooseReading.{LooseReads, loose_in}
use Rattle.net_sheets.specs.Text.Put.{Put, NetWrote, put_wrote}
use Rattle.accepted.specs.Taken.{held_size, names_inside, table_taken}
use Rattle.table_printer.specs.Lengths.{Measures}
use Rattle.table_printer.specs.Tables.{TableInside}

-- the answer, and the two buffers after the call
abbrev pub tidied_of : Result ℕ Refusal → List ℕ → List ℕ → Tidied
tidied_of r cells output = record { answer = answer_of r; cells = cells; output = output }

-- the header of an accepted loose sheet, whose inks are at the front of `cells` in index order
pub record LooseTaken (s : List ℕ) (h : Header) (cells : List ℕ) : Type 0 where
  pub table : LooseTable
  pub reads : read_loose s ≡ accepted table
  pub tidied : table_of_loose table ≡ table_in s h (inks_in cells h)
  pub header : HeaderHeld s h
  pub below : Below (suc h.levels) (inks_in cells h)
  pub room : most_cells ≤ length cells

-- if the flag is true, the sheet is the table sheet of its own header and inks
abbrev pub Itself : Bool → List ℕ → Header → List ℕ → Type 0
Itself strict s h inks = strict ≡ true → s ≡ printed_table (table_in s h inks)

-- if the flag is false, nothing is claimed
pub not_itself : (s : List ℕ) (h : Header) (inks : List ℕ) → Itself false s h inks
not_itself s h inks e = absurd (false≢true e)

-- ---- the results of reading

module _ (s cells : List ℕ) (r : Result Header Refusal) (read : LooseReads s cells r) where
  pub loose_taken : most_cells ≤ length cells → (h : Header) → r ≡ Ok h → LooseTaken s h cells
  unfolding table_of_loose header_of
  loose_taken room h e =
      let held = read.held h e in
      record {
        table = loose_in s h read.rows;
        reads = sym read.answer ∙ ap (answer_as _) e;
        tidied = ap (table_in s h) (sym held.inks.inks);
        header = held.header;
        below = held.inks.below;
        room = room;
      }

  pub loose_refused : (e : Refusal) → r ≡ Err e → read_loose s ≡ refused_by e
  loose_refused e is = sym read.answer ∙ ap (answer_as _) is

-- the same for a strict sheet, which is an accepted loose one
module _ (s cells : List ℕ) (r : Result Header Refusal) (read : TableReads s cells r) (h : Header) (e : r ≡ Ok h) where
  abbrev t : Table
  t = table_in s h (inks_in cells h)

  reads : read_table s ≡ accepted t
  reads = (table_taken s cells r read h e).reads

  pub strict_taken : most_cells ≤ length cells → LooseTaken s h cells
  strict_taken room =
      record {
        table = in_order_of t;
        reads = strict_read s t reads;
        tidied = strict_same s t reads;
        header = (read.held h e).header;
        below = (read.held h e).inks;
        room = room;
      }

  pub strict_itself : Itself true s h (inks_in cells h)
  strict_itself _ = (table_accepted s t reads).0

-- ---- the cells

module _ (s : List ℕ) (h : Header) (inks : List ℕ) (taken : LooseTaken s h inks) (count : ℕ) (is : count ≡ h.levels ^ h.inputs) where
  front : take count inks ≡ inks_in inks h
  front = ap (λ (k : ℕ). take k inks) is

  pub loose_count_most : count ≤ most_cells
  loose_count_most = omega (arith, is, (held_size s h taken.header).cells_most)

  pub loose_front_length : length (take count inks) ≡ count
  loose_front_length = length-take-le count inks (omega (arith, loose_count_most, taken.room))

  pub front_inside : TableInside s h (take count inks)
  front_inside =
      let size = held_size s h taken.header in
      record {
        names = names_inside s h taken.header;
        some_levels = omega (arith, size.levels_least);
        levels = size.levels_most;
        digits = λ k l. omega (
          arith,
          size.levels_most,
          below_at (suc h.levels) (take count inks)
              (subst (Below (suc h.levels)) (sym front) taken.below) k l,
        );
      }

  pub front_itself : (strict : Bool) → Itself strict s h (inks_in inks h) → Itself strict s h (take count inks)
  front_itself strict is_itself e = is_itself e ∙ ap (λ (xs : List ℕ). printed_table (table_in s h xs)) (sym front)

  module _ (cells output : List ℕ) where
    -- the call, from the table on
    into : tidy_call s cells output ≡ tidied_into (table_in s h (inks_in inks h)) cells output
    into = tidy_accepted s cells output taken.table taken.reads ∙ ap (λ (t : Table). tidied_into t cells output) taken.tidied

    pub cells_short : length cells < count → record { answer = refused 13 count; cells = cells; output = output } ≡ tidy_call s cells output
    unfolding header_of
    cells_short short =
        (λ i. record { answer = refused 13 (is i); cells = cells; output = output })
        ∙ sym (into ∙ tidied_13 (table_in s h (inks_in inks h)) cells output (subst (λ (k : ℕ). length cells < k) is short))

    pub cells_written : count ≤ length cells → (filled : List ℕ) (end : ℕ) → Put cells 0 (take count inks) filled end → (r : Result ℕ Refusal) (after : List ℕ)
        → ((others : List ℕ) → tidied_of r others after ≡ tidied_sheet (printed_table (table_in s h (take count inks))) others output)
        → tidied_of r filled after ≡ tidy_call s cells output
    unfolding header_of
    cells_written long filled end put r after sheet =
        let wrote = put_wrote (omega (arith, loose_front_length)) put in
        sheet filled
        ∙ (λ i. tidied_sheet (printed_table (table_in s h (front i))) ((wrote.text ∙ ap (written cells) front) i) output)
        ∙ sym (into ∙ tidied_sheet_lem (table_in s h (inks_in inks h)) cells output (subst (λ (k : ℕ). k ≤ length cells) is long))

-- ---- the sheet

module _ (s : List ℕ) (h : Header) (inks : List ℕ) (inside : TableInside s h inks) (need : ℕ) (measures : Measures h (length inks) need) (output : List ℕ) where
  need_is : need ≡ length (printed_table (table_in s h inks))
  need_is = measures s inks inside.names refl

  pub loose_output_short : length output < need → (cells : List ℕ)
      → record { answer = refused 15 need; cells = cells; output = output } ≡ tidied_sheet (printed_table (table_in s h inks)) cells output
  loose_output_short short cells =
      (λ i. record { answer = refused 15 (need_is i); cells = cells; output = output })
      ∙ sym (tidied_15 (printed_table (table_in s h inks)) cells output (subst (λ (k : ℕ). length output < k) need_is short))

  module _ (long : need ≤ length output) where
    pub loose_output_long : length (printed_table (table_in s h inks)) ≤ length output
    loose_output_long = subst (λ (k : ℕ). k ≤ length output) need_is long

    pub loose_output_written : (filled : List ℕ) (answer : ℕ) → NetWrote output (printed_table (table_in s h inks)) filled answer → (cells : List ℕ)
        → record { answer = accepted answer; cells = cells; output = filled } ≡ tidied_sheet (printed_table (table_in s h inks)) cells output
    loose_output_written filled answer wrote cells =
        (λ i. record { answer = accepted (wrote.length i); cells = cells; output = wrote.text i })
        ∙ sym (tidied_written (printed_table (table_in s h inks)) cells output loose_output_long)

    -- a strict sheet is copied
    module _ (is : s ≡ printed_table (table_in s h inks)) where
      pub itself_fits : length s ≤ length output
      itself_fits = rw is loose_output_long

      pub itself_written : (filled : List ℕ) (answer : ℕ) → Put output 0 s filled answer → (cells : List ℕ)
          → record { answer = accepted answer; cells = cells; output = filled } ≡ tidied_sheet (printed_table (table_in s h inks)) cells output
      itself_written filled answer put =
          loose_output_written filled answer (subst (λ (t : List ℕ). NetWrote output t filled answer) is (put_wrote itself_fits put))
