-- The result of reading a loose table sheet, in the definitions.
-- Assumes nothing.
use Rattle.std.specs.Prelude.{◌^◌, ◌≡◌, Result, Ok, Err}
use Rattle.laws.specs.Prelude.{ℕ, refl, List, []}
use Rattle.rules.specs.Sheets.Fields.{Reader, loose}
use Rattle.rules.specs.Sheets.Sheets as sheets
use Rattle.rules.specs.Sheets.LooseSheet.{Row, LooseTable, loose_rows, loose_sheet, read_loose}
use Rattle.nets.specs.Forms.{header_of}
use Rattle.nets.specs.declared.forms.Header.{Header}
use Rattle.rules.specs.Calls.Answers.{accepted}
use Rattle.answers.specs.AnswerMaps.{answer_as, refused_by}
use Rattle.answers.specs.declared.refusal.Refusal.{Refusal}
use Rattle.fields.specs.Chained.{Answers, end_of}
use Rattle.fields.specs.Header.FirstLines.{HeaderHeld, HeaderRest}
use Rattle.fields.specs.Steps.{Step}
use Rattle.fields.specs.declared.header.name_line.HeaderRead.{HeaderRead}
use Rattle.table_reader.specs.Head.{table_head, whole_sheet, sheet_refused, sheet_end_refused, sheet_accepted}
use Rattle.loose_sheets.specs.Reader.Rows.{InksOf, LooseRowsRead}

-- a loose table of the header's names and these rows
abbrev pub loose_in : List ℕ → Header → List Row → LooseTable
loose_in s h rows = record { header = header_of s h; rows = rows }

-- the properties of an accepted sheet's header and inks
pub record LooseHeld (s cells : List ℕ) (h : Header) (rows : List Row) : Type 0 where
  pub header : HeaderHeld s h
  pub inks : InksOf h.levels h.inputs rows cells

-- reading a whole loose sheet, with `cells` as they are afterwards
pub record LooseReads (s cells : List ℕ) (r : Result Header Refusal) : Type 0 where
  pub rows : List Row
  pub answer : answer_as (λ h. loose_in s h rows) r ≡ read_loose s
  pub held : (h : Header) → r ≡ Ok h → LooseHeld s cells h rows

-- the rows under a header, and their table
abbrev all_rows : sheets.Header → Reader (List Row)
all_rows h = loose_rows h.levels h.inputs (h.levels ^ h.inputs) []

abbrev table_of : sheets.Header → List Row → LooseTable
table_of h rows = record { header = h; rows = rows }

module _ (s cells : List ℕ) (head : Result HeaderRead Refusal) (lines : HeaderRest s 0 (table_head loose) head) where
  -- the answer to the whole sheet
  told : (rows : List Row) (r : Result Header Refusal)
      → Answers s 0 (whole_sheet loose all_rows table_of) (λ h. loose_in s h rows) (λ h. LooseHeld s cells h rows) r → LooseReads s cells r
  unfolding read_loose loose_sheet whole_sheet
  told rows r answers = record { rows = rows; answer = answers.answer; held = answers.held }

  pub loose_sheet_refused : (e : Refusal) → head ≡ Err e → LooseReads s cells (Err e)
  loose_sheet_refused e is = told [] (Err e) (sheet_refused loose all_rows table_of s head lines _ _ e is)

  module _ (read : HeaderRead) (is : head ≡ Ok read) (last : Step) (rows : LooseRowsRead s read.next read.header.levels read.header.inputs cells last) where
    pub loose_end_refused : (e : Refusal) → refused_by e ≡ end_of s last → LooseReads s cells (Err e)
    unfolding header_of
    loose_end_refused e ends =
        told [] (Err e) (sheet_end_refused loose all_rows table_of s head lines _ _ read is rows.rows last rows.reads e ends)

    pub loose_accepted : accepted tt ≡ end_of s last → LooseReads s cells (Ok read.header)
    unfolding header_of
    loose_accepted ends =
        told rows.rows (Ok read.header)
        (sheet_accepted loose all_rows table_of s head lines _ (λ h. LooseHeld s cells h rows.rows) read is rows.rows last rows.reads read.header refl ends
        (λ found on. record { header = lines.held read is; inks = rows.held found on }))
