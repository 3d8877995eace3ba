-- The result of reading a table sheet, in the definitions.
-- Assumes nothing.
use Rattle.std.specs.Prelude.{◌^◌, ◌≡◌, Result, Ok, Err}
use Rattle.laws.specs.Prelude.{ℕ, suc, refl, List, [], take}
use Rattle.rules.specs.Sheets.Fields.{Reader, strict}
use Rattle.rules.specs.Sheets.Sheets as sheets
use Rattle.rules.specs.Sheets.Sheets.{Table, row_lines, table_sheet}
use Rattle.rules.specs.Sheets.Reading.{read_table}
use Rattle.laws.specs.Lists.Bounds.{Below}
use Rattle.nets.specs.Forms.{header_of, table_in}
use Rattle.nets.specs.declared.forms.Header.{Header}
use Rattle.rules.specs.Calls.Answers.{accepted}
use Rattle.answers.specs.AnswerMaps.{answer_as, refused_by}
use Rattle.answers.specs.declared.refusal.Refusal.{Refusal}
use Rattle.fields.specs.Chained.{Answers, end_of}
use Rattle.fields.specs.Header.FirstLines.{HeaderHeld, HeaderRest}
use Rattle.fields.specs.Steps.{Step}
use Rattle.fields.specs.declared.header.name_line.HeaderRead.{HeaderRead}
use Rattle.table_reader.specs.Fast.Rows.{RowsRead}
use Rattle.table_reader.specs.Head.{table_head, whole_sheet, sheet_refused, sheet_end_refused, sheet_accepted}

-- the inks of a table under the header h, at the front of `cells`
abbrev pub inks_in : List ℕ → Header → List ℕ
inks_in cells h = take (h.levels ^ h.inputs) cells

-- the properties of an accepted sheet's header and inks: an ink is a level, or m for an open cell
pub record TableHeld (s cells : List ℕ) (h : Header) : Type 0 where
  pub header : HeaderHeld s h
  pub inks : Below (suc h.levels) (inks_in cells h)

-- reading a whole table sheet, with `cells` as they are afterwards
pub record TableReads (s cells : List ℕ) (r : Result Header Refusal) : Type 0 where
  pub answer : answer_as (λ h. table_in s h (inks_in cells h)) r ≡ read_table s
  pub held : (h : Header) → r ≡ Ok h → TableHeld s cells h

-- the rows under a header, and their table
abbrev all_rows : sheets.Header → Reader (List ℕ)
all_rows h = row_lines h.levels h.inputs 0 (h.levels ^ h.inputs) []

abbrev table_of : sheets.Header → List ℕ → Table
table_of h inks = record { header = h; inks = inks }

module _ (s cells : List ℕ) (head : Result HeaderRead Refusal) (lines : HeaderRest s 0 (table_head strict) head) where
  -- the answer to the whole sheet
  told : (r : Result Header Refusal) → Answers s 0 (whole_sheet strict all_rows table_of) (λ h. table_in s h (inks_in cells h)) (TableHeld s cells) r
      → TableReads s cells r
  unfolding read_table table_sheet whole_sheet
  told r answers = record { answer = answers.answer; held = answers.held }

  pub table_refused : (e : Refusal) → head ≡ Err e → TableReads s cells (Err e)
  table_refused e is = told (Err e) (sheet_refused strict all_rows table_of s head lines _ _ e is)

  module _ (read : HeaderRead) (is : head ≡ Ok read) (last : Step) (rows : RowsRead s read.next read.header.levels read.header.inputs cells last) where
    pub table_end_refused : (e : Refusal) → refused_by e ≡ end_of s last → TableReads s cells (Err e)
    unfolding header_of
    table_end_refused e ends = told (Err e) (sheet_end_refused strict all_rows table_of s head lines _ _ read is _ last rows.reads e ends)

    pub table_accepted : accepted tt ≡ end_of s last → TableReads s cells (Ok read.header)
    unfolding header_of
    table_accepted ends =
        told (Ok read.header)
        (sheet_accepted strict all_rows table_of s head lines _ (TableHeld s cells) read is _ last rows.reads read.header refl ends
        (λ found on. record { header = lines.held read is; inks = rows.held found on }))
