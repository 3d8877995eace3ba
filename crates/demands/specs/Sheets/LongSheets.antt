-- Sheets that are longer than what a program reads: "A table sheet of 2 with 12 is longer than the making program's 65,536 bytes: the library takes
-- it, and the program refuses with 1 at 65,536 a sheet without an earlier fault that hasn't ended by then." (document 02, K6)
-- Assumes nothing.
use Rattle.std.specs.Prelude.{◌<◌, ◌≤◌, ◌≡◌, ◌⊎◌}
use Rattle.laws.specs.Prelude.{ℕ, ap, inl, inr, List, arith, length, take, take_all}
use Rattle.rules.specs.Calls.Answers.{accepted, refused}
use Rattle.rules.specs.Calls.Settling.{make_call}
use Rattle.rules.specs.Limits.{most_read}
use Rattle.rules.specs.Sheets.Reading.{read_net, read_table}
use Rattle.rules.specs.Sheets.SheetRules.{FullTable}
use Rattle.rules.specs.Sheets.Sheets.{Net, Table}
use Rattle.rules.specs.Calls.Programs.{refusal_lines, settle_program, make_program}
use Rattle.laws.specs.Calls.OpenCells.{read_refused}
use Rattle.readback.specs.Sheets.ReadBack.{table_accepted}
use Rattle.readback.specs.Tables.TableLength.{table_longer, table_within}
use Rattle.readback.specs.Sheets.CutSheets.{table_cut, net_cut, not_ended, accepted_longer}
use Rattle.demands.specs.Sheets.FullSheets.{full_sheet}
use Rattle.demands.specs.Settling.Makes.{Making}
use Rattle.demands.specs.Sheets.Lengths.{Ample, make_ample}
use Rattle.demands.specs.Others.Programs.{program_settle_refused, program_make_refused}

module _ (input : List ℕ) where
  -- "a sheet without an earlier fault that hasn't ended by then": for a table sheet, ..
  pub make_unended : most_read ≤ length input → ((number place : ℕ) → read_table input ≡ refused number place → most_read ≤ place)
      → ((t : Table) → read_table (take most_read input) ≡ accepted t → ⊥) → make_program input ≡ refusal_lines 1 most_read
  make_unended within faultless going =
      program_make_refused input 1 most_read (read_refused _ 1 most_read (not_ended table_cut input most_read (omega arith) within faultless going))

  -- .. and for a net sheet
  pub settle_unended : most_read ≤ length input → ((number place : ℕ) → read_net input ≡ refused number place → most_read ≤ place)
      → ((net : Net) → read_net (take most_read input) ≡ accepted net → ⊥) → settle_program input ≡ refusal_lines 1 most_read
  settle_unended within faultless going = program_settle_refused input 1 most_read (not_ended net_cut input most_read (omega arith) within faultless going)

  module _ (t : Table) (reads : read_table input ≡ accepted t) where
    -- a longer accepted sheet is refused in this way, ..
    pub make_longer : most_read < length input → make_program input ≡ refusal_lines 1 most_read
    make_longer longer = program_make_refused input 1 most_read
        (read_refused _ 1 most_read (accepted_longer table_cut input most_read (omega arith) longer t reads))

    -- .. "the library takes it": every accepted sheet of a full table of 2 with 12, with buffers of the lengths that always suffice, ..
    pub long_sheet : FullTable t → t.header.levels ≡ 2 → t.header.inputs ≡ 12 → (cells marks output : List ℕ) → Ample cells marks output
        → Making t (make_call input cells marks output) × (make_program input ≡ refusal_lines 1 most_read)
    long_sheet full two twelve cells marks output ample =
        let (e, kept) = table_accepted input t reads in
        let long : most_read < length input = rw e (table_longer t kept two twelve) in
        (make_ample input cells marks output ample t ((full_sheet input t).1 (reads, full)), make_longer long)

    -- .. and every other accepted sheet is read whole
    pub read_whole : (take most_read input ≡ input) ⊎ ((t.header.levels ≡ 2) × (t.header.inputs ≡ 12))
    read_whole =
        let (e, kept) = table_accepted input t reads in
        go e (table_within t kept)
      where
        go : {text : List ℕ} → input ≡ text → (length text ≤ most_read) ⊎ ((t.header.levels ≡ 2) × (t.header.inputs ≡ 12))
            → (take most_read input ≡ input) ⊎ ((t.header.levels ≡ 2) × (t.header.inputs ≡ 12))
        go e (inl short) = inl (take_all most_read input (omega (arith, ap length e)))
        go e (inr size) = inr size
