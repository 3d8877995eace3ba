-- The result of tidying, one law for each outcome.
-- Assumes nothing.
use Rattle.std.specs.Prelude.{◌<◌, ◌≤◌, ◌^◌, ◌≡◌}
use Rattle.laws.specs.Prelude.{ℕ, List, length, lt-ltb, le-ltb}
use Rattle.rules.specs.Calls.Answers.{accepted, refused, written}
use Rattle.rules.specs.Sheets.Printed.{printed_table}
use Rattle.rules.specs.Sheets.Sheets.{Table}
use Rattle.rules.specs.Sheets.LooseSheet.{LooseTable, read_loose, table_of_loose}
use Rattle.rules.specs.Calls.Tidying.{tidied_sheet, tidied_into, tidy_call}

module _ (sheet cells output : List ℕ) where
  pub tidy_refused : (number place : ℕ) → read_loose sheet ≡ refused number place
      → tidy_call sheet cells output ≡ record { answer = refused number place; cells = cells; output = output }
  unfolding tidy_call
  tidy_refused number place e = rw (e, tidy_call)

  pub tidy_accepted : (t : LooseTable) → read_loose sheet ≡ accepted t → tidy_call sheet cells output ≡ tidied_into (table_of_loose t) cells output
  unfolding tidy_call
  tidy_accepted t e = rw (e, tidy_call)

-- a table, into the two buffers
module _ (t : Table) (cells output : List ℕ) where
  pub tidied_13 : length cells < t.header.levels ^ t.header.inputs
      → tidied_into t cells output ≡ record { answer = refused 13 (t.header.levels ^ t.header.inputs); cells = cells; output = output }
  unfolding tidied_into
  tidied_13 h = rw (lt-ltb _ _ h, tidied_into)

  pub tidied_sheet_lem : t.header.levels ^ t.header.inputs ≤ length cells
      → tidied_into t cells output ≡ tidied_sheet (printed_table t) (written cells t.inks) output
  unfolding tidied_into
  tidied_sheet_lem h = rw (le-ltb _ _ h, tidied_into)

-- its sheet, into the output
module _ (sheet cells output : List ℕ) where
  pub tidied_15 : length output < length sheet
      → tidied_sheet sheet cells output ≡ record { answer = refused 15 (length sheet); cells = cells; output = output }
  unfolding tidied_sheet
  tidied_15 h = rw (lt-ltb _ _ h, tidied_sheet)

  pub tidied_written : length sheet ≤ length output
      → tidied_sheet sheet cells output ≡ record { answer = accepted (length sheet); cells = cells; output = written output sheet }
  unfolding tidied_sheet
  tidied_written h = rw (le-ltb _ _ h, tidied_sheet)
