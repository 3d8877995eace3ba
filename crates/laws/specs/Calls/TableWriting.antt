-- The result of table writing, one law for each outcome.
-- Assumes nothing.
use Rattle.std.specs.Prelude.{◌<◌, ◌≤◌, ◌≡◌}
use Rattle.laws.specs.Prelude.{ℕ, List, length, lt-ltb, le-ltb}
use Rattle.rules.specs.Calls.Answers.{accepted, refused, written}
use Rattle.rules.specs.Sheets.Printed.{printed_table}
use Rattle.rules.specs.Sheets.Reading.{read_net, table_of_net}
use Rattle.rules.specs.Sheets.Sheets.{Net}
use Rattle.rules.specs.Calls.TableWriting.{write_table_call}

pub table_refused : (sheet output : List ℕ) (number place : ℕ) → read_net sheet ≡ refused number place
    → write_table_call sheet output ≡ record { answer = refused number place; output = output }
unfolding write_table_call
table_refused sheet output number place e = rw (e, write_table_call)

module _ (sheet output : List ℕ) (net : Net) (reads : read_net sheet ≡ accepted net) where
  pub table_15 : length output < length (printed_table (table_of_net net))
      → write_table_call sheet output ≡ record { answer = refused 15 (length (printed_table (table_of_net net))); output = output }
  unfolding write_table_call
  table_15 h = rw (reads, lt-ltb _ _ h, write_table_call)

  pub table_written : length (printed_table (table_of_net net)) ≤ length output
      → write_table_call sheet output
      ≡ record { answer = accepted (length (printed_table (table_of_net net))); output = written output (printed_table (table_of_net net)) }
  unfolding write_table_call
  table_written h = rw (reads, le-ltb _ _ h, write_table_call)
