-- Document 01: reading a sheet, to its end or to its refusal.
-- Assumes nothing.
use Rattle.std.specs.Prelude.{ℕ, List}
use Rattle.rules.specs.Sheets.Fields.{Read, read, turned_back}
use Rattle.rules.specs.Sheets.Sheets.{Net, Table, net_sheet, table_sheet}
use Rattle.rules.specs.Nets.Value.{table_of}
use Rattle.rules.specs.Calls.Answers.{Answer, accepted, refused}

-- the answer from a reader's result
unfoldable pub answered : {A : Type 0} → Read A → Answer A
answered (read a rest place) = accepted a
answered (turned_back number place) = refused number place

-- "A sheet that keeps every rule of this section, with nothing after its last line, is accepted."
unfoldable pub read_net : List ℕ → Answer Net
read_net s = answered (net_sheet s 0)

-- the same for a table sheet
unfoldable pub read_table : List ℕ → Answer Table
read_table s = answered (table_sheet s 0)

-- the table of an accepted net sheet, under its header
unfoldable pub table_of_net : Net → Table
table_of_net net = record { header = net.header; inks = table_of net.header.levels net.header.inputs net.gates }

-- all of this file computes
unfoldable pub computing : Unit {0}
unfolding answered read_net read_table table_of_net
computing = tt
