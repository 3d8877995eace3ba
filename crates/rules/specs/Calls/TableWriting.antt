-- Document 01, section 'The rest': table writing. Its answer, and what its output holds afterwards.
-- Assumes nothing.
use Rattle.std.specs.Prelude.{ℕ, true, false, List, length, ltb}
use Rattle.rules.specs.Sheets.Printed.{printed_table}
use Rattle.rules.specs.Calls.Answers.{Answer, accepted, refused, written}
use Rattle.rules.specs.Sheets.Reading.{read_net, table_of_net}

-- what table writing returns, and what its output holds afterwards
pub record Written : Type 0 where
  pub answer : Answer ℕ
  pub output : List ℕ

-- "*Table writing*: net sheet to table sheet; it borrows the output alone, which needs the table sheet's length."
unfoldable pub write_table_call : List ℕ → List ℕ → Written
write_table_call sheet output =
    elim (read_net sheet) [
      | refused number place ↦ record { answer = refused number place; output = output }
      | accepted net ↦
          let table = printed_table (table_of_net net) in
          elim (ltb (length output) (length table)) [
            | true ↦ record { answer = refused 15 (length table); output = output }
            | false ↦ record { answer = accepted (length table); output = written output table }
          ]
    ]

-- all of this file computes
unfoldable pub computing : Unit {0}
unfolding write_table_call
computing = tt
