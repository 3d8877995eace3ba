-- Document 02, K8: tidying, from a loose table sheet to the table sheet of document 01. Its answer, and what each buffer lent to it holds afterwards,
-- on accepted and on refused inputs.
-- Assumes nothing.
use Rattle.std.specs.Prelude.{ℕ, ◌^◌, true, false, List, length, take, ltb}
use Rattle.rules.specs.Limits.{most_cells, most_read}
use Rattle.rules.specs.Sheets.Sheets.{Table}
use Rattle.rules.specs.Sheets.Printed.{printed_table}
use Rattle.rules.specs.Calls.Answers.{Answer, accepted, refused, written}
use Rattle.rules.specs.Calls.Programs.{program_output, zeros}
use Rattle.rules.specs.Sheets.LooseSheet.{read_loose, table_of_loose}

-- what tidying returns, and what its two buffers hold afterwards
pub record Tidied : Type 0 where
  pub answer : Answer ℕ
  pub cells : List ℕ
  pub output : List ℕ

-- "It puts the inks in the cells buffer and writes the table sheet of document 01." 15: output short, with the cells written
unfoldable pub tidied_sheet : List ℕ → List ℕ → List ℕ → Tidied
tidied_sheet sheet cells output =
    elim (ltb (length output) (length sheet)) [
      | true ↦ record { answer = refused 15 (length sheet); cells = cells; output = output }
      | false ↦ record { answer = accepted (length sheet); cells = cells; output = written output sheet }
    ]

-- "13 and 15 follow it": 13: cells buffer short
unfoldable pub tidied_into : Table → List ℕ → List ℕ → Tidied
tidied_into t cells output =
    let need = t.header.levels ^ t.header.inputs in
    elim (ltb (length cells) need) [
      | true ↦ record { answer = refused 13 need; cells = cells; output = output }
      | false ↦ tidied_sheet (printed_table t) (written cells t.inks) output
    ]

-- the call
unfoldable pub tidy_call : List ℕ → List ℕ → List ℕ → Tidied
tidy_call sheet cells output =
    elim (read_loose sheet) [
      | refused number place ↦ record { answer = refused number place; cells = cells; output = output }
      | accepted t ↦ tidied_into (table_of_loose t) cells output
    ]

-- ---- the program

-- a program that tidies what it reads, as the two programs of document 01 settle and make
unfoldable pub tidy_program : List ℕ → List ℕ
tidy_program input =
    let tidied = tidy_call (take most_read input) (zeros most_cells) (zeros most_read) in
    program_output tidied.answer tidied.output

-- all of this file computes
unfoldable pub computing : Unit {0}
unfolding tidied_sheet tidied_into tidy_call tidy_program
computing = tt
