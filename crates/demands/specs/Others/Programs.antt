-- The two programs: "*Two programs* read standard input, at most its first 65,536 bytes, which are then the sheet: one settles, one
-- makes. A refusal prints the line `number place`, then the two decimal values." Their buffers have the largest length that any sheet
-- needs, so what a program prints is the settled sheet, or the refusal of its sheet or of its table.
-- Assumes nothing.
use Rattle.std.specs.Prelude.{◌≤◌, ◌≡◌}
use Rattle.laws.specs.Prelude.{ℕ, sym, ap, List, le_of_eq, length, take, length-replicate}
use Rattle.rules.specs.Calls.Answers.{Answer, accepted, refused}
use Rattle.rules.specs.Calls.OpenCells.{read_full}
use Rattle.rules.specs.Calls.Settling.{Made, settled_net, settle_call, make_call}
use Rattle.rules.specs.Groups.Marks.{marks_length, no_tree_place}
use Rattle.rules.specs.Limits.{most_inputs, most_cells, most_settled, most_read}
use Rattle.rules.specs.Sheets.Printed.{printed_net}
use Rattle.rules.specs.Sheets.Reading.{read_net, table_of_net}
use Rattle.rules.specs.Sheets.Sheets.{Net, Table}
use Rattle.rules.specs.Calls.Programs.{refusal_lines, program_output, zeros, settle_program, make_program}
use Rattle.laws.specs.Calls.Settling.{marks_of_table, settle_refused, make_refused}
use Rattle.readback.specs.Readers.Numbers.{net_numbers}
use Rattle.demands.specs.Settling.Settles.{sheet_in, sheet_of, settles}
use Rattle.laws.specs.Calls.Answers.{accepted_inj, not_refused}
use Rattle.demands.specs.Numbers.Numbers.{Gives}
use Rattle.demands.specs.Settling.Makes.{HasTree, no_tree_lem, some_tree}
use Rattle.demands.specs.Sheets.Lengths.{most_marks, Ample, table_or_tree, settle_ample, make_ample, settle_ample_numbers, make_ample_numbers}

-- ---- what is printed for a call

abbrev printed : Made → List ℕ
printed made = program_output made.answer made.output

prints_sheet : (made : Made) (sheet : List ℕ) → sheet_of made ≡ accepted sheet → printed made ≡ sheet
unfolding sheet_in program_output
prints_sheet made sheet = go made.answer
  where
    go : (a : Answer ℕ) → sheet_in a made.output ≡ accepted sheet → program_output a made.output ≡ sheet
    go (accepted count) e = accepted_inj _ sheet e
    go (refused number place) e = absurd (not_refused sheet number place (sym e))

prints_refusal : (made : Made) (number place : ℕ) → made.answer ≡ refused number place → printed made ≡ refusal_lines number place
unfolding program_output
prints_refusal made number place e = rw (e, program_output)

-- ---- the programs

abbrev pub settle_run : List ℕ → Made
settle_run input = settle_call (take most_read input) (zeros most_cells) (zeros (marks_length most_inputs)) (zeros most_settled)

abbrev pub make_run : List ℕ → Made
make_run input = make_call (take most_read input) (zeros most_cells) (zeros (marks_length most_inputs)) (zeros most_settled)

zeros_most : (k : ℕ) → k ≤ length (zeros k)
zeros_most k = le_of_eq (sym (length-replicate {A = ℕ} k 0))

-- a program's buffers are always long enough
zeros_ample : Ample (zeros most_cells) (zeros (marks_length most_inputs)) (zeros most_settled)
unfolding marks_length
zeros_ample = record { cells_most = zeros_most most_cells; marks_most = zeros_most most_marks; output_most = zeros_most most_settled }

module _ (input : List ℕ) where
  -- the settling program prints the settled sheet of an accepted net sheet, ..
  pub program_settles : (net : Net) → read_net (take most_read input) ≡ accepted net → settle_program input ≡ printed_net (settled_net (table_of_net net))
  unfolding settle_program
  program_settles net reads =
      prints_sheet (settle_run input) _ (settles (take most_read input) net reads _ _ _ (settle_ample (take most_read input) _ _ _ zeros_ample net reads))

  -- .. and the refusal of any other
  pub program_settle_refused : (number place : ℕ) → read_net (take most_read input) ≡ refused number place → settle_program input ≡ refusal_lines number place
  unfolding settle_program
  program_settle_refused number place e =
      prints_refusal (settle_run input) number place (ap (λ (made : Made). made.answer) (settle_refused (take most_read input) _ _ _ number place e))

  -- the making program prints the settled sheet of an accepted sheet of a full table with a tree, ..
  pub program_makes : (t : Table) → read_full (take most_read input) ≡ accepted t → HasTree t → make_program input ≡ printed_net (settled_net t)
  unfolding make_program
  program_makes t reads tree = elim (make_ample (take most_read input) _ _ _ zeros_ample t reads) [
    | no_tree_lem none answer ↦ absurd (none tree)
    | some_tree has sheet ↦ prints_sheet (make_run input) _ sheet
  ]

  -- .. 16 and its place if there is no tree, ..
  pub program_no_tree : (t : Table) → read_full (take most_read input) ≡ accepted t → (HasTree t → ⊥)
      → make_program input ≡ refusal_lines 16 (no_tree_place t.header.inputs (marks_of_table t))
  unfolding make_program
  program_no_tree t reads none = elim (make_ample (take most_read input) _ _ _ zeros_ample t reads) [
    | no_tree_lem _ answer ↦ prints_refusal (make_run input) 16 _ answer
    | some_tree has sheet ↦ absurd (none has)
  ]

  -- .. and the refusal of any other sheet
  pub program_make_refused : (number place : ℕ) → read_full (take most_read input) ≡ refused number place → make_program input ≡ refusal_lines number place
  unfolding make_program
  program_make_refused number place e =
      prints_refusal (make_run input) number place (ap (λ (made : Made). made.answer) (make_refused (take most_read input) _ _ _ number place e))

  -- So a program never prints 13, 14 or 15: its call gives only the numbers of its sheet, and making also 16.
  pub program_settle_numbers : Gives net_numbers (settle_run input).answer
  program_settle_numbers = settle_ample_numbers (take most_read input) _ _ _ zeros_ample

  pub program_make_numbers : Gives table_or_tree (make_run input).answer
  program_make_numbers = make_ample_numbers (take most_read input) _ _ _ zeros_ample
