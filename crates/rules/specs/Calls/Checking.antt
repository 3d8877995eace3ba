-- Document 01, section 'The rest': checking. Its verdict, and what its buffer holds afterwards.
-- Assumes nothing.
use Rattle.std.specs.Prelude.{ℕ, Bool, true, false, not, ◌&&◌, List, [], ◌∷◌, length, get_or, eqb, ltb}
use Rattle.rules.specs.Lists.{range, first_place, same}
use Rattle.rules.specs.Sheets.Sheets.{Header, Net, Table}
use Rattle.rules.specs.Calls.Answers.{Named, accepted, neither, net_named, refused, table_named, written}
use Rattle.rules.specs.Sheets.Reading.{read_net, read_table, table_of_net}
use Rattle.rules.specs.Calls.OpenCells.{is_open_of}

-- "it answers agreement or the lowest index that differs"; "names the sheet it refuses; 12 names neither", nor does 13
pub data Verdict : Type 0 where
  agree : Verdict
  differ : ℕ → Verdict
  turned_down : Named → ℕ → ℕ → Verdict

-- what checking returns, and what its buffer holds afterwards
pub record Checked : Type 0 where
  pub answer : Verdict
  pub cells : List ℕ

-- "The names of two sheets are the same only when they stand in the same order."
unfoldable pub same_names_of : List (List ℕ) → List (List ℕ) → Bool
same_names_of [] [] = true
same_names_of [] (w ∷ ws) = false
same_names_of (v ∷ vs) [] = false
same_names_of (v ∷ vs) (w ∷ ws) = same v w && same_names_of vs ws

-- the same m, n and names
unfoldable pub same_header : Header → Header → Bool
same_header h k = eqb h.levels k.levels && eqb h.inputs k.inputs && same_names_of h.names k.names

-- Agreement, or the lowest index at which the inks of a net and of a table of m levels differ. "A check passes over open assignments, for its
-- agreement and for the lowest index that differs." (document 02, K13)
unfoldable pub compared : ℕ → List ℕ → List ℕ → Verdict
compared m xs ys =
    let at = first_place (λ p. not (is_open_of m (get_or ys p 0)) && not (eqb (get_or xs p 0) (get_or ys p 0))) (range 0 (length xs)) in
    elim (ltb at (length xs)) [ true ↦ differ at | false ↦ agree ]

-- 12: "checked sheets differ in m, n or names; place 0". 13: cells buffer short. "it .. puts the table sheet's inks in the
-- cells buffer", whether they agree or not
unfoldable pub checked_into : Net → Table → List ℕ → Checked
checked_into net t cells =
    elim (same_header net.header t.header) [
      | false ↦ record { answer = turned_down neither 12 0; cells = cells }
      | true ↦ elim (ltb (length cells) (length t.inks)) [
        | true ↦ record { answer = turned_down neither 13 (length t.inks); cells = cells }
        | false ↦ record { answer = compared t.header.levels (table_of_net net).inks t.inks; cells = written cells t.inks }
      ]
    ]

-- "*Checking*: a net sheet against a table sheet". "A call that refuses either of two sheets judges the net first"
unfoldable pub check_call : List ℕ → List ℕ → List ℕ → Checked
check_call net_sheet_lem table_sheet_lem cells =
    elim (read_net net_sheet_lem) [
      | refused number place ↦ record { answer = turned_down net_named number place; cells = cells }
      | accepted net ↦ elim (read_table table_sheet_lem) [
        | refused number place ↦ record { answer = turned_down table_named number place; cells = cells }
        | accepted t ↦ checked_into net t cells
      ]
    ]

-- all of this file computes
unfoldable pub computing : Unit {0}
unfolding same_names_of same_header compared checked_into check_call
computing = tt
