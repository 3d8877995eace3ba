-- Document 02, K10: a wiring kept. "On a masked panel only gate tables can be rewritten. Take a net sheet and a table sheet with the same m, n and
-- names. Fill the gates anew by the settled net's class rule over the given wiring, and write the sheet."
-- Assumes nothing.
use Rattle.std.specs.Prelude.{ℕ, suc, ◌-◌, ◌^◌, Bool, true, false, not, ◌&&◌, List, [], map, length, get_or, eqb, ltb}
use Rattle.rules.specs.Lists.{range, first_place, those, same, total, any}
use Rattle.rules.specs.Sheets.Sheets.{Gate, Net, Table, used_by}
use Rattle.rules.specs.Sheets.Printed.{printed_net}
use Rattle.rules.specs.Groups.Groups.{multiplicity}
use Rattle.rules.specs.Nets.Wirings.{Link}
use Rattle.rules.specs.Nets.Filling.{filled}
use Rattle.rules.specs.Nets.Leaves.{matters}
use Rattle.rules.specs.Nets.Family.{gate_groups}
use Rattle.rules.specs.Calls.Answers.{Named, accepted, ink_in, neither, net_named, refused, table_named, written}
use Rattle.rules.specs.Sheets.Reading.{read_net, read_table}
use Rattle.rules.specs.Calls.OpenCells.{full_table}
use Rattle.rules.specs.Calls.Checking.{same_header}

-- ---- the wiring, and its gates filled anew

-- a gate line without its table
abbrev pub link_of : Gate → Link
link_of g = record { left = g.left; right = g.right }

-- "the given wiring": left and right of every gate line, in the lines' order
abbrev pub gate_links : List Gate → List Link
gate_links gates = map link_of gates

-- "Fill the gates anew by the settled net's class rule over the given wiring"
unfoldable pub kept_gates : ℕ → ℕ → (ℕ → ℕ) → List Gate → List Gate
kept_gates m n f gates = filled m n f (gate_links gates)

-- the net with the given net's header and wiring, for the table
unfoldable pub kept_net : Net → Table → Net
kept_net net t =
    record { header = net.header; gates = kept_gates net.header.levels net.header.inputs (ink_in t.inks) net.gates }

-- the number of gates before "the first gate whose group has more than m classes"; all of them if there is none
unfoldable pub roomy_gates : ℕ → ℕ → (ℕ → ℕ) → List Gate → ℕ
roomy_gates m n f gates = first_place (λ g. ltb m (multiplicity m n f g)) (gate_groups n gates)

-- the same for a net and a table
unfoldable pub roomy_before : Net → Table → ℕ
roomy_before net t = roomy_gates net.header.levels net.header.inputs (ink_in t.inks) net.gates

-- "A kept wiring that leaves out an input that matters" (document 02, K12)
unfoldable pub leaves_out : Net → Table → Bool
leaves_out net t =
    let m = net.header.levels in
    let n = net.header.inputs in
    any (λ i. not (any (eqb i) (used_by net.gates)) && matters m n (ink_in t.inks) i) (range 0 n)

-- ---- the gates that changed

-- the table of gate k, numbered from 1
abbrev pub table_at : List Gate → ℕ → List ℕ
table_at gates k = get_or (map (λ g. g.digits) gates) (k - 1) []

-- gate k's "table field differs from the old one"
unfoldable pub table_differs : List Gate → List Gate → ℕ → Bool
table_differs old new k = not (same (table_at old k) (table_at new k))

-- "the set of the gates whose table field differs from the old one, as the sum of 2 to the power of each one's number"
unfoldable pub changed_gates : List Gate → List Gate → ℕ
changed_gates old new = total (map (λ k. 2 ^ k) (those (table_differs old new) (range 1 (length old))))

-- ---- the call

-- the sheet's length and the set of the gates that changed; or a refusal: the sheet it names, its number and its place
pub data Keeping : Type 0 where
  rewritten : ℕ → ℕ → Keeping
  turned_away : Named → ℕ → ℕ → Keeping

-- what the call returns, and what its two buffers hold afterwards
pub record KeptWiring : Type 0 where
  pub answer : Keeping
  pub cells : List ℕ
  pub output : List ℕ

-- What is judged once both sheets are read, in this order: 12; 27, which names the table sheet; 13; 23 at 0; 23 at a gate; 15. "A kept wiring that
-- leaves out an input that matters is refused with 23 at place 0, before its gates are judged." (document 02, K12) 12: the sheets differ in m, n or
-- names. 13: cells buffer short. "23, place the number of the first gate whose group has more than m classes, judged after 12 and 13 and before 15;
-- it names neither sheet and leaves the cells written."
-- 15: output short, with the cells written.
unfoldable pub kept_into : Net → Table → List ℕ → List ℕ → KeptWiring
kept_into net t cells output =
    let cells_then = written cells t.inks in
    let kept = kept_net net t in
    let sheet = printed_net kept in
    elim (same_header net.header t.header) [
      | false ↦ record { answer = turned_away neither 12 0; cells = cells; output = output }
      | true ↦ elim (full_table t) [
        | refused number place ↦ record { answer = turned_away table_named number place; cells = cells; output = output }
        | accepted _ ↦ elim (ltb (length cells) (length t.inks)) [
          | true ↦ record { answer = turned_away neither 13 (length t.inks); cells = cells; output = output }
          | false ↦ elim (leaves_out net t) [
            | true ↦ record { answer = turned_away neither 23 0; cells = cells_then; output = output }
            | false ↦ elim (ltb (roomy_before net t) (length net.gates)) [
              | true ↦ record { answer = turned_away neither 23 (suc (roomy_before net t)); cells = cells_then; output = output }
              | false ↦ elim (ltb (length output) (length sheet)) [
                | true ↦ record { answer = turned_away neither 15 (length sheet); cells = cells_then; output = output }
                | false ↦ record {
                  answer = rewritten (length sheet) (changed_gates net.gates kept.gates);
                  cells = cells_then;
                  output =
                      written output sheet;
                }
              ]
            ]
          ]
        ]
      ]
    ]

-- "Take a net sheet and a table sheet". "A call that refuses either of two sheets judges the net first, and names the sheet it refuses" (document 01)
unfoldable pub keep_call : List ℕ → List ℕ → List ℕ → List ℕ → KeptWiring
keep_call net_sheet_lem table_sheet_lem cells output =
    elim (read_net net_sheet_lem) [
      | refused number place ↦ record { answer = turned_away net_named number place; cells = cells; output = output }
      | accepted net ↦ elim (read_table table_sheet_lem) [
        | refused number place ↦ record { answer = turned_away table_named number place; cells = cells; output = output }
        | accepted t ↦ kept_into net t cells output
      ]
    ]

-- all of this file computes
unfoldable pub computing : Unit {0}
unfolding kept_gates kept_net roomy_gates roomy_before leaves_out table_differs changed_gates kept_into keep_call
computing = tt
