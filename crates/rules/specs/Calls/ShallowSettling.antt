-- Document 02, K2: making and settling that write the shallow net. They are document 01's calls with another net made of the table, and their
-- answer carries the count of layers.
-- Assumes nothing.
use Rattle.std.specs.Prelude.{ℕ, List}
use Rattle.rules.specs.Sheets.Sheets.{Net, Table}
use Rattle.rules.specs.Groups.Marks.{marks_of}
use Rattle.rules.specs.Nets.Layers.{layers}
use Rattle.rules.specs.Nets.Shallow.{shallow_gates}
use Rattle.rules.specs.Calls.Answers.{Answer, accepted, ink_in, onward, refused}
use Rattle.rules.specs.Sheets.Reading.{read_net, table_of_net}
use Rattle.rules.specs.Calls.OpenCells.{read_full}
use Rattle.rules.specs.Calls.Settling.{Made, made_into}

-- the shallow net of a table, under the table's header
unfoldable pub shallow_net : Table → Net
shallow_net t =
    let m = t.header.levels in
    let n = t.header.inputs in
    let f = ink_in t.inks in
    record { header = t.header; gates = shallow_gates m n f (marks_of m n f) }

-- how many layers a net has
unfoldable pub net_layers : Net → ℕ
net_layers net = layers net.header.inputs net.gates

-- "the answer carries the count": the sheet's length, and the layers of its net
pub record Layered : Type 0 where
  pub length : ℕ
  pub layers : ℕ

-- what the two calls return, and what their three buffers hold afterwards
pub record LayeredMade : Type 0 where
  pub answer : Answer Layered
  pub cells : List ℕ
  pub marks : List ℕ
  pub output : List ℕ

-- adds the count of layers to an accepted answer; a refusal keeps only its number and place
unfoldable pub layered : ℕ → Answer ℕ → Answer Layered
layered count answer = onward answer (λ length. accepted (record { length = length; layers = count }))

unfoldable pub with_layers : ℕ → Made → LayeredMade
with_layers count made = record { answer = layered count made.answer; cells = made.cells; marks = made.marks; output = made.output }

-- the result of making a net of a table, with the net's layers
unfoldable pub layered_into : (Table → Net) → Table → List ℕ → List ℕ → List ℕ → LayeredMade
layered_into net_for t cells marks output = with_layers (net_layers (net_for t)) (made_into net_for t cells marks output)

-- "Add a making and a settling that choose the tree with the fewest layers and are otherwise as document 01 has them."
unfoldable pub settle_shallow_call : List ℕ → List ℕ → List ℕ → List ℕ → LayeredMade
settle_shallow_call sheet cells marks output =
    elim (read_net sheet) [
      | refused number place ↦ record { answer = refused number place; cells = cells; marks = marks; output = output }
      | accepted net ↦ layered_into shallow_net (table_of_net net) cells marks output
    ]

-- .. "a making"
unfoldable pub make_shallow_call : List ℕ → List ℕ → List ℕ → List ℕ → LayeredMade
make_shallow_call sheet cells marks output =
    elim (read_full sheet) [
      | refused number place ↦ record { answer = refused number place; cells = cells; marks = marks; output = output }
      | accepted t ↦ layered_into shallow_net t cells marks output
    ]

-- all of this file computes
unfoldable pub computing : Unit {0}
unfolding shallow_net net_layers layered with_layers layered_into settle_shallow_call make_shallow_call
computing = tt
