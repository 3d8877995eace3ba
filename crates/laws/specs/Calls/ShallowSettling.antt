-- The results of the two calls that write a shallow net, one law for each outcome; with the count of layers and without it.
-- Assumes nothing.
use Rattle.std.specs.Prelude.{◌≡◌}
use Rattle.laws.specs.Prelude.{ℕ, refl, List}
use Rattle.rules.specs.Calls.Answers.{Answer, accepted, refused, onward}
use Rattle.rules.specs.Calls.OpenCells.{read_full}
use Rattle.rules.specs.Calls.Settling.{Made, made_into}
use Rattle.rules.specs.Calls.ShallowSettling.{Layered, LayeredMade, layered, with_layers, layered_into, settle_shallow_call, make_shallow_call, shallow_net}
use Rattle.rules.specs.Sheets.Reading.{read_net, table_of_net}
use Rattle.rules.specs.Sheets.Sheets.{Net, Table}

-- an answer without its count of layers
unfoldable pub plain_answer : Answer Layered → Answer ℕ
plain_answer answer = onward answer (λ a. accepted a.length)

-- removing the count that was added gives the answer back
pub plain_layered : (count : ℕ) (answer : Answer ℕ) → plain_answer (layered count answer) ≡ answer
unfolding plain_answer layered onward
plain_layered count (accepted length) = refl
plain_layered count (refused number place) = refl

-- the same for the whole result, with its buffers
unfoldable pub plain_made : LayeredMade → Made
plain_made made = record { answer = plain_answer made.answer; cells = made.cells; marks = made.marks; output = made.output }

pub plain_made_lem : (count : ℕ) (made : Made) → plain_made (with_layers count made) ≡ made
unfolding plain_made with_layers
plain_made_lem count made = λ i. record { answer = plain_layered count made.answer i; cells = made.cells; marks = made.marks; output = made.output }

pub plain_into : (net_for : Table → Net) (t : Table) (cells marks output : List ℕ)
    → plain_made (layered_into net_for t cells marks output) ≡ made_into net_for t cells marks output
unfolding layered_into
plain_into net_for t cells marks output = plain_made_lem _ _

-- a sheet that is refused, and one that is accepted
module _ (s cells marks output : List ℕ) where
  pub settle_shallow_refused : (number place : ℕ) → read_net s ≡ refused number place
      → settle_shallow_call s cells marks output ≡ record { answer = refused number place; cells = cells; marks = marks; output = output }
  unfolding settle_shallow_call
  settle_shallow_refused number place e = rw (e, settle_shallow_call)

  pub settle_shallow_accepted : (net : Net) → read_net s ≡ accepted net
      → settle_shallow_call s cells marks output ≡ layered_into shallow_net (table_of_net net) cells marks output
  unfolding settle_shallow_call
  settle_shallow_accepted net e = rw (e, settle_shallow_call)

  pub make_shallow_refused : (number place : ℕ) → read_full s ≡ refused number place
      → make_shallow_call s cells marks output ≡ record { answer = refused number place; cells = cells; marks = marks; output = output }
  unfolding make_shallow_call
  make_shallow_refused number place e = rw (e, make_shallow_call)

  pub make_shallow_accepted : (t : Table) → read_full s ≡ accepted t → make_shallow_call s cells marks output ≡ layered_into shallow_net t cells marks output
  unfolding make_shallow_call
  make_shallow_accepted t e = rw (e, make_shallow_call)
