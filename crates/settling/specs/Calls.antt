-- Settling and making with either choice of a net: their results, and how the calls of document 01 and of the shallow net follow from them.
-- Assumes nothing.
use Rattle.std.specs.Prelude.{◌-◌, ◌^◌, ◌≡◌, Result}
use Rattle.laws.specs.Prelude.{ℕ, ◌∙◌, sym, ap, refl, List, take}
use Rattle.rules.specs.Sheets.Sheets.{Table}
use Rattle.rules.specs.Sheets.Sheets as sheets
use Rattle.rules.specs.Calls.Answers.{Answer, accepted, onward, refused}
use Rattle.rules.specs.Sheets.Reading.{read_net, table_of_net}
use Rattle.rules.specs.Calls.OpenCells.{read_full}
use Rattle.rules.specs.Calls.Settling.{settled_net, after_marks, settle_call, make_call}
use Rattle.rules.specs.Calls.ShallowSettling.{LayeredMade, layered_into, make_shallow_call, net_layers, settle_shallow_call, with_layers}
use Rattle.laws.specs.Calls.Settling.{settle_accepted, settle_refused, make_accepted, make_refused}
use Rattle.laws.specs.Calls.ShallowSettling.{plain_answer, plain_made, plain_made_lem, settle_shallow_refused, settle_shallow_accepted}
use Rattle.laws.specs.Calls.ShallowSettling.{make_shallow_refused, make_shallow_accepted}
use Rattle.answers.specs.declared.layered.Layered as own
use Rattle.answers.specs.declared.refusal.Refusal.{Refusal}
use Rattle.answers.specs.AnswerMaps.{answer_of, made_of}
use Rattle.answers.specs.Layered.{layered_of, layered_made_of}
use Rattle.nets.specs.declared.forms.Header.{Header}
use Rattle.nets.specs.declared.forms.Net.{Net}
use Rattle.nets.specs.Evaluating.{Tabled}
use Rattle.nets.specs.Forms.{table_in}
use Rattle.wirings.specs.declared.choice.Choice.{Choice}
use Rattle.wirings.specs.declared.choice.Choice.TheVariants.{Settled, Shallow}
use Rattle.accepted.specs.Taken.{NetTaken, Given, own_cells, front_table, front_given}
use Rattle.settling.specs.Outcomes.{net_by, layered_refused, layered_marked}
use Rattle.settling.specs.Input.{SettlingTurnedBack, by_sheet, by_room, InputTaken}

-- ---- a call with either choice of a net

unfoldable pub settled_layers : List ℕ → List ℕ → List ℕ → List ℕ → LayeredMade
settled_layers sheet cells marks output =
    elim (read_net sheet) [
      | refused number place ↦ record { answer = refused number place; cells = cells; marks = marks; output = output }
      | accepted net ↦ layered_into settled_net (table_of_net net) cells marks output
    ]

unfoldable pub made_layers : List ℕ → List ℕ → List ℕ → List ℕ → LayeredMade
made_layers sheet cells marks output =
    elim (read_full sheet) [
      | refused number place ↦ record { answer = refused number place; cells = cells; marks = marks; output = output }
      | accepted t ↦ layered_into settled_net t cells marks output
    ]

abbrev pub settles_by : Choice → List ℕ → List ℕ → List ℕ → List ℕ → LayeredMade
settles_by Settled = settled_layers
settles_by Shallow = settle_shallow_call

abbrev pub makes_by : Choice → List ℕ → List ℕ → List ℕ → List ℕ → LayeredMade
makes_by Settled = made_layers
makes_by Shallow = make_shallow_call

pub settles_refused : (choice : Choice) (s cells marks output : List ℕ) (number place : ℕ) → read_net s ≡ refused number place
    → settles_by choice s cells marks output ≡ record { answer = refused number place; cells = cells; marks = marks; output = output }
unfolding settled_layers
settles_refused Settled s cells marks output number place e = rw (e, settled_layers)
settles_refused Shallow s cells marks output number place e = settle_shallow_refused s cells marks output number place e

settles_accepted : (choice : Choice) (s cells marks output : List ℕ) (net : sheets.Net) → read_net s ≡ accepted net
    → settles_by choice s cells marks output ≡ layered_into (net_by choice) (table_of_net net) cells marks output
unfolding settled_layers
settles_accepted Settled s cells marks output net e = rw (e, settled_layers)
settles_accepted Shallow s cells marks output net e = settle_shallow_accepted s cells marks output net e

makes_refused : (choice : Choice) (s cells marks output : List ℕ) (number place : ℕ) → read_full s ≡ refused number place
    → makes_by choice s cells marks output ≡ record { answer = refused number place; cells = cells; marks = marks; output = output }
unfolding made_layers
makes_refused Settled s cells marks output number place e = rw (e, made_layers)
makes_refused Shallow s cells marks output number place e = make_shallow_refused s cells marks output number place e

makes_accepted : (choice : Choice) (s cells marks output : List ℕ) (t : Table) → read_full s ≡ accepted t
    → makes_by choice s cells marks output ≡ layered_into (net_by choice) t cells marks output
unfolding made_layers
makes_accepted Settled s cells marks output t e = rw (e, made_layers)
makes_accepted Shallow s cells marks output t e = make_shallow_accepted s cells marks output t e

-- ---- without the count of layers

module _ (s cells marks output : List ℕ) where
  -- document 01's settling, ..
  pub settles_plain : plain_made (settles_by Settled s cells marks output) ≡ settle_call s cells marks output
  unfolding plain_made plain_answer onward layered_into
  settles_plain = go (read_net s) refl
    where
      go : (a : Answer sheets.Net) → read_net s ≡ a → plain_made (settles_by Settled s cells marks output) ≡ settle_call s cells marks output
      go (accepted net) e =
          ap plain_made (settles_accepted Settled s cells marks output net e) ∙ plain_made_lem _ _ ∙ sym (settle_accepted s cells marks output net e)
      go (refused number place) e =
          ap plain_made (settles_refused Settled s cells marks output number place e) ∙ sym (settle_refused s cells marks output number place e)

  -- .. and making
  pub makes_plain : plain_made (makes_by Settled s cells marks output) ≡ make_call s cells marks output
  unfolding plain_made plain_answer onward layered_into
  makes_plain = go (read_full s) refl
    where
      go : (a : Answer Table) → read_full s ≡ a → plain_made (makes_by Settled s cells marks output) ≡ make_call s cells marks output
      go (accepted t) e =
          ap plain_made (makes_accepted Settled s cells marks output t e) ∙ plain_made_lem _ _ ∙ sym (make_accepted s cells marks output t e)
      go (refused number place) e =
          ap plain_made (makes_refused Settled s cells marks output number place e) ∙ sym (make_refused s cells marks output number place e)

-- a call's answer without its count, and the call's buffers
module _ (r : Result own.Layered Refusal) (answer : Result ℕ Refusal) (alone : answer_of answer ≡ plain_answer (layered_of r)) (cells marks output : List ℕ) (made : LayeredMade)
    (is : layered_made_of r cells marks output ≡ made) where
  pub made_plain : made_of answer cells marks output ≡ plain_made made
  unfolding plain_made
  made_plain = (λ i. record { answer = alone i; cells = cells; marks = marks; output = output }) ∙ ap plain_made is

-- ---- accepted sheets

-- a net, and its table as written by `table`
module _ (s : List ℕ) (h : Header) (net : Net) (taken : NetTaken s h net) (before after : List ℕ) (count : ℕ) (did : Tabled net before after count) where
  all_cells : count ≡ h.levels ^ h.inputs
  all_cells = did.result ∙ own_cells s h net taken

  pub net_given : Given s h (take (count - 0) after)
  net_given = front_given s h net taken before after count count did all_cells

  pub net_settled : (choice : Choice) (cells marks output : List ℕ)
      → layered_into (net_by choice) (table_in s h (take (count - 0) after)) cells marks output ≡ settles_by choice s cells marks output
  net_settled choice cells marks output =
      ap (λ t. layered_into (net_by choice) t cells marks output) (front_table s h net taken before after count count did all_cells)
      ∙ sym (settles_accepted choice s cells marks output _ taken.reads)

-- a table sheet: refused, or with room for its table
module _ (choice : Choice) (s cells marks output : List ℕ) where
  pub makes_turned : {number place : ℕ} → SettlingTurnedBack s cells marks number place
      → record { answer = refused number place; cells = cells; marks = marks; output = output } ≡ makes_by choice s cells marks output
  makes_turned (by_sheet e) = sym (makes_refused choice s cells marks output _ _ e)
  makes_turned (by_room t reads short) =
      layered_refused (net_by choice) t cells marks output _ _ short ∙ sym (makes_accepted choice s cells marks output t reads)

  pub makes_marked : (h : Header) (inks : List ℕ) → InputTaken s h inks cells marks
      → with_layers (net_layers (net_by choice (table_in s h inks)))
      (after_marks (net_by choice) (table_in s h inks) cells marks output) ≡ makes_by choice s cells marks output
  makes_marked h inks taken =
      layered_marked (net_by choice) (table_in s h inks) cells marks output taken.room ∙ sym (makes_accepted choice s cells marks output _ taken.reads)
