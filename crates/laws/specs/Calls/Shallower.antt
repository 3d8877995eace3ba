-- The shallower of two sheets, one law for each outcome.
-- Assumes nothing.
use Rattle.std.specs.Prelude.{◌<◌, ◌≤◌, ◌≡◌}
use Rattle.laws.specs.Prelude.{ℕ, refl, List, lt-ltb, le-ltb}
use Rattle.rules.specs.Calls.Answers.{accepted, onward, refused}
use Rattle.rules.specs.Calls.ShallowSettling.{net_layers}
use Rattle.rules.specs.Sheets.Reading.{read_net}
use Rattle.rules.specs.Sheets.Sheets.{Net}
use Rattle.rules.specs.Calls.Shallower.{first_sheet, second_sheet, no_sheet, layers_in, which_by}

-- ---- one sheet

module _ (s : List ℕ) where
  pub layers_refused : (number place : ℕ) → read_net s ≡ refused number place → layers_in s ≡ refused number place
  unfolding layers_in onward
  layers_refused number place e = rw e

  pub layers_accepted : (net : Net) → read_net s ≡ accepted net → layers_in s ≡ accepted (net_layers net)
  unfolding layers_in onward
  layers_accepted net e = rw e

-- ---- two readable sheets

module _ (a b : ℕ) where
  pub hands_second_shallower : b < a → which_by (accepted a) (accepted b) ≡ second_sheet
  unfolding which_by
  hands_second_shallower h = rw (lt-ltb b a h, which_by)

  -- "the first when level"
  pub first_kept : a ≤ b → which_by (accepted a) (accepted b) ≡ first_sheet
  unfolding which_by
  first_kept h = rw (le-ltb b a h, which_by)

-- ---- "An unreadable sheet loses to a readable one, and two unreadable ones give an empty part of the first"

module _ (number place : ℕ) where
  pub hands_first_readable : (a : ℕ) → which_by (accepted a) (refused number place) ≡ first_sheet
  unfolding which_by
  hands_first_readable a = refl

  pub hands_second_readable : (b : ℕ) → which_by (refused number place) (accepted b) ≡ second_sheet
  unfolding which_by
  hands_second_readable b = refl

  pub hands_none : (number_2 place_2 : ℕ) → which_by (refused number place) (refused number_2 place_2) ≡ no_sheet
  unfolding which_by
  hands_none number_2 place_2 = refl
