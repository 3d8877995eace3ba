-- Document 02, K2: the shallower of two net sheets.
-- Assumes nothing.
use Rattle.std.specs.Prelude.{ℕ, true, false, List, [], ltb}
use Rattle.rules.specs.Calls.Answers.{Answer, accepted, onward, refused}
use Rattle.rules.specs.Sheets.Reading.{read_net}
use Rattle.rules.specs.Calls.ShallowSettling.{net_layers}

-- the layers of a sheet's net, as it is wired
unfoldable pub layers_in : List ℕ → Answer ℕ
layers_in sheet = onward (read_net sheet) (λ net. accepted (net_layers net))

-- which of two sheets is returned: one of them, or an empty part of the first
pub data Which : Type 0 where
  first_sheet second_sheet no_sheet : Which

-- "hands back the shallower sheet itself, the first when level. An unreadable sheet loses to a readable one, and two unreadable ones give an
-- empty part of the first"
unfoldable pub which_by : Answer ℕ → Answer ℕ → Which
which_by (accepted a) (accepted b) = elim (ltb b a) [ true ↦ second_sheet | false ↦ first_sheet ]
which_by (accepted a) (refused _ _) = first_sheet
which_by (refused _ _) (accepted b) = second_sheet
which_by (refused _ _) (refused _ _) = no_sheet

-- "A call takes two net sheets"
unfoldable pub which_of : List ℕ → List ℕ → Which
which_of first second = which_by (layers_in first) (layers_in second)

-- The bytes returned. The contract of the code (crate `shallower`) says that this is the sheet itself, a part of the memory lent: its
-- result is one of the two slices.
unfoldable pub shallower_call : List ℕ → List ℕ → List ℕ
shallower_call first second = elim (which_of first second) [ first_sheet ↦ first | second_sheet ↦ second | no_sheet ↦ [] ]

-- all of this file computes
unfoldable pub computing : Unit {0}
unfolding layers_in which_by which_of shallower_call
computing = tt
