-- A net's table in a buffer.
-- Assumes nothing.
use Rattle.std.specs.Prelude.{◌^◌, ◌≡◌}
use Rattle.laws.specs.Prelude.{ℕ, List, take}
use Rattle.rules.specs.Nets.Value.{table_of}
use Rattle.rules.specs.Calls.Answers.{written}
use Rattle.nets.specs.declared.forms.Net.{Net}
use Rattle.nets.specs.Forms.{gates_of}

-- the table is at the front; `count` is the number of its cells
pub record Tabled (net : Net) (before after : List ℕ) (count : ℕ) : Type 0 where
  pub result : count ≡ net.levels ^ net.inputs
  pub front : take count after ≡ table_of net.levels net.inputs (gates_of net)
  pub cells : after ≡ written before (table_of net.levels net.inputs (gates_of net))
