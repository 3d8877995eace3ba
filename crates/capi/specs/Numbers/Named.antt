-- The sheet that a refusal names, as a number.
-- Assumes nothing.
use Rattle.std.specs.Prelude.{ℕ}
use Rattle.rules.specs.Calls.Answers.{Named, net_named, table_named, neither}

abbrev pub flat_named : Named → ℕ
flat_named net_named = 1
flat_named table_named = 2
flat_named neither = 0
