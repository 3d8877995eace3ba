-- Every earlier gate is used: the test that reading makes (`earlier_used`) agrees with the rule for a net (`EarlierUsed`).
-- Assumes nothing.
use Rattle.std.specs.Prelude.{◌-◌, ◌≡◌}
use Rattle.laws.specs.Prelude.{ℕ, true, List, arith, length}
use Rattle.rules.specs.Lists.{range}
use Rattle.rules.specs.Sheets.SheetRules.{EarlierUsed}
use Rattle.rules.specs.Sheets.Sheets.{Gate, earlier_used}
use Rattle.laws.specs.Lists.Tests.{all_mem, mem_all}
use Rattle.laws.specs.Lists.Ranges.{range_mem, mem_range}

module _ (n : ℕ) (gates : List Gate) where
  pub earlier_used_lem : earlier_used n gates ≡ true → EarlierUsed n gates
  unfolding earlier_used
  earlier_used_lem e k h = all_mem _ (mem_range 0 (length gates - 1) k (omega arith) (omega arith)) e

  pub used_earlier : EarlierUsed n gates → earlier_used n gates ≡ true
  unfolding earlier_used
  used_earlier used = mem_all _ (range 0 (length gates - 1)) (λ k is. used k (omega (arith, range_mem 0 (length gates - 1) k is)))
