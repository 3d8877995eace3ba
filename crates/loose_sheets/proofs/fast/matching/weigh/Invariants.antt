-- `loose_sheets::fast::matching::weigh` meets its contract. The loop's invariant: k bytes fit unless `over`, and the sum is theirs.
-- Assumes nothing.
use Rattle.std.specs.Prelude.{◌^◌, ◌%◌, ◌≡◌}
use Rattle.laws.specs.Prelude.{false}
use Rattle.loose_sheets.specs.Fast.Matching.{Fit, counted}
use Rattle.loose_sheets.proofs.fast.matching.weigh.Given as goal

abbrev pub invariant-loop-k : goal.invariant-loop-k
invariant-loop-k l = record {
  fit : l.over ≡ false → Fit l.s l.at l.frame l.k;
  sum : l.sum ≡ counted l.s l.at l.frame l.k % 2 ^ 16;
}
