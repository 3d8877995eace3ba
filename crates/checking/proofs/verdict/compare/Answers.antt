-- `checking::verdict::compare` meets its contract: the first pair that differs.
-- Assumes nothing.
use Rattle.laws.specs.Prelude.{rules}
use Rattle.std.proofs.lemmas.Iterator.{IsFirst-from_position, YieldsList-from_slice, YieldsList-from_zip}
use Rattle.checking.specs.Comparing.{PairDiffers, PairAgrees, pairs_compared}
use Rattle.checking.proofs.verdict.compare.Goals as goal

pub returns : goal.returns
returns c =
    let xs = c.args.xs.now in
    let ys = c.args.ys.now in
    pairs_compared c.args.m xs ys c.requires _
    (IsFirst-from_position c.position.new.self _ c.position.result (PairDiffers c.args.m) (PairAgrees c.args.m) c.position.ensures.ran
    (YieldsList-from_zip (YieldsList-from_slice xs cc) (YieldsList-from_slice ys cc)) (λ x q k. search rules) (λ x q k. search rules))
