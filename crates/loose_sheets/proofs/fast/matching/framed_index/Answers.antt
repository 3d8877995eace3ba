-- `loose_sheets::fast::matching::framed_index` meets its contract: the bytes are inside the sheet, and are weighed.
-- Assumes nothing.
use Rattle.laws.specs.Prelude.{arith}
use Rattle.loose_sheets.specs.Fast.Matching.{in_frame}
use Rattle.loose_sheets.proofs.fast.matching.framed_index.Goals as goal

pub returns : goal.returns
returns c =
    in_frame _ _ _ _ (omega (arith, c.if-width-eq0.false)) (omega (arith, c.if-s-at-2.false, c.if-s-at.false)) c.if-s-at-eq-SPACE.false
    c.weigh.result c.weigh.ensures
