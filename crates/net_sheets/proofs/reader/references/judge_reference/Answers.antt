-- `net_sheets::reader::references::judge_reference` meets its contract: looked up (7), then compared with the marks (8).
-- Assumes nothing.
use Rattle.net_sheets.specs.Reader.References.{judged_none, judged_used, judged_free}
use Rattle.net_sheets.proofs.reader.references.judge_reference.Goals as goal

pub returns-then-used-r : goal.returns-then-used-r
returns-then-used-r c =
    judged_used _ _ _ _ _ c.reference_of.ensures c.requires _ c.in-Some.is _ c.if-used-r.true

pub returns-in-None : goal.returns-in-None
returns-in-None c = judged_none _ _ _ _ _ c.reference_of.ensures _ c.in-None.is

pub returns-else-used-r : goal.returns-else-used-r
returns-else-used-r c =
    judged_free _ _ _ _ _ c.reference_of.ensures c.requires _ c.in-Some.is _ c.if-used-r.false
