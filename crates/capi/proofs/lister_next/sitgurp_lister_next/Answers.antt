-- `capi::lister_next::sitgurp_lister_next` meets its contract: the line at the position, and the position after it. Assumes nothing.
use Rattle.capi.specs.Lister.{line_given_lem, line_none}
use Rattle.laws.specs.Prelude.{arith}
use Rattle.capi.proofs.lister_next.sitgurp_lister_next.Goals as goal

pub returns-then-sheet-at : goal.returns-then-sheet-at
returns-then-sheet-at c = line_none _ _ _ _ c.line_end-end.ensures c.past_feed-next.ensures (omega arith)

pub returns : goal.returns
returns c = line_given_lem _ _ _ _ c.line_end-end.ensures c.past_feed-next.ensures (omega arith)
