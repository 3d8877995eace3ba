-- `accepted::both::read_beside` meets its contract: the refusals of the table sheet, then the comparison of the headers.
-- Assumes nothing.
use Rattle.accepted.specs.Taken.{read_table_refused, table_taken}
use Rattle.accepted.specs.Both.{both_table_refused, both_differ, both_accepted}
use Rattle.accepted.proofs.both.read_beside.Goals as goal

pub same_header-same-requires : goal.same_header-same-requires
same_header-same-requires c = (c.requires.0.header, (table_taken _ _ _ c.read_table.ensures _ c.in-Ok.is).header)

pub returns-then-not-same : goal.returns-then-not-same
returns-then-not-same c =
    both_differ _ _ _ _ _ c.requires.0 _ (table_taken _ _ _ c.read_table.ensures _ c.in-Ok.is) _
    c.same_header-same.ensures c.if-not-same.true-raw

pub returns-in-Err : goal.returns-in-Err
returns-in-Err c = both_table_refused _ _ _ _ _ c.requires.0 _ (read_table_refused _ _ _ c.read_table.ensures _ c.in-Err.is)

pub returns-else-not-same : goal.returns-else-not-same
returns-else-not-same c =
    both_accepted _ _ _ _ _ c.requires.0 _ (table_taken _ _ _ c.read_table.ensures _ c.in-Ok.is) _
    c.same_header-same.ensures c.if-not-same.false-raw
