-- `table_printer::rows::put_front` meets its contract: one word, or two.
-- Assumes nothing.
use Rattle.laws.specs.Prelude.{arith}
use Rattle.table_printer.specs.Rows.Words.{four_put, eight_put}
use Rattle.table_printer.proofs.rows.put_front.Goals as goal

pub returns-then-n-le8 : goal.returns-then-n-le8
returns-then-n-le8 c =
    four_put _ _ _ _ c.requires.0 _ c.if-n-le8.true c.put_word.ensures

pub returns : goal.returns
returns c =
    eight_put _ _ _ _ c.requires.0 _ _ (omega (arith, c.if-n-le8.false)) c.requires.1 c.put_word.ensures
    c.put_word-2.ensures
