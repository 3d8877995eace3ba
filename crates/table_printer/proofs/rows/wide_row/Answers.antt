-- `table_printer::rows::wide_row` meets its contract: the levels, and then the ink.
-- Assumes nothing.
use Rattle.laws.specs.Prelude.{arith, length-set}
use Rattle.rules.specs.Text.{newline}
use Rattle.net_sheets.specs.Text.Put.{bytes_left, none_left}
use Rattle.table_printer.specs.Rows.Words.{ink_left}
use Rattle.table_printer.proofs.rows.wide_row.Goals as goal

pub returns : goal.returns
unfolding newline
returns c m levels ls few row =
    none_left (bytes_left (ink_left m _ _ levels ls row (omega arith) c.requires.0 c.requires.1 _ _ _ _ _ _ c.requires.2 c.put_front.ensures
    c.put_word.ensures))

pub bounds-out-p-2 : goal.bounds-out-p-2
bounds-out-p-2 c = simp length-set (omega arith)
