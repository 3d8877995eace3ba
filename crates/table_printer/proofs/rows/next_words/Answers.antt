-- `table_printer::rows::next_words` meets its contract: the last four change and, if they become zeros, those before them too.
-- Assumes nothing.
use Rattle.laws.specs.Prelude.{arith}
use Rattle.table_printer.specs.Rows.Next.{for_four, row_stays, row_turns}
use Rattle.table_printer.proofs.rows.next_words.Goals as goal

pub returns-then-last-ne-ZEROS : goal.returns-then-last-ne-ZEROS
returns-then-last-ne-ZEROS c ls row =
    let four = for_four _ _ _ c.next_four-last.ensures row.four row.count row.below row.last in
    row_stays _ _ _ _ ls row _ four c.if-last-ne-ZEROS.true

pub returns : goal.returns
returns c ls row =
    let four = for_four _ _ _ c.next_four-last.ensures row.four row.count row.below row.last in
    row_turns _ _ _ _ ls row _ four (omega (arith, c.requires.1)) c.requires.3 c.if-last-ne-ZEROS.false _
    c.next_levels.ensures _ c.words_of-front.ensures
