-- `table_reader::sheet::table_head` meets its contract: the header, then the word.
-- Assumes nothing.
use Rattle.std.proofs.lemmas.Result.{err_from_is_err_and}
use Rattle.rules.specs.Text.{space, text}
use Rattle.table_reader.specs.Head.{head_refused, word_refused, word_read}
use Rattle.table_reader.proofs.sheet.table_head.Goals as goal

pub returns-in_err-lines : goal.returns-in_err-lines
unfolding space
returns-in_err-lines c =
    let p = err_from_is_err_and c.from_residual.result c.from_residual.ensures.1 in
    rw (p.1, p.2) (head_refused _ _ _ c.header_lines_in.ensures _ c.in_err-lines.was)

pub returns-in_err-word : goal.returns-in_err-word
unfolding space text
returns-in_err-word c =
    let p = err_from_is_err_and c.from_residual-in_err-word.result c.from_residual-in_err-word.ensures.1 in
    rw (p.1, p.2) (word_refused _ _ _ c.header_lines_in.ensures _ c.in_ok-lines.was _ c.word_field_in.ensures _ c.in_err-word.was)

pub returns : goal.returns
unfolding space text
returns c = word_read _ _ _ c.header_lines_in.ensures _ c.in_ok-lines.was _ c.word_field_in.ensures _ c.in_ok-word.was
