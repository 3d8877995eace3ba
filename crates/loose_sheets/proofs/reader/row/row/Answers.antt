-- `loose_sheets::reader::row::row` meets its contract: the index, the mark at it, and the ink.
-- Assumes nothing.
use Rattle.std.proofs.lemmas.Result.{err_from_is_err_and}
use Rattle.laws.specs.Numbers.Sizes.{sized}
use Rattle.loose_sheets.specs.Reader.Row.{loose_row_back, row_given, row_on}
use Rattle.loose_sheets.proofs.reader.row.row.Goals as goal

pub returns-in_err-index : goal.returns-in_err-index
returns-in_err-index c =
    let p = err_from_is_err_and c.from_residual.result c.from_residual.ensures.1 in
    rw (p.1, p.2) (loose_row_back _ _ _ _ _ _ c.index_fields.ensures _ c.in_err-index.was)

pub returns-then-given-index-ne0 : goal.returns-then-given-index-ne0
returns-then-given-index-ne0 c = row_given _ _ _ _ _ _ c.index_fields.ensures _ c.in_ok-index.was c.if-given-index-ne0.true

pub row_ink-requires : goal.row_ink-requires
row_ink-requires c = (sized _ _ c.requires.0).levels_most

pub returns : goal.returns
returns c = row_on _ _ _ _ _ _ c.index_fields.ensures _ c.in_ok-index.was c.row_ink.result c.if-given-index-ne0.false c.row_ink.ensures
