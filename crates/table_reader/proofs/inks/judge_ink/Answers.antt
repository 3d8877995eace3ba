-- `table_reader::inks::judge_ink` meets its contract: the sign of an open cell, or a digit.
-- Assumes nothing.
use Rattle.laws.specs.Prelude.{◌∙◌, sym}
use Rattle.table_reader.specs.Inks.{ink_open, ink_digits}
use Rattle.table_reader.proofs.inks.judge_ink.Goals as goal

pub returns-then-same_bytes : goal.returns-then-same_bytes
returns-then-same_bytes c = ink_open _ _ (sym c.same_bytes.ensures ∙ c.if-same_bytes.true)

pub returns : goal.returns
returns c = c.judge_digit.ensures ∙ ink_digits _ _ (sym c.same_bytes.ensures ∙ c.if-same_bytes.false)
