-- `fields::header::names::is_name_byte` meets its contract.
-- Assumes nothing.
use Rattle.laws.specs.Prelude.{◌∙◌, sym}
use Rattle.fields.specs.Header.Names.{digit_low, digit_high}
use Rattle.fields.proofs.header.names.is_name_byte.Goals as goal

pub returns-then-is_letter : goal.returns-then-is_letter
returns-then-is_letter c = rw (← c.is_letter.ensures, c.if-is_letter.true)

pub returns-then-b-lt48 : goal.returns-then-b-lt48
returns-then-b-lt48 c = digit_low _ (sym c.is_letter.ensures ∙ c.if-is_letter.false) c.if-b-lt48.true

pub returns : goal.returns
returns c = digit_high _ (sym c.is_letter.ensures ∙ c.if-is_letter.false) c.if-b-lt48.false
