-- `fields::header::names::is_name` meets its contract: the tests that led to each return.
-- Assumes nothing.
use Rattle.laws.specs.Prelude.{◌∙◌, sym, ap, not}
use Rattle.rules.specs.Text.{text}
use Rattle.fields.specs.Header.Names.{name_long, name_empty, name_first, name_bytes_lem, name_good}
use Rattle.fields.proofs.header.names.is_name.Goals as goal

pub returns-then-w-gt-MOST_NAME_BYTES : goal.returns-then-w-gt-MOST_NAME_BYTES
returns-then-w-gt-MOST_NAME_BYTES c = name_long _ c.if-w-gt-MOST_NAME_BYTES.true

pub returns-then-w-eq0 : goal.returns-then-w-eq0
returns-then-w-eq0 c = name_empty _ c.if-w-eq0.true

pub returns-then-not-is_letter : goal.returns-then-not-is_letter
returns-then-not-is_letter c = name_first _ c.if-w-gt-MOST_NAME_BYTES.false c.if-w-eq0.false
    (sym c.is_letter.ensures ∙ c.if-not-is_letter.true)

pub returns-then-not-are_name_bytes : goal.returns-then-not-are_name_bytes
returns-then-not-are_name_bytes c = name_bytes_lem _ c.if-w-gt-MOST_NAME_BYTES.false c.if-w-eq0.false
    (sym c.is_letter.ensures ∙ c.if-not-is_letter.false)
    (sym c.are_name_bytes.ensures ∙ c.if-not-are_name_bytes.true)

pub returns : goal.returns
unfolding text
returns c = ap not c.same_bytes.ensures ∙ name_good _ c.if-w-gt-MOST_NAME_BYTES.false
    c.if-w-eq0.false (sym c.is_letter.ensures ∙ c.if-not-is_letter.false)
    (sym c.are_name_bytes.ensures ∙ c.if-not-are_name_bytes.false)
