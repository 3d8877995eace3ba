-- `fields::header::keys::same_key` meets its contract.
-- Assumes nothing.
use Rattle.fields.specs.Header.Keys.{key_differs, key_same}
use Rattle.fields.proofs.header.keys.same_key.Goals as goal

pub returns-then-key-other : goal.returns-then-key-other
returns-then-key-other c = key_differs _ _ _ _ c.if-key-other.true

pub returns : goal.returns
returns c = key_same _ _ _ _ c.if-key-other.false
