-- `table_reader::levels::is_level` meets its contract, by the field's length and byte.
-- Assumes nothing.
use Rattle.laws.specs.Prelude.{◌∙◌, ne_eqb}
use Rattle.table_reader.specs.Levels.{level_long, table_level_byte}
use Rattle.table_reader.proofs.levels.is_level.Goals as goal

pub returns-then-w-eq1 : goal.returns-then-w-eq1
returns-then-w-eq1 c = table_level_byte _ _ c.if-w-eq1.true

pub returns-else-w-eq1 : goal.returns-else-w-eq1
returns-else-w-eq1 c = ne_eqb _ 1 c.if-w-eq1.false ∙ level_long _ _ c.if-w-eq1.false
