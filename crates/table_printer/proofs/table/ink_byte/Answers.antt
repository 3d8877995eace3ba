-- `table_printer::table::ink_byte` meets its contract: the two cases of the byte.
-- Assumes nothing.
use Rattle.std.specs.Prelude.{◌+◌, ◌≡◌}
use Rattle.laws.specs.Prelude.{ℕ, sym, arith}
use Rattle.rules.specs.Text.{digit_byte}
use Rattle.rules.specs.Sheets.Sheets.{ink_byte}
use Rattle.laws.specs.Nets.Inks.{open_byte_lem, level_byte}
use Rattle.table_printer.proofs.table.ink_byte.Goals as goal

digit : (m ink : ℕ) → (ink ≡ m → ⊥) → 48 + ink ≡ ink_byte m ink
unfolding digit_byte
digit m ink ne = sym (level_byte m ink ne)

pub returns-then-ink-m : goal.returns-then-ink-m
returns-then-ink-m c = sym (open_byte_lem c.args.m c.args.ink c.if-ink-m.true)

pub returns : goal.returns
returns c = digit c.args.m c.args.ink c.if-ink-m.false

pub overflow_add-result : goal.overflow_add-result
overflow_add-result c = omega (arith, c.requires)
