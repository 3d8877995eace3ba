-- `net_sheets::reader::digits::copy_digits` meets its contract. The loop's invariant: the first i digits are pasted.
-- Assumes nothing.
use Rattle.std.specs.Prelude.{◌+◌, ◌-◌}
use Rattle.laws.specs.Prelude.{◌∙◌, ap, arith, get_or, set}
use Rattle.rules.specs.Text.{zero_byte}
use Rattle.net_sheets.specs.Reader.Digits.{digits_copied}
use Rattle.net_sheets.proofs.reader.digits.copy_digits.Goals as goal

pub loop-i-preserved : goal.loop-i-preserved
loop-i-preserved c =
    let a = c.args in
    let i = c.loop-i.i in
    let pre = c.requires in (
      ap (λ l. set l (a.from + i) (get_or a.s.now (a.at + i) 0 - zero_byte)) c.loop-i.invariant.0
          ∙ digits_copied a.s.now a.at a.count a.digits.now a.from i pre.0 (omega (arith, pre.1, pre.2)) c.loop-i-test.true,
      omega arith,
    )
