-- `arrivals::sheet::times::is_lead` meets its contract, in each arm.
-- Assumes nothing.
use Rattle.std.specs.Prelude.{◌≡◌}
use Rattle.laws.specs.Prelude.{arith, length, ne_eqb, le-leb, lt-leb}
use Rattle.arrivals.specs.Sheet.Times.{leads}
use Rattle.arrivals.proofs.sheet.times.is_lead.Goals as goal

pub returns-in-empty : goal.returns-in-empty
unfolding leads
returns-in-empty c = let none : length c.args.w.now ≡ 0 = omega arith in simp none

pub returns-in-len1 : goal.returns-in-len1
unfolding leads
returns-in-len1 c = let one : length c.args.w.now ≡ 1 = omega arith in simp one

pub returns-then-w-le-MOST_TIME_BYTES : goal.returns-then-w-le-MOST_TIME_BYTES
unfolding leads
returns-then-w-le-MOST_TIME_BYTES c =
    simp (ne_eqb (length c.args.w.now) 0 (λ e. omega arith), ne_eqb (length c.args.w.now) 1 (λ e. omega arith), le-leb _ _ c.if-w-le-MOST_TIME_BYTES.true)

pub returns-else-w-le-MOST_TIME_BYTES : goal.returns-else-w-le-MOST_TIME_BYTES
unfolding leads
returns-else-w-le-MOST_TIME_BYTES c =
    simp (ne_eqb (length c.args.w.now) 0 (λ e. omega arith), lt-leb _ _ c.if-w-le-MOST_TIME_BYTES.false)
