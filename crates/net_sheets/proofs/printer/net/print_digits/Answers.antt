-- `net_sheets::printer::net::print_digits` meets its contract. The loop's invariant: the digits from i on are left to write.
-- Assumes nothing.
use Rattle.std.specs.Prelude.{◌<◌, ◌+◌}
use Rattle.laws.specs.Prelude.{ℕ, List, map, length, get_or, drop, set, length-map, add_assoc}
use Rattle.rules.specs.Text.{digit_byte, zero_byte}
use Rattle.laws.specs.Lists.Places.{map_at}
use Rattle.net_sheets.specs.Text.Put.{NetLeft, next_left}
use Rattle.net_sheets.proofs.printer.net.print_digits.Goals as goal

turn : (digits : List ℕ) (i : ℕ) {out : List ℕ} (p : ℕ) {out₀ : List ℕ} {at₀ : ℕ} {t : List ℕ} → i < length digits
    → NetLeft out p (drop i (map digit_byte digits)) out₀ at₀ t
    → NetLeft (set out p (zero_byte + get_or digits i 0)) (p + 1) (drop (i + 1) (map digit_byte digits)) out₀ at₀ t
unfolding digit_byte
turn digits i p h l = rw (map_at digit_byte digits i 0 0 h) at (next_left (map digit_byte digits) i (rw length-map h) l)

pub loop-i-preserved : goal.loop-i-preserved
loop-i-preserved c = rw (← add_assoc) (turn c.args.digits.now c.loop-i.i _ c.loop-i-test.true c.loop-i.invariant)
