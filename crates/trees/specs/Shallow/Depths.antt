-- The depth of a wiring.
-- Assumes nothing.
use Rattle.rules.specs.Nets.Wirings.{Wiring, input, gate}
use Rattle.std.specs.Prelude.{ℕ, ◌+◌, max}

-- the most gates on a way from a leaf to the root
unfoldable pub depth : Wiring → ℕ
depth (input i) = 0
depth (gate a b) = 1 + max (depth a) (depth b)
