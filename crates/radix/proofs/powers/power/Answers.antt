-- `radix::powers::power` meets its contract: a power of a digit fits if its exponent is small enough. Assumes nothing.
use Rattle.std.specs.Prelude.{◌<◌, ◌≤◌, ◌^◌}
use Rattle.laws.specs.Prelude.{ℕ, le_trans, pow-le-pow_right, lt_of_le_of_lt, pow-le-pow_left, zero-lt-suc, lit<}
use Rattle.rules.specs.Limits.{most_levels}
use Rattle.radix.specs.Widths.{most_members}
use Rattle.radix.proofs.powers.power.Goals as goal

small : (m i : ℕ) → m ≤ most_levels → i ≤ most_members → m ^ i < 2 ^ 64
small m i h k = lt_of_le_of_lt (le_trans (pow-le-pow_left h i) (pow-le-pow_right (zero-lt-suc 8) k)) (lit< tt)

pub pow-requires : goal.pow-requires
pow-requires c = small _ _ c.requires.0 c.requires.1
