-- The version of the library as one number: SITGURP_VERSION_NUMBER of include/sitgurp.h.
-- Assumes nothing.
use Rattle.std.specs.Prelude.{ℕ, ◌+◌, ◌*◌}

-- two digits each for minor and patch
abbrev pub numbered : ℕ → ℕ → ℕ → ℕ
numbered major minor patch = major * 10000 + minor * 100 + patch

abbrev pub version : ℕ
version = numbered 0 1 0
