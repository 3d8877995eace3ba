-- The inputs that matter to a table and that no gate of a net uses.
-- Assumes nothing.
use Rattle.std.specs.Prelude.{◌+◌, ◌≡◌, ◌&&◌, ◌||◌}
use Rattle.std.specs.List.{range_with_len, list_any}
use Rattle.laws.specs.Prelude.{ℕ, suc, zero, ◌∙◌, ap, refl, true, false, Bool, not, List, add-one, eqb}
use Rattle.rules.specs.Lists.{range, any}
use Rattle.rules.specs.Sheets.Sheets.{Gate, used_by}
use Rattle.rules.specs.Nets.Leaves.{matters}

-- input i matters and is not used
abbrev pub is_left_out : ℕ → ℕ → (ℕ → ℕ) → List Gate → ℕ → Bool
is_left_out m n f gates i = not (any (eqb i) (used_by gates)) && matters m n f i

-- this holds for some input
abbrev pub leaves_out_of : ℕ → ℕ → (ℕ → ℕ) → List Gate → Bool
leaves_out_of m n f gates = any (is_left_out m n f gates) (range 0 n)

-- the library's `any` over a range is that of the definitions
pub any_of_range : (test : ℕ → Bool) (from count : ℕ) → list_any test (range_with_len from count) ≡ any test (range from count)
unfolding any range
any_of_range test from zero = refl
any_of_range test from (suc count) =
    ap (λ (rest : Bool). test from || rest) (any_of_range test (from + 1) count ∙ ap (λ (k : ℕ). any test (range k count)) (add-one from))
    ∙ either (test from) (any test (range (suc from) count))
  where
    either : (t rest : Bool) → (t || rest) ≡ elim t [ true ↦ true | false ↦ rest ]
    either true rest = refl
    either false rest = refl
