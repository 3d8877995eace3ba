-- A wiring's gate list by the class rule ("A's, then B's, then the group's own"): the lines of its filling. So it follows every rule of a net
-- sheet and has the tree's value. `Fillings` proves that it is the filling of the wiring's links.
-- Assumes nothing.
use Rattle.std.specs.Prelude.{◌<◌, ◌+◌, ◌≡◌, ◌∷◌, ◌++◌}
use Rattle.laws.specs.Prelude.{ℕ, refl, ap₂, false, Bool, List, [], arith}
use Rattle.rules.specs.Nets.Filling.{gate_digits}
use Rattle.rules.specs.Nets.Trees.{wiring_in, EachOnce}
use Rattle.rules.specs.Nets.Wirings.{Wiring, input, gate, group_of, gates_in, reference_to}
use Rattle.rules.specs.Sheets.Sheets.{Gate}
use Rattle.trees.specs.Trees.Trees.{fill}

-- the lines of a wiring after `before` others, with the class rule's digits
unfoldable pub gate_list : ℕ → ℕ → (ℕ → ℕ) → Bool → ℕ → Wiring → List Gate
gate_list m n f last before (input i) = []
gate_list m n f last before (gate a b) =
    gate_list m n f false before a
    ++ gate_list m n f false (before + gates_in a) b
    ++ (record {
      left = reference_to n before a;
      right = reference_to n (before + gates_in a) b;
      digits = gate_digits m n f last (group_of a) (group_of b);
    }
    ∷ [])

-- the reference to a wiring is to an input, or to the last of its own lines
pub reference_below : (n before : ℕ) (w : Wiring) → EachOnce n w → reference_to n before w < n + before + gates_in w
unfolding reference_to gates_in
reference_below n before (input i) once = omega arith
reference_below n before (gate a b) once = omega arith

module _ (m n : ℕ) (f : ℕ → ℕ) where
  -- a filling of a wiring has that wiring
  pub fill_wiring : (last : Bool) (w : Wiring) → wiring_in (fill m n f last w) ≡ w
  unfolding fill
  fill_wiring last (input i) = refl
  fill_wiring last (gate a b) = ap₂ gate (fill_wiring false a) (fill_wiring false b)
