-- The theorems of Trees/GateLists that rest on a definition which a must-fail edit changes: they stand here, so that the edit leaves specs/ readable.
-- Assumes nothing.
use Rattle.std.specs.Prelude.{◌<◌, ◌+◌, ◌≡◌}
use Rattle.laws.specs.Prelude.{ℕ, ◌∙◌, ap, refl, subst, subst⁻¹, true, false, Bool, List}
use Rattle.rules.specs.Nets.Filling.{gate_digits}
use Rattle.rules.specs.Nets.Trees.{wiring_in, EachOnce, Filled, tree_value, UsesJust}
use Rattle.rules.specs.Nets.Value.{value}
use Rattle.rules.specs.Nets.Wirings.{Wiring, input, gate, group_of, gates_in}
use Rattle.rules.specs.Sheets.SheetRules.{IsNet}
use Rattle.rules.specs.Sheets.Sheets.{Gate}
use Rattle.trees.specs.Trees.Trees.{fill}
use Rattle.trees.specs.Trees.TreeLists.{tree_gates, lines_use, tree_net}
use Rattle.trees.proofs.Trees.TreeLists.{tree_net_value}
use Rattle.trees.specs.Trees.GateLists.{fill_wiring, gate_list}

module _ (m n : ℕ) (f : ℕ → ℕ) where
  -- the list is its lines
  pub list_lines : (last : Bool) (before : ℕ) (w : Wiring) → gate_list m n f last before w ≡ tree_gates n before (fill m n f last w)
  unfolding gate_list tree_gates fill
  list_lines last before (input i) = refl
  list_lines last before (gate a b) =
      rw (fill_wiring m n f false a, fill_wiring m n f false b, list_lines false before a, list_lines false (before + gates_in a) b)

  -- each input is at one leaf of the filling too
  fill_once : (last : Bool) (w : Wiring) → EachOnce n w → EachOnce n (wiring_in (fill m n f last w))
  fill_once last w once = subst⁻¹ (EachOnce n) (fill_wiring m n f last w) once

  pub gate_list_net : (w : Wiring) → EachOnce n w → 0 < gates_in w → Filled m (fill m n f true w) → IsNet m n (gate_list m n f true 0 w)
  gate_list_net w once some filled =
      subst⁻¹ (IsNet m n) (list_lines true 0 w)
      (tree_net n m (fill m n f true w) (fill_once true w once) (rw (fill_wiring m n f true w) some) filled)

  -- it uses just the leaves
  pub gate_list_uses : (w : Wiring) → EachOnce n w → 0 < gates_in w → UsesJust n (gate_list m n f true 0 w) (group_of w)
  gate_list_uses w once some =
      subst⁻¹ (λ (gates : List Gate). UsesJust n gates (group_of w)) (list_lines true 0 w)
      (subst (λ (v : Wiring). UsesJust n (tree_gates n 0 (fill m n f true w)) (group_of v)) (fill_wiring m n f true w)
      (lines_use n (fill m n f true w) (fill_once true w once) (rw (fill_wiring m n f true w) some)))

  pub gate_list_value : (a b : Wiring) → EachOnce n (gate a b) → (p : ℕ)
      → value m n (gate_list m n f true 0 (gate a b)) p ≡ tree_value m n (fill m n f true (gate a b)) p
  unfolding fill
  gate_list_value a b once p =
      ap (λ (gates : List Gate). value m n gates p) (list_lines true 0 (gate a b))
      ∙ tree_net_value n m (gate_digits m n f true (group_of a) (group_of b)) (fill m n f false a) (fill m n f false b) (fill_once true (gate a b) once) p
