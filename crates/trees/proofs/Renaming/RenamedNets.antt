-- The theorems of Renaming/RenamedNets that rest on a definition which a must-fail edit changes: they stand here, so that the edit leaves specs/ readable.
-- Assumes nothing.
use Rattle.std.specs.Prelude.{◌<◌, ◌^◌, ◌≡◌}
use Rattle.laws.specs.Prelude.{ℕ, refl, subst, List}
use Rattle.rules.specs.Calls.Keeping.{kept_gates}
use Rattle.rules.specs.Groups.Groups.{whole_group}
use Rattle.rules.specs.Groups.Marks.{marks_of}
use Rattle.rules.specs.Nets.Family.{tree_count, family_gates}
use Rattle.rules.specs.Nets.Filling.{filled}
use Rattle.rules.specs.Nets.Leaves.{leaves_of}
use Rattle.rules.specs.Nets.Settled.{settled_gates}
use Rattle.rules.specs.Nets.Trees.{Computes}
use Rattle.rules.specs.Nets.Wirings.{Wiring, Link, links_of}
use Rattle.rules.specs.Sheets.SheetRules.{IsNet}
use Rattle.rules.specs.Nets.Shallow.{shallow_gates}
use Rattle.trees.specs.Groups.MarkRule.{marked}
use Rattle.trees.proofs.Trees.Existence.{settled_net_lem}
use Rattle.trees.proofs.Shallow.ShallowNet.{shallow_net_lem}
use Rattle.trees.proofs.Families.FamilyNets.{family_computes}
use Rattle.trees.specs.Keeping.KeptLinks.{filled_keeps}
use Rattle.trees.specs.Keeping.KeptWirings.{filling_few}
use Rattle.trees.specs.Renaming.Renaming.{Renamed, SameInks, renamed_same}
use Rattle.trees.specs.Renaming.RenamedWirings.{settled_wiring_renamed, shallow_wiring_renamed, family_wiring_renamed}
use Rattle.trees.specs.Renaming.RenamedGates.{RenamedGates}
use Rattle.trees.specs.Renaming.RenamedNets.{kept_renamed}

module _ (m n : ℕ) (pos : 0 < m) (r f h : ℕ → ℕ) (below : (p : ℕ) → p < m ^ n → f p < m) (renamed : Renamed m n r f h) where
  -- ---- any wiring

  -- the same for a wiring whose filling is a net with the table
  computing_renamed : (links : List Link) → IsNet m n (filled m n f links) × Computes m n (filled m n f links) f
      → RenamedGates m n r (filled m n f links) (filled m n h links)
  unfolding kept_gates
  computing_renamed links (net, has) =
      subst (λ (ls : List Link). RenamedGates m n r (filled m n f ls) (filled m n h ls)) (filled_keeps m n f links)
      (kept_renamed m n pos r f h below renamed (filled m n f links) net
      (filling_few m n pos f (filled m n f links) net (filled m n f links) (record { wiring = refl; tables = net.rules.tables; computes = has })))

  -- and if the other table has an equal wiring
  wiring_renamed : (w v : Wiring) → w ≡ v → IsNet m n (filled m n f (links_of n 0 w)) × Computes m n (filled m n f (links_of n 0 w)) f
      → RenamedGates m n r (filled m n f (links_of n 0 w)) (filled m n h (links_of n 0 v))
  wiring_renamed w v same makes = rw (← same) (computing_renamed (links_of n 0 w) makes)

  -- ---- chosen wirings

  module _ (several : 1 < n) where
    abbrev same : SameInks m n f h
    same = renamed_same m n r f h below renamed

    pub settled_renamed : marked m n pos f (whole_group n) ≡ 2
        → RenamedGates m n r (settled_gates m n f (marks_of m n f)) (settled_gates m n h (marks_of m n h))
    unfolding settled_gates
    settled_renamed two = wiring_renamed _ _ (settled_wiring_renamed m n pos f h same) (settled_net_lem m n pos several f below two)

    -- "Shallow nets keep it too."
    pub shallow_renamed : marked m n pos f (whole_group n) ≡ 2
        → RenamedGates m n r (shallow_gates m n f (marks_of m n f)) (shallow_gates m n h (marks_of m n h))
    unfolding shallow_gates
    shallow_renamed two = wiring_renamed _ _ (shallow_wiring_renamed m n pos f h same) (shallow_net_lem m n pos several f two below)

    -- so does the net of each number
    pub family_renamed : (number : ℕ) → number < tree_count n (marks_of m n f) (leaves_of m n f)
        → RenamedGates m n r (family_gates m n f (marks_of m n f) number) (family_gates m n h (marks_of m n h) number)
    unfolding family_gates
    family_renamed number less = wiring_renamed _ _ (family_wiring_renamed m n pos f h same number) (family_computes m n pos several f below number less)
