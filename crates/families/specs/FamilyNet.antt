-- The net of a number, from its wiring.
-- Assumes nothing.
use Rattle.std.specs.Prelude.{◌<◌, ◌^◌, ◌≡◌}
use Rattle.laws.specs.Prelude.{ℕ, ◌∙◌, subst⁻¹, true, List, arith}
use Rattle.rules.specs.Limits.{size_fits}
use Rattle.rules.specs.Groups.Marks.{marks_of}
use Rattle.rules.specs.Nets.Wirings.{links_of}
use Rattle.rules.specs.Nets.Filling.{input_groups}
use Rattle.rules.specs.Nets.Leaves.{leaves_of}
use Rattle.rules.specs.Nets.Family.{tree_count, family_gates}
use Rattle.laws.specs.Numbers.Sizes.{sized}
use Rattle.trees.specs.Groups.Members.{size_le}
use Rattle.trees.specs.Leaves.LeafGroup.{leaves_below}
use Rattle.trees.specs.Filling.Fillings.{Fillable}
use Rattle.trees.specs.Families.Families.{wired}
use Rattle.trees.specs.Families.FamilyCounts.{group_trees}
use Rattle.trees.specs.Families.FamilyWirings.{OfFamily, wiring_numbered}
use Rattle.trees.proofs.Families.FamilyWirings.{number_gives}
use Rattle.nets.specs.declared.forms.Net.{Net}
use Rattle.wirings.specs.declared.forms.Wiring.{Wiring}
use Rattle.wirings.specs.Links.{links_in}
use Rattle.gate_tables.specs.Filled.{Filled}
use Rattle.gate_tables.specs.MadeNet.{NetOf, some_level, wiring_fills, wiring_net}
use Rattle.tree_counts.specs.Numbered.{InCount, WiringFound}

module _ (m n : ℕ) (fit : size_fits m n ≡ true) (f : ℕ → ℕ) (own : List ℕ) (front : own ≡ marks_of m n f) (r : ℕ)
    (below : r < tree_count n (marks_of m n f) (leaves_of m n f)) where
  pos : 0 < m
  pos = some_level m n fit

  -- it is a number of the trees on the leaves
  pub leaves_in : InCount n own (leaves_of m n f) r
  unfolding tree_count
  leaves_in =
      record {
        inputs = (sized m n fit).inputs_most;
        below = leaves_below m n pos f;
        number = subst⁻¹ (λ (l : List ℕ). r < group_trees n l (leaves_of m n f)) front below;
      }

  -- what its wiring gives
  gives : OfFamily m n pos f (leaves_of m n f) r (wiring_numbered m n pos f (leaves_of m n f) r)
  unfolding tree_count
  gives = number_gives m n pos f (leaves_of m n f) (leaves_below m n pos f) r below

  module _ (w : Wiring) (found : WiringFound n own (leaves_of m n f) r w) where
    pub number_count : w.gates < n
    number_count = omega (arith, found.count, size_le n (leaves_of m n f))

    number_links : links_in w ≡ links_of n 0 (wired n (marks_of m n f) n (leaves_of m n f) r)
    number_links = found.links ∙ (λ i. links_of n 0 (wired n (front i) n (leaves_of m n f) r))

    -- the wiring can be filled, ..
    pub number_fills : Fillable m n f (input_groups n) (links_in w)
    number_fills = wiring_fills m n f fit _ gives.of gives.few w number_links

    -- .. and filled, it is the number's net
    pub number_net : ((p : ℕ) → p < m ^ n → f p < m) → (net : Net) → Filled m n f w net → NetOf m n (family_gates m n f (marks_of m n f) r) net
    unfolding family_gates
    number_net inks net done = wiring_net m n f fit _ gives.of gives.few w number_links inks net done
