-- The wiring of a number among a group's trees, as the code finds it: the split that the number falls in, then a number for each part.
-- Assumes nothing.
use Rattle.std.specs.Prelude.{◌<◌, ◌≤◌, ◌+◌, ◌-◌, ◌^◌, ◌%◌, ◌/◌, ◌≡◌, ◌≢◌, ◌++◌}
use Rattle.laws.specs.Prelude.{ℕ, suc, zero, ◌∙◌, sym, ap, ap₂, subst⁻¹, List, zero-add, arith}
use Rattle.rules.specs.Limits.{most_inputs}
use Rattle.rules.specs.Groups.Groups.{size}
use Rattle.rules.specs.Nets.Wirings.{gate, Link, first_input, links_of}
use Rattle.rules.specs.Nets.Family.{splits_of, numbered_at}
use Rattle.trees.specs.Groups.Members.{size_le}
use Rattle.trees.specs.Families.FamilyCounts.{group_trees, split_counted}
use Rattle.trees.specs.Families.Families.{wired, wired_single, wired_several, SplitAt, number_split, split_sizes, split_a_below, split_b_below}
use Rattle.wirings.specs.declared.forms.Wiring.{Wiring}
use Rattle.wirings.specs.Links.{links_in, none_in, Linked}
use Rattle.wirings.specs.AddedWiring.{AddedWiring, wiring_input, wiring_gate}
use Rattle.tree_counts.specs.declared.numbered.Numbered.{Numbered}
use Rattle.tree_counts.specs.Counts.{CountsKnown}

-- ---- the split

-- s is the split that the number falls in, and the number within it
pub record SplitFound (marks : List ℕ) (g r : ℕ) (s : Numbered) (counts : List ℕ) : Type 0 where
  pub is : (n : ℕ) → g < 2 ^ n → record { part = s.part; number = s.number } ≡ numbered_at (split_counted n marks g) (splits_of n marks g) r
  pub kept : CountsKnown marks counts

-- ---- the wiring

-- r is a number of group g's trees
pub record InCount (n : ℕ) (marks : List ℕ) (g r : ℕ) : Type 0 where
  pub inputs : n ≤ most_inputs
  pub below : g < 2 ^ n
  pub number : r < group_trees n marks g

-- the links of number r of group g are added, and `reference` refers to the last of them, or to g's only input
pub record NumberWired (n : ℕ) (marks : List ℕ) (g r : ℕ) (before after : Wiring) (reference : ℕ) (counts : List ℕ) : Type 0 where
  pub count : after.gates + 1 ≡ before.gates + size n g
  pub small : reference < n + after.gates
  -- for any fuel that is enough
  pub wires : (fuel : ℕ) → size n g ≤ fuel → AddedWiring n (wired n marks fuel g r) before after reference
  pub kept : CountsKnown marks counts

-- the links of number r of the group `leaves`
pub record WiringFound (n : ℕ) (marks : List ℕ) (leaves r : ℕ) (w : Wiring) : Type 0 where
  pub count : w.gates + 1 ≡ size n leaves
  pub links : links_in w ≡ links_of n 0 (wired n marks n leaves r)

-- ---- a single input: no link

pub numbered_single : (n : ℕ) (marks : List ℕ) (g r : ℕ) (w : Wiring) (counts : List ℕ) → first_input n g < n → size n g ≡ 1 → CountsKnown marks counts
    → NumberWired n marks g r w w (first_input n g) counts
numbered_single n marks g r w counts first one kept =
    record {
      count = omega arith;
      small = omega arith;
      wires = λ fuel enough. subst⁻¹ (λ v. AddedWiring n v w w (first_input n g)) (wired_single n marks fuel g r one) (wiring_input n (first_input n g) w);
      kept = kept;
    }

-- several inputs: the links of A's tree, those of B's, and the group's own

module _ (n : ℕ) (marks : List ℕ) (g r : ℕ) (in_count : InCount n marks g r) (several : size n g ≢ 1) (a number : ℕ)
    (is : record { part = a; number = number } ≡ numbered_at (split_counted n marks g) (splits_of n marks g) r) where
  at : SplitAt n marks g r (record { part = a; number = number })
  at = subst⁻¹ (SplitAt n marks g r) is (number_split n marks g r in_count.below several in_count.number)

  pub tree_count_part_less : (0 < a) × (a < g)
  tree_count_part_less = (at.split.some, at.split.less)

  pub tree_count_part_sizes : (size n g ≡ size n a + size n (g - a)) × (0 < size n a) × (0 < size n (g - a))
  tree_count_part_sizes = split_sizes n marks g a in_count.below at.split

  -- B's count, and the numbers of the two
  module _ (count : ℕ) (counts : count ≡ group_trees n marks (g - a)) where
    pub count_some : 0 < count
    count_some = subst⁻¹ (λ (k : ℕ). 0 < k) counts at.rest_some

    pub left_in : InCount n marks a (number / count)
    left_in = record {
      inputs = in_count.inputs;
      below = split_a_below n marks g a in_count.below at.split;
      number = subst⁻¹ (λ (k : ℕ). number / k < group_trees n marks a) counts at.left;
    }

    pub right_in : InCount n marks (g - a) (number % count)
    right_in = record {
      inputs = in_count.inputs;
      below = split_b_below n marks g a in_count.below at.split;
      number = subst⁻¹ (λ (k : ℕ). number % k < group_trees n marks (g - a)) counts at.right;
    }

    module _ (before mid later after : Wiring) (l m : ℕ) (kept_left kept_right : List ℕ) (left : NumberWired n marks a (number / count) before mid l kept_left)
        (right : NumberWired n marks (g - a) (number % count) mid later m kept_right) (own : Linked l m later after) where
      gate_added : (fuel : ℕ) → size n g ≤ suc fuel → AddedWiring n (wired n marks (suc fuel) g r) before after (n + later.gates)
      gate_added fuel enough =
          subst⁻¹ (λ v. AddedWiring n v before after (n + later.gates)) by_split
          (wiring_gate n _ _ before mid later after l m (left.wires fuel (omega (arith, tree_count_part_sizes)))
          (right.wires fuel (omega (arith, tree_count_part_sizes))) own)
        where
          by_split : wired n marks (suc fuel) g r ≡ gate (wired n marks fuel a (number / count)) (wired n marks fuel (g - a) (number % count))
          by_split =
              wired_several n marks fuel g r several
              ∙ (λ i.
              let s = sym is i in
              let b = g - s.part in
              gate (wired n marks fuel s.part (s.number / group_trees n marks b)) (wired n marks fuel b (s.number % group_trees n marks b)))
              ∙ (λ i. gate (wired n marks fuel a (number / sym counts i)) (wired n marks fuel (g - a) (number % sym counts i)))

      pub numbered_several : NumberWired n marks g r before after (n + later.gates) kept_right
      numbered_several =
          record {
            count = omega (arith, own.count, right.count, left.count, tree_count_part_sizes);
            small = omega (arith, own.count);
            wires = elim [ zero ↦ λ none. absurd (omega (arith, tree_count_part_sizes)) | suc fuel ↦ λ enough. gate_added fuel enough ];
            kept = right.kept;
          }

-- all links, added to a wiring that has none
pub wiring_found : (n : ℕ) (marks : List ℕ) (leaves r : ℕ) (none w : Wiring) (reference : ℕ) (counts : List ℕ) → none.gates ≡ 0
    → NumberWired n marks leaves r none w reference counts → WiringFound n marks leaves r w
wiring_found n marks leaves r none w reference counts empty added =
    record {
      count = added.count ∙ ap (λ (k : ℕ). k + size n leaves) empty ∙ zero-add (size n leaves);
      links = (added.wires n (size_le n leaves)).links
          ∙ ap₂ (λ (ls : List Link) (k : ℕ). ls ++ links_of n k (wired n marks n leaves r)) (none_in none empty) empty;
    }
