-- The family of an accepted full table, under the table's header: the net of each number below the count follows a net sheet's rules, has exactly the
-- table and is on just the table's leaves, its sheet is as long as the settled net's, and number 0 is the settled net. There is a number exactly if
-- the whole group has mark 2.
-- Assumes nothing.
use Rattle.std.specs.Prelude.{◌<◌, ◌≤◌, ◌+◌, ◌^◌, ◌≡◌, ◌↔◌}
use Rattle.laws.specs.Prelude.{ℕ, suc, zero, ◌∙◌, ap, refl, by_cases, List, mul-le-mul_right, le_trans, le_refl, dec_le, arith}
use Rattle.laws.specs.Prelude.{length}
use Rattle.rules.specs.Calls.Answers.{ink_in}
use Rattle.rules.specs.Calls.FamilyCalls.{count_of_table, family_net}
use Rattle.rules.specs.Calls.Settling.{settled_net}
use Rattle.rules.specs.Groups.Groups.{size}
use Rattle.rules.specs.Nets.Family.{tree_count, SameWiring}
use Rattle.rules.specs.Nets.Trees.{Computes, UsesJust}
use Rattle.rules.specs.Sheets.Printed.{printed_net}
use Rattle.rules.specs.Sheets.Reading.{table_of_net}
use Rattle.rules.specs.Sheets.SheetRules.{IsNet, NetRules}
use Rattle.rules.specs.Sheets.Sheets.{Gate, Net, Table}
use Rattle.laws.specs.Numbers.Sizes.{kept_size}
use Rattle.laws.specs.Calls.Settling.{WholeTwo, marks_of_table}
use Rattle.trees.specs.Groups.Members.{size_le}
use Rattle.trees.specs.Trees.Uniqueness.{table_is}
use Rattle.trees.specs.Trees.UsedOnce.{same_inputs}
use Rattle.trees.specs.Leaves.LeafGroup.{leaves_below}
use Rattle.trees.proofs.Leaves.CutWirings.{leaves_marked}
use Rattle.trees.specs.Trees.EquallyLong.{equally_long}
use Rattle.trees.specs.Families.FamilyCounts.{counted_two}
use Rattle.trees.proofs.Families.FamilyWirings.{two_counted}
use Rattle.trees.specs.Families.FamilyBounds.{trees_on}
use Rattle.trees.proofs.Families.FamilyBounds.{count_bound, group_trees_fit}
use Rattle.trees.proofs.Families.FamilyNets.{family_computes, family_leaves, family_differ, every_wiring, only_leaves, family_settled, no_family}
use Rattle.demands.specs.Settling.Makes.{leaves_of_table, HasTree}
use Rattle.demands.specs.Sheets.FullSheets.{FullTableRules, full_facts}

-- more inputs have no fewer trees
trees_suc : (k : ℕ) → trees_on k ≤ trees_on (suc k)
unfolding trees_on
trees_suc zero = omega arith
trees_suc (suc k) = omega (arith, mul-le-mul_right (trees_on (suc k)) (let z : 1 ≤ k + k + 1 = omega arith in z))

trees_more : (j k : ℕ) → j ≤ k → trees_on j ≤ trees_on k
trees_more j zero h = let z : j ≡ 0 = omega arith in rw z (le_refl _)
trees_more j (suc k) h =
    by_cases (dec_le j k) (λ before. le_trans (trees_more j k before) (trees_suc k)) (λ last. let z : j ≡ suc k = omega arith in rw z (le_refl _))

module _ (t : Table) (kept : FullTableRules t) where
  open full_facts t kept use {pos, several, inks_below}

  leaves< : leaves_of_table t < 2 ^ t.header.inputs
  leaves< = leaves_below t.header.levels t.header.inputs pos (ink_in t.inks)

  -- ---- how many

  -- if there is a tree, there is a number
  pub tree_counted : WholeTwo t → 0 < count_of_table t
  unfolding count_of_table tree_count
  tree_counted two =
      two_counted t.header.levels t.header.inputs pos (ink_in t.inks) (leaves_of_table t) leaves<
      ((leaves_marked t.header.levels t.header.inputs pos (ink_in t.inks) several).1 two)

  pub some_two : 0 < count_of_table t → WholeTwo t
  unfolding count_of_table tree_count
  some_two some =
      (leaves_marked t.header.levels t.header.inputs pos (ink_in t.inks) several).0
      (counted_two t.header.inputs (marks_of_table t) (leaves_of_table t) leaves< some)

  -- "A table with no tree gets count 0": exactly if no gate list is a net that computes it
  pub none_counted : (count_of_table t ≡ 0) ↔ (HasTree t → ⊥)
  unfolding count_of_table
  none_counted = no_family t.header.levels t.header.inputs pos several (ink_in t.inks) inks_below

  few_inputs_lem : t.header.inputs ≤ 12
  few_inputs_lem = omega (arith, (kept_size t.header kept.header).inputs_most)

  -- at most (2k − 3)!! for k leaves, ..
  pub leaves_bound : count_of_table t ≤ trees_on (size t.header.inputs (leaves_of_table t))
  unfolding count_of_table tree_count
  leaves_bound = count_bound t.header.inputs (marks_of_table t) few_inputs_lem (leaves_of_table t) leaves<

  -- .. so at most (2n − 3)!!, which is below 2 to the 64
  pub table_bound : count_of_table t ≤ trees_on t.header.inputs
  table_bound = le_trans leaves_bound
      (trees_more (size t.header.inputs (leaves_of_table t)) t.header.inputs (size_le t.header.inputs (leaves_of_table t)))

  pub table_fits : count_of_table t < 2 ^ 64
  unfolding count_of_table tree_count
  table_fits = group_trees_fit t.header.inputs (marks_of_table t) few_inputs_lem (leaves_of_table t)

  -- ---- the net of a number

  pub family_kept : (r : ℕ) → r < count_of_table t → NetRules (family_net r t)
  unfolding count_of_table family_net
  family_kept r h = record {
    header = kept.header;
    gates = (family_computes t.header.levels t.header.inputs pos several (ink_in t.inks) inks_below r h).0;
  }

  pub family_has_table : (r : ℕ) → r < count_of_table t → table_of_net (family_net r t) ≡ t
  unfolding count_of_table family_net table_of_net
  family_has_table r h =
      let has = (family_computes t.header.levels t.header.inputs pos several (ink_in t.inks) inks_below r h).1 in
      λ i. record { header = t.header; inks = table_is t.header.levels t.header.inputs (family_net r t).gates t.inks kept.count has i }

  -- "a family numbers the wirings on just these" leaves (document 02, K12)
  pub family_on_leaves : (r : ℕ) → r < count_of_table t → UsesJust t.header.inputs (family_net r t).gates (leaves_of_table t)
  unfolding count_of_table family_net
  family_on_leaves r h = family_leaves t.header.levels t.header.inputs pos several (ink_in t.inks) r h

  -- "number 0 is the settled net"
  pub first_settled : 0 < count_of_table t → family_net 0 t ≡ settled_net t
  unfolding count_of_table family_net settled_net
  first_settled some =
      let same = family_settled t.header.levels t.header.inputs pos several (ink_in t.inks) some in
      λ i. record { header = t.header; gates = same i }

  -- all sheets of the family have the same length, ..
  pub numbers_long : (a b : ℕ) → a < count_of_table t → b < count_of_table t → length (printed_net (family_net a t)) ≡ length (printed_net (family_net b t))
  unfolding family_net
  numbers_long a b h k =
      equally_long (family_net a t) (family_net b t) (family_kept a h) (family_kept b k) refl
      (same_inputs t.header.inputs (family_net a t).gates (family_net b t).gates (leaves_of_table t) (family_on_leaves a h) (family_on_leaves b k))

  -- .. and so the same as the settled net's
  pub family_as_long : (r : ℕ) → r < count_of_table t → length (printed_net (family_net r t)) ≡ length (printed_net (settled_net t))
  family_as_long r h =
      let some : 0 < count_of_table t = omega arith in
      numbers_long r 0 h some ∙ ap (λ (net : Net). length (printed_net net)) (first_settled some)

  -- ---- wirings

  -- two numbers have different wirings, ..
  pub numbers_apart : (a b : ℕ) → a < count_of_table t → b < count_of_table t
      → SameWiring t.header.inputs (family_net a t).gates (family_net b t).gates → a ≡ b
  unfolding count_of_table family_net
  numbers_apart a b h k same = family_differ t.header.levels t.header.inputs pos several (ink_in t.inks) a b h k same

  -- .. each net on the leaves that has the table is one wiring with that of exactly one number, ..
  pub record NumberOf (gates : List Gate) : Type 0 where
    pub number : ℕ
    pub below : number < count_of_table t
    pub same : SameWiring t.header.inputs gates (family_net number t).gates
    pub only : (r : ℕ) → r < count_of_table t → SameWiring t.header.inputs gates (family_net r t).gates → r ≡ number

  pub number_of : (gates : List Gate) → IsNet t.header.levels t.header.inputs gates → UsesJust t.header.inputs gates (leaves_of_table t)
      → Computes t.header.levels t.header.inputs gates (ink_in t.inks) → NumberOf gates
  unfolding count_of_table family_net
  number_of gates net uses has =
      let is = every_wiring t.header.levels t.header.inputs pos several (ink_in t.inks) gates net uses has in
      record { number = is.number; below = is.below; same = is.same; only = is.only }

  -- .. and no net on other leaves is
  pub numbers_on_leaves : (gates : List Gate) → IsNet t.header.levels t.header.inputs gates → (r : ℕ) → r < count_of_table t
      → SameWiring t.header.inputs gates (family_net r t).gates → UsesJust t.header.inputs gates (leaves_of_table t)
  unfolding count_of_table family_net
  numbers_on_leaves = only_leaves t.header.levels t.header.inputs pos several (ink_in t.inks) inks_below
