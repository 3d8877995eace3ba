-- A net is a tree: a gate list in which each reference is an input or an earlier gate, none is used twice and every gate but
-- the last is used. Its leaves are the inputs that the gates use.
-- Assumes nothing.
use Rattle.std.specs.Prelude.{◌<◌, ◌≤◌, ◌+◌, ◌-◌, ◌^◌, ◌≡◌, ◌∷◌}
use Rattle.laws.specs.Prelude.{ℕ, suc, ◌∙◌, sym, refl, false≢true, List, [], dec_lt, arith, eqb, length, eq-eqb, eqb-true}
use Rattle.laws.specs.Prelude.{ne_eqb}
use Rattle.rules.specs.Groups.Groups.{member}
use Rattle.rules.specs.Lists.{any}
use Rattle.rules.specs.Nets.Trees.{Tree, wiring_in, tree_value, EachOnce, Filled, UsesJust}
use Rattle.rules.specs.Nets.Value.{value}
use Rattle.rules.specs.Nets.Wirings.{Wiring, group_of}
use Rattle.rules.specs.Sheets.SheetRules.{RefersBack, GateRules, EarlierUsed, IsNet}
use Rattle.rules.specs.Sheets.Sheets.{Gate, used_by}
use Rattle.laws.specs.Lists.Tests.{not_false_true}
use Rattle.laws.specs.Lists.Distinct.{NotIn, not_in_cons}
use Rattle.laws.specs.Lists.WithEach.{with_each_length}
use Rattle.trees.specs.Groups.Members.{member_ext, member_single}
use Rattle.trees.specs.Trees.Wirings.{group_below}
use Rattle.trees.specs.Trees.Forest.{tree_at, joined_tree, with_trees, input_trees, inputs_length, last_value}
use Rattle.trees.specs.Trees.Homes.{Home, Grown, group_at_of, grown_inputs, grown_gates}

-- the tree of a gate list
pub record TreeOf (m n : ℕ) (gates : List Gate) : Type 0 where
  pub tree : Tree
  -- it is the last gate's
  pub last : tree ≡ tree_at (with_trees (input_trees n) gates) (n + length gates - 1)
  pub once : EachOnce n (wiring_in tree)
  pub filled : Filled m tree
  -- its leaves are the inputs that the gates use
  pub leaves : (i : ℕ) → i < n → member i (group_of (wiring_in tree)) ≡ any (eqb i) (used_by gates)
  pub same : (p : ℕ) → value m n gates p ≡ tree_value m n tree p

-- ---- the references

-- the last gate's reference, and everything past it, is not used; `k` references come before the gates
pub past_unused : (k : ℕ) (gates : List Gate) → RefersBack k gates → (r : ℕ) → k + length gates ≤ suc r → NotIn r (used_by gates)
unfolding used_by any
past_unused k [] back r h = refl
past_unused k (g ∷ gates) back r h =
    (not_in_cons r g.left (g.right ∷ used_by gates)).1
    (λ e. omega arith, (not_in_cons r g.right (used_by gates)).1 (λ e. omega arith, past_unused (suc k) gates back.2 r (omega arith)))

-- each gate uses two references
pub used_length : (gates : List Gate) → length (used_by gates) ≡ length gates + length gates
unfolding used_by
used_length [] = refl
used_length (g ∷ gates) = omega (arith, used_length gates)

-- ---- the tree

module _ (m n : ℕ) (gates : List Gate) (rules : GateRules m n gates) where
  -- the trees of all references
  abbrev forest : List Tree
  forest = with_trees (input_trees n) gates

  -- the last gate's reference
  abbrev last : ℕ
  last = n + length gates - 1

  forest_length : length forest ≡ n + length gates
  forest_length = with_each_length joined_tree (input_trees n) gates ∙ rw inputs_length

  -- after all gates, each input is below exactly one reference that is not used
  grown : Grown m n (used_by gates) forest
  grown = grown_gates m n gates [] (input_trees n) (grown_inputs m n) (rw inputs_length rules.back) rules.once rules.tables

  module _ (i : ℕ) (i< : i < n) where
    abbrev home : Home (used_by gates) forest i
    home = grown.home i i<

    -- an input that is not used is its own home
    own_home : NotIn i (used_by gates) → home.at ≡ i
    unfolding group_of
    own_home free =
        eqb-true home.at i (sym (home.sole i (omega (arith, forest_length)) free)
        ∙ rw (grown.inputs i i<) (member_single i i ∙ eq-eqb i i refl))

    -- and if a home is an input, it is that input's own
    home_input : home.at < n → home.at ≡ i
    unfolding group_of
    home_input low =
        sym (eqb-true i home.at (sym (member_single i home.at)
        ∙ rw (grown.inputs home.at low) at (home.sole home.at home.below home.unused) ∙ eq-eqb home.at home.at refl))

    -- no home is a gate before the last
    home_late : EarlierUsed n gates → n ≤ home.at → home.at < last → ⊥
    home_late used high early =
        let place : n + (home.at - n) ≡ home.at = omega arith in
        false≢true (sym home.unused ∙ rw place at (used (home.at - n) (omega arith)))

    -- so an input's home is the last gate if it is used, and the input itself if it is not
    last_member : 0 < length gates → EarlierUsed n gates → member i (group_at_of forest last) ≡ any (eqb i) (used_by gates)
    last_member some used =
        home.sole last (omega (arith, forest_length)) (past_unused n gates rules.back last (omega arith))
        ∙ go (dec_lt home.at n) (dec_lt home.at last)
      where
        go : Dec (home.at < n) → Dec (home.at < last) → eqb home.at last ≡ any (eqb i) (used_by gates)
        go (yes low) _ = ne_eqb home.at last (λ e. omega arith) ∙ sym (rw (home_input low) at home.unused)
        go (no high) (yes early) = absurd (home_late used (omega arith) early)
        go (no high) (no late) =
            eq-eqb home.at last (omega (arith, home.below, forest_length))
            ∙ sym (not_false_true (any (eqb i) (used_by gates)) (λ free. omega (arith, own_home free)))

-- the tree of the last gate
pub net_is_tree : (m n : ℕ) (gates : List Gate) → 0 < length gates → GateRules m n gates → EarlierUsed n gates → TreeOf m n gates
net_is_tree m n gates some rules used =
    let trees = grown m n gates rules in
    let last = n + length gates - 1 in
    let last< : last < length (with_trees (input_trees n) gates) = omega (arith, forest_length m n gates rules) in
    record {
      tree = tree_at (with_trees (input_trees n) gates) last;
      last = refl;
      once = trees.once last last<;
      filled = trees.filled last last<;
      leaves = λ i i<. last_member m n gates rules i i< some used;
      same = λ p. last_value m n p gates some rules.back;
    }

-- ---- a net

-- a net has two inputs or more
pub net_several : (m n : ℕ) (gates : List Gate) → IsNet m n gates → 1 < n
net_several m n gates net = omega (arith, net.some, net.count)

pub net_tree : (m n : ℕ) (gates : List Gate) → IsNet m n gates → TreeOf m n gates
net_tree m n gates net = net_is_tree m n gates net.some net.rules net.used

-- the wiring of a net
abbrev pub net_wiring : (m n : ℕ) (gates : List Gate) → IsNet m n gates → Wiring
net_wiring m n gates net = wiring_in (net_tree m n gates net).tree

-- its leaves, as a group
abbrev pub net_group : (m n : ℕ) (gates : List Gate) → IsNet m n gates → ℕ
net_group m n gates net = group_of (net_wiring m n gates net)

pub net_group_below : (m n : ℕ) (gates : List Gate) (net : IsNet m n gates) → net_group m n gates net < 2 ^ n
net_group_below m n gates net = group_below n (net_wiring m n gates net) (net_tree m n gates net).once

-- "inputs may stay unused": the leaves are exactly the inputs that the gates use, ..
pub net_uses : (m n : ℕ) (gates : List Gate) (net : IsNet m n gates) → UsesJust n gates (net_group m n gates net)
net_uses m n gates net i i< = sym ((net_tree m n gates net).leaves i i<)

-- .. and no other group has this property
pub net_group_lem : (m n : ℕ) (gates : List Gate) (net : IsNet m n gates) (g : ℕ) → g < 2 ^ n → UsesJust n gates g → net_group m n gates net ≡ g
net_group_lem m n gates net g g< uses =
    member_ext n (net_group m n gates net) g (net_group_below m n gates net) g< (λ i i<. sym (net_uses m n gates net i i<) ∙ uses i i<)
