-- The links of any gate list that follows the rules of a net sheet, in its own line order and with its own sides, can be filled if each
-- gate's group has at most m classes.
-- Assumes nothing.
use Rattle.std.specs.Prelude.{◌<◌, ◌+◌, ◌-◌, ◌≡◌, ◌∷◌, ◌++◌}
use Rattle.laws.specs.Prelude.{ℕ, suc, ◌∙◌, sym, ap, subst, ap₂, subst⁻¹, List, [], map, append_assoc, map-map, dec_lt, arith}
use Rattle.laws.specs.Prelude.{length, get_or, length-map, get_or-append, get_or-append_seam}
use Rattle.rules.specs.Calls.Keeping.{link_of, gate_links}
use Rattle.rules.specs.Lists.{range, with_each}
use Rattle.rules.specs.Nets.Filling.{input_groups}
use Rattle.rules.specs.Nets.Trees.{Tree, leaf, wiring_in}
use Rattle.rules.specs.Nets.Wirings.{group_of, Link}
use Rattle.rules.specs.Sheets.SheetRules.{RefersBack, Distinct, Tables, GateRules}
use Rattle.rules.specs.Sheets.Sheets.{Gate, used_by}
use Rattle.laws.specs.Lists.Concat.{map-append}
use Rattle.laws.specs.Lists.Distinct.{NotIn}
use Rattle.laws.specs.Lists.Places.{length_snoc, map_at}
use Rattle.laws.specs.Lists.WithEach.{with_each_earlier}
use Rattle.trees.specs.Groups.Classes.{Few}
use Rattle.trees.specs.Filling.Carried.{single_few}
use Rattle.trees.specs.Filling.DigitRule.{Parts}
use Rattle.trees.specs.Trees.Wirings.{group_below, group_some}
use Rattle.trees.specs.Trees.Forest.{tree_at, joined_tree, input_trees, inputs_length}
use Rattle.trees.specs.Trees.Homes.{Grown, grown_inputs, sides_apart, grown_snoc, heads_unused}
use Rattle.trees.specs.Filling.Fillings.{link_group, with_groups, inputs_grouped, Fillable}

-- the group of the inputs below a tree
abbrev pub tree_group : Tree → ℕ
tree_group t = group_of (wiring_in t)

-- the groups of all references
abbrev pub groups_in : List Tree → List ℕ
groups_in forest = map tree_group forest

-- a reference's group is its tree's
pub group_at : (forest : List Tree) (r : ℕ) → r < length forest → get_or (groups_in forest) r 0 ≡ tree_group (tree_at forest r)
group_at forest r h = map_at tree_group forest r (leaf 0) 0 h

-- one more gate
pub groups_joined_lem : (forest : List Tree) (g : Gate) → g.left < length forest → g.right < length forest
    → groups_in forest ++ (link_group (groups_in forest) (link_of g) ∷ []) ≡ groups_in (forest ++ (joined_tree forest g ∷ []))
unfolding group_of
groups_joined_lem forest g l< r< =
    ap (λ (k : ℕ). groups_in forest ++ (k ∷ [])) (ap₂ (λ (a b : ℕ). a + b) (group_at forest g.left l<) (group_at forest g.right r<))
    ∙ sym (map-append tree_group forest (joined_tree forest g ∷ []))

-- the inputs' trees have the inputs' groups
pub inputs_in : (n : ℕ) → groups_in (input_trees n) ≡ input_groups n
unfolding input_trees input_groups group_of
inputs_in n = map-map tree_group leaf (range 0 n)

module _ (m n : ℕ) (f : ℕ → ℕ) where
  -- every reference's group has at most m classes
  abbrev AllFew : List ℕ → List Link → Type 0
  AllFew groups links = (r : ℕ) → r < length groups + length links → Few m n f (get_or (with_groups groups links) r 0)

  -- two unused references whose groups have few classes may be joined
  may_join : (used : List ℕ) (forest : List Tree) → Grown m n used forest → (g : Gate) (l< : g.left < length forest) (r< : g.right < length forest)
      → NotIn g.left used → NotIn g.right used → (g.left ≡ g.right → ⊥)
      → Few m n f (get_or (groups_in forest) g.left 0) → Few m n f (get_or (groups_in forest) g.right 0) → Few m n f (link_group (groups_in forest) (link_of g))
      → Parts m n f (get_or (groups_in forest) g.left 0) (get_or (groups_in forest) g.right 0)
  may_join used forest grown g l< r< l_free r_free differ few_l few_r few =
      let left = group_at forest g.left l< in
      let right = group_at forest g.right r< in
      record {
        some_a = rw left (group_some (wiring_in (tree_at forest g.left)));
        some_b = rw right (group_some (wiring_in (tree_at forest g.right)));
        a_below = rw left (group_below n (wiring_in (tree_at forest g.left)) (grown.once g.left l<));
        b_below = rw right (group_below n (wiring_in (tree_at forest g.right)) (grown.once g.right r<));
        apart = rw (left, right) (sides_apart m n used forest grown g l< r< l_free r_free differ);
        few_a = few_l;
        few_b = few_r;
        few = few;
      }

  module _ (pos : 0 < m) where
    fillable_gates : (gates : List Gate) (used : List ℕ) (forest : List Tree) → Grown m n used forest
        → RefersBack (length forest) gates → Distinct (used ++ used_by gates) → Tables m gates → AllFew (groups_in forest) (gate_links gates)
        → Fillable m n f (groups_in forest) (gate_links gates)
    unfolding used_by with_each
    fillable_gates [] used forest grown back distinct tables few = tt
    fillable_gates (g ∷ gates) used forest grown back distinct tables few =
        let groups : List ℕ = groups_in forest in
        let own : ℕ = link_group groups (link_of g) in
        let count : length groups ≡ length forest = length-map forest tree_group in
        let heads = heads_unused used g.left g.right (used_by gates) distinct in
        let next = grown_snoc m n used forest grown g back.0 back.1 heads.0 heads.1 heads.2 tables.0 in
        let more : length (groups ++ (own ∷ [])) ≡ suc (length groups) = length_snoc groups own in
        let still : (r : ℕ) → r < suc (length groups) → Few m n f (get_or (groups ++ (own ∷ [])) r 0) =
        λ r h. subst (Few m n f) (with_each_earlier link_group 0 (groups ++ (own ∷ [])) (gate_links gates) r (omega arith)) (few r (omega arith)) in
        let before : (r : ℕ) → r < length groups → Few m n f (get_or groups r 0) =
        λ r h. subst (Few m n f) (get_or-append groups (own ∷ []) 0 r h) (still r (omega arith)) in
        let parts = may_join used forest grown g back.0 back.1 heads.0 heads.1 heads.2
        (before g.left (omega arith)) (before g.right (omega arith))
        (subst (Few m n f) (get_or-append_seam groups own [] 0) (still (length groups) (omega arith))) in
        let grow = groups_joined_lem forest g back.0 back.1 in
        let rest = fillable_gates gates (used ++ (g.left ∷ g.right ∷ [])) (forest ++ (joined_tree forest g ∷ [])) next
        (rw length_snoc back.2) (rw append_assoc distinct) tables.1
        (subst (λ (gs : List ℕ). AllFew gs (gate_links gates)) grow (λ r h. few r (omega arith))) in
        (omega arith, omega arith, parts, subst⁻¹ (λ (gs : List ℕ). Fillable m n f gs (gate_links gates)) grow rest)

    pub gates_fillable : (gates : List Gate) → GateRules m n gates
        → ((k : ℕ) → k < length gates → Few m n f (get_or (with_groups (input_groups n) (gate_links gates)) (n + k) 0))
        → Fillable m n f (input_groups n) (gate_links gates)
    gates_fillable gates rules few =
        subst (λ (gs : List ℕ). Fillable m n f gs (gate_links gates)) (inputs_in n)
        (fillable_gates gates [] (input_trees n) (grown_inputs m n) (rw inputs_length rules.back) rules.once rules.tables
        (subst⁻¹ (λ (gs : List ℕ). AllFew gs (gate_links gates)) (inputs_in n) all))
      where
        all : AllFew (input_groups n) (gate_links gates)
        all r h = elim (dec_lt r n) [
          | yes input ↦
              subst⁻¹ (Few m n f)
              (with_each_earlier link_group 0 (input_groups n) (gate_links gates) r (omega (arith, (inputs_grouped n).0)) ∙ (inputs_grouped n).1 r input)
              (single_few m n pos f r input)
          | no late ↦
              let place : n + (r - n) ≡ r = omega arith in
              subst (λ (k : ℕ). Few m n f (get_or (with_groups (input_groups n) (gate_links gates)) k 0)) place
              (few (r - n) (omega (arith, length-map gates link_of, (inputs_grouped n).0)))
        ]
