-- An input's home: while gates use references, each input stays below exactly one reference that is not yet used. So the trees
-- of two unused references share no input, and a gate that joins them has each of its inputs once.
-- Assumes nothing.
use Rattle.std.specs.Prelude.{◌<◌, ◌≤◌, ◌^◌, ◌≡◌, ◌||◌, ◌∷◌, ◌++◌}
use Rattle.laws.specs.Prelude.{ℕ, ◌∙◌, sym, refl, true, false, Bool, List, [], append_assoc, append-nil, dec_lt, arith}
use Rattle.laws.specs.Prelude.{eqb, length, get_or-append, get_or-append_seam, eq-eqb, eqb-true, ne_eqb, eqb-false, test_cases}
use Rattle.rules.specs.Groups.Groups.{member}
use Rattle.rules.specs.Lists.{any, with_each}
use Rattle.rules.specs.Nets.Trees.{Tree, leaf, wiring_in, Apart, EachOnce, Filled}
use Rattle.rules.specs.Nets.Wirings.{group_of}
use Rattle.rules.specs.Sheets.SheetRules.{GateTable, RefersBack, Distinct, Tables}
use Rattle.rules.specs.Sheets.Sheets.{Gate, used_by}
use Rattle.laws.specs.Lists.Tests.{or_false_iff, not_both, none_append}
use Rattle.laws.specs.Lists.Places.{length_snoc, each_snoc}
use Rattle.laws.specs.Lists.Distinct.{NotIn, not_in_two, not_in_cons, distinct_before}
use Rattle.trees.specs.Groups.Members.{member_single, member_join}
use Rattle.trees.specs.Trees.Wirings.{group_below}
use Rattle.trees.specs.Trees.Forest.{tree_at, joined_tree, with_trees, input_trees, inputs_length, input_at}

-- the inputs below a reference
abbrev pub group_at_of : List Tree → ℕ → ℕ
group_at_of forest r = group_of (wiring_in (tree_at forest r))

-- among the references that are not used, input i is below this one and no other
pub record Home (used : List ℕ) (forest : List Tree) (i : ℕ) : Type 0 where
  pub at : ℕ
  pub below : at < length forest
  pub unused : NotIn at used
  pub sole : (r : ℕ) → r < length forest → NotIn r used → member i (group_at_of forest r) ≡ eqb at r

-- the state after some gates
pub record Grown (m n : ℕ) (used : List ℕ) (forest : List Tree) : Type 0 where
  pub enough : n ≤ length forest
  pub inputs : (i : ℕ) → i < n → tree_at forest i ≡ leaf i
  pub filled : (r : ℕ) → r < length forest → Filled m (tree_at forest r)
  pub once : (r : ℕ) → r < length forest → EachOnce n (wiring_in (tree_at forest r))
  pub fresh : (r : ℕ) → length forest ≤ r → NotIn r used
  pub home : (i : ℕ) → i < n → Home used forest i

-- ---- only the inputs

-- each input is its own home
pub grown_inputs : (m n : ℕ) → Grown m n [] (input_trees n)
unfolding any group_of
grown_inputs m n = record {
  enough = omega (arith, inputs_length n);
  inputs = input_at n;
  filled = λ r h. rw (leaf_at r h) tt;
  once = λ r h. rw (leaf_at r h) (omega (arith, inputs_length n));
  fresh = λ r h. refl;
  home = λ i h. record {
    at = i;
    below = omega (arith, inputs_length n);
    unused = refl;
    sole = λ r k free. rw (leaf_at r k) (member_single i r);
  };
}
  where
    leaf_at : (r : ℕ) → r < length (input_trees n) → tree_at (input_trees n) r ≡ leaf r
    leaf_at r h = input_at n r (omega (arith, inputs_length n))

-- ---- one more gate

-- a number that is one of two is no other
neither : (c a b s : ℕ) → (eqb c a || eqb c b) ≡ true → (s ≡ a → ⊥) → (s ≡ b → ⊥) → eqb c s ≡ false
neither c a b s e no_a no_b = ne_eqb c s (λ q. test_cases (eqb c a)
    (λ here. no_a (sym q ∙ eqb-true c a here))
    (λ here. no_b (sym q ∙ eqb-true c b (rw here at e))))

-- The gate g joins two references that are not used.
module _ (m n : ℕ) (used : List ℕ) (forest : List Tree) (grown : Grown m n used forest) (g : Gate)
    (left< : g.left < length forest) (right< : g.right < length forest)
    (left_unused : NotIn g.left used) (right_unused : NotIn g.right used) (differ : g.left ≡ g.right → ⊥) where
  abbrev used⁺ : List ℕ
  used⁺ = used ++ (g.left ∷ g.right ∷ [])

  abbrev forest⁺ : List Tree
  forest⁺ = forest ++ (joined_tree forest g ∷ [])

  -- the two have no input in common
  pub sides_apart : Apart n (group_at_of forest g.left) (group_at_of forest g.right)
  sides_apart i i< =
      let home = grown.home i i< in
      rw (home.sole g.left left< left_unused, home.sole g.right right< right_unused)
      (not_both home.at g.left g.right differ)

  -- a reference past the last is not used
  fresh_snoc : (r : ℕ) → length forest ≤ r → NotIn r used⁺
  fresh_snoc r h = (not_in_two r used g.left g.right).1 (grown.fresh r h, λ e. omega arith, λ e. omega arith)

  module _ (i : ℕ) (i< : i < n) where
    abbrev home : Home used forest i
    home = grown.home i i<

    -- whether the gate takes the home of input i
    abbrev taken : Bool
    taken = eqb home.at g.left || eqb home.at g.right

    -- then the input is below the gate
    joined_member : member i (group_of (wiring_in (joined_tree forest g))) ≡ taken
    unfolding group_of
    joined_member =
        member_join i n (group_at_of forest g.left) (group_at_of forest g.right) (small g.left left<) (small g.right right<)
        sides_apart i<
        ∙ rw (home.sole g.left left< left_unused, home.sole g.right right< right_unused)
      where
        small : (r : ℕ) → r < length forest → group_at_of forest r < 2 ^ n
        small r h = group_below n (wiring_in (tree_at forest r)) (grown.once r h)

    -- `a` is the only home if this holds for the old references and for the gate
    sole_snoc : (a : ℕ) → ((s : ℕ) → s < length forest → (s ≡ g.left → ⊥) → (s ≡ g.right → ⊥) → eqb home.at s ≡ eqb a s)
        → taken ≡ eqb a (length forest)
        → (s : ℕ) → s < length forest⁺ → NotIn s used⁺ → member i (group_at_of forest⁺ s) ≡ eqb a s
    sole_snoc a old new s h free = go ((not_in_two s used g.left g.right).0 free) (dec_lt s (length forest))
      where
        go : NotIn s used × (s ≡ g.left → ⊥) × (s ≡ g.right → ⊥) → Dec (s < length forest)
            → member i (group_at_of forest⁺ s) ≡ eqb a s
        go was (yes k) =
            rw (get_or-append forest (joined_tree forest g ∷ []) (leaf 0) s k)
            (home.sole s k was.0 ∙ old s k was.1 was.2)
        go was (no k) =
            let last : s ≡ length forest = omega (arith, length_snoc forest (joined_tree forest g)) in
            rw (last, get_or-append_seam) (joined_member ∙ new)

    -- the gate is the new home if it takes the old one
    home_snoc : Home used⁺ forest⁺ i
    home_snoc = test_cases taken
        (λ e. record {
          at = length forest;
          below = omega (arith, length_snoc forest (joined_tree forest g));
          unused = fresh_snoc (length forest) (omega arith);
          sole = sole_snoc (length forest)
              (λ s h no_l no_r. neither home.at g.left g.right s e no_l no_r ∙ sym (ne_eqb (length forest) s (λ q. omega arith)))
              (e ∙ sym (eq-eqb (length forest) (length forest) refl));
        })
        (λ e. let other = (or_false_iff (eqb home.at g.left) (eqb home.at g.right)).0 e in record {
          at = home.at;
          below = omega (arith, length_snoc forest (joined_tree forest g), home.below);
          unused = (not_in_two home.at used g.left g.right).1
              (home.unused, eqb-false home.at g.left other.0, eqb-false home.at g.right other.1);
          sole = sole_snoc home.at (λ s h no_l no_r. refl)
              (e ∙ sym (ne_eqb home.at (length forest) (λ q. omega (arith, home.below))));
        })

  -- the gate preserves `Grown`
  pub grown_snoc : GateTable m g.digits → Grown m n used⁺ forest⁺
  grown_snoc table = record {
    enough = omega (arith, length_snoc forest (joined_tree forest g), grown.enough);
    inputs = λ i h. get_or-append forest (joined_tree forest g ∷ []) (leaf 0) i (omega (arith, grown.enough)) ∙ grown.inputs i h;
    filled = each_snoc (Filled m) (leaf 0) forest (joined_tree forest g) grown.filled
        (table, grown.filled g.left left<, grown.filled g.right right<);
    once = each_snoc (λ t. EachOnce n (wiring_in t)) (leaf 0) forest (joined_tree forest g) grown.once
        (sides_apart, grown.once g.left left<, grown.once g.right right<);
    fresh = λ r h. fresh_snoc r (omega (arith, length_snoc forest (joined_tree forest g)));
    home = home_snoc;
  }

-- ---- all gates

-- in a list without repetition two neighbours differ, and neither occurs before them
pub heads_unused : (used : List ℕ) (a b : ℕ) (rest : List ℕ) → Distinct (used ++ (a ∷ b ∷ rest)) → NotIn a used × NotIn b used × (a ≡ b → ⊥)
heads_unused used a b rest distinct =
    let second = (none_append (eqb b) used (a ∷ [])).0 (distinct_before (used ++ (a ∷ [])) b rest (rw append_assoc distinct)) in
    (distinct_before used a (b ∷ rest) distinct, second.0, λ e. ((not_in_cons b a []).0 second.1).0 (sym e))

module _ (m n : ℕ) where
  -- gates that follow the rules preserve `Grown`
  pub grown_gates : (gates : List Gate) (used : List ℕ) (forest : List Tree) → Grown m n used forest
      → RefersBack (length forest) gates → Distinct (used ++ used_by gates) → Tables m gates
      → Grown m n (used ++ used_by gates) (with_trees forest gates)
  unfolding used_by with_each
  grown_gates [] used forest grown back distinct tables = rw append-nil grown
  grown_gates (g ∷ gates) used forest grown back distinct tables =
      let heads = heads_unused used g.left g.right (used_by gates) distinct in
      let next = grown_snoc m n used forest grown g back.0 back.1 heads.0 heads.1 heads.2 tables.0 in
      rw append_assoc at
      (grown_gates gates (used ++ (g.left ∷ g.right ∷ [])) (forest ++ (joined_tree forest g ∷ [])) next
      (rw length_snoc back.2) (rw append_assoc distinct) tables.1)
