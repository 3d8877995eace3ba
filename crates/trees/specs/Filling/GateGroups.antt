-- The groups of a net's gates are the groups that the gates of its tree join, and the groups of a wiring's filled links are the wiring's. So two nets
-- are one wiring exactly if their trees differ only in which side is left.
-- Assumes nothing.
use Rattle.std.specs.Prelude.{◌<◌, ◌≤◌, ◌+◌, ◌-◌, ◌≡◌, ◌↔◌, ◌∷◌, ◌++◌}
use Rattle.laws.specs.Prelude.{ℕ, ◌∙◌, sym, ap, refl, subst, ap₂, ⊎_elim, true≢false, List, [], Memᴰ}
use Rattle.laws.specs.Prelude.{append_assoc, append-nil, mem_head, mem_not_nil, mem_append_cases, mem_eq_of_singleton}
use Rattle.laws.specs.Prelude.{mem_append_right, mem_append_left, dec_lt, ℕ_discrete, arith, eqb, length, get_or-append, get_or-append_seam, eq-eqb}
use Rattle.rules.specs.Calls.Keeping.{link_of}
use Rattle.rules.specs.Lists.{any, with_each}
use Rattle.rules.specs.Nets.Family.{groups_from, gate_groups, SameWiring}
use Rattle.rules.specs.Nets.Filling.{input_groups, filled_from, filled}
use Rattle.rules.specs.Nets.Trees.{Tree, leaf, wiring_in, EachOnce}
use Rattle.rules.specs.Nets.Wirings.{Wiring, input, gate, group_of, Link, gates_in, links_of}
use Rattle.rules.specs.Sheets.SheetRules.{RefersBack, IsNet}
use Rattle.rules.specs.Sheets.Sheets.{Gate, used_by}
use Rattle.laws.specs.Lists.Tests.{mem_any, two_ways}
use Rattle.laws.specs.Lists.Places.{length_snoc}
use Rattle.laws.specs.Lists.Distinct.{NotIn, not_in_two}
use Rattle.laws.specs.Lists.Totals.{any_mem}
use Rattle.laws.specs.Lists.WithEach.{with_each_append, with_each_length}
use Rattle.trees.specs.Trees.Forest.{tree_at, joined_tree, with_trees, input_trees, inputs_length, input_at}
use Rattle.trees.specs.Trees.Homes.{grown_inputs, grown_gates}
use Rattle.trees.specs.Trees.NetTree.{net_tree, net_wiring, net_group}
use Rattle.trees.specs.Trees.UsedOnce.{net_gates}
use Rattle.trees.specs.Filling.Fillings.{link_group, with_groups, own_link, Grouped, inputs_grouped, grouped_after, groups_after, left_group, right_group}
use Rattle.trees.specs.Filling.GateLinks.{tree_group, groups_in, group_at, groups_joined_lem, inputs_in}
use Rattle.trees.specs.Families.NormalWirings.{groups_joined, Joins, SameGates, joins_left, joins_right, joins_own, joins_cases, joins_none}
use Rattle.trees.specs.Families.NormalWirings.{joined_leaves}

-- ---- a wiring's links, filled

-- the groups that some links join
unfoldable pub link_groups : List ℕ → List Link → List ℕ
link_groups groups [] = []
link_groups groups (l ∷ links) = link_group groups l ∷ link_groups (groups ++ (link_group groups l ∷ [])) links

-- filling does not change what links join
filled_groups : (m n : ℕ) (f : ℕ → ℕ) (groups : List ℕ) (links : List Link) → groups_from groups (filled_from m n f groups links) ≡ link_groups groups links
unfolding groups_from filled_from link_groups
filled_groups m n f groups [] = refl
filled_groups m n f groups (l ∷ links) =
    ap (λ (gs : List ℕ). link_group groups l ∷ gs) (filled_groups m n f (groups ++ (link_group groups l ∷ [])) links)

link_groups_append : (groups : List ℕ) (xs ys : List Link) → link_groups groups (xs ++ ys) ≡ link_groups groups xs ++ link_groups (with_groups groups xs) ys
unfolding link_groups with_each
link_groups_append groups [] ys = refl
link_groups_append groups (x ∷ xs) ys =
    ap (λ (gs : List ℕ). link_group groups x ∷ gs) (link_groups_append (groups ++ (link_group groups x ∷ [])) xs ys)

-- a wiring's links join what the wiring joins
wiring_groups : (n before : ℕ) (groups : List ℕ) (w : Wiring) → EachOnce n w → Grouped n before groups → link_groups groups (links_of n before w) ≡ groups_joined w
unfolding link_groups links_of groups_joined
wiring_groups n before groups (input i) once grouped = refl
wiring_groups n before groups (gate a b) once grouped =
    let mid = before + gates_in a in
    let after = grouped_after n before groups a grouped in
    let of_a : List Link = links_of n before a in
    let of_b_lem : List Link = links_of n mid b in
    let own : Link = own_link n before a b in
    link_groups_append groups (of_a ++ of_b_lem) (own ∷ [])
    ∙ ap₂ (λ (xs ys : List ℕ). xs ++ ys)
    (link_groups_append groups of_a of_b_lem
    ∙ ap₂ (λ (xs ys : List ℕ). xs ++ ys) (wiring_groups n before groups a once.1 grouped)
    (wiring_groups n mid (groups_after n groups before a) b once.2 after))
    (ap (λ (gs : List ℕ). link_group gs own ∷ []) (with_each_append link_group groups of_a of_b_lem)
    ∙ ap₂ (λ (x y : ℕ). (x + y) ∷ []) (left_group n before groups a b once grouped) (right_group n before groups a b once grouped))

-- the groups of the gates of a wiring's links, filled, are the wiring's
pub filled_joins : (m n : ℕ) (f : ℕ → ℕ) (w : Wiring) → EachOnce n w → gate_groups n (filled m n f (links_of n 0 w)) ≡ groups_joined w
unfolding gate_groups filled
filled_joins m n f w once =
    filled_groups m n f (input_groups n) (links_of n 0 w) ∙ wiring_groups n 0 (input_groups n) w once (inputs_grouped n)

-- ---- a gate list

-- What some gates have joined: all that any tree's gates join; and each joined group is in the tree of a reference that is not used
record Housed (used : List ℕ) (forest : List Tree) (done : List ℕ) : Type 0 where
  fresh : (r : ℕ) → length forest ≤ r → NotIn r used
  listed : (r h : ℕ) → r < length forest → Joins h (wiring_in (tree_at forest r)) → Memᴰ h done
  home : (h : ℕ) → Memᴰ h done → (r : ℕ) × (r < length forest) × NotIn r used × Joins h (wiring_in (tree_at forest r))

-- only the inputs
housed_inputs : (n : ℕ) → Housed [] (input_trees n) []
unfolding any
housed_inputs n = record {
  fresh = λ r h. refl;
  listed = λ r h r< is. absurd (joins_none h r (rw (input_at n r (omega (arith, inputs_length n))) at is));
  home = λ h is. absurd (mem_not_nil is);
}

-- one more gate
module _ (used : List ℕ) (forest : List Tree) (done : List ℕ) (housed : Housed used forest done) (g : Gate)
    (left< : g.left < length forest) (right< : g.right < length forest) where
  abbrev forest⁺ : List Tree
  forest⁺ = forest ++ (joined_tree forest g ∷ [])

  abbrev used⁺ : List ℕ
  used⁺ = used ++ (g.left ∷ g.right ∷ [])

  abbrev own : ℕ
  own = group_of (wiring_in (joined_tree forest g))

  -- a tree before stays, and the last is the gate's
  before_at : (r : ℕ) → r < length forest → tree_at forest⁺ r ≡ tree_at forest r
  before_at r h = get_or-append forest (joined_tree forest g ∷ []) (leaf 0) r h

  gate_at_lem : tree_at forest⁺ (length forest) ≡ joined_tree forest g
  gate_at_lem = get_or-append_seam forest (joined_tree forest g) [] (leaf 0)

  abbrev left_tree : Wiring
  left_tree = wiring_in (tree_at forest g.left)

  abbrev right_tree : Wiring
  right_tree = wiring_in (tree_at forest g.right)

  fresh⁺ : (r : ℕ) → length forest ≤ r → NotIn r used⁺
  fresh⁺ r h = (not_in_two r used g.left g.right).1 (housed.fresh r h, λ e. omega arith, λ e. omega arith)

  listed⁺ : (r h : ℕ) → r < length forest⁺ → Joins h (wiring_in (tree_at forest⁺ r)) → Memᴰ h (done ++ (own ∷ []))
  listed⁺ r h r< is = elim (dec_lt r (length forest)) [
    | yes early ↦ mem_append_left _ (housed.listed r h early (rw (before_at r early) at is))
    | no late ↦
        let last : r ≡ length forest = omega (arith, length_snoc forest (joined_tree forest g)) in
        new (rw (last, gate_at_lem) at is)
  ]
    where
      new : Joins h (wiring_in (joined_tree forest g)) → Memᴰ h (done ++ (own ∷ []))
      new is =
          ⊎_elim (λ l. mem_append_left _ (housed.listed g.left h left< l))
          (λ later. ⊎_elim (λ r. mem_append_left _ (housed.listed g.right h right< r)) (λ e. mem_append_right done (mem_head e)) later)
          (joins_cases h left_tree right_tree is)

  -- the gate is the new home of what it uses
  abbrev Home⁺ : ℕ → Type 0
  Home⁺ h = (r : ℕ) × (r < length forest⁺) × NotIn r used⁺ × Joins h (wiring_in (tree_at forest⁺ r))

  at_gate : (h : ℕ) → Joins h (gate left_tree right_tree) → Home⁺ h
  at_gate h is = (length forest, omega (arith, length_snoc forest (joined_tree forest g)), fresh⁺ (length forest) (omega arith), rw gate_at_lem is)

  home⁺ : (h : ℕ) → Memᴰ h (done ++ (own ∷ [])) → Home⁺ h
  home⁺ h is = ⊎_elim old (λ e. at_gate h (joins_own h left_tree right_tree (mem_eq_of_singleton e))) (mem_append_cases done is)
    where
      go : (r : ℕ) → r < length forest → NotIn r used → Joins h (wiring_in (tree_at forest r)) → Dec (r ≡ g.left) → Dec (r ≡ g.right) → Home⁺ h
      go r r< free there (yes l) _ = at_gate h (joins_left h left_tree right_tree (rw l at there))
      go r r< free there (no _) (yes e) = at_gate h (joins_right h left_tree right_tree (rw e at there))
      go r r< free there (no not_l) (no not_r) = (
        r,
        omega (arith, length_snoc forest (joined_tree forest g)),
        (not_in_two r used g.left g.right).1 (free, not_l, not_r),
        rw (before_at r r<) there,
      )

      old : Memᴰ h done → Home⁺ h
      old is = let at = housed.home h is in go at.0 at.1 at.2 at.3 (ℕ_discrete at.0 g.left) (ℕ_discrete at.0 g.right)

  housed_snoc : Housed used⁺ forest⁺ (done ++ (own ∷ []))
  housed_snoc = record {
    fresh = λ r h. fresh⁺ r (omega (arith, length_snoc forest (joined_tree forest g)));
    listed = listed⁺;
    home = home⁺;
  }

-- the group that a gate's line gives is its tree's
joined_group : (forest : List Tree) (g : Gate) → g.left < length forest → g.right < length forest
    → link_group (groups_in forest) (link_of g) ≡ tree_group (joined_tree forest g)
unfolding group_of
joined_group forest g l< r< = ap₂ (λ (a b : ℕ). a + b) (group_at forest g.left l<) (group_at forest g.right r<)

-- all gates
housed_gates : (gates : List Gate) (used : List ℕ) (forest : List Tree) (done : List ℕ) → Housed used forest done → RefersBack (length forest) gates
    → Housed (used ++ used_by gates) (with_trees forest gates) (done ++ groups_from (groups_in forest) gates)
unfolding used_by with_each groups_from
housed_gates [] used forest done housed back = rw (append-nil used, append-nil done) housed
housed_gates (g ∷ gates) used forest done housed back =
    let l< = back.0 in
    let r< = back.1 in
    let own : ℕ = tree_group (joined_tree forest g) in
    let next : Housed (used ++ (g.left ∷ g.right ∷ [])) (forest ++ (joined_tree forest g ∷ [])) (done ++ (own ∷ [])) =
    housed_snoc used forest done housed g l< r< in
    let rest = housed_gates gates (used ++ (g.left ∷ g.right ∷ [])) (forest ++ (joined_tree forest g ∷ [])) (done ++ (own ∷ [])) next
    (rw length_snoc back.2) in
    rw (groups_joined_lem forest g l< r<, joined_group forest g l< r<)
    (rw (
      append_assoc used (g.left ∷ g.right ∷ []) (used_by gates),
      append_assoc done (own ∷ []) (groups_from (groups_in (forest ++ (joined_tree forest g ∷ []))) gates),
    ) at rest)

module _ (m n : ℕ) (gates : List Gate) (net : IsNet m n gates) where
  abbrev forest : List Tree
  forest = with_trees (input_trees n) gates

  forest_length : length forest ≡ n + length gates
  forest_length = with_each_length joined_tree (input_trees n) gates ∙ rw inputs_length

  back : RefersBack (length (input_trees n)) gates
  back = rw inputs_length net.rules.back

  housed : Housed (used_by gates) forest (gate_groups n gates)
  unfolding gate_groups
  housed =
      subst (λ (groups : List ℕ). Housed (used_by gates) forest (groups_from groups gates)) (inputs_in n)
      (housed_gates gates [] (input_trees n) [] (housed_inputs n) back)

  -- among the references with a gate in their tree, only the last is not used
  last_home : (r h : ℕ) → r < length forest → NotIn r (used_by gates) → Joins h (wiring_in (tree_at forest r)) → r ≡ n + length gates - 1
  last_home r h r< free is = go (dec_lt r n) (dec_lt r (n + length gates - 1))
    where
      go : Dec (r < n) → Dec (r < n + length gates - 1) → r ≡ n + length gates - 1
      go (yes low) _ =
          let grown = grown_gates m n gates [] (input_trees n) (grown_inputs m n) back net.rules.once net.rules.tables in
          absurd (joins_none h r (rw (grown.inputs r low) at is))
      go (no high) (yes early) =
          let place : n + (r - n) ≡ r = omega arith in
          absurd (true≢false (sym (rw place at (net.used (r - n) (omega arith))) ∙ free))
      go (no high) (no late) = omega (arith, forest_length)

  -- The groups of a net's gates are those that the gates of its tree join.
  pub net_joins : (h : ℕ) → Memᴰ h (gate_groups n gates) ↔ Joins h (net_wiring m n gates net)
  net_joins h =
      let last : ℕ = n + length gates - 1 in
      let tree = (net_tree m n gates net).last in (
        λ is.
            let at = housed.home h is in
            rw tree (rw (last_home at.0 h at.1 at.2 at.3) at at.3),
        λ is. housed.listed last h (omega (arith, forest_length, net.some)) (rw tree at is),
      )

-- ---- one wiring

-- two lists with the same numbers
pub same_numbers : (xs ys : List ℕ) → ((h : ℕ) → any (eqb h) xs ≡ any (eqb h) ys) ↔ ((h : ℕ) → Memᴰ h xs ↔ Memᴰ h ys)
same_numbers xs ys = (
  λ same h. (
    λ is. any_mem h ys (sym (same h) ∙ mem_any (eqb h) is (eq-eqb h h refl)),
    λ is. any_mem h xs (same h ∙ mem_any (eqb h) is (eq-eqb h h refl)),
  ),
  λ same h. two_ways (any (eqb h) xs) (any (eqb h) ys)
      (λ e. mem_any (eqb h) ((same h).0 (any_mem h xs e)) (eq-eqb h h refl))
      (λ e. mem_any (eqb h) ((same h).1 (any_mem h ys e)) (eq-eqb h h refl)),
)

module _ (m n : ℕ) (gates others : List Gate) (net : IsNet m n gates) (net' : IsNet m n others) where
  abbrev first : Wiring
  first = net_wiring m n gates net

  abbrev second : Wiring
  second = net_wiring m n others net'

  -- two nets are one wiring exactly if their trees join the same groups, ..
  pub same_gates : SameWiring n gates others ↔ SameGates first second
  same_gates =
      let numbers = same_numbers (gate_groups n gates) (gate_groups n others) in
      let joins = net_joins m n gates net in
      let joins' = net_joins m n others net' in (
        λ same h. let both = numbers.0 same h in
            (λ is. (joins' h).0 (both.0 ((joins h).1 is)), λ is. (joins h).0 (both.1 ((joins' h).1 is))),
        λ same. numbers.1 (λ h. (λ is. (joins' h).1 ((same h).0 ((joins h).0 is)), λ is. (joins h).1 ((same h).1 ((joins' h).0 is)))),
      )

  -- .. and then they have the same leaves, ..
  pub same_leaves : SameWiring n gates others → net_group m n gates net ≡ net_group m n others net'
  same_leaves same =
      joined_leaves n first second (net_tree m n gates net).once (net_tree m n others net').once
      (omega (arith, net_gates m n gates net, net.some)) (omega (arith, net_gates m n others net', net'.some)) (same_gates.0 same)
