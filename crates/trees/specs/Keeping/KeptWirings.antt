-- "refused with 23 exactly when no filling of that wiring computes the table" (document 02, K10): for any net, whatever its leaves, its line order
-- and its sides, some digits at its gates compute the table exactly if every input that matters is used (document 02, K12) and each gate's group has
-- at most m classes; in that case the class rule's digits do.
-- Assumes nothing.
use Rattle.std.specs.Prelude.{◌<◌, ◌≤◌, ◌+◌, ◌-◌, ◌^◌, ◌≡◌, ◌↔◌, ◌⊎◌, ◌&&◌, ◌∷◌, ◌++◌}
use Rattle.laws.specs.Prelude.{ℕ, suc, ◌∙◌, sym, ap, refl, subst⁻¹, ⊎_elim, inl, inr, true, false, Bool, not}
use Rattle.laws.specs.Prelude.{true≢false, and-eq-true_iff, List, [], Memᴰ, lt_of_not-le, dec_lt, dec_le, arith, eqb, ltb, length, get_or}
use Rattle.laws.specs.Prelude.{length-map, get_or-append_seam, ltb-true, ltb-false}
use Rattle.rules.specs.Calls.Answers.{ink_in}
use Rattle.rules.specs.Calls.Keeping.{link_of, gate_links, kept_gates, roomy_gates, leaves_out}
use Rattle.rules.specs.Groups.Groups.{part, multiplicity}
use Rattle.rules.specs.Lists.{range, any, first_place, with_each}
use Rattle.rules.specs.Nets.Family.{gate_groups}
use Rattle.rules.specs.Nets.Filling.{given, input_groups, filled_from, filled}
use Rattle.rules.specs.Nets.Leaves.{matters}
use Rattle.rules.specs.Nets.Trees.{Tree, wiring_in, Computes}
use Rattle.rules.specs.Nets.Value.{gate_value, with_gates, value, value_with}
use Rattle.rules.specs.Nets.Wirings.{Wiring, input, gate, Link}
use Rattle.rules.specs.Sheets.SheetRules.{RefersBack, Tables, IsNet}
use Rattle.rules.specs.Sheets.Sheets.{Gate, Net, Table, used_by, levels_at}
use Rattle.laws.specs.Lists.Tests.{not_true_false, none_mem}
use Rattle.laws.specs.Lists.FirstPlaces.{before_first, at_first, first_passing}
use Rattle.laws.specs.Lists.Places.{length_snoc, mem_get_or}
use Rattle.laws.specs.Lists.Ranges.{mem_range, range_mem}
use Rattle.trees.specs.Trees.Trees.{EachGate}
use Rattle.laws.specs.Lists.WithEach.{with_each_length}
use Rattle.trees.specs.Groups.Classes.{Few}
use Rattle.trees.specs.Filling.DigitRule.{gate_table}
use Rattle.trees.specs.Trees.Wirings.{group_below}
use Rattle.trees.specs.Trees.Homes.{grown_inputs, grown_gates}
use Rattle.trees.specs.Trees.Forest.{tree_at, with_trees, joined_tree, input_trees, inputs_length}
use Rattle.trees.specs.Trees.NetTree.{net_tree, net_wiring, net_group, net_group_below, net_uses}
use Rattle.trees.specs.Leaves.Mattering.{Holding, holding_part}
use Rattle.trees.specs.Trees.Existence.{net_few, net_holds}
use Rattle.trees.specs.Filling.Fillings.{link_group, with_groups, inputs_grouped, Fillable}
use Rattle.trees.specs.Filling.CarriedValues.{line_gate, more_left, Carries, inputs_carry, line_value, line_carries}
use Rattle.trees.specs.Filling.GateLinks.{tree_group, groups_in, group_at, groups_joined_lem, inputs_in, gates_fillable}
use Rattle.trees.specs.Families.NormalWirings.{Joins, joins_cases, joins_none}
use Rattle.trees.specs.Filling.GateGroups.{net_joins}
use Rattle.trees.specs.Keeping.KeptLinks.{same_used, same_net, gate_groups_length, gate_group_at, same_groups, filled_keeps, kept_links}

-- A filling of a wiring that computes the table: each gate line keeps its left and right, and the tables make the value the ink at every assignment.
pub record Filling (m n : ℕ) (f : ℕ → ℕ) (gates filling : List Gate) : Type 0 where
  pub wiring : gate_links filling ≡ gate_links gates
  pub tables : Tables m filling
  pub computes : Computes m n filling f

-- every input that matters is used
abbrev pub UsesMattering : ℕ → ℕ → (ℕ → ℕ) → List Gate → Type 0
UsesMattering m n f gates = (i : ℕ) → i < n → matters m n f i ≡ true → any (eqb i) (used_by gates) ≡ true

-- the group of every gate has at most m classes
abbrev pub GatesFew : ℕ → ℕ → (ℕ → ℕ) → List Gate → Type 0
GatesFew m n f gates = (k : ℕ) → k < length gates → Few m n f (get_or (gate_groups n gates) k 0)

-- ---- the class rule's filling

module _ (m n : ℕ) (pos : 0 < m) (f : ℕ → ℕ) where
  -- its tables are valid
  filled_tables : (groups : List ℕ) (links : List Link) → Fillable m n f groups links → ((p : ℕ) → p < m ^ n → f p < m)
      → Tables m (filled_from m n f groups links)
  unfolding filled_from
  filled_tables groups [] may inks = tt
  filled_tables groups (l ∷ links) may inks =
      (gate_table m n pos f _ _ may.2 inks _, filled_tables (groups ++ (link_group groups l ∷ [])) links may.3 inks)

  module _ (p : ℕ) where
    -- the last gate of some links gives the ink
    last_gives : (groups values : List ℕ) (l : Link) (links : List Link) → Carries m n pos f p groups values → Fillable m n f groups (l ∷ links)
        → get_or (with_gates m values (filled_from m n f groups (l ∷ links))) (length groups + length links) 0
        ≡ given m n f true (get_or (with_groups groups (l ∷ links)) (length groups + length links) 0) p
    unfolding filled_from with_each
    last_gives groups values l [] carries may =
        let at : length groups + 0 ≡ length values = omega (arith, carries.count) in
        let own : length groups + 0 ≡ length groups = omega arith in
        let v : ℕ = gate_value m values (line_gate m n f true groups l) in
        ap (λ (i : ℕ). get_or (values ++ (v ∷ [])) i 0) at ∙ get_or-append_seam values v [] 0
        ∙ line_value m n pos f p groups values l true carries may.0 may.1 may.2
        ∙ ap (λ (x : ℕ). given m n f true x p)
        (sym (ap (λ (i : ℕ). get_or (groups ++ (link_group groups l ∷ [])) i 0) own ∙ get_or-append_seam groups (link_group groups l) [] 0))
    last_gives groups values l (k ∷ links) carries may =
        let next = line_carries m n pos f p groups values l carries may.0 may.1 may.2 in
        let on : length groups + suc (length links) ≡ length (groups ++ (link_group groups l ∷ [])) + length links =
        omega (arith, length_snoc groups (link_group groups l)) in
        rw (more_left m n f groups l k links, on)
        (last_gives (groups ++ (link_group groups l ∷ [])) (values ++ (gate_value m values (line_gate m n f false groups l) ∷ [])) k links next may.3)

    -- the value of a wiring's filling is what its last gate must give
    filled_gives : (links : List Link) → 0 < length links → Fillable m n f (input_groups n) links
        → value m n (filled m n f links) p ≡ given m n f true (get_or (with_groups (input_groups n) links) (n + length links - 1) 0) p
    unfolding value value_with filled
    filled_gives [] some may = absurd (omega arith)
    filled_gives (l ∷ links) some may =
        let count = sym (length-map (filled m n f (l ∷ links)) link_of) ∙ ap length (filled_keeps m n f (l ∷ links)) in
        let at : n + length (filled m n f (l ∷ links)) - 1 ≡ length (input_groups n) + length links = omega (arith, (inputs_grouped n).0) in
        let own : n + suc (length links) - 1 ≡ length (input_groups n) + length links = omega (arith, (inputs_grouped n).0) in
        rw (at, own) (last_gives (input_groups n) (levels_at m n p) l links (inputs_carry m n pos f p) may)

-- ---- the last gate's group

-- the groups of the references are those of their trees
groups_of_trees : (forest : List Tree) (gates : List Gate) → RefersBack (length forest) gates
    → with_groups (groups_in forest) (gate_links gates) ≡ groups_in (with_trees forest gates)
unfolding with_each
groups_of_trees forest [] back = refl
groups_of_trees forest (g ∷ gates) back =
    ap (λ (gs : List ℕ). with_groups gs (gate_links gates)) (groups_joined_lem forest g back.0 back.1)
    ∙ groups_of_trees (forest ++ (joined_tree forest g ∷ [])) gates (rw length_snoc back.2)

-- and they are groups of inputs below n
pub group_small : (m n : ℕ) (gates : List Gate) → IsNet m n gates → (r : ℕ) → r < n + length gates
    → get_or (with_groups (input_groups n) (gate_links gates)) r 0 < 2 ^ n
group_small m n gates net r h =
    let forest : List Tree = with_trees (input_trees n) gates in
    let back : RefersBack (length (input_trees n)) gates = rw inputs_length net.rules.back in
    let grown = grown_gates m n gates [] (input_trees n) (grown_inputs m n) back net.rules.once net.rules.tables in
    let r< : r < length forest = omega (arith, with_each_length joined_tree (input_trees n) gates, inputs_length n) in
    subst⁻¹ (λ (g : ℕ). g < 2 ^ n)
    (ap (λ (gs : List ℕ). get_or (with_groups gs (gate_links gates)) r 0) (sym (inputs_in n))
    ∙ ap (λ (gs : List ℕ). get_or gs r 0) (groups_of_trees (input_trees n) gates back)
    ∙ group_at forest r r<)
    (group_below n (wiring_in (tree_at forest r)) (grown.once r r<))

-- a net's leaves are the group of its last gate
last_leaves : (m n : ℕ) (gates : List Gate) (net : IsNet m n gates)
    → get_or (with_groups (input_groups n) (gate_links gates)) (n + length gates - 1) 0 ≡ net_group m n gates net
last_leaves m n gates net =
    let forest : List Tree = with_trees (input_trees n) gates in
    let at : ℕ = n + length gates - 1 in
    ap (λ (gs : List ℕ). get_or (with_groups gs (gate_links gates)) at 0) (sym (inputs_in n))
    ∙ ap (λ (gs : List ℕ). get_or gs at 0) (groups_of_trees (input_trees n) gates (rw inputs_length net.rules.back))
    ∙ group_at forest at (omega (arith, net.some, with_each_length joined_tree (input_trees n) gates, inputs_length n))
    ∙ ap tree_group (sym (net_tree m n gates net).last)

-- what holds for every gate's group of a wiring holds for each group that it joins
each_joined : (P : ℕ → Type 0) (w : Wiring) → EachGate P w → (h : ℕ) → Joins h w → P h
each_joined P (input i) each h is = absurd (joins_none h i is)
each_joined P (gate a b) each h is =
    ⊎_elim (each_joined P a each.1 h) (λ later. ⊎_elim (each_joined P b each.2 h) (λ own. subst⁻¹ P own each.0) later) (joins_cases h a b is)

-- ---- the inputs that are left out

-- "A kept wiring that leaves out an input that matters" (document 02, K12), as the test
abbrev leaves_out_of : ℕ → ℕ → (ℕ → ℕ) → List Gate → Bool
leaves_out_of m n f gates = any (λ i. not (any (eqb i) (used_by gates)) && matters m n f i) (range 0 n)

-- it fails exactly if every input that matters is used
out_none : (m n : ℕ) (f : ℕ → ℕ) (gates : List Gate) → (leaves_out_of m n f gates ≡ false) ↔ UsesMattering m n f gates
out_none m n f gates = (
  λ none i i< is. used (any (eqb i) (used_by gates)) (matters m n f i) is (none_mem test (mem_range 0 n i (omega arith) (omega arith)) none),
  λ uses. not_true_false (leaves_out_of m n f gates) λ some.
      let (k<, passes) = first_passing test 0 (range 0 n) some in
      let i : ℕ = get_or (range 0 n) (first_place test (range 0 n)) 0 in
      let i< = (range_mem 0 n i (mem_get_or (range 0 n) (first_place test (range 0 n)) 0 k<)).1 in
      let (free, is) = (and-eq-true_iff _ _).0 passes in
      true≢false (sym free ∙ ap not (uses i (omega arith) is)),
)
  where
    test : ℕ → Bool
    test i = not (any (eqb i) (used_by gates)) && matters m n f i

    used : (s t : Bool) → t ≡ true → (not s && t) ≡ false → s ≡ true
    used true t is e = refl
    used false t is e = absurd (true≢false (sym is ∙ e))

-- the same for a net sheet and a table sheet
pub leaves_out_none : (net : Net) (t : Table)
    → (leaves_out net t ≡ false) ↔ UsesMattering net.header.levels net.header.inputs (ink_in t.inks) net.gates
unfolding leaves_out
leaves_out_none net t = out_none net.header.levels net.header.inputs (ink_in t.inks) net.gates

-- ---- both ways

module _ (m n : ℕ) (pos : 0 < m) (f : ℕ → ℕ) (gates : List Gate) (net : IsNet m n gates) where
  -- the net's leaves include every input that matters exactly if those are used
  pub uses_holding : UsesMattering m n f gates ↔ Holding m n pos f (net_group m n gates net)
  uses_holding = (
    λ uses i i< is. sym (net_uses m n gates net i i<) ∙ uses i i< is,
    λ holds i i< is. net_uses m n gates net i i< ∙ holds i i< is,
  )

  -- Whatever the digits: if a filling computes the table, every input that matters is used, ..
  pub filling_uses : (filling : List Gate) → Filling m n f gates filling → UsesMattering m n f gates
  filling_uses filling fills i i< is =
      let own : IsNet m n filling = same_net m n gates filling fills.wiring net fills.tables in
      ap (any (eqb i)) (sym (same_used gates filling fills.wiring))
      ∙ net_uses m n filling own i i< ∙ net_holds m n pos f filling own fills.computes i i< is

  -- .. and each gate's group has at most m classes.
  pub filling_few : (filling : List Gate) → Filling m n f gates filling → GatesFew m n f gates
  filling_few filling fills k k< =
      let own : IsNet m n filling = same_net m n gates filling fills.wiring net fills.tables in
      let few : EachGate (Few m n f) (net_wiring m n filling own) = net_few m n pos f filling own fills.computes in
      let groups : gate_groups n filling ≡ gate_groups n gates = same_groups n gates filling fills.wiring in
      let here = mem_get_or (gate_groups n gates) k 0 (omega (arith, gate_groups_length n gates)) in
      each_joined (Few m n f) (net_wiring m n filling own) few (get_or (gate_groups n gates) k 0)
      ((net_joins m n filling own (get_or (gate_groups n gates) k 0)).0
      (subst⁻¹ (Memᴰ (get_or (gate_groups n gates) k 0)) groups here))

  module _ (few : GatesFew m n f gates) where
    -- the wiring can be filled
    pub kept_fillable : Fillable m n f (input_groups n) (gate_links gates)
    kept_fillable = gates_fillable m n f pos gates net.rules (λ k h. rw (gate_group_at n gates k) (few k h))

    -- and if every input that matters is used, the class rule's filling computes the table
    kept_value : UsesMattering m n f gates → (p : ℕ) → p < m ^ n → value m n (kept_gates m n f gates) p ≡ f p
    unfolding kept_gates given
    kept_value uses p p< =
        let count = length-map gates link_of in
        let at : n + length (gate_links gates) - 1 ≡ n + length gates - 1 = omega arith in
        filled_gives m n pos f p (gate_links gates) (omega (arith, net.some)) kept_fillable
        ∙ ap (λ (r : ℕ). f (part m n (get_or (with_groups (input_groups n) (gate_links gates)) r 0) p)) at
        ∙ ap (λ (g : ℕ). f (part m n g p)) (last_leaves m n gates net)
        ∙ holding_part m n pos f (net_group m n gates net) p (net_group_below m n gates net) (uses_holding.0 uses) p<

    pub kept_fills : UsesMattering m n f gates → ((p : ℕ) → p < m ^ n → f p < m) → Filling m n f gates (kept_gates m n f gates)
    unfolding kept_gates filled
    kept_fills uses inks = record {
      wiring = kept_links m n f gates;
      tables = filled_tables m n pos f (input_groups n) (gate_links gates) kept_fillable inks;
      computes = kept_value uses;
    }

  -- ---- the first gate with too many

  -- the gates before it have few, ..
  pub roomy_before_lem : (k : ℕ) → k < roomy_gates m n f gates → Few m n f (get_or (gate_groups n gates) k 0)
  unfolding roomy_gates
  roomy_before_lem k h = ltb-false m _ (before_first (λ g. ltb m (multiplicity m n f g)) 0 (gate_groups n gates) k h)

  -- .. and it has too many
  pub crowded_at : roomy_gates m n f gates < length gates → m < multiplicity m n f (get_or (gate_groups n gates) (roomy_gates m n f gates) 0)
  unfolding roomy_gates
  crowded_at h = ltb-true m _ (at_first (λ g. ltb m (multiplicity m n f g)) 0 (gate_groups n gates) (omega (arith, gate_groups_length n gates)))

  -- there is no such gate exactly if all have few
  pub all_roomy : (length gates ≤ roomy_gates m n f gates) ↔ GatesFew m n f gates
  all_roomy = (λ all k h. roomy_before_lem k (omega arith), λ few. go few (dec_le (length gates) (roomy_gates m n f gates)))
    where
      go : GatesFew m n f gates → Dec (length gates ≤ roomy_gates m n f gates) → length gates ≤ roomy_gates m n f gates
      go few (yes all) = all
      go few (no some) = let at = crowded_at (lt_of_not-le some) in absurd (omega (arith, few (roomy_gates m n f gates) (lt_of_not-le some)))

  -- "refused with 23 exactly when no filling of that wiring computes the table": an input that matters is unused, or some group has over m classes
  pub no_filling : ((p : ℕ) → p < m ^ n → f p < m)
      → ((UsesMattering m n f gates → ⊥) ⊎ (roomy_gates m n f gates < length gates)) ↔ ((filling : List Gate) → Filling m n f gates filling → ⊥)
  no_filling inks = (
    λ why filling fills. ⊎_elim (λ out. out (filling_uses filling fills)) (λ some. omega (arith, all_roomy.1 (filling_few filling fills))) why,
    λ none. go none (leaves_out_of m n f gates) refl (dec_lt (roomy_gates m n f gates) (length gates)),
  )
    where
      go : ((filling : List Gate) → Filling m n f gates filling → ⊥) → (b : Bool) → leaves_out_of m n f gates ≡ b → Dec (roomy_gates m n f gates < length gates)
          → (UsesMattering m n f gates → ⊥) ⊎ (roomy_gates m n f gates < length gates)
      go none true out _ = inl (λ uses. true≢false (sym out ∙ (out_none m n f gates).1 uses))
      go none false takes (yes some) = inr some
      go none false takes (no all) = absurd (none (kept_gates m n f gates) (kept_fills (all_roomy.0 (omega arith)) ((out_none m n f gates).0 takes) inks))
