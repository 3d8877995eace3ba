-- The net that a choice of parts makes from a table, by value: its gates are those of the definitions, and they keep the rules of a net sheet.
-- Assumes nothing.
use Rattle.std.specs.Prelude.{◌<◌, ◌≤◌, ◌+◌, ◌-◌, ◌^◌, ◌≡◌, ◌≢◌}
use Rattle.laws.specs.Prelude.{ℕ, suc, zero, ◌∙◌, sym, ap, refl, subst, ap₂, subst⁻¹, true, false, Bool, List, arith}
use Rattle.laws.specs.Prelude.{eqb, length, take, get_or-take, eqb-false}
use Rattle.rules.specs.Limits.{most_inputs, size_fits}
use Rattle.rules.specs.Sheets.Sheets.{Gate}
use Rattle.rules.specs.Groups.Groups.{size, whole_group}
use Rattle.rules.specs.Groups.Marks.{inside, mark_in, marks_of}
use Rattle.rules.specs.Nets.Wirings as rules
use Rattle.rules.specs.Nets.Wirings.{first_input, wiring_by, links_of}
use Rattle.rules.specs.Nets.Filling.{input_groups, filled}
use Rattle.rules.specs.Nets.Leaves.{leaves_of}
use Rattle.rules.specs.Nets.Settled.{split_of, settled_wiring, settled_gates}
use Rattle.rules.specs.Nets.Shallow.{shallow_wiring, shallow_gates}
use Rattle.rules.specs.Sheets.SheetRules.{IsNet}
use Rattle.rules.specs.Calls.Answers.{ink_in}
use Rattle.radix.specs.Parts.{inside_part}
use Rattle.nets.specs.declared.forms.Net.{Net}
use Rattle.nets.specs.Forms.{gates_of}
use Rattle.laws.specs.Numbers.Sizes.{sized}
use Rattle.marks.specs.Splits.{split_agree}
use Rattle.wirings.specs.FewestLayers.{WiringKnown, shallow_agree}
use Rattle.trees.specs.Trees.Trees.{WiringOf, EachGate}
use Rattle.trees.specs.Groups.Classes.{Few}
use Rattle.trees.specs.Groups.Members.{member_inside, size_le}
use Rattle.trees.specs.Groups.MarkRule.{marked}
use Rattle.trees.specs.Trees.MarkTwo.{Split, Splits, parted, a_below, b_below, a_inside, b_inside, settled_splits, wiring_of_lem, each_gate, two_says}
use Rattle.trees.specs.Filling.Fillings.{Fillable, wiring_fillable}
use Rattle.trees.proofs.Trees.Existence.{filled_computes}
use Rattle.trees.specs.Leaves.LeafGroup.{leaves_below, leaves_hold, leaves_several}
use Rattle.trees.proofs.Leaves.CutWirings.{leaves_marked}
use Rattle.trees.specs.Shallow.Shallow.{shallow_part, shallow_splits}
use Rattle.wirings.specs.declared.choice.Choice.{Choice}
use Rattle.wirings.specs.declared.choice.Choice.TheVariants.{Settled, Shallow}
use Rattle.wirings.specs.declared.forms.Wiring.{Wiring}
use Rattle.wirings.specs.Links.{links_in}
use Rattle.wirings.specs.Choice.{split_by, LayersRoom}
use Rattle.wirings.specs.Chosen.{Choosable, Chosen}
use Rattle.gate_tables.specs.Filled.{Filled}

-- the gates of the net that a choice makes from a table
abbrev pub gates_by : Choice → ℕ → ℕ → (ℕ → ℕ) → List Gate
gates_by Settled m n f = settled_gates m n f (marks_of m n f)
gates_by Shallow m n f = shallow_gates m n f (marks_of m n f)

-- the net of these gates
pub record NetOf (m n : ℕ) (gates_are : List Gate) (net : Net) : Type 0 where
  pub levels : net.levels ≡ m
  pub inputs : net.inputs ≡ n
  pub gates : gates_of net ≡ gates_are
  -- references back, none twice, m·m digits below m
  pub kept : IsNet m n (gates_of net)

abbrev pub MadeNet : Choice → ℕ → ℕ → (ℕ → ℕ) → Net → Type 0
MadeNet choice m n f net = NetOf m n (gates_by choice m n f) net

-- a size within the bounds has a level and two inputs
pub some_level : (m n : ℕ) → size_fits m n ≡ true → 0 < m
some_level m n fit = omega (arith, (sized m n fit).levels_least)

pub two_inputs : (m n : ℕ) → size_fits m n ≡ true → 1 < n
two_inputs m n fit = omega (arith, (sized m n fit).inputs_least)

-- ---- a wiring of the leaves with few classes at each gate

module _ (m n : ℕ) (f : ℕ → ℕ) (fit : size_fits m n ≡ true) (tree : rules.Wiring) (of : WiringOf n (leaves_of m n f) tree) (few : EachGate (Few m n f) tree)
    (w : Wiring) (links : links_in w ≡ links_of n 0 tree) where
  -- can be filled, ..
  pub wiring_fills : Fillable m n f (input_groups n) (links_in w)
  wiring_fills = subst⁻¹ (Fillable m n f (input_groups n)) links (wiring_fillable m n (some_level m n fit) f tree of.0 few)

  -- .. and filled it is the net of its gates
  pub wiring_net : ((p : ℕ) → p < m ^ n → f p < m) → (net : Net) → Filled m n f w net → NetOf m n (filled m n f (links_of n 0 tree)) net
  wiring_net inks net done =
      let pos = some_level m n fit in
      let is : gates_of net ≡ filled m n f (links_of n 0 tree) = done.gates ∙ ap (filled m n f) links in
      record {
        levels = done.levels;
        inputs = done.inputs;
        gates = is;
        kept = subst⁻¹ (IsNet m n) is
            (filled_computes m n pos f (leaves_of m n f) (leaves_several m n pos f (two_inputs m n fit)) tree of (leaves_hold m n pos f) few inks).0;
      }

-- ---- the marks in an array, and the fewest layers

-- an array that has every group's mark at its number
pub record MarksIn (m n : ℕ) (f : ℕ → ℕ) (marks : List ℕ) : Type 0 where
  pub room : 2 ^ n ≤ length marks
  pub same : (g : ℕ) → g < 2 ^ n → mark_in marks g ≡ mark_in (marks_of m n f) g

-- a table that has a tree, so the whole group has mark 2: its cells, with its marks in an array and the group of its leaves
abbrev pub WithTree : ℕ → ℕ → List ℕ → List ℕ → ℕ → Type 0
WithTree m n cells marks leaves =
    (size_fits m n ≡ true) × (m ^ n ≤ length cells) × ((p : ℕ) → p < m ^ n → ink_in cells p < m) × MarksIn m n (ink_in cells) marks
    × (mark_in (marks_of m n (ink_in cells)) (whole_group n) ≡ 2) × (leaves ≡ leaves_of m n (ink_in cells))

-- as after marking
pub marks_in : (m n : ℕ) (f : ℕ → ℕ) (marks : List ℕ) → take (2 ^ n) marks ≡ marks_of m n f → 2 ^ n ≤ length marks → MarksIn m n f marks
marks_in m n f marks front room =
    record { room = room; same = λ g g<. sym (get_or-take (2 ^ n) marks g 0 g<) ∙ ap (λ (l : List ℕ). mark_in l g) front }

-- what the shallow choice also needs: the fewest layers of every group of mark 2 inside the leaves
abbrev pub LayersKnown : Choice → ℕ → List ℕ → ℕ → List ℕ → Type 0
LayersKnown Settled n marks leaves fewest = Unit {0}
LayersKnown Shallow n marks leaves fewest = (2 ^ n ≤ length fewest) × WiringKnown n marks leaves (leaves + 1) fewest

pub layers_room : (choice : Choice) (n : ℕ) (marks : List ℕ) (leaves : ℕ) (fewest : List ℕ) → LayersKnown choice n marks leaves fewest → leaves < 2 ^ n
    → LayersRoom choice leaves fewest
layers_room Settled n marks leaves fewest known leaves< = tt
layers_room Shallow n marks leaves fewest known leaves< = omega (arith, known.0)

-- ---- a choice on the marks themselves

-- A's number in each group
abbrev own_split : Choice → ℕ → List ℕ → ℕ → ℕ
own_split Settled n marks = split_of n marks
own_split Shallow n marks = shallow_part n marks

-- the wiring of some leaves
abbrev own_wiring : Choice → ℕ → List ℕ → ℕ → rules.Wiring
own_wiring choice n marks leaves = wiring_by n (own_split choice n marks) n leaves

own_gates : (choice : Choice) (m n : ℕ) (f : ℕ → ℕ)
    → filled m n f (links_of n 0 (own_wiring choice n (marks_of m n f) (leaves_of m n f))) ≡ gates_by choice m n f
unfolding settled_gates settled_wiring shallow_gates shallow_wiring
own_gates Settled m n f = refl
own_gates Shallow m n f = refl

module _ (choice : Choice) (m n : ℕ) (pos : 0 < m) (f : ℕ → ℕ) where
  -- it splits a group of mark 2 into two of mark 2
  own_splits : (leaves : ℕ) → Splits n (marked m n pos f) leaves (own_split choice n (marks_of m n f))
  own_splits = elim choice as (λ c. (leaves : ℕ) → Splits n (marked m n pos f) leaves (own_split c n (marks_of m n f))) [
    | Settled ↦ settled_splits m n pos f
    | Shallow ↦ shallow_splits m n pos f
  ]

  -- so the wiring of leaves of mark 2 has few classes at each gate
  own_wiring_of : (leaves : ℕ) → leaves < 2 ^ n → marked m n pos f leaves ≡ 2
      → WiringOf n leaves (own_wiring choice n (marks_of m n f) leaves) × EachGate (Few m n f) (own_wiring choice n (marks_of m n f) leaves)
  own_wiring_of leaves leaves< two =
      let w = wiring_of_lem n (marked m n pos f) leaves (own_split choice n (marks_of m n f)) (own_splits leaves) n leaves leaves<
      (member_inside n leaves leaves (λ i i< is. is)) (size_le n leaves) two in
      (w.0, each_gate n (own_wiring choice n (marks_of m n f) leaves) (λ g g< two_g. (two_says m n pos f g g< two_g).few) w.0.0 w.1)

-- ---- the same choice on the marks in an array

module _ (choice : Choice) (m n : ℕ) (pos : 0 < m) (f : ℕ → ℕ) (marks fewest : List ℕ) (holds : MarksIn m n f marks) (leaves : ℕ)
    (leaves< : leaves < 2 ^ n) (known : LayersKnown choice n marks leaves fewest) where
  abbrev own : ℕ → ℕ
  own = own_split choice n (marks_of m n f)

  abbrev found : ℕ → ℕ
  found = split_by choice n marks fewest

  -- the part that is found there is the same as on the marks themselves
  found_own : (g : ℕ) → g < 2 ^ n → inside n g leaves ≡ true → mark_in marks g ≡ 2 → found g ≡ own g
  found_own = elim choice as (λ c. LayersKnown c n marks leaves fewest
      → (g : ℕ) → g < 2 ^ n → inside n g leaves ≡ true → mark_in marks g ≡ 2 → split_by c n marks fewest g ≡ own_split c n (marks_of m n f) g) [
        | Settled ↦ λ _ g g< g_in two. split_agree n marks (marks_of m n f) g (λ a a<. holds.same a (omega arith))
        | Shallow ↦ λ layers g g< g_in two.
            shallow_agree n marks (marks_of m n f) holds.same fewest leaves layers.1 g g< (inside_part n g leaves g< g_in) two
      ] known

  -- it splits a group of mark 2 into two of mark 2
  split_found : (g : ℕ) → g < 2 ^ n → inside n g leaves ≡ true → mark_in marks g ≡ 2 → size n g ≢ 1 → Split n (mark_in marks) g (found g)
  split_found g g< g_in two several =
      let half = own_splits choice m n pos f g g g< (member_inside n g g (λ i i< is. is)) (sym (holds.same g g<) ∙ two) several in
      subst⁻¹ (Split n (mark_in marks) g) (found_own g g< g_in two)
      (record {
        part = half.part;
        some = half.some;
        less = half.less;
        two_a = holds.same _ (omega (arith, half.less)) ∙ half.two_a;
        two_b = holds.same _ (omega arith) ∙ half.two_b;
      })

  -- so a group of mark 2 can be wired from it, ..
  pub choosable : n ≤ most_inputs → marked m n pos f leaves ≡ 2 → Choosable n marks found leaves
  choosable inputs two =
      record {
        inputs = inputs;
        room = holds.room;
        below = leaves<;
        two = holds.same leaves leaves< ∙ two;
        splits = split_found;
      }

  -- .. and its wiring is the one from the marks themselves
  wiring_found : marked m n pos f leaves ≡ 2 → wiring_by n found n leaves ≡ own_wiring choice n (marks_of m n f) leaves
  unfolding wiring_by
  wiring_found = same n leaves leaves< (member_inside n leaves leaves (λ i i< is. is))
    where
      mark : ℕ → ℕ
      mark = marked m n pos f

      splits : Splits n mark leaves own
      splits = own_splits choice m n pos f leaves

      same : (fuel g : ℕ) → g < 2 ^ n → inside n g leaves ≡ true → mark g ≡ 2 → wiring_by n found fuel g ≡ wiring_by n own fuel g
      same zero g g< g_in two = refl
      same (suc fuel) g g< g_in two = go (eqb (size n g) 1) refl λ several.
          let half = parted n mark leaves own splits g g< g_in two several in
          ap (λ (a : ℕ). rules.gate (wiring_by n found fuel a) (wiring_by n found fuel (g - a))) (found_own g g< g_in (holds.same g g< ∙ two))
          ∙ ap₂ rules.gate
          (same fuel _ (a_below n mark leaves own splits g g< g_in two several) (a_inside n mark leaves own splits g g< g_in two several) half.two_a)
          (same fuel _ (b_below n mark leaves own splits g g< g_in two several) (b_inside n mark leaves own splits g g< g_in two several) half.two_b)
        where
          go : {w v : rules.Wiring} (b : Bool) → eqb (size n g) 1 ≡ b → (size n g ≢ 1 → w ≡ v)
              → ◌≡◌ {A = rules.Wiring} (elim b [ true ↦ rules.input (first_input n g) | false ↦ w ]) (elim b [ true ↦ rules.input (first_input n g) | false ↦ v ])
          go true one rest = refl
          go false several rest = rest (eqb-false _ _ several)

-- ---- the net

-- the leaves have mark 2 if the whole group has
pub leaves_two : (m n : ℕ) (fit : size_fits m n ≡ true) (f : ℕ → ℕ) → mark_in (marks_of m n f) (whole_group n) ≡ 2
    → marked m n (some_level m n fit) f (leaves_of m n f) ≡ 2
leaves_two m n fit f two = (leaves_marked m n (some_level m n fit) f (two_inputs m n fit)).1 two

-- the wiring chosen for a table that has a tree
module _ (choice : Choice) (m n : ℕ) (f : ℕ → ℕ) (fit : size_fits m n ≡ true) (two : mark_in (marks_of m n f) (whole_group n) ≡ 2) (marks fewest : List ℕ)
    (holds : MarksIn m n f marks) (known : LayersKnown choice n marks (leaves_of m n f) fewest) (w : Wiring)
    (chosen : Chosen n (split_by choice n marks fewest) (leaves_of m n f) w) where
  pos : 0 < m
  pos = some_level m n fit

  links_are : links_in w ≡ links_of n 0 (own_wiring choice n (marks_of m n f) (leaves_of m n f))
  links_are =
      chosen.links
      ∙ ap (links_of n 0) (wiring_found choice m n pos f marks fewest holds (leaves_of m n f) (leaves_below m n pos f) known (leaves_two m n fit f two))

  tree_of : WiringOf n (leaves_of m n f) (own_wiring choice n (marks_of m n f) (leaves_of m n f))
      × EachGate (Few m n f) (own_wiring choice n (marks_of m n f) (leaves_of m n f))
  tree_of = own_wiring_of choice m n pos f (leaves_of m n f) (leaves_below m n pos f) (leaves_two m n fit f two)

  -- has fewer gates than there are inputs, ..
  pub chosen_count : w.gates < n
  chosen_count = omega (arith, chosen.count, size_le n (leaves_of m n f))

  -- .. can be filled, ..
  pub chosen_fillable : Fillable m n f (input_groups n) (links_in w)
  chosen_fillable = wiring_fills m n f fit _ tree_of.0 tree_of.1 w links_are

  -- .. and filled it is the net that the choice makes
  pub chosen_made : ((p : ℕ) → p < m ^ n → f p < m) → (net : Net) → Filled m n f w net → MadeNet choice m n f net
  chosen_made inks net done =
      subst (λ (gates : List Gate). NetOf m n gates net) (own_gates choice m n f) (wiring_net m n f fit _ tree_of.0 tree_of.1 w links_are inks net done)
