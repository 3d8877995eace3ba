-- The links of a wiring, filled by the class rule: the group of each reference is that of the wiring it refers to, so the filling is
-- the wiring's gate list, which follows the rules of a net sheet and has the tree's value. Also, what a list of links needs in order to be filled.
-- Assumes nothing.
use Rattle.std.specs.Prelude.{◌<◌, ◌+◌, ◌^◌, ◌≡◌, ◌∷◌, ◌++◌}
use Rattle.laws.specs.Prelude.{ℕ, ◌∙◌, sym, ap, refl, ap₂, true, false, Bool, List, [], append_assoc, append-nil, zero-add}
use Rattle.laws.specs.Prelude.{add-zero, arith, eqb, length, get_or, length-append, get_or-append_seam, ne_eqb}
use Rattle.rules.specs.Lists.{with_each}
use Rattle.rules.specs.Nets.Filling.{gate_digits, input_groups, filled_from, filled}
use Rattle.rules.specs.Nets.Trees.{EachOnce}
use Rattle.rules.specs.Nets.Wirings.{Wiring, input, gate, group_of, Link, gates_in, reference_to, links_of}
use Rattle.rules.specs.Sheets.Sheets.{Gate}
use Rattle.laws.specs.Lists.Ranges.{map_range_length, map_range_at}
use Rattle.trees.specs.Trees.Trees.{EachGate}
use Rattle.laws.specs.Lists.WithEach.{with_each_append, with_each_length, with_each_earlier}
use Rattle.trees.specs.Groups.Classes.{Few}
use Rattle.trees.specs.Filling.DigitRule.{Parts}
use Rattle.trees.specs.Trees.Wirings.{gate_parts}
use Rattle.trees.specs.Trees.GateLists.{gate_list, reference_below}

-- ---- the groups of the references

-- the group of the gate that a line makes
abbrev pub link_group : List ℕ → Link → ℕ
link_group groups l = get_or groups l.left 0 + get_or groups l.right 0

-- the groups of all references: those given, then the gates', in order
abbrev pub with_groups : List ℕ → List Link → List ℕ
with_groups groups links = with_each link_group groups links

-- ---- a wiring's links

links_length : (n before : ℕ) (w : Wiring) → length (links_of n before w) ≡ gates_in w
unfolding links_of gates_in
links_length n before (input i) = refl
links_length n before (gate a b) = simp (length-append, links_length n before a, links_length n (before + gates_in a) b)

module _ (n : ℕ) where
  -- a gate's own line
  abbrev pub own_link : ℕ → Wiring → Wiring → Link
  own_link before a b = record { left = reference_to n before a; right = reference_to n (before + gates_in a) b }

  -- `groups` holds the groups of the references before a wiring's lines: the inputs' first
  abbrev pub Grouped : ℕ → List ℕ → Type 0
  Grouped before groups = (length groups ≡ n + before) × ((i : ℕ) → i < n → get_or groups i 0 ≡ 2 ^ i)

  -- and a wiring's lines add its gates' groups
  abbrev pub groups_after : List ℕ → ℕ → Wiring → List ℕ
  groups_after groups before w = with_groups groups (links_of n before w)

  pub grouped_after : (before : ℕ) (groups : List ℕ) (w : Wiring) → Grouped before groups → Grouped (before + gates_in w) (groups_after groups before w)
  grouped_after before groups w grouped = (
    omega (arith, with_each_length link_group groups (links_of n before w), links_length n before w, grouped.0),
    λ i h. with_each_earlier link_group 0 groups (links_of n before w) i (omega arith) ∙ grouped.1 i h,
  )

  -- the groups after the lines below a gate
  abbrev pub groups_below : List ℕ → ℕ → Wiring → Wiring → List ℕ
  groups_below groups before a b = groups_after (groups_after groups before a) (before + gates_in a) b

  -- before any line, these are the inputs' groups
  pub inputs_grouped : Grouped 0 (input_groups n)
  unfolding input_groups
  inputs_grouped = (
    map_range_length (λ i. 2 ^ i) 0 n ∙ sym (add-zero n),
    λ i h. map_range_at (λ j. 2 ^ j) 0 n i 0 h ∙ ap (λ (j : ℕ). 2 ^ j) (zero-add i),
  )

  -- the lines below a gate do not change the group at the reference to its left side
  left_kept : (before : ℕ) (groups : List ℕ) (a b : Wiring) → EachOnce n a → Grouped before groups
      → get_or (groups_below groups before a b) (reference_to n before a) 0 ≡ get_or (groups_after groups before a) (reference_to n before a) 0
  left_kept before groups a b once grouped =
      with_each_earlier link_group 0 (groups_after groups before a) (links_of n (before + gates_in a) b) (reference_to n before a)
      (omega (arith, (grouped_after before groups a grouped).0, reference_below n before a once))

  -- after a wiring's lines, the group at the reference to it is its own
  pub group_at_reference : (before : ℕ) (groups : List ℕ) (w : Wiring) → EachOnce n w → Grouped before groups
      → get_or (groups_after groups before w) (reference_to n before w) 0 ≡ group_of w
  unfolding links_of with_each reference_to group_of
  group_at_reference before groups (input i) once grouped = grouped.1 i once
  group_at_reference before groups (gate a b) once grouped =
      let mid = before + gates_in a in
      let after_a = grouped_after before groups a grouped in
      let after_b = grouped_after mid (groups_after groups before a) b after_a in
      let left = left_kept before groups a b once.1 grouped ∙ group_at_reference before groups a once.1 grouped in
      let right = group_at_reference mid (groups_after groups before a) b once.2 after_a in
      let own : n + before + gates_in a + gates_in b ≡ length (groups_below groups before a b) = omega arith in
      rw (
        with_each_append link_group groups (links_of n before a ++ links_of n mid b) (own_link before a b ∷ []),
        with_each_append link_group groups (links_of n before a) (links_of n mid b),
        own,
      )
      (get_or-append_seam (groups_below groups before a b) (link_group (groups_below groups before a b) (own_link before a b)) [] 0
      ∙ ap₂ (λ (x y : ℕ). x + y) left right)

  -- the same for both sides of a gate
  module _ (before : ℕ) (groups : List ℕ) (a b : Wiring) (once : EachOnce n (gate a b)) (grouped : Grouped before groups) where
    pub left_group : get_or (groups_below groups before a b) (reference_to n before a) 0 ≡ group_of a
    left_group = left_kept before groups a b once.1 grouped ∙ group_at_reference before groups a once.1 grouped

    pub right_group : get_or (groups_below groups before a b) (reference_to n (before + gates_in a) b) 0 ≡ group_of b
    right_group =
        group_at_reference (before + gates_in a) (groups_after groups before a) b once.2 (grouped_after before groups a grouped)

-- ---- the filling is the gate list

module _ (m n : ℕ) (f : ℕ → ℕ) where
  -- the lines of a wiring, then others
  filled_links : (before : ℕ) (groups : List ℕ) (w : Wiring) (rest : List Link) → EachOnce n w → Grouped n before groups
      → filled_from m n f groups (links_of n before w ++ rest)
      ≡ gate_list m n f (eqb (length rest) 0) before w ++ filled_from m n f (with_groups groups (links_of n before w)) rest
  unfolding links_of with_each gate_list filled_from
  filled_links before groups (input i) rest once grouped = refl
  filled_links before groups (gate a b) rest once grouped =
      ap (filled_from m n f groups) (append_assoc (of_a ++ of_b_lem) (own ∷ []) rest ∙ append_assoc of_a of_b_lem (own ∷ rest))
      ∙ filled_links before groups a (of_b_lem ++ (own ∷ rest)) once.1 grouped
      ∙ ap₂ (λ (last : Bool) (gates : List Gate). gate_list m n f last before a ++ gates)
      (ne_eqb (length (of_b_lem ++ (own ∷ rest))) 0 (λ e. omega (arith, length-append of_b_lem (own ∷ rest))))
      (filled_links mid (with_groups groups of_a) b (own ∷ rest) once.2 (grouped_after n before groups a grouped)
      ∙ ap₂ (λ (last : Bool) (gates : List Gate). gate_list m n f last mid b ++ gates)
      (ne_eqb (length (own ∷ rest)) 0 (λ e. omega arith)) own_line)
      ∙ sym (append_assoc (gate_list m n f false before a) (gate_list m n f false mid b) (line ∷ later))
      ∙ sym (append_assoc (gate_list m n f false before a ++ gate_list m n f false mid b) (line ∷ []) later)
    where
      mid : ℕ
      mid = before + gates_in a

      of_a : List Link
      of_a = links_of n before a

      of_b_lem : List Link
      of_b_lem = links_of n mid b

      own : Link
      own = own_link n before a b

      line : Gate
      line = record { left = own.left; right = own.right; digits = gate_digits m n f (eqb (length rest) 0) (group_of a) (group_of b) }

      later : List Gate
      later = filled_from m n f (with_groups groups ((of_a ++ of_b_lem) ++ (own ∷ []))) rest

      own_line : filled_from m n f (with_groups (with_groups groups of_a) of_b_lem) (own ∷ rest) ≡ line ∷ later
      own_line =
          let last : Bool = eqb (length rest) 0 in
          let at : List ℕ = groups_below n groups before a b in
          let next : List Gate = filled_from m n f (at ++ (link_group at own ∷ [])) rest in
          ap₂ (λ (x y : ℕ). record { left = own.left; right = own.right; digits = gate_digits m n f last x y } ∷ next)
          (left_group n before groups a b once grouped) (right_group n before groups a b once grouped)
          ∙ ap (λ (gs : List ℕ). line ∷ filled_from m n f gs rest)
          (sym (with_each_append link_group groups (of_a ++ of_b_lem) (own ∷ [])
          ∙ ap (λ (gs : List ℕ). with_groups gs (own ∷ [])) (with_each_append link_group groups of_a of_b_lem)))

  -- a wiring's links filled are its gate list
  pub filled_list : (w : Wiring) → EachOnce n w → filled m n f (links_of n 0 w) ≡ gate_list m n f true 0 w
  unfolding filled filled_from
  filled_list w once =
      ap (filled_from m n f (input_groups n)) (sym (append-nil (links_of n 0 w)))
      ∙ filled_links 0 (input_groups n) w [] once (inputs_grouped n)
      ∙ append-nil (gate_list m n f true 0 w)

-- ---- what can be filled

-- each line joins two groups that a gate may join
abbrev pub Fillable : ℕ → ℕ → (ℕ → ℕ) → List ℕ → List Link → Type 0
Fillable m n f groups [] = Unit {0}
Fillable m n f groups (l ∷ links) =
    (l.left < length groups) × (l.right < length groups) × Parts m n f (get_or groups l.left 0) (get_or groups l.right 0)
    × Fillable m n f (groups ++ (link_group groups l ∷ [])) links

fillable_append : (m n : ℕ) (f : ℕ → ℕ) (groups : List ℕ) (xs ys : List Link) → Fillable m n f groups xs → Fillable m n f (with_groups groups xs) ys
    → Fillable m n f groups (xs ++ ys)
unfolding with_each
fillable_append m n f groups [] ys first then = then
fillable_append m n f groups (x ∷ xs) ys first then =
    (first.0, first.1, first.2, fillable_append m n f (groups ++ (link_group groups x ∷ [])) xs ys first.3 then)

module _ (m n : ℕ) (pos : 0 < m) (f : ℕ → ℕ) where
  -- the links of a wiring with few classes at each gate
  fillable_links : (before : ℕ) (groups : List ℕ) (w : Wiring) → EachOnce n w → EachGate (Few m n f) w → Grouped n before groups
      → Fillable m n f groups (links_of n before w)
  unfolding links_of
  fillable_links before groups (input i) once few grouped = tt
  fillable_links before groups (gate a b) once few grouped =
      let mid = before + gates_in a in
      let after_a = grouped_after n before groups a grouped in
      let after_b = grouped_after n mid (groups_after n groups before a) b after_a in
      let in_a = fillable_links before groups a once.1 few.1 grouped in
      let in_b = fillable_links mid (groups_after n groups before a) b once.2 few.2 after_a in
      let at : List ℕ = groups_below n groups before a b in
      let sides : Parts m n f (get_or at (reference_to n before a) 0) (get_or at (reference_to n mid b) 0) =
      rw (left_group n before groups a b once grouped, right_group n before groups a b once grouped) (gate_parts m n pos f a b once few) in
      fillable_append m n f groups (links_of n before a ++ links_of n mid b) (own_link n before a b ∷ [])
      (fillable_append m n f groups (links_of n before a) (links_of n mid b) in_a in_b)
      (rw with_each_append (omega (arith, reference_below n before a once.1), omega (arith, reference_below n mid b once.2), sides, tt))

  pub wiring_fillable : (w : Wiring) → EachOnce n w → EachGate (Few m n f) w → Fillable m n f (input_groups n) (links_of n 0 w)
  wiring_fillable w once few = fillable_links 0 (input_groups n) w once few (inputs_grouped n)
