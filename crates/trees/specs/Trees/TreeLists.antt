-- A tree is a net: its gates written out ("A's, then B's, then the group's own") with its own digits, whatever they are, follow every
-- rule of a net sheet and have the tree's value. `NetTree` proves the converse: a net is a tree.
-- Assumes nothing.
use Rattle.std.specs.Prelude.{◌<◌, ◌≤◌, ◌+◌, ◌≡◌, ◌∷◌, ◌++◌}
use Rattle.laws.specs.Prelude.{ℕ, suc, ◌∙◌, sym, ap, refl, by_cases, true, false, Bool, List, [], Memᴰ}
use Rattle.laws.specs.Prelude.{zero-add, add-zero, add_assoc, dec_lt, arith, eqb, length, get_or, length-append, eq-eqb}
use Rattle.rules.specs.Groups.Groups.{member}
use Rattle.rules.specs.Lists.{range, any, those}
use Rattle.rules.specs.Nets.Trees.{Tree, leaf, node, wiring_in, EachOnce, Filled, UsesJust}
use Rattle.rules.specs.Nets.Wirings.{group_of, gates_in, reference_to}
use Rattle.rules.specs.Sheets.SheetRules.{RefersBack, Tables, EarlierUsed, IsNet}
use Rattle.rules.specs.Sheets.Sheets.{Gate, used_by, level, levels_at}
use Rattle.laws.specs.Numbers.Levels.{levels_length}
use Rattle.laws.specs.Lists.Tests.{one_where, one_if_le, one_if_or, mem_any}
use Rattle.laws.specs.Lists.Ranges.{range_append, mem_range, map_range_at}
use Rattle.laws.specs.Lists.Places.{mem_get_or, mem_place}
use Rattle.laws.specs.Lists.Finds.{those_mem}
use Rattle.laws.specs.Lists.Listed.{mem_those, those_pass}
use Rattle.laws.specs.Lists.Counts.{count_cons, count_append, count_none, times, not_one, times_range}
use Rattle.laws.specs.Lists.Distinct.{times_distinct}
use Rattle.trees.specs.Groups.Members.{member_single, member_join, size_le}
use Rattle.trees.specs.Trees.Wirings.{group_below, gates_in_size}
use Rattle.trees.specs.Trees.JoinedLists.{used_append, refers_append, tables_append}

-- ---- a number in a list

-- a listed number is counted, ..
times_listed : (r : ℕ) (xs : List ℕ) → Memᴰ r xs → 0 < times r xs
times_listed r xs is =
    let (j, j<, at) = mem_place r (those (eqb r) xs) (mem_those (eqb r) r xs is (eq-eqb r r refl)) in
    omega arith

-- .. a counted number is listed, ..
some_listed : (r : ℕ) (xs : List ℕ) → 0 < times r xs → any (eqb r) xs ≡ true
some_listed r xs h =
    let is = mem_get_or (those (eqb r) xs) 0 0 h in
    mem_any (eqb r) (those_mem (eqb r) xs _ is) (those_pass (eqb r) _ xs is)

-- .. and a count of 1 or 0 says whether the number is listed
stands : (r : ℕ) (xs : List ℕ) (t : Bool) → times r xs ≡ one_where t → any (eqb r) xs ≡ t
stands r xs true e = some_listed r xs (omega arith)
stands r xs false e = count_none (eqb r) xs e

-- how many gates a tree has
abbrev pub gates_of : Tree → ℕ
gates_of t = gates_in (wiring_in t)

-- the reference to a tree whose lines come after `before` others
abbrev pub ref_to : ℕ → ℕ → Tree → ℕ
ref_to n before t = reference_to n before (wiring_in t)

-- a gate's own line, which comes after those of its two trees
abbrev pub own_line_of : ℕ → ℕ → List ℕ → Tree → Tree → Gate
own_line_of n before digits a b = record { left = ref_to n before a; right = ref_to n (before + gates_of a) b; digits = digits }

-- A tree's gate lines, after `before` others: "A's, then B's, then the group's own."
unfoldable pub tree_gates : ℕ → ℕ → Tree → List Gate
tree_gates n before (leaf i) = []
tree_gates n before (node digits a b) = tree_gates n before a ++ tree_gates n (before + gates_of a) b ++ (own_line_of n before digits a b ∷ [])

module _ (n : ℕ) where
  -- the lines below the gate that joins the two
  abbrev below : ℕ → Tree → Tree → List Gate
  below before a b = tree_gates n before a ++ tree_gates n (before + gates_of a) b

  -- ---- how many lines

  pub lines_length : (before : ℕ) (t : Tree) → length (tree_gates n before t) ≡ gates_of t
  unfolding tree_gates gates_in
  lines_length before (leaf i) = refl
  lines_length before (node digits a b) = simp (length-append, lines_length before a, lines_length (before + gates_of a) b)

  pub below_length : (before : ℕ) (a b : Tree) → length (below before a b) ≡ gates_of a + gates_of b
  below_length before a b = simp (length-append, lines_length before a, lines_length (before + gates_of a) b)

  -- ---- references back

  -- the reference to a tree is to an input, or to the last of its own lines
  pub reference_back : (before : ℕ) (t : Tree) → EachOnce n (wiring_in t) → ref_to n before t < n + before + gates_of t
  unfolding reference_to gates_in
  reference_back before (leaf i) once = omega arith
  reference_back before (node digits a b) once = omega arith

  pub lines_back : (before : ℕ) (t : Tree) → EachOnce n (wiring_in t) → RefersBack (n + before) (tree_gates n before t)
  unfolding tree_gates
  lines_back before (leaf i) once = tt
  lines_back before (node digits a b) once =
      let mid = before + gates_of a in
      let la = lines_length before a in
      let lab = below_length before a b in
      let ra = reference_back before a once.1 in
      let rb = reference_back mid b once.2 in
      let back_a = lines_back before a once.1 in
      let back_b = lines_back mid b once.2 in
      let back_ab = refers_append (n + before) (n + mid) (tree_gates n before a) (tree_gates n mid b) (omega arith) back_a back_b in
      let own : RefersBack (n + mid + gates_of b) (own_line_of n before digits a b ∷ []) = (omega arith, omega arith, tt) in
      refers_append (n + before) (n + mid + gates_of b) (below before a b) (own_line_of n before digits a b ∷ []) (omega arith) back_ab own

  -- ---- none used twice

  -- how often r is used by a tree's lines or by the line above them
  uses : ℕ → ℕ → Tree → ℕ
  uses r before t = times r (used_by (tree_gates n before t)) + one_where (eqb r (ref_to n before t))

  -- a gate adds one use: its own, by the line above
  uses_node : (r before : ℕ) (digits : List ℕ) (a b : Tree)
      → uses r before (node digits a b)
      ≡ uses r before a + uses r (before + gates_of a) b + one_where (eqb r (n + before + gates_of a + gates_of b))
  unfolding uses tree_gates reference_to used_by those
  uses_node r before digits a b = simp (used_append, count_append, count_cons) (omega arith)

  -- an input is used once if it is a member of the tree's group, and otherwise not at all
  uses_input : (r before : ℕ) (t : Tree) → EachOnce n (wiring_in t) → r < n → uses r before t ≡ one_where (member r (group_of (wiring_in t)))
  unfolding uses tree_gates reference_to used_by those group_of
  uses_input r before (leaf i) once h = rw (member_single, zero-add)
  uses_input r before (node digits a b) once h =
      let ga = group_of (wiring_in a) in
      let gb = group_of (wiring_in b) in
      let join = member_join r n ga gb (group_below n (wiring_in a) once.1) (group_below n (wiring_in b) once.2) once.0 h in
      let sum = uses_node r before digits a b in
      let in_a = uses_input r before a once.1 h in
      let in_b = uses_input r (before + gates_of a) b once.2 h in
      let own = not_one r (n + before + gates_of a + gates_of b) (omega arith) in
      rw (join, one_if_or (member r ga) (member r gb) (once.0 r h)) (omega arith)

  -- a gate is used once if it is one of the tree's, and otherwise not at all
  uses_of_gate : (r before : ℕ) (t : Tree) → EachOnce n (wiring_in t) → n ≤ r → uses r before t ≡ times r (range (n + before) (gates_of t))
  unfolding uses tree_gates reference_to used_by those gates_in range
  uses_of_gate r before (leaf i) once h = rw (not_one r i (omega arith))
  uses_of_gate r before (node digits a b) once h =
      let sum = uses_node r before digits a b in
      let in_a = uses_of_gate r before a once.1 h in
      let in_b = rw (← add_assoc n before (gates_of a)) at (uses_of_gate r (before + gates_of a) b once.2 h) in
      let own = add_assoc (n + before) (gates_of a) (gates_of b) in
      simp (range_append, count_append, count_cons, ← own) (omega arith)

  -- so no reference is used twice
  used_at_most_once : (r before : ℕ) (t : Tree) → EachOnce n (wiring_in t) → times r (used_by (tree_gates n before t)) ≤ 1
  unfolding uses
  used_at_most_once r before t once =
      by_cases (dec_lt r n)
      (λ h. omega (arith, uses_input r before t once h, one_if_le (member r (group_of (wiring_in t)))))
      (λ h. omega (arith, uses_of_gate r before t once (omega arith), times_range r (n + before) (gates_of t)))

  -- ---- which are used

  -- the reference to a tree with a gate is to the last of its lines
  last_line : (t : Tree) → 0 < gates_of t → suc (ref_to n 0 t) ≡ n + gates_of t
  unfolding reference_to gates_in
  last_line (leaf i) some = absurd (omega arith)
  last_line (node digits a b) some = omega arith

  -- so its lines use exactly its leaves, ..
  pub lines_use : (t : Tree) → EachOnce n (wiring_in t) → 0 < gates_of t → UsesJust n (tree_gates n 0 t) (group_of (wiring_in t))
  unfolding uses
  lines_use t once some r h =
      let own = not_one r (ref_to n 0 t) (λ e. omega (arith, last_line t some)) in
      stands r (used_by (tree_gates n 0 t)) (member r (group_of (wiring_in t))) (omega (arith, uses_input r 0 t once h))

  -- .. and every line but the last
  lines_used : (t : Tree) → EachOnce n (wiring_in t) → EarlierUsed n (tree_gates n 0 t)
  unfolding uses
  lines_used t once k h =
      let count = lines_length 0 t in
      let own = not_one (n + k) (ref_to n 0 t) (λ e. omega (arith, last_line t (omega arith))) in
      let one = times_listed (n + k) (range (n + 0) (gates_of t)) (mem_range (n + 0) (gates_of t) (n + k) (omega arith) (omega arith)) in
      some_listed (n + k) (used_by (tree_gates n 0 t)) (omega (arith, uses_of_gate (n + k) 0 t once (omega arith)))

  module _ (m : ℕ) where
    -- ---- the rules of a net sheet

    -- the lines' tables are the tree's
    lines_tables : (before : ℕ) (t : Tree) → Filled m t → Tables m (tree_gates n before t)
    unfolding tree_gates
    lines_tables before (leaf i) filled = tt
    lines_tables before (node digits a b) filled =
        let mid = before + gates_of a in
        let below_own = tables_append m (tree_gates n before a) (tree_gates n mid b) (lines_tables before a filled.1) (lines_tables mid b filled.2) in
        tables_append m (below before a b) (own_line_of n before digits a b ∷ []) below_own (filled.0, tt)

    -- a tree with a gate
    pub tree_net : (t : Tree) → EachOnce n (wiring_in t) → 0 < gates_of t → Filled m t → IsNet m n (tree_gates n 0 t)
    tree_net t once some filled = record {
      some = omega (arith, lines_length 0 t);
      count = omega (arith, lines_length 0 t, gates_in_size n (wiring_in t) once, size_le n (group_of (wiring_in t)));
      rules = record {
        back = rw add-zero at (lines_back 0 t once);
        once = times_distinct (used_by (tree_gates n 0 t)) (λ r. used_at_most_once r 0 t once);
        tables = lines_tables 0 t filled;
      };
      used = lines_used t once;
    }

    -- ---- the value

    -- `vs` holds the values of the references before a tree's lines: the inputs' first
    abbrev pub Valued : ℕ → ℕ → List ℕ → Type 0
    Valued p before vs = (length vs ≡ n + before) × ((i : ℕ) → i < n → get_or vs i 0 ≡ level m n p i)

    -- before any line these are the inputs' levels
    pub levels_valued : (p : ℕ) → Valued p 0 (levels_at m n p)
    unfolding levels_at
    levels_valued p = (
      levels_length m n p ∙ sym (add-zero n),
      λ i h. map_range_at (level m n p) 0 n i 0 h ∙ ap (level m n p) (zero-add i),
    )
