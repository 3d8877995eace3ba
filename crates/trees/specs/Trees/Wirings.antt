-- For any group and any wiring of it: some filling determines the ink exactly if every gate's group has at most m classes,
-- and then the class rule's filling does.
-- Assumes nothing.
use Rattle.std.specs.Prelude.{◌<◌, ◌+◌, ◌^◌, ◌*◌, ◌≡◌}
use Rattle.laws.specs.Prelude.{ℕ, suc, ◌∙◌, sym, ap₂, true, false, Bool, List, arith, get_or, digits_lt, pow_pos}
use Rattle.rules.specs.Groups.Groups.{size, part}
use Rattle.rules.specs.Nets.Filling.{carried, given}
use Rattle.rules.specs.Nets.Trees.{Tree, leaf, node, wiring_in, tree_value, EachOnce, Filled}
use Rattle.rules.specs.Nets.Wirings.{Wiring, input, gate, group_of, gates_in}
use Rattle.trees.specs.Trees.Trees.{EachGate, Tells, fill}
use Rattle.trees.specs.Groups.Members.{single_below, join_below, size_single, size_join}
use Rattle.trees.specs.Groups.Levels.{level_below}
use Rattle.trees.specs.Groups.Classes.{Few, few_classes}
use Rattle.trees.specs.Leaves.Mattering.{Holding, holding_part}
use Rattle.trees.specs.Groups.Joins.{part_left, part_right, tells_left, tells_right}
use Rattle.trees.specs.Filling.Carried.{single_level, single_few, carried_several, carried_input}
use Rattle.trees.specs.Filling.DigitRule.{Parts, join_several, gate_digit, gate_table}

-- a wiring of inputs below n is of a group below 2 to the n
pub group_below : (n : ℕ) (w : Wiring) → EachOnce n w → group_of w < 2 ^ n
unfolding group_of
group_below n (input i) h = single_below i n h
group_below n (gate a b) (apart, a_once, b_once) =
    join_below n (group_of a) (group_of b) (group_below n a a_once) (group_below n b b_once) apart

-- and the group is not empty
pub group_some : (w : Wiring) → 0 < group_of w
unfolding group_of
group_some (input i) = pow_pos i
group_some (gate a b) = omega (arith, group_some a)

-- a wiring of k inputs has k − 1 gates
pub gates_in_size : (n : ℕ) (w : Wiring) → EachOnce n w → suc (gates_in w) ≡ size n (group_of w)
unfolding gates_in group_of
gates_in_size n (input i) once = sym (size_single i n once)
gates_in_size n (gate a b) once =
    omega (
      arith,
      gates_in_size n a once.1,
      gates_in_size n b once.2,
      size_join n (group_of a) (group_of b) (group_below n a once.1) (group_below n b once.2) once.0,
    )

module _ (m n : ℕ) (pos : 0 < m) where
  module _ (a b : Wiring) (once : EachOnce n (gate a b)) (p q : ℕ) (e : part m n (group_of (gate a b)) p ≡ part m n (group_of (gate a b)) q) where
    -- what a gate's group is given determines what its left side's group is given
    left_given : part m n (group_of a) p ≡ part m n (group_of a) q
    unfolding group_of
    left_given = part_left m n pos (group_of a) (group_of b) (group_below n a once.1) (group_below n b once.2) once.0 p q e

    -- and what its right side's group is given
    right_given : part m n (group_of b) p ≡ part m n (group_of b) q
    unfolding group_of
    right_given = part_right m n pos (group_of a) (group_of b) (group_below n a once.1) (group_below n b once.2) once.0 p q e

module _ (m n : ℕ) (pos : 0 < m) (f : ℕ → ℕ) where
  -- a tree's value is below m, and depends only on the levels at its leaves
  pub tree_below : (t : Tree) → Filled m t → (p : ℕ) → tree_value m n t p < m
  unfolding tree_value
  tree_below (leaf i) filled p = level_below m n pos p i
  tree_below (node digits a b) (table, a_filled, b_filled) p =
      table.below _ (rw table.count (digits_lt (tree_below a a_filled p) (tree_below b b_filled p)))

  pub tree_part : (t : Tree) → EachOnce n (wiring_in t) → (p q : ℕ)
      → part m n (group_of (wiring_in t)) p ≡ part m n (group_of (wiring_in t)) q → tree_value m n t p ≡ tree_value m n t q
  unfolding tree_value group_of
  tree_part (leaf i) h p q e = single_level m n pos i p q h e
  tree_part (node digits a b) once p q e =
      ap₂ (λ u v. get_or digits (u * m + v) 0)
      (tree_part a once.1 p q (left_given m n pos (wiring_in a) (wiring_in b) once p q e))
      (tree_part b once.2 p q (right_given m n pos (wiring_in a) (wiring_in b) once p q e))

  -- if a gate's value determines the ink, so does the value of each side
  sides_tell : (digits : List ℕ) (a b : Tree) → EachOnce n (wiring_in (node digits a b))
      → Tells m n f (group_of (wiring_in (node digits a b))) (tree_value m n (node digits a b))
      → Tells m n f (group_of (wiring_in a)) (tree_value m n a) × Tells m n f (group_of (wiring_in b)) (tree_value m n b)
  unfolding tree_value group_of
  sides_tell digits a b (apart, a_once, b_once) tells =
      let b< = group_below n (wiring_in b) b_once in
      let a< = group_below n (wiring_in a) a_once in (
        tells_left m n pos _ _ a< b< apart f _ _ _ (tree_part a a_once) (tree_part b b_once) settled tells,
        tells_right m n pos _ _ a< b< apart f _ _ _ (tree_part a a_once) (tree_part b b_once) settled tells,
      )
    where
      settled : (p q : ℕ) → tree_value m n a p ≡ tree_value m n a q → tree_value m n b p ≡ tree_value m n b q
          → tree_value m n (node digits a b) p ≡ tree_value m n (node digits a b) q
      settled p q = ap₂ (λ u v. get_or digits (u * m + v) 0)

  -- Necessity: whatever the digits, if the root's value and the other inputs determine the ink, then every gate's group
  -- has at most m classes.
  pub necessity : (t : Tree) → EachOnce n (wiring_in t) → Filled m t → Tells m n f (group_of (wiring_in t)) (tree_value m n t)
      → EachGate (Few m n f) (wiring_in t)
  necessity (leaf i) once filled tells = tt
  necessity (node digits a b) once filled tells =
      let sides = sides_tell digits a b once tells in (
        few_classes m n pos f _ (group_below n (wiring_in (node digits a b)) once) m _ (tree_below (node digits a b) filled) tells,
        necessity a once.1 filled.1 sides.0,
        necessity b once.2 filled.2 sides.1,
      )

  -- ---- the class rule's filling

  -- the group of a wiring, also of an input, has at most m classes
  wiring_few : (w : Wiring) → EachOnce n w → EachGate (Few m n f) w → Few m n f (group_of w)
  unfolding group_of
  wiring_few (input i) once few = single_few m n pos f i once
  wiring_few (gate a b) once few = few.0

  module _ (a b : Wiring) (once : EachOnce n (gate a b)) (few : EachGate (Few m n f) (gate a b)) where
    -- a gate joins two groups that it may join
    pub gate_parts : Parts m n f (group_of a) (group_of b)
    unfolding group_of
    gate_parts = record {
      some_a = group_some a;
      some_b = group_some b;
      a_below = group_below n a once.1;
      b_below = group_below n b once.2;
      apart = once.0;
      few_a = wiring_few a once.1 few.1;
      few_b = wiring_few b once.2 few.2;
      few = few.0;
    }

    -- if both sides have the values that their wires carry, the gate gives what it must
    gate_gives : (p : ℕ) → tree_value m n (fill m n f false a) p ≡ carried m n f (group_of a) p
        → tree_value m n (fill m n f false b) p ≡ carried m n f (group_of b) p
        → (last : Bool) → tree_value m n (fill m n f last (gate a b)) p ≡ given m n f last (group_of (gate a b)) p
    unfolding tree_value fill group_of
    gate_gives p left right last = rw (left, right) (gate_digit m n pos f (group_of a) (group_of b) gate_parts last p)

    -- a gate's wire carries its group's class
    gate_carries : (p : ℕ) → given m n f false (group_of (gate a b)) p ≡ carried m n f (group_of (gate a b)) p
    unfolding given group_of
    gate_carries p = sym (carried_several m n f (group_of a + group_of b) (join_several m n pos f (group_of a) (group_of b) gate_parts) p)

  -- Sufficiency: if every gate's group has at most m classes, then in the class rule's filling each wire carries its input's level or
  -- its group's class, ..
  pub sufficiency : (w : Wiring) → EachOnce n w → EachGate (Few m n f) w → (p : ℕ)
      → tree_value m n (fill m n f false w) p ≡ carried m n f (group_of w) p
  unfolding tree_value fill group_of
  sufficiency (input i) once few p = sym (carried_input m n f i once p)
  sufficiency (gate a b) once few p =
      gate_gives a b once few p (sufficiency a once.1 few.1 p) (sufficiency b once.2 few.2 p) false ∙ gate_carries a b once few p

  -- .. and the last gate gives the ink
  pub gate_sufficiency : (a b : Wiring) → EachOnce n (gate a b) → EachGate (Few m n f) (gate a b) → (last : Bool) (p : ℕ)
      → tree_value m n (fill m n f last (gate a b)) p ≡ given m n f last (group_of (gate a b)) p
  gate_sufficiency a b once few last p =
      gate_gives a b once few p (sufficiency a once.1 few.1 p) (sufficiency b once.2 few.2 p) last

  -- the class rule's tables are tables of m·m digits below m, if the inks are below m
  pub fill_filled : (w : Wiring) → EachOnce n w → EachGate (Few m n f) w → ((p : ℕ) → p < m ^ n → f p < m) → (last : Bool)
      → Filled m (fill m n f last w)
  unfolding fill
  fill_filled (input i) once few inks last = tt
  fill_filled (gate a b) once few inks last = (
    gate_table m n pos f (group_of a) (group_of b) (gate_parts a b once few) inks last,
    fill_filled a once.1 few.1 inks false,
    fill_filled b once.2 few.2 inks false,
  )

  -- for a wiring of a group with every input that matters, the class rule's filling has the table
  pub fill_computes : (a b : Wiring) → EachOnce n (gate a b) → Holding m n pos f (group_of (gate a b)) → EachGate (Few m n f) (gate a b)
      → (p : ℕ) → p < m ^ n → tree_value m n (fill m n f true (gate a b)) p ≡ f p
  unfolding given
  fill_computes a b once holds few p h =
      gate_sufficiency a b once few true p ∙ holding_part m n pos f (group_of (gate a b)) p (group_below n (gate a b) once) holds h
