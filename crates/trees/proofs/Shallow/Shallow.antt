-- The theorems of Shallow/Shallow that rest on a definition which a must-fail edit changes: they stand here, so that the edit leaves specs/ readable.
-- Assumes nothing.
use Rattle.std.specs.Prelude.{◌<◌, ◌≤◌, ◌+◌, ◌-◌, ◌^◌, ◌≡◌}
use Rattle.laws.specs.Prelude.{ℕ, ◌∙◌, sym, ap, le_of_eq, arith}
use Rattle.rules.specs.Groups.Marks.{marks_of}
use Rattle.rules.specs.Nets.Trees.{EachOnce}
use Rattle.rules.specs.Nets.Wirings.{Wiring, input, gate, group_of}
use Rattle.rules.specs.Nets.Shallow.{shallow_wiring}
use Rattle.trees.specs.Trees.Trees.{EachGate}
use Rattle.trees.specs.Groups.Members.{size_single}
use Rattle.trees.specs.Groups.Classes.{Few}
use Rattle.trees.specs.Trees.Wirings.{group_below}
use Rattle.trees.specs.Groups.MarkRule.{marked}
use Rattle.trees.specs.Trees.MarkTwo.{gate_twos, wiring_mark}
use Rattle.trees.specs.Shallow.Depths.{depth}
use Rattle.trees.specs.Shallow.FewestLayers.{fewest, fewest_least, fewest_single}
use Rattle.trees.specs.Shallow.Choices.{EachSplit, EachWithin}
use Rattle.trees.specs.Shallow.Shallow.{AsShallow, TakesLowest, shallow_takes, shallow_wiring_of}

-- ---- the least depth

module _ (m n : ℕ) (pos : 0 < m) (f : ℕ → ℕ) where
  -- the fewest layers of a group, by the table's marks
  abbrev fewest_of_group : ℕ → ℕ
  fewest_of_group g = fewest n (marks_of m n f) g

  -- no wiring with few classes at each gate has fewer layers than its group's fewest
  pub depth_at_least : (w : Wiring) → EachOnce n w → EachGate (Few m n f) w → fewest_of_group (group_of w) ≤ depth w
  unfolding group_of depth gate_twos
  depth_at_least (input i) once few =
      le_of_eq (fewest_single n (marks_of m n f) (group_of (input i)) (group_below n (input i) once) (size_single i n once))
  depth_at_least (gate a b) once few =
      let twos = gate_twos m n pos f a b once (wiring_mark m n pos f a once.1 few.1) (wiring_mark m n pos f b once.2 few.2) in
      let bound = fewest_least n (marks_of m n f) (group_of a + group_of b) (group_below n (gate a b) once) twos in
      let left = depth_at_least a once.1 few.1 in
      let right = depth_at_least b once.2 few.2 in
      omega arith

  -- ---- the shallow wiring

  -- a wiring that takes parts that keep their group shallowest at each gate is as deep as its group's fewest layers
  depth_kept : (w : Wiring) → EachOnce n w → EachSplit (TakesLowest m n pos f) w → depth w ≡ fewest_of_group (group_of w)
  unfolding group_of depth
  depth_kept (input i) once takes =
      sym (fewest_single n (marks_of m n f) (group_of (input i)) (group_below n (input i) once) (size_single i n once))
  depth_kept (gate a b) once takes =
      let rest : group_of a + group_of b - group_of a ≡ group_of b = omega arith in
      rw (depth_kept a once.1 takes.1, depth_kept b once.2 takes.2) (rw rest at takes.0.0.keeps)

  as_shallow : (v : Wiring) → EachOnce n v → EachSplit (TakesLowest m n pos f) v → AsShallow m n pos f v
  as_shallow v once takes w of few = rw (depth_kept v once takes, ← of.1) (depth_at_least w of.0 few)

  each_as_shallow : (v : Wiring) → EachOnce n v → EachSplit (TakesLowest m n pos f) v → EachWithin (AsShallow m n pos f) v
  each_as_shallow (input i) once takes = as_shallow (input i) once takes
  each_as_shallow (gate a b) once takes =
      (as_shallow (gate a b) once takes, each_as_shallow a once.1 takes.1, each_as_shallow b once.2 takes.2)

  module _ (leaves : ℕ) (leaves< : leaves < 2 ^ n) (two : marked m n pos f leaves ≡ 2) where
    abbrev shallow : Wiring
    shallow = shallow_wiring n (marks_of m n f) leaves

    -- .. it has the group's fewest layers, ..
    pub shallow_depth : depth shallow ≡ fewest_of_group leaves
    shallow_depth = depth_kept shallow (shallow_wiring_of m n pos f leaves leaves< two).0.0 (shallow_takes m n pos f leaves leaves< two) ∙ ap fewest_of_group (shallow_wiring_of m n pos f leaves leaves< two).0.1

    -- .. and every wiring in it is as shallow as its own group allows
    pub shallow_each : EachWithin (AsShallow m n pos f) shallow
    shallow_each = each_as_shallow shallow (shallow_wiring_of m n pos f leaves leaves< two).0.0 (shallow_takes m n pos f leaves leaves< two)
