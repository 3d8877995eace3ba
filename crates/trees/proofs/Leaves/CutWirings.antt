-- The theorems of Leaves/CutWirings that rest on a definition which a must-fail edit changes: they stand here, so that the edit leaves specs/ readable.
-- Assumes nothing.
use Rattle.std.specs.Prelude.{◌<◌, ◌≤◌, ◌+◌, ◌^◌, ◌≡◌, ◌↔◌, ◌&&◌, ◌||◌}
use Rattle.laws.specs.Prelude.{ℕ, ◌∙◌, sym, ap, refl, true, false, Bool, true≢false}
use Rattle.laws.specs.Prelude.{and-eq-true_iff, and-false, and-true, or-true, or-false, and-or_distrib_right, arith, eqb}
use Rattle.laws.specs.Prelude.{eqb-true, pow_pos, test_cases}
use Rattle.rules.specs.Groups.Groups.{member, multiplicity, whole_group}
use Rattle.rules.specs.Groups.Marks.{marks_of}
use Rattle.rules.specs.Nets.Leaves.{matters, leaves_of}
use Rattle.rules.specs.Nets.Settled.{settled_wiring}
use Rattle.rules.specs.Nets.Trees.{EachOnce}
use Rattle.rules.specs.Nets.Wirings.{Wiring, input, gate, group_of, gates_in}
use Rattle.laws.specs.Lists.Tests.{not_true_false}
use Rattle.trees.specs.Trees.Trees.{EachGate}
use Rattle.trees.specs.Groups.Members.{member_ext, member_zero, member_single, member_join, member_whole, member_inside}
use Rattle.trees.specs.Groups.Members.{inside_member, whole_below}
use Rattle.trees.specs.Groups.Classes.{Few}
use Rattle.trees.specs.Trees.Wirings.{group_below}
use Rattle.trees.specs.Shallow.Depths.{depth}
use Rattle.trees.specs.Groups.MarkRule.{marked}
use Rattle.trees.specs.Trees.MarkTwo.{wiring_mark, settled_wiring_of}
use Rattle.trees.specs.Leaves.Mattering.{Holding}
use Rattle.trees.specs.Leaves.LeafGroup.{leaves_below, leaves_hold, leaves_some}
use Rattle.trees.specs.Leaves.CutWirings.{CutWiring, Idle, hung, idle_few}

-- two groups that share no input share none in g
meets_apart : (a b g : Bool) → (a && b) ≡ false → ((a && g) && (b && g)) ≡ false
meets_apart true true g e = absurd (true≢false e)
meets_apart true false true e = refl
meets_apart true false false e = refl
meets_apart false b g e = refl

module _ (m n : ℕ) (pos : 0 < m) (f : ℕ → ℕ) where
  -- ---- cut out of a wiring

  -- what is left of a wiring's leaves in g, as a wiring: with few classes at each gate, no deeper and with no more gates
  record Kept (g : ℕ) (w v : Wiring) : Type 0 where
    once : EachOnce n v
    members : (i : ℕ) → i < n → member i (group_of v) ≡ (member i (group_of w) && member i g)
    few : EachGate (Few m n f) v
    no_deeper : depth v ≤ depth w
    no_more : gates_in v ≤ gates_in w

  -- either no leaf is left, or a wiring is
  data Left (g : ℕ) (w : Wiring) : Type 0 where
    none_left : ((i : ℕ) → i < n → (member i (group_of w) && member i g) ≡ false) → Left g w
    some_left : (v : Wiring) → Kept g w v → Left g w

  -- the leaves outside g do not matter
  abbrev Outside : ℕ → Wiring → Type 0
  Outside g w = (i : ℕ) → i < n → member i (group_of w) ≡ true → member i g ≡ false → matters m n f i ≡ false

  -- for a leaf
  leaf_left : (g i : ℕ) → i < n → Left g (input i)
  unfolding group_of
  leaf_left g i i< = test_cases (member i g)
      (λ e.
      some_left (input i)
      record {
        once = i<;
        members = λ j j<. rw (member_single j i) (sym (at true e j (eqb j i) refl ∙ and-true (eqb j i)));
        few = tt;
        no_deeper = omega arith;
        no_more = omega arith;
      })
      (λ e. none_left (λ j j<. rw (member_single j i) (at false e j (eqb j i) refl ∙ and-false (eqb j i))))
    where
      at : (b : Bool) → member i g ≡ b → (j : ℕ) (t : Bool) → eqb j i ≡ t → (t && member j g) ≡ (t && b)
      at b e j true same = rw (eqb-true j i same) e
      at b e j false same = refl

  -- for a gate, by what is left on its two sides
  module _ (g : ℕ) (a b : Wiring) (once : EachOnce n (gate a b)) where
    -- a gate's leaves in g are those of its sides
    gate_meets : (i : ℕ) → i < n → (member i (group_of (gate a b)) && member i g)
        ≡ ((member i (group_of a) && member i g) || (member i (group_of b) && member i g))
    unfolding group_of
    gate_meets i i< =
        ap (λ t. t && member i g) (member_join i n (group_of a) (group_of b) (group_below n a once.1) (group_below n b once.2) once.0 i<)
        ∙ and-or_distrib_right (member i (group_of a)) (member i (group_of b)) (member i g)

    -- only one side is left
    left_side : (v : Wiring) → Kept g a v → ((i : ℕ) → i < n → (member i (group_of b) && member i g) ≡ false) → Kept g (gate a b) v
    unfolding depth gates_in
    left_side v kept none = record {
      once = kept.once;
      members = λ i i<. kept.members i i< ∙ sym (gate_meets i i< ∙ rw (none i i<) (or-false (member i (group_of a) && member i g)));
      few = kept.few;
      no_deeper = omega (arith, kept.no_deeper);
      no_more = omega (arith, kept.no_more);
    }

    right_side : (v : Wiring) → ((i : ℕ) → i < n → (member i (group_of a) && member i g) ≡ false) → Kept g b v → Kept g (gate a b) v
    unfolding depth gates_in
    right_side v none kept = record {
      once = kept.once;
      members = λ i i<. kept.members i i< ∙ sym (gate_meets i i< ∙ rw (none i i<));
      few = kept.few;
      no_deeper = omega (arith, kept.no_deeper);
      no_more = omega (arith, kept.no_more);
    }

    -- both are left: a gate joins them, and its group has as many classes as the old gate's
    both_sides : (v u : Wiring) → Few m n f (group_of (gate a b)) → Outside g (gate a b) → Kept g a v → Kept g b u → Kept g (gate a b) (gate v u)
    unfolding group_of depth gates_in
    both_sides v u few outside left right = record {
      once = joined;
      members = members_are;
      few = (rw few_same few, left.few, right.few);
      no_deeper = (omega (arith, left.no_deeper, right.no_deeper));
      no_more = (omega (arith, left.no_more, right.no_more));
    }
      where
        joined : EachOnce n (gate v u)
        joined = (
          λ i i<. rw (left.members i i<, right.members i i<) (meets_apart (member i (group_of a)) (member i (group_of b)) (member i g) (once.0 i i<)),
          left.once,
          right.once,
        )

        members_are : (i : ℕ) → i < n → member i (group_of (gate v u)) ≡ (member i (group_of (gate a b)) && member i g)
        members_are i i< =
            member_join i n (group_of v) (group_of u) (group_below n v left.once) (group_below n u right.once) joined.0 i<
            ∙ rw (left.members i i<, right.members i i<) (sym (gate_meets i i<))

        few_same : multiplicity m n f (group_of (gate v u)) ≡ multiplicity m n f (group_of (gate a b))
        few_same = idle_few m n pos f (group_of (gate v u)) (group_of (gate a b)) (group_below n (gate v u) joined) (group_below n (gate a b) once)
            record {
              part = member_inside n _ _ (λ i i< is. ((and-eq-true_iff _ _).0 (sym (members_are i i<) ∙ is)).0);
              idle = λ i i< in_w out. outside i i< in_w (rw in_w at (sym (members_are i i<) ∙ out));
            }

    gate_left : Few m n f (group_of (gate a b)) → Outside g (gate a b) → Left g a → Left g b → Left g (gate a b)
    gate_left few outside (none_left x) (none_left y) = none_left (λ i i<. gate_meets i i< ∙ rw (x i i<, y i i<))
    gate_left few outside (none_left x) (some_left v kept) = some_left v (right_side v x kept)
    gate_left few outside (some_left v kept) (none_left y) = some_left v (left_side v kept y)
    gate_left few outside (some_left v left) (some_left u right) = some_left (gate v u) (both_sides v u few outside left right)

    -- a side's leaves are among the gate's
    side_outside : Outside g (gate a b) → Outside g a × Outside g b
    unfolding group_of
    side_outside outside = (
      λ i i< is. outside i i< (either i i< ∙ rw is),
      λ i i< is. outside i i< (either i i< ∙ rw (is, or-true)),
    )
      where
        either : (i : ℕ) → i < n → member i (group_of a + group_of b) ≡ (member i (group_of a) || member i (group_of b))
        either i i< = member_join i n (group_of a) (group_of b) (group_below n a once.1) (group_below n b once.2) once.0 i<

  -- for any wiring
  what_is_left : (g : ℕ) (w : Wiring) → EachOnce n w → EachGate (Few m n f) w → Outside g w → Left g w
  what_is_left g (input i) once few outside = leaf_left g i once
  what_is_left g (gate a b) once few outside =
      let sides = side_outside g a b once outside in
      gate_left g a b once few.0 outside (what_is_left g a once.1 few.1 sides.0) (what_is_left g b once.2 few.2 sides.1)

  -- inputs that do not matter may be cut out of a wiring
  pub cut : (w : Wiring) → EachOnce n w → EachGate (Few m n f) w → (g : ℕ) → 0 < g → g < 2 ^ n → Idle m n pos f g (group_of w) → CutWiring m n pos f g w
  cut w once few g some g< rest = elim (what_is_left g w once few rest.idle) [
    | none_left none ↦
        let empty : g ≡ 0 = member_ext n g 0 g< (pow_pos n) (λ i i<. sym (all_in i i<) ∙ none i i< ∙ sym (member_zero i)) in
        absurd (omega arith)
    | some_left v kept ↦
        record {
          wiring = v;
          of_group = (kept.once, member_ext n (group_of v) g (group_below n v kept.once) g< (λ i i<. kept.members i i< ∙ all_in i i<));
          few = kept.few;
          no_deeper = kept.no_deeper;
          no_more = kept.no_more;
        }
  ]
    where
      -- g's members are leaves
      all_in : (i : ℕ) → i < n → (member i (group_of w) && member i g) ≡ member i g
      all_in i i< = test_cases (member i g)
          (λ e. rw (e, inside_member i n g (group_of w) rest.part i< e))
          (λ e. rw e (and-false (member i (group_of w))))

  -- ---- marks

  -- a group has mark 2 with inputs that do not matter exactly if it has mark 2 without them
  pub idle_marks : (g h : ℕ) → 0 < g → g < 2 ^ n → h < 2 ^ n → Idle m n pos f g h → (marked m n pos f g ≡ 2) ↔ (marked m n pos f h ≡ 2)
  idle_marks g h some g< h< rest = (
    hung m n pos f g h g< h< rest,
    λ two.
        let w = settled_wiring n (marks_of m n f) h in
        let (of_h, few) = settled_wiring_of m n pos f h h< two in
        let less = cut w of_h.0 few g some g< (rw of_h.1 rest) in
        rw less.of_group.1 at (wiring_mark m n pos f less.wiring less.of_group.0 less.few),
  )

  -- a group with every input that matters has mark 2 exactly if all inputs together do
  pub holding_marked : (g : ℕ) → 0 < g → g < 2 ^ n → Holding m n pos f g → (marked m n pos f g ≡ 2) ↔ (marked m n pos f (whole_group n) ≡ 2)
  holding_marked g some g< holds =
      idle_marks g (whole_group n) some g< (whole_below n)
      record {
        part = member_inside n g (whole_group n) (λ i i< is. member_whole i n i<);
        idle = λ i i< is out. not_true_false _ (λ matters_i. true≢false (sym (holds i i< matters_i) ∙ out));
      }

  -- and so do the leaves
  pub leaves_marked : 1 < n → (marked m n pos f (leaves_of m n f) ≡ 2) ↔ (marked m n pos f (whole_group n) ≡ 2)
  leaves_marked several =
      holding_marked (leaves_of m n f) (leaves_some m n pos f several) (leaves_below m n pos f) (leaves_hold m n pos f)
