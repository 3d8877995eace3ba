-- A wiring is determined, up to which side is left, by its leaves and by the groups that its gates join. Its normal form has the first-listed input
-- of every gate's group on the left.
-- Assumes nothing.
use Rattle.std.specs.Prelude.{◌<◌, ◌+◌, ◌^◌, ◌≡◌, ◌↔◌, ◌⊎◌, ◌&&◌, ◌∷◌, ◌++◌}
use Rattle.laws.specs.Prelude.{ℕ, ◌∙◌, sym, refl, subst, ap₂, ⊎_elim, inl, inr, true, false, Bool}
use Rattle.laws.specs.Prelude.{true≢false, List, [], Memᴰ, mem_head, mem_not_nil, mem_append_cases}
use Rattle.laws.specs.Prelude.{mem_eq_of_singleton, mem_append_right, mem_append_left, add_comm, arith}
use Rattle.rules.specs.Groups.Groups.{member}
use Rattle.rules.specs.Groups.Marks.{inside}
use Rattle.rules.specs.Nets.Trees.{Turned, same_input, straight, crossed, EachOnce}
use Rattle.rules.specs.Nets.Wirings.{Wiring, input, gate, group_of, gates_in, first_input}
use Rattle.trees.specs.Trees.Trees.{EachGate}
use Rattle.trees.specs.Groups.Members.{inside_member, member_inside, inside_le, inside_join, first_member}
use Rattle.trees.specs.Groups.Joins.{apart_sym}
use Rattle.trees.specs.Trees.Wirings.{group_below, group_some}
use Rattle.trees.specs.Trees.MarkTwo.{inside_trans}

-- ---- the groups that the gates join

-- the groups of A's gates, then of B's, then the gate's own
unfoldable pub groups_joined : Wiring → List ℕ
groups_joined (input i) = []
groups_joined (gate a b) = groups_joined a ++ groups_joined b ++ ((group_of a + group_of b) ∷ [])

-- the wiring has a gate of group h
abbrev pub Joins : ℕ → Wiring → Type 0
Joins h w = Memᴰ h (groups_joined w)

-- the same groups are joined by gates
abbrev pub SameGates : Wiring → Wiring → Type 0
SameGates w v = (h : ℕ) → Joins h w ↔ Joins h v

module _ (h : ℕ) (a b : Wiring) where
  pub joins_left : Joins h a → Joins h (gate a b)
  unfolding groups_joined
  joins_left is = mem_append_left _ (mem_append_left _ is)

  pub joins_right : Joins h b → Joins h (gate a b)
  unfolding groups_joined
  joins_right is = mem_append_left _ (mem_append_right (groups_joined a) is)

  pub joins_own : h ≡ group_of (gate a b) → Joins h (gate a b)
  unfolding groups_joined group_of
  joins_own e = mem_append_right (groups_joined a ++ groups_joined b) (mem_head e)

  -- a gate of a wiring is one of the left side's, one of the right side's, or the last
  pub joins_cases : Joins h (gate a b) → Joins h a ⊎ (Joins h b ⊎ (h ≡ group_of (gate a b)))
  unfolding groups_joined group_of
  joins_cases is =
      ⊎_elim
      (λ below. ⊎_elim (λ l. inl l) (λ r. inr (inl r)) (mem_append_cases (groups_joined a) below))
      (λ own. inr (inr (mem_eq_of_singleton own)))
      (mem_append_cases (groups_joined a ++ groups_joined b) is)

-- an input joins nothing
pub joins_none : (h i : ℕ) → Joins h (input i) → ⊥
unfolding groups_joined
joins_none h i is = mem_not_nil is

-- ---- inside the wiring's group

module _ (n : ℕ) where
  pub inside_own : (g : ℕ) → inside n g g ≡ true
  inside_own g = member_inside n g g (λ i i< is. is)

  module _ (a b : Wiring) (once : EachOnce n (gate a b)) where
    abbrev a< : group_of a < 2 ^ n
    a< = group_below n a once.1

    abbrev b< : group_of b < 2 ^ n
    b< = group_below n b once.2

    -- a gate's group has the groups of both sides inside it
    pub left_inside : inside n (group_of a) (group_of (gate a b)) ≡ true
    unfolding group_of
    left_inside = inside_join n (group_of a) (group_of b) a< b< once.0

    pub right_inside : inside n (group_of b) (group_of (gate a b)) ≡ true
    unfolding group_of
    right_inside = rw (add_comm (group_of a) (group_of b)) (inside_join n (group_of b) (group_of a) b< a< (apart_sym n (group_of a) (group_of b) once.0))

    -- no input is in both
    pub not_in_both : (i : ℕ) → i < n → member i (group_of a) ≡ true → member i (group_of b) ≡ true → ⊥
    not_in_both i i< l r = true≢false (sym (ap₂ ◌&&◌ l r) ∙ once.0 i i<)

    -- so no non-empty group is inside both
    pub inside_one : (h : ℕ) → h < 2 ^ n → 0 < h → inside n h (group_of a) ≡ true → inside n h (group_of b) ≡ true → ⊥
    inside_one h h< some l r =
        let first = first_member n h h< some in
        not_in_both (first_input n h) first.0 (inside_member (first_input n h) n h (group_of a) l first.0 first.1)
        (inside_member (first_input n h) n h (group_of b) r first.0 first.1)

  -- what a gate joins is a non-empty group of the wiring's inputs
  pub joins_inside : (h : ℕ) (w : Wiring) → EachOnce n w → Joins h w → (h < 2 ^ n) × (0 < h) × (inside n h (group_of w) ≡ true)
  joins_inside h (input i) once is = absurd (joins_none h i is)
  joins_inside h (gate a b) once is = go (joins_cases h a b is) (joins_inside h a once.1) (joins_inside h b once.2)
    where
      go : Joins h a ⊎ (Joins h b ⊎ (h ≡ group_of (gate a b)))
          → (Joins h a → (h < 2 ^ n) × (0 < h) × (inside n h (group_of a) ≡ true))
          → (Joins h b → (h < 2 ^ n) × (0 < h) × (inside n h (group_of b) ≡ true))
          → (h < 2 ^ n) × (0 < h) × (inside n h (group_of (gate a b)) ≡ true)
      go (inl l) of_a of_b_lem = let is = of_a l in (is.0, is.1, inside_trans n h (group_of a) (group_of (gate a b)) is.2 (left_inside a b once))
      go (inr (inl r)) of_a of_b_lem = let is = of_b_lem r in (is.0, is.1, inside_trans n h (group_of b) (group_of (gate a b)) is.2 (right_inside a b once))
      go (inr (inr own)) of_a of_b_lem = rw own (group_below n (gate a b) once, group_some (gate a b), inside_own (group_of (gate a b)))

  -- a wiring with a gate joins its own leaves, ..
  own_joined : (w : Wiring) → 0 < gates_in w → Joins (group_of w) w
  unfolding gates_in
  own_joined (input i) some = absurd (omega arith)
  own_joined (gate a b) some = joins_own _ a b refl

  -- .. so two such wirings that join the same groups have the same leaves
  pub joined_leaves : (w v : Wiring) → EachOnce n w → EachOnce n v → 0 < gates_in w → 0 < gates_in v → SameGates w v → group_of w ≡ group_of v
  joined_leaves w v once once' some some' gates =
      let there = joins_inside (group_of w) v once' ((gates (group_of w)).0 (own_joined w some)) in
      let back = joins_inside (group_of v) w once ((gates (group_of v)).1 (own_joined v some')) in
      omega (arith, inside_le n (group_of w) (group_of v) there.0 back.0 there.2, inside_le n (group_of v) (group_of w) back.0 there.0 back.2)

  -- ---- normal wirings

  -- the first-listed input of each gate's group is on the left
  abbrev pub Normal : Wiring → Type 0
  Normal (input i) = Unit {0}
  Normal (gate a b) = (member (first_input n (group_of (gate a b))) (group_of a) ≡ true) × Normal a × Normal b

-- ---- the normal form

-- puts the side with the first-listed input left at each gate
unfoldable pub normal : ℕ → Wiring → Wiring
normal n (input i) = input i
normal n (gate a b) = elim (member (first_input n (group_of a + group_of b)) (group_of a)) [
  | true ↦ gate (normal n a) (normal n b)
  | false ↦ gate (normal n b) (normal n a)
]

pub turned_back_lem : {w v : Wiring} → Turned w v → Turned v w
turned_back_lem same_input = same_input
turned_back_lem (straight s t) = straight (turned_back_lem s) (turned_back_lem t)
turned_back_lem (crossed s t) = crossed (turned_back_lem t) (turned_back_lem s)

pub turned_on : {w v u : Wiring} → Turned w v → Turned v u → Turned w u
turned_on same_input same_input = same_input
turned_on (straight s t) (straight s' t') = straight (turned_on s s') (turned_on t t')
turned_on (straight s t) (crossed s' t') = crossed (turned_on s s') (turned_on t t')
turned_on (crossed s t) (straight s' t') = crossed (turned_on s t') (turned_on t s')
turned_on (crossed s t) (crossed s' t') = straight (turned_on s t') (turned_on t s')

-- the normal form differs only in sides
pub normal_turned : (n : ℕ) (w : Wiring) → Turned w (normal n w)
unfolding normal
normal_turned n (input i) = same_input
normal_turned n (gate a b) = go (member (first_input n (group_of a + group_of b)) (group_of a)) (normal_turned n a) (normal_turned n b)
  where
    go : (t : Bool) → Turned a (normal n a) → Turned b (normal n b)
        → Turned (gate a b) (elim t as (λ _. Wiring) [ true ↦ gate (normal n a) (normal n b) | false ↦ gate (normal n b) (normal n a) ])
    go true s t = straight s t
    go false s t = crossed s t

-- ---- exchanging sides keeps the leaves, ..

pub turned_group : {w v : Wiring} → Turned w v → group_of w ≡ group_of v
unfolding group_of
turned_group same_input = refl
turned_group (straight s t) = ap₂ ◌+◌ (turned_group s) (turned_group t)
turned_group (crossed {c} {d} s t) = ap₂ ◌+◌ (turned_group s) (turned_group t) ∙ add_comm (group_of d) (group_of c)

-- .. keeps each leaf single, ..
pub turned_once : (n : ℕ) {w v : Wiring} → Turned w v → EachOnce n w → EachOnce n v
turned_once n same_input once = once
turned_once n (straight s t) once =
    (rw (← (turned_group s), ← (turned_group t)) once.0, turned_once n s once.1, turned_once n t once.2)
turned_once n (crossed {a} {b} s t) once = (
  rw (← (turned_group s), ← (turned_group t)) (apart_sym n (group_of a) (group_of b) once.0),
  turned_once n t once.2,
  turned_once n s once.1,
)

-- .. keeps properties of each gate's group, ..
pub turned_gates : (P : ℕ → Type 0) {w v : Wiring} → Turned w v → EachGate P w → EachGate P v
turned_gates P same_input each = tt
turned_gates P (straight s t) each = (subst P (turned_group (straight s t)) each.0, turned_gates P s each.1, turned_gates P t each.2)
turned_gates P (crossed s t) each = (subst P (turned_group (crossed s t)) each.0, turned_gates P t each.2, turned_gates P s each.1)

-- .. and keeps the groups that are joined
joins_on : {w v : Wiring} → Turned w v → (h : ℕ) → Joins h w → Joins h v
joins_on same_input h is = is
joins_on (straight {a} {b} {c} {d} s t) h is =
    ⊎_elim (λ l. joins_left h c d (joins_on s h l))
    (λ later. ⊎_elim (λ r. joins_right h c d (joins_on t h r)) (λ own. joins_own h c d (own ∙ turned_group (straight s t))) later)
    (joins_cases h a b is)
joins_on (crossed {a} {b} {c} {d} s t) h is =
    ⊎_elim (λ l. joins_right h c d (joins_on s h l))
    (λ later. ⊎_elim (λ r. joins_left h c d (joins_on t h r)) (λ own. joins_own h c d (own ∙ turned_group (crossed s t))) later)
    (joins_cases h a b is)

pub turned_same : {w v : Wiring} → Turned w v → SameGates w v
turned_same t h = (joins_on t h, joins_on (turned_back_lem t) h)

-- ---- the normal form is normal

module _ (n : ℕ) where
  pub normal_once : (w : Wiring) → EachOnce n w → EachOnce n (normal n w)
  normal_once w = turned_once n (normal_turned n w)

  pub normal_group : (w : Wiring) → group_of (normal n w) ≡ group_of w
  normal_group w = sym (turned_group (normal_turned n w))
