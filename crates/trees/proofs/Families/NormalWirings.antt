-- The theorems of Families/NormalWirings that rest on a definition which a must-fail edit changes: they stand here, so that the edit leaves specs/ readable.
-- Assumes nothing.
use Rattle.std.specs.Prelude.{◌<◌, ◌+◌, ◌^◌, ◌≡◌, ◌⊎◌}
use Rattle.laws.specs.Prelude.{ℕ, ◌∙◌, sym, ap, refl, ap₂, subst⁻¹, inl, inr, true, false, Bool}
use Rattle.laws.specs.Prelude.{add_comm, arith, eqb-true}
use Rattle.rules.specs.Groups.Groups.{member}
use Rattle.rules.specs.Groups.Marks.{inside}
use Rattle.rules.specs.Nets.Trees.{Turned, EachOnce}
use Rattle.rules.specs.Nets.Wirings.{Wiring, input, gate, group_of, first_input}
use Rattle.trees.specs.Groups.Members.{member_single, member_join, inside_member, member_inside, inside_le, first_member}
use Rattle.trees.specs.Trees.Wirings.{group_below, group_some}
use Rattle.trees.specs.Filling.Carried.{first_single}
use Rattle.trees.specs.Families.NormalWirings.{Joins, Normal, SameGates, inside_one, joins_cases, joins_inside, joins_left, joins_none, joins_own, joins_right, normal, normal_group, normal_once, normal_turned, not_in_both, turned_back_lem, turned_on, turned_same}

-- ---- inside the wiring's group

module _ (n : ℕ) where
  -- ---- normal wirings

  -- if gate a b joins all that w joins, and w's group has a lower number, it is inside the side that shares an input with it
  side_inside : (x : ℕ) → x < n → (w : Wiring) → member x (group_of w) ≡ true → (a b : Wiring) → EachOnce n (gate a b) → member x (group_of a) ≡ true
      → group_of w < group_of (gate a b) → ((h : ℕ) → Joins h w → Joins h (gate a b)) → inside n (group_of w) (group_of a) ≡ true
  unfolding group_of
  side_inside x x< (input i) in_w a b once in_a less kept =
      member_inside n (2 ^ i) (group_of a) (λ j j< is.
      let here : j ≡ x = eqb-true j i (sym (member_single j i) ∙ is) ∙ sym (eqb-true x i (sym (member_single x i) ∙ in_w)) in
      rw here in_a)
  side_inside x x< (gate c d) in_w a b once in_a less kept = go (joins_cases _ a b (kept _ (joins_own _ c d refl)))
    where
      go : Joins (group_of (gate c d)) a ⊎ (Joins (group_of (gate c d)) b ⊎ (group_of (gate c d) ≡ group_of (gate a b)))
          → inside n (group_of (gate c d)) (group_of a) ≡ true
      go (inl l) = (joins_inside n _ a once.1 l).2
      go (inr (inl r)) =
          absurd (not_in_both n a b once x x< in_a (inside_member x n (group_of (gate c d)) (group_of b) (joins_inside n _ b once.2 r).2 x< in_w))
      go (inr (inr same)) = absurd (omega arith)

  -- if a wiring joins a group inside one side, that side joins it
  stays_left : (a b : Wiring) → EachOnce n (gate a b) → (h : ℕ) → h < 2 ^ n → 0 < h → inside n h (group_of a) ≡ true → Joins h (gate a b) → Joins h a
  unfolding group_of
  stays_left a b once h h< some in_a is = go (joins_cases h a b is)
    where
      go : Joins h a ⊎ (Joins h b ⊎ (h ≡ group_of (gate a b))) → Joins h a
      go (inl l) = l
      go (inr (inl r)) = absurd (inside_one n a b once h h< some in_a (joins_inside n h b once.2 r).2)
      go (inr (inr own)) = absurd (omega (arith, inside_le n h (group_of a) h< (group_below n a once.1) in_a, group_some b))

  stays_right : (a b : Wiring) → EachOnce n (gate a b) → (h : ℕ) → h < 2 ^ n → 0 < h → inside n h (group_of b) ≡ true → Joins h (gate a b) → Joins h b
  unfolding group_of
  stays_right a b once h h< some in_b is = go (joins_cases h a b is)
    where
      go : Joins h a ⊎ (Joins h b ⊎ (h ≡ group_of (gate a b))) → Joins h b
      go (inl l) = absurd (inside_one n a b once h h< some (joins_inside n h a once.1 l).2 in_b)
      go (inr (inl r)) = r
      go (inr (inr own)) = absurd (omega (arith, inside_le n h (group_of b) h< (group_below n b once.2) in_b, group_some a))

  -- two gates over the same inputs that join the same groups, each with the first-listed input on its left
  module _ (a b c d : Wiring) (once : EachOnce n (gate a b)) (once' : EachOnce n (gate c d)) (whole : group_of (gate a b) ≡ group_of (gate c d))
      (first : member (first_input n (group_of (gate a b))) (group_of a) ≡ true) (first' : member (first_input n (group_of (gate c d))) (group_of c) ≡ true)
      (gates : SameGates (gate a b) (gate c d)) where
    -- their left sides have the same inputs, ..
    left_same : group_of a ≡ group_of c
    unfolding group_of
    left_same =
        let x = first_input n (group_of (gate a b)) in
        let x< = (first_member n (group_of (gate a b)) (group_below n (gate a b) once) (group_some (gate a b))).0 in
        let in_c : member x (group_of c) ≡ true = rw (← whole) at first' in
        let there = side_inside x x< a first c d once' in_c (omega (arith, group_some b)) (λ h is. (gates h).0 (joins_left h a b is)) in
        let back = side_inside x x< c in_c a b once first (omega (arith, group_some d)) (λ h is. (gates h).1 (joins_left h c d is)) in
        let a<₁ = group_below n a once.1 in
        let c<₁ = group_below n c once'.1 in
        omega (arith, inside_le n (group_of a) (group_of c) a<₁ c<₁ there, inside_le n (group_of c) (group_of a) c<₁ a<₁ back)

    -- .. and so have their right sides
    right_same : group_of b ≡ group_of d
    unfolding group_of
    right_same = omega (arith, left_same)

    -- and the left sides join the same groups, as do the right sides
    left_gates : SameGates a c
    left_gates h = (
      λ is. let at = joins_inside n h a once.1 is in stays_left c d once' h at.0 at.1 (rw left_same at at.2) ((gates h).0 (joins_left h a b is)),
      λ is. let at = joins_inside n h c once'.1 is in stays_left a b once h at.0 at.1 (rw left_same at.2) ((gates h).1 (joins_left h c d is)),
    )

    right_gates : SameGates b d
    right_gates h = (
      λ is. let at = joins_inside n h b once.2 is in stays_right c d once' h at.0 at.1 (rw right_same at at.2) ((gates h).0 (joins_right h a b is)),
      λ is. let at = joins_inside n h d once'.2 is in stays_right a b once h at.0 at.1 (rw right_same at.2) ((gates h).1 (joins_right h c d is)),
    )

  -- Two normal wirings of the same inputs that join the same groups are equal.
  pub normal_known : (w v : Wiring) → EachOnce n w → EachOnce n v → Normal n w → Normal n v → group_of w ≡ group_of v → SameGates w v → w ≡ v
  unfolding group_of
  normal_known (input i) (input j) once once' norm norm' whole gates =
      ap input (sym (first_single n i once) ∙ ap (first_input n) whole ∙ first_single n j once')
  normal_known (input i) (gate c d) once once' norm norm' whole gates = absurd (joins_none _ i ((gates _).1 (joins_own _ c d refl)))
  normal_known (gate a b) (input j) once once' norm norm' whole gates = absurd (joins_none _ j ((gates _).0 (joins_own _ a b refl)))
  normal_known (gate a b) (gate c d) once once' norm norm' whole gates =
      ap₂ gate
      (normal_known a c once.1 once'.1 norm.1 norm'.1 (left_same a b c d once once' whole norm.0 norm'.0 gates)
      (left_gates a b c d once once' whole norm.0 norm'.0 gates))
      (normal_known b d once.2 once'.2 norm.2 norm'.2 (right_same a b c d once once' whole norm.0 norm'.0 gates)
      (right_gates a b c d once once' whole norm.0 norm'.0 gates))

-- ---- the normal form is normal

module _ (n : ℕ) where
  pub normal_is : (w : Wiring) → EachOnce n w → Normal n (normal n w)
  unfolding normal group_of
  normal_is (input i) once = tt
  normal_is (gate a b) once =
      go (member (first_input n (group_of a + group_of b)) (group_of a)) refl (normal_is a once.1) (normal_is b once.2)
    where
      first : (first_input n (group_of (gate a b)) < n) × (member (first_input n (group_of (gate a b))) (group_of (gate a b)) ≡ true)
      first = first_member n (group_of (gate a b)) (group_below n (gate a b) once) (group_some (gate a b))

      go : (t : Bool) → member (first_input n (group_of a + group_of b)) (group_of a) ≡ t → Normal n (normal n a) → Normal n (normal n b)
          → Normal n (elim t as (λ _. Wiring) [ true ↦ gate (normal n a) (normal n b) | false ↦ gate (normal n b) (normal n a) ])
      go true e of_a of_b_lem = (rw (normal_group n a, normal_group n b) e, of_a, of_b_lem)
      go false e of_a of_b_lem =
          let either = member_join _ n (group_of a) (group_of b) (group_below n a once.1) (group_below n b once.2) once.0 first.0 in
          (rw (normal_group n a, normal_group n b, add_comm (group_of b) (group_of a)) (rw e at (sym either ∙ first.1)), of_b_lem, of_a)

  -- Two wirings of the same inputs that join the same groups have the same normal form, ..
  pub normal_one : (w v : Wiring) → EachOnce n w → EachOnce n v → group_of w ≡ group_of v → SameGates w v → normal n w ≡ normal n v
  normal_one w v once once' whole gates =
      normal_known n (normal n w) (normal n v) (normal_once n w once) (normal_once n v once') (normal_is w once) (normal_is v once')
      (normal_group n w ∙ whole ∙ sym (normal_group n v))
      (λ h. let on = turned_same (normal_turned n w) h in
      let on' = turned_same (normal_turned n v) h in
      (λ is. on'.0 ((gates h).0 (on.1 is)), λ is. on.0 ((gates h).1 (on'.1 is))))

  -- .. so they differ only in which side is left.
  pub same_turned : (w v : Wiring) → EachOnce n w → EachOnce n v → group_of w ≡ group_of v → SameGates w v → Turned w v
  same_turned w v once once' whole gates =
      turned_on (normal_turned n w)
      (subst⁻¹ (λ (u : Wiring). Turned u v) (normal_one w v once once' whole gates) (turned_back_lem (normal_turned n v)))
