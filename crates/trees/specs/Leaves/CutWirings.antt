-- Inputs that do not matter may be cut out of a wiring, or attached to one: they do not change the number of a group's classes. So a group has
-- mark 2 with them exactly if it has mark 2 without them, and the leaves (document 02, K12) have mark 2 exactly if all inputs together do.
-- Assumes nothing.
use Rattle.std.specs.Prelude.{◌<◌, ◌≤◌, ◌+◌, ◌-◌, ◌^◌, ◌≡◌, ◌||◌}
use Rattle.laws.specs.Prelude.{ℕ, suc, zero, ◌∙◌, sym, ap, refl, by_cases, true, false, Bool, not, true≢false}
use Rattle.laws.specs.Prelude.{and-eq-true_iff, and-false, le_antisymm, ℕ_discrete, arith, eqb}
use Rattle.laws.specs.Prelude.{eqb-true, pow_pos, test_cases}
use Rattle.rules.specs.Groups.Groups.{member, multiplicity}
use Rattle.rules.specs.Groups.Marks.{inside}
use Rattle.rules.specs.Nets.Filling.{class_number}
use Rattle.rules.specs.Nets.Leaves.{matters}
use Rattle.rules.specs.Nets.Trees.{Apart}
use Rattle.rules.specs.Nets.Wirings.{Wiring, gates_in, first_input}
use Rattle.rules.specs.Sheets.Sheets.{level}
use Rattle.laws.specs.Lists.Tests.{not_true_false, or_false_iff}
use Rattle.trees.specs.Trees.Trees.{WiringOf, EachGate, mix}
use Rattle.trees.specs.Groups.Members.{member_single, member_join, member_rest, member_inside}
use Rattle.trees.specs.Groups.Members.{inside_member, inside_join, inside_le, first_member, single_below, join_below, size_single}
use Rattle.trees.specs.Groups.Levels.{level_mix_in, level_mix_out, mix_below}
use Rattle.trees.specs.Groups.Classes.{Few, class_below, class_alike, few_classes}
use Rattle.trees.specs.Shallow.Depths.{depth}
use Rattle.trees.specs.Groups.MarkRule.{PartsIntoTwos, marked, three_way}
use Rattle.trees.specs.Trees.MarkTwo.{two_says}
use Rattle.trees.specs.Leaves.Mattering.{idle_ink}

module _ (m n : ℕ) (pos : 0 < m) (f : ℕ → ℕ) where
  -- g is inside h, and the members of h that are not in g do not matter
  pub record Idle (g h : ℕ) : Type 0 where
    pub part : inside n g h ≡ true
    pub idle : (i : ℕ) → i < n → member i h ≡ true → member i g ≡ false → matters m n f i ≡ false

  -- ---- classes

  module _ (g h : ℕ) (g< : g < 2 ^ n) (h< : h < 2 ^ n) (rest : Idle g h) where
    -- the levels of h outside g do not affect the ink
    pub idle_mix : (p y : ℕ) → f (mix m n g p y) ≡ f (mix m n h p y)
    idle_mix p y =
        idle_ink m n pos f _ _ (mix_below m n pos g p y g<) (mix_below m n pos h p y h<) (λ j j< is. go j j< is (member j g) refl (member j h) refl)
      where
        go : (j : ℕ) → j < n → matters m n f j ≡ true → (s : Bool) → member j g ≡ s → (t : Bool) → member j h ≡ t
            → level m n (mix m n g p y) j ≡ level m n (mix m n h p y) j
        go j j< is true in_g t _ =
            level_mix_in m n pos g p y j g< j< in_g
            ∙ sym (level_mix_in m n pos h p y j h< j< (inside_member j n g h rest.part j< in_g))
        go j j< is false out_g true in_h = absurd (true≢false (sym is ∙ rest.idle j j< in_h out_g))
        go j j< is false out_g false out_h = level_mix_out m n pos g p y j g< j< out_g ∙ sym (level_mix_out m n pos h p y j h< j< out_h)

    -- so the two groups have equally many classes
    pub idle_few : multiplicity m n f g ≡ multiplicity m n f h
    idle_few =
        le_antisymm
        (few_classes m n pos f g g< (multiplicity m n f h) (class_number m n f h) (class_below m n pos f h h<)
        (λ p q e y. idle_mix p y ∙ class_alike m n pos f h h< p q e y ∙ sym (idle_mix q y)))
        (few_classes m n pos f h h< (multiplicity m n f g) (class_number m n f g) (class_below m n pos f g g<)
        (λ p q e y. sym (idle_mix p y) ∙ class_alike m n pos f g g< p q e y ∙ idle_mix q y))

  -- ---- cut out of a wiring

  -- a wiring of g with few classes at each gate, no deeper than w and with no more gates
  pub record CutWiring (g : ℕ) (w : Wiring) : Type 0 where
    pub wiring : Wiring
    pub of_group : WiringOf n g wiring
    pub few : EachGate (Few m n f) wiring
    pub no_deeper : depth wiring ≤ depth w
    pub no_more : gates_in wiring ≤ gates_in w

  -- ---- attached to one

  -- one input that does not matter
  hang_one : (g i : ℕ) → g < 2 ^ n → i < n → member i g ≡ false → matters m n f i ≡ false → marked m n pos f g ≡ 2
      → (g + 2 ^ i < 2 ^ n) × ((j : ℕ) → j < n → member j (g + 2 ^ i) ≡ (member j g || eqb j i)) × (marked m n pos f (g + 2 ^ i) ≡ 2)
  hang_one g i g< i< out idle two = (below, members, (three_way m n pos f (g + 2 ^ i) below).parted few parts)
    where
      apart : Apart n g (2 ^ i)
      apart j j< = rw (member_single j i) (test_cases (eqb j i)
          (λ e. rw (e, eqb-true j i e, out))
          (λ e. rw e (and-false (member j g))))

      below : g + 2 ^ i < 2 ^ n
      below = join_below n g (2 ^ i) g< (single_below i n i<) apart

      members : (j : ℕ) → j < n → member j (g + 2 ^ i) ≡ (member j g || eqb j i)
      members j j< = member_join j n g (2 ^ i) g< (single_below i n i<) apart j< ∙ ap (λ t. member j g || t) (member_single j i)

      rest : Idle g (g + 2 ^ i)
      rest = record {
        part = inside_join n g (2 ^ i) g< (single_below i n i<) apart;
        idle = λ j j< is out_j. rw (eqb-true j i (rw out_j at (sym (members j j<) ∙ is))) idle;
      }

      few : multiplicity m n f (g + 2 ^ i) ≤ m
      few = rw (← (idle_few g (g + 2 ^ i) g< below rest)) (two_says m n pos f g g< two).few

      parts : PartsIntoTwos n (marked m n pos f) (g + 2 ^ i)
      parts = record {
        a = g;
        b = 2 ^ i;
        joined = refl;
        apart = apart;
        some_a = (two_says m n pos f g g< two).some;
        some_b = pow_pos i;
        two_a = two;
        two_b = (three_way m n pos f (2 ^ i) (single_below i n i<)).single (size_single i n i<);
      }

  -- one after another
  hang : (k g h : ℕ) → h ≤ g + k → g < 2 ^ n → h < 2 ^ n → Idle g h → marked m n pos f g ≡ 2 → marked m n pos f h ≡ 2
  hang zero g h enough g< h< rest two =
      let same : g ≡ h = omega (arith, inside_le n g h g< h< rest.part) in
      rw same at two
  hang (suc k) g h enough g< h< rest two =
      by_cases (ℕ_discrete g h) (λ same. rw same at two) λ differ.
      let more : 0 < h - g = omega (arith, inside_le n g h g< h< rest.part) in
      let first = first_member n (h - g) (omega arith) more in
      let i = first_input n (h - g) in
      let is = (and-eq-true_iff _ _).0 (sym (member_rest i n g h g< h< rest.part first.0) ∙ first.1) in
      let out : member i g ≡ false = not_true_false _ (λ e. true≢false (sym is.1 ∙ ap not e)) in
      let next = hang_one g i g< first.0 out (rest.idle i first.0 is.0 out) two in
      hang k (g + 2 ^ i) h (omega (arith, pow_pos i)) next.0 h< (onward i is.0 next.1) next.2
    where
      onward : (i : ℕ) → member i h ≡ true → ((j : ℕ) → j < n → member j (g + 2 ^ i) ≡ (member j g || eqb j i)) → Idle (g + 2 ^ i) h
      onward i is members = record {
        part = member_inside n _ _ (λ j j< e. at j j< (member j g) refl (sym (members j j<) ∙ e));
        idle = λ j j< in_h out. rest.idle j j< in_h ((or_false_iff _ _).0 (sym (members j j<) ∙ out)).0;
      }
        where
          at : (j : ℕ) → j < n → (t : Bool) → member j g ≡ t → (member j g || eqb j i) ≡ true → member j h ≡ true
          at j j< true in_g e = inside_member j n g h rest.part j< in_g
          at j j< false out_g e = rw (eqb-true j i (rw out_g at e)) is

  -- inputs that do not matter keep mark 2
  pub hung : (g h : ℕ) → g < 2 ^ n → h < 2 ^ n → Idle g h → marked m n pos f g ≡ 2 → marked m n pos f h ≡ 2
  hung g h = hang h g h (omega arith)
