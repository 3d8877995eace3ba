-- What it means that an input matters (document 02, K12): "An input matters when some two assignments differing only there differ in ink." So two
-- assignments that agree at every input that matters have the same ink, and a group that holds those inputs determines the ink.
-- Assumes nothing.
use Rattle.std.specs.Prelude.{◌<◌, ◌≤◌, ◌^◌, ◌≡◌, ◌↔◌, ◌≢◌}
use Rattle.laws.specs.Prelude.{ℕ, suc, zero, ◌∙◌, sym, ap, refl, by_cases, true, false, Bool, not, true≢false, List, Memᴰ}
use Rattle.laws.specs.Prelude.{dec_lt, ℕ_discrete, arith, get_or, eq-eqb, ne_eqb, eqb-false, test_cases}
use Rattle.rules.specs.Groups.Groups.{member, part, points, others, alike, alike_over, multiplicity}
use Rattle.rules.specs.Lists.{any, all, first_place}
use Rattle.rules.specs.Nets.Filling.{class_number}
use Rattle.rules.specs.Nets.Leaves.{matters}
use Rattle.rules.specs.Sheets.Sheets.{level}
use Rattle.laws.specs.Lists.Tests.{not_false_true, none_mem, mem_all}
use Rattle.laws.specs.Lists.Places.{mem_get_or}
use Rattle.laws.specs.Lists.FirstPlaces.{first_passing}
use Rattle.trees.specs.Trees.Trees.{Alike, mix}
use Rattle.trees.specs.Groups.Members.{single_below, member_single}
use Rattle.trees.specs.Groups.Levels.{level_ext, level_part_in, level_mix_in, level_mix_out, mix_below, part_below, part_part}
use Rattle.trees.specs.Groups.Points.{part_in_points, points_are_parts}
use Rattle.trees.specs.Groups.Alike.{alike_holds}
use Rattle.trees.specs.Groups.Classes.{class_below, class_alike, few_classes}

-- ---- elements of lists

-- if the negation is false, the test is true
not-false : (b : Bool) → not b ≡ false → b ≡ true
not-false true e = refl
not-false false e = absurd (true≢false e)

-- an element that passes
some_passes : (test : ℕ → Bool) (xs : List ℕ) → any test xs ≡ true → (x : ℕ) × Memᴰ x xs × (test x ≡ true)
some_passes test xs h =
    let found = first_passing test 0 xs h in
    (get_or xs (first_place test xs) 0, mem_get_or xs _ 0 found.0, found.1)

-- an element that fails, if not all pass
some_fails : (test : ℕ → Bool) (xs : List ℕ) → all test xs ≡ false → (x : ℕ) × Memᴰ x xs × (not (test x) ≡ true)
some_fails test xs h =
    some_passes (λ x. not (test x)) xs
    (not_false_true _ (λ none. true≢false (sym (mem_all test xs (λ x is. not-false (test x) (none_mem (λ z. not (test z)) is none))) ∙ h)))

-- if the negation is true, the test is false
not-true : (b : Bool) → not b ≡ true → b ≡ false
not-true true e = absurd (true≢false (sym e))
not-true false e = refl

module _ (m n : ℕ) (pos : 0 < m) (f : ℕ → ℕ) where
  -- an index with q's levels at g and p's elsewhere is q, if p and q agree elsewhere
  pub mix_is : (g p q : ℕ) → g < 2 ^ n → q < m ^ n → ((j : ℕ) → j < n → member j g ≡ false → level m n p j ≡ level m n q j) → mix m n g q p ≡ q
  mix_is g p q g< q< agree =
      level_ext m n pos (mix m n g q p) q (mix_below m n pos g q p g<) q< (λ j j<. test_cases (member j g)
      (λ e. level_mix_in m n pos g q p j g< j< e)
      (λ e. level_mix_out m n pos g q p j g< j< e ∙ agree j j< e))

  -- ---- the meaning

  -- another input is not in the group of input i alone
  other_out : (i j : ℕ) → j ≢ i → member j (2 ^ i) ≡ false
  other_out i j ne = member_single j i ∙ ne_eqb j i ne

  -- and an input outside it is another input
  out_other : (i j : ℕ) → member j (2 ^ i) ≡ false → j ≢ i
  out_other i j e = eqb-false j i (sym (member_single j i) ∙ e)

  -- all levels of an input that does not matter are alike
  pub idle_alike : (i : ℕ) → i < n → matters m n f i ≡ false → (p q : ℕ) → Alike m n f (2 ^ i) p q
  unfolding matters
  idle_alike i i< idle p q =
      alike_holds m n pos f (2 ^ i) p q (single_below i n i<)
      (not-false _ (none_mem _ (part_in_points m n pos (2 ^ i) q) (none_mem _ (part_in_points m n pos (2 ^ i) p) idle)))

  -- two assignments that differ only at an input where their levels are alike have the same ink
  alike_same : (i : ℕ) → i < n → (p q : ℕ) → p < m ^ n → q < m ^ n → ((j : ℕ) → j < n → j ≢ i → level m n p j ≡ level m n q j)
      → Alike m n f (2 ^ i) p q → f p ≡ f q
  alike_same i i< p q p< q< agree same =
      sym (ap f (mix_is (2 ^ i) p p (single_below i n i<) p< (λ j j< out. refl)))
      ∙ same p
      ∙ ap f (mix_is (2 ^ i) p q (single_below i n i<) q< (λ j j< out. agree j j< (out_other i j out)))

  -- two assignments that differ only at an input that does not matter have the same ink
  pub idle_same : (i : ℕ) → i < n → matters m n f i ≡ false → (p q : ℕ) → p < m ^ n → q < m ^ n
      → ((j : ℕ) → j < n → j ≢ i → level m n p j ≡ level m n q j) → f p ≡ f q
  idle_same i i< idle p q p< q< agree = alike_same i i< p q p< q< agree (idle_alike i i< idle p q)

  -- "some two assignments differing only there differ in ink"
  pub record Differing (i : ℕ) : Type 0 where
    pub one : ℕ
    pub other : ℕ
    pub one_below : one < m ^ n
    pub other_below : other < m ^ n
    pub elsewhere : (j : ℕ) → j < n → j ≢ i → level m n one j ≡ level m n other j
    pub inks : f one ≢ f other

  -- two assignments of the input alone that are not alike, with levels of the other inputs at which the inks differ
  pub matters_differ : (i : ℕ) → i < n → matters m n f i ≡ true → Differing i
  unfolding matters alike alike_over mix
  matters_differ i i< is =
      let (p, p_in, some) = some_passes _ (points m n (2 ^ i)) is in
      let (q, q_in, unlike) = some_passes _ (points m n (2 ^ i)) some in
      let (y, y_in, apart) = some_fails _ (points m n (others n (2 ^ i))) (not-true _ unlike) in
      let p_is = (points_are_parts m n pos (2 ^ i) p p_in).0 in
      let q_is = (points_are_parts m n pos (2 ^ i) q q_in).0 in
      let y_is = (points_are_parts m n pos (others n (2 ^ i)) y y_in).0 in
      record {
        one = mix m n (2 ^ i) p y;
        other = mix m n (2 ^ i) q y;
        one_below = mix_below m n pos (2 ^ i) p y (single_below i n i<);
        other_below = mix_below m n pos (2 ^ i) q y (single_below i n i<);
        elsewhere = λ j j< ne.
            level_mix_out m n pos (2 ^ i) p y j (single_below i n i<) j< (other_out i j ne)
            ∙ sym (level_mix_out m n pos (2 ^ i) q y j (single_below i n i<) j< (other_out i j ne));
        inks = λ same. eqb-false _ _ (not-true _ apart) (rw (p_is, q_is, y_is) at same);
      }

  -- so an input matters exactly if there are two such assignments
  pub matters_exactly : (i : ℕ) → i < n → (matters m n f i ≡ true) ↔ Differing i
  matters_exactly i i< = (
    matters_differ i i<,
    λ two. not_false_true _ (λ idle. two.inks (idle_same i i< idle two.one two.other two.one_below two.other_below two.elsewhere)),
  )

  -- ---- what follows

  -- two assignments that agree from input k on, and at every input that matters, have the same ink
  abbrev OneInkFrom : ℕ → Type 0
  OneInkFrom k = (p q : ℕ) → p < m ^ n → q < m ^ n → ((j : ℕ) → j < n → k ≤ j → level m n p j ≡ level m n q j)
      → ((j : ℕ) → j < n → matters m n f j ≡ true → level m n p j ≡ level m n q j) → f p ≡ f q

  -- one more input: if it matters, they agree there too; if not, p may take q's level there
  one_more : (k : ℕ) → k < n → OneInkFrom k → OneInkFrom (suc k)
  one_more k k< before p q p< q< later agree = test_cases (matters m n f k)
      (λ is. before p q p< q< (λ j j< k≤j. by_cases (ℕ_discrete j k) (λ e. agree j j< (rw e is)) (λ ne. later j j< (omega arith))) agree)
      (λ idle.
      idle_same k k< idle p r p< (mix_below m n pos (2 ^ k) q p k_below) (λ j j< ne. sym (at_other j j< ne))
      ∙ before r q (mix_below m n pos (2 ^ k) q p k_below) q<
      (λ j j< k≤j. as_p j j< (λ ne. later j j< (omega arith)))
      (λ j j< is. as_p j j< (λ ne. agree j j< is)))
    where
      r : ℕ
      r = mix m n (2 ^ k) q p

      k_below : 2 ^ k < 2 ^ n
      k_below = single_below k n k<

      at_k : level m n r k ≡ level m n q k
      at_k = level_mix_in m n pos (2 ^ k) q p k k_below k< (member_single k k ∙ eq-eqb k k refl)

      at_other : (j : ℕ) → j < n → j ≢ k → level m n r j ≡ level m n p j
      at_other j j< ne = level_mix_out m n pos (2 ^ k) q p j k_below j< (other_out k j ne)

      -- r agrees with q wherever p does, and at k
      as_p : (j : ℕ) → j < n → (j ≢ k → level m n p j ≡ level m n q j) → level m n r j ≡ level m n q j
      as_p j j< same = by_cases (ℕ_discrete j k) (λ e. rw e at_k) (λ ne. at_other j j< ne ∙ same ne)

  one_ink : (k : ℕ) → k ≤ n → OneInkFrom k
  one_ink zero k≤ p q p< q< later agree = ap f (level_ext m n pos p q p< q< (λ j j<. later j j< (omega arith)))
  one_ink (suc k) k≤ p q p< q< later agree = one_more k k≤ (one_ink k (omega arith)) p q p< q< later agree

  -- two assignments that agree at every input that matters have the same ink
  pub idle_ink : (p q : ℕ) → p < m ^ n → q < m ^ n → ((j : ℕ) → j < n → matters m n f j ≡ true → level m n p j ≡ level m n q j) → f p ≡ f q
  idle_ink p q p< q< agree = one_ink n (omega arith) p q p< q< (λ j j< n≤j. absurd (omega arith)) agree

  -- g has every input that matters
  abbrev pub Holding : ℕ → Type 0
  Holding g = (i : ℕ) → i < n → matters m n f i ≡ true → member i g ≡ true

  -- the part in such a group determines the ink, ..
  pub holding_ink : (g p q : ℕ) → g < 2 ^ n → Holding g → p < m ^ n → q < m ^ n → part m n g p ≡ part m n g q → f p ≡ f q
  holding_ink g p q g< holds p< q< e =
      idle_ink p q p< q< λ j j< is.
      sym (level_part_in m n pos g p j j< (holds j j< is)) ∙ ap (λ r. level m n r j) e ∙ level_part_in m n pos g q j j< (holds j j< is)

  -- .. and has the same ink
  pub holding_part : (g p : ℕ) → g < 2 ^ n → Holding g → p < m ^ n → f (part m n g p) ≡ f p
  holding_part g p g< holds p< = holding_ink g (part m n g p) p g< holds (part_below m n pos g p) p< (part_part m n pos g p)

  -- an input matters exactly if its group has several classes
  pub matters_classes : (i : ℕ) → i < n → (matters m n f i ≡ true) ↔ (1 < multiplicity m n f (2 ^ i))
  matters_classes i i< = (λ is. several (matters_differ i i< is), λ many. not_false_true _ (λ idle. omega (arith, one_class idle)))
    where
      i_below : 2 ^ i < 2 ^ n
      i_below = single_below i n i<

      one_class : matters m n f i ≡ false → multiplicity m n f (2 ^ i) ≤ 1
      one_class idle = few_classes m n pos f (2 ^ i) i_below 1 (λ p. 0) (λ p. omega arith) (λ p q e. idle_alike i i< idle p q)

      several : Differing i → 1 < multiplicity m n f (2 ^ i)
      several two =
          by_cases (dec_lt 1 (multiplicity m n f (2 ^ i))) (λ many. many) λ few.
          let one_number : class_number m n f (2 ^ i) two.one ≡ class_number m n f (2 ^ i) two.other =
          omega (arith, class_below m n pos f (2 ^ i) i_below two.one, class_below m n pos f (2 ^ i) i_below two.other) in
          absurd (two.inks (alike_same i i< two.one two.other two.one_below two.other_below two.elsewhere
          (class_alike m n pos f (2 ^ i) i_below two.one two.other one_number)))
