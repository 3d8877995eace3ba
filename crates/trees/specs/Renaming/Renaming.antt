-- "two full table sheets with the same first three lines, one got from the other by a one-to-one renaming of the ink levels" (document 02, K14).
-- Alike compares inks only for equality, so everything derived from it is the same for both tables: classes, marks, the inputs that matter.
-- Assumes nothing.
use Rattle.std.specs.Prelude.{◌<◌, ◌+◌, ◌^◌, ◌≡◌}
use Rattle.laws.specs.Prelude.{ℕ, suc, zero, ◌∙◌, sym, ap, refl, not, List, [], Memᴰ, mem_not_nil, mem_eq_of_singleton}
use Rattle.laws.specs.Prelude.{dec_lt, arith, eqb, length, eq-eqb, eqb-true}
use Rattle.rules.specs.Groups.Groups.{points, others, whole_group, alike_over, alike, classes, multiplicity}
use Rattle.rules.specs.Groups.Marks.{mark_of, marks_below, marks_of}
use Rattle.rules.specs.Lists.{range, those}
use Rattle.rules.specs.Nets.Leaves.{matters, mattering, leaf_inputs, leaves_of}
use Rattle.laws.specs.Lists.Tests.{two_ways, any_same}
use Rattle.laws.specs.Lists.Listed.{those_listed}
use Rattle.trees.specs.Groups.SameTests.{all_same, firsts_same, firsts_have}
use Rattle.trees.specs.Trees.Trees.{mix}
use Rattle.trees.specs.Groups.Levels.{mix_below}
use Rattle.trees.specs.Groups.Points.{points_are_parts, points_empty}

-- ---- the notion

-- "one got from the other by a one-to-one renaming of the ink levels": if f has ink v, h has r v, and different levels get different names
pub record Renamed (m n : ℕ) (r f h : ℕ → ℕ) : Type 0 where
  pub levels : (v : ℕ) → v < m → r v < m
  pub one_to_one : (u v : ℕ) → u < m → v < m → r u ≡ r v → u ≡ v
  pub inks : (p : ℕ) → p < m ^ n → h p ≡ r (f p)

-- two cells have the same ink in one table exactly if they do in the other
abbrev pub SameInks : ℕ → ℕ → (ℕ → ℕ) → (ℕ → ℕ) → Type 0
SameInks m n f h = (p q : ℕ) → p < m ^ n → q < m ^ n → eqb (f p) (f q) ≡ eqb (h p) (h q)

-- this holds for a renaming
pub renamed_same : (m n : ℕ) (r f h : ℕ → ℕ) → ((p : ℕ) → p < m ^ n → f p < m) → Renamed m n r f h → SameInks m n f h
renamed_same m n r f h below renamed p q p< q< =
    two_ways (eqb (f p) (f q)) (eqb (h p) (h q))
    (λ e. eq-eqb _ _ (renamed.inks p p< ∙ ap r (eqb-true _ _ e) ∙ sym (renamed.inks q q<)))
    (λ e. eq-eqb _ _ (renamed.one_to_one (f p) (f q) (below p p<) (below q q<) (sym (renamed.inks p p<) ∙ eqb-true _ _ e ∙ renamed.inks q q<)))

-- ---- an assignment of a group plus one of the other inputs is an index

module _ (m n : ℕ) (pos : 0 < m) where
  -- a number that is no group leaves no other input
  pub sum_below : (g p y : ℕ) → Memᴰ p (points m n g) → Memᴰ y (points m n (others n g)) → p + y < m ^ n
  unfolding mix others whole_group
  sum_below g p y p_in y_in =
      let p_is = points_are_parts m n pos g p p_in in
      elim (dec_lt g (2 ^ n)) [
        | yes g< ↦ rw (p_is.0, (points_are_parts m n pos (others n g) y y_in).0) at (mix_below m n pos g p y g<)
        | no past ↦
            let none : others n g ≡ 0 = omega arith in
            let y_zero : y ≡ 0 = mem_eq_of_singleton (rw (none, points_empty m n pos) at y_in) in
            omega (arith, p_is.1)
      ]

  -- each of a group's classes is listed by one of the group's assignments
  pub classes_of_points : (f : ℕ → ℕ) (g q : ℕ) → Memᴰ q (classes m n f g) → Memᴰ q (points m n g)
  unfolding classes
  classes_of_points f g =
      firsts_have (λ p. Memᴰ p (points m n g)) _ [] (points m n g) (λ x is. absurd (mem_not_nil is)) (λ x is. is)

-- ---- what two such tables share

module _ (m n : ℕ) (pos : 0 < m) (f h : ℕ → ℕ) (same : SameInks m n f h) where
  -- two assignments of a group are alike in both or in neither, ..
  pub alike_renamed : (g p q : ℕ) → Memᴰ p (points m n g) → Memᴰ q (points m n g)
      → alike_over f (points m n (others n g)) p q ≡ alike_over h (points m n (others n g)) p q
  unfolding alike_over
  alike_renamed g p q p_in q_in =
      all_same _ _ (points m n (others n g)) (λ y y_in. same (p + y) (q + y) (sum_below m n pos g p y p_in y_in) (sum_below m n pos g q y q_in y_in))

  -- .. so they have the same classes, each by its first assignment, ..
  pub classes_renamed : (g : ℕ) → classes m n f g ≡ classes m n h g
  unfolding classes
  classes_renamed g =
      firsts_same (λ p. Memᴰ p (points m n g)) _ _ (alike_renamed g) [] (points m n g) (λ x is. absurd (mem_not_nil is)) (λ x is. is)

  -- .. and equally many
  pub multiplicity_renamed : (g : ℕ) → multiplicity m n f g ≡ multiplicity m n h g
  unfolding multiplicity
  multiplicity_renamed g = ap length (classes_renamed g)

  -- ---- marks

  pub mark_renamed : (marks : List ℕ) (g : ℕ) → mark_of m n f marks g ≡ mark_of m n h marks g
  unfolding mark_of
  mark_renamed marks g = rw (multiplicity_renamed g, mark_of)

  marks_below_renamed : (count : ℕ) → marks_below m n f count ≡ marks_below m n h count
  unfolding marks_below
  marks_below_renamed zero = refl
  marks_below_renamed (suc count) = rw (marks_below_renamed count, mark_renamed)

  -- every group has the same mark in both
  pub marks_renamed : marks_of m n f ≡ marks_of m n h
  unfolding marks_of
  marks_renamed = marks_below_renamed (2 ^ n)

  -- ---- leaves

  -- the same inputs matter, ..
  pub matters_renamed : (i : ℕ) → matters m n f i ≡ matters m n h i
  unfolding matters alike
  matters_renamed i =
      let own : List ℕ = points m n (2 ^ i) in
      any_same _ _ own (λ p p_in. any_same _ _ own (λ q q_in. ap not (alike_renamed (2 ^ i) p q p_in q_in)))

  pub mattering_renamed : mattering m n f ≡ mattering m n h
  unfolding mattering
  mattering_renamed = those_listed _ _ (range 0 n) (λ i is. matters_renamed i)

  leaf_inputs_renamed : leaf_inputs m n f ≡ leaf_inputs m n h
  unfolding leaf_inputs
  leaf_inputs_renamed =
      let idle : those (λ i. not (matters m n f i)) (range 0 n) ≡ those (λ i. not (matters m n h i)) (range 0 n) =
      those_listed _ _ (range 0 n) (λ i is. ap not (matters_renamed i)) in
      rw (mattering_renamed, idle)

  -- .. and the same are leaves
  pub leaves_renamed : leaves_of m n f ≡ leaves_of m n h
  unfolding leaves_of
  leaves_renamed = rw leaf_inputs_renamed
