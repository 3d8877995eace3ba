-- Document 003 (Butler), section VII, Conjecture 2, and a proof that it is false. Document 01's case 7 is a counterexample; with one more input
-- it is one in which each group of a decomposition has several inputs.
-- Assumes nothing.
use Rattle.std.specs.Prelude.{◌<◌, ◌^◌, ◌%◌, ◌/◌, ◌≡◌, ◌↔◌, ◌∷◌}
use Rattle.laws.specs.Prelude.{ℕ, refl, true, false, cond, [], arith, eqb, lit<}
use Rattle.rules.specs.Calls.Answers.{ink_in}
use Rattle.rules.specs.Groups.Groups.{member, others, whole_group, size}
use Rattle.rules.specs.Groups.Marks.{mark_in, marks_of}
use Rattle.rules.specs.Lists.{range, those}
use Rattle.rules.specs.Cases.Cases.{seven}
use Rattle.rules.specs.Cases.Written.{letter_names, by_rule, abcd, one_if}
use Rattle.rules.specs.Evaluation.{computing}
use Rattle.trees.specs.Groups.Members.{others_below}
use Rattle.demands.specs.Paper.Decompositions.{Complex, Labels, class_labels, class_complex, columns_simple, simple_tells}
use Rattle.demands.specs.Paper.FanoutFree.{FanoutFree, fanout_free_mark, classes_fanout_free, marked_few}
use Rattle.laws.specs.Lists.Bounds.{inks_below}

-- which CDD's are considered
abbrev pub Kind : Type 1
Kind = (m n : ℕ) (f : ℕ → ℕ) (x : ℕ) → Complex m n f x → Type 0

-- for any two CDD's considered, f(Z) = H1(g1(X), g2(Y)) (16) and f(Z) = H2(g3(W), g4(V)) (17)
abbrev pub CddsAgree : Kind → Type 0
CddsAgree Meant =
    (m n : ℕ) (f : ℕ → ℕ) → 1 < m → ((p : ℕ) → p < m ^ n → f p < m)
    → (x w : ℕ) → x < 2 ^ n → w < 2 ^ n → (one : Complex m n f x) (two : Complex m n f w) → Meant m n f x one → Meant m n f w two
    → (FanoutFree m n x one.g1 × FanoutFree m n (others n x) one.g2)
    ↔ (FanoutFree m n w two.g1 × FanoutFree m n (others n w) two.g2)

-- Conjecture 2: "If f(Z) has two CDD's (16) (17) then g1 and g2 are fanout-free if and only if g3 and g4 are fanout-free." (The paper
-- prints g4(Z).) No group is empty.
abbrev pub Conjecture2 : Type 0
Conjecture2 = CddsAgree (λ m n f x d. (0 < size n x) × (0 < size n (others n x)))

-- The same, restricted to CDD's as section II makes them, with labels for columns and rows, and to none that footnote 1 calls
-- trivial, "one or no variables in a row or column".
abbrev pub NarrowConjecture2 : Type 0
NarrowConjecture2 =
    CddsAgree (λ m n f x d. (1 < size n x) × (1 < size n (others n x)) × Labels m n f x d.g1 × Labels m n f (others n x) d.g2)

module _ (m n : ℕ) (several : 1 < m) (f : ℕ → ℕ) (inks : (p : ℕ) → p < m ^ n → f p < m) where
  pos : 0 < m
  pos = omega arith

  abbrev mark : ℕ → ℕ
  mark g = mark_in (marks_of m n f) g

  -- in every CDD for a group of mark 1, the group's function is not fanout-free
  not_free : (w : ℕ) → w < 2 ^ n → mark w ≡ 1 → (d : Complex m n f w) → FanoutFree m n w d.g1 → ⊥
  not_free w w< one d free =
      let tells = simple_tells m n pos f w w< (columns_simple m n f w d) in
      omega (arith, fanout_free_mark m n pos f w w< d.g1 tells free)

  -- the CDD by classes, if neither group has mark 0
  abbrev by_classes : (x : ℕ) → x < 2 ^ n → 0 < mark x → 0 < mark (others n x) → Complex m n f x
  by_classes x x< x_some y_some =
      class_complex m n pos f x x< (marked_few m n pos f x x< x_some) (marked_few m n pos f (others n x) (others_below n x) y_some)

  -- if X and Y have mark 2 and W has mark 1, the two CDD's by classes are a counterexample
  marks_refute : (Meant : Kind) (x w : ℕ) (x< : x < 2 ^ n) (w< : w < 2 ^ n)
      → mark x ≡ 2 → mark (others n x) ≡ 2 → mark w ≡ 1 → 0 < mark (others n w)
      → ((x_some : 0 < mark x) (y_some : 0 < mark (others n x)) → Meant m n f x (by_classes x x< x_some y_some))
      → ((w_some : 0 < mark w) (v_some : 0 < mark (others n w)) → Meant m n f w (by_classes w w< w_some v_some))
      → CddsAgree Meant → ⊥
  marks_refute Meant x w x< w< x_two y_two w_one v_some x_meant w_meant c =
      let w_some : 0 < mark w = omega arith in
      let two = by_classes w w< w_some v_some in
      not_free w w< w_one two ((c m n f several inks x w x< w< _ two (x_meant (omega arith) (omega arith)) (w_meant w_some v_some)).0 (
        classes_fanout_free m n pos f inks x x< x_two,
        classes_fanout_free m n pos f inks (others n x) (others_below n x) y_two,
      )).0

-- ---- document 01's case 7: 3 levels, inputs a b c d

seven_below : (p : ℕ) → ink_in seven.inks p < 3
unfolding computing letter_names by_rule abcd one_if seven
seven_below = inks_below 3 (lit< tt) seven.inks refl

seven_marks : marks_of 3 4 (ink_in seven.inks) ≡ 0 ∷ 2 ∷ 2 ∷ 0 ∷ 2 ∷ 0 ∷ 0 ∷ 1 ∷ 2 ∷ 2 ∷ 0 ∷ 2 ∷ 0 ∷ 0 ∷ 0 ∷ 2 ∷ []
unfolding computing letter_names by_rule abcd one_if seven
seven_marks = refl

-- X = a b d, number 11, and Y = c; W = a b c, number 7, and V = d
pub conjecture_2_false : Conjecture2 → ⊥
unfolding others whole_group size those range member
conjecture_2_false =
    marks_refute 3 4 (lit< tt) (ink_in seven.inks) (λ p h. seven_below p) _ 11 7 (lit< tt) (lit< tt)
    (rw seven_marks) (rw seven_marks) (rw seven_marks) (rw seven_marks (lit< tt))
    (λ _ _. (lit< tt, lit< tt)) (λ _ _. (lit< tt, lit< tt))

-- ---- the same table with a fifth input e: ink 0 unless e is 0

abbrev ink : ℕ → ℕ
ink p = cond (eqb (p % 3) 0) (ink_in seven.inks (p / 3)) 0

ink_below : (p : ℕ) → ink p < 3
ink_below p = elim (eqb (p % 3) 0) as (λ b. cond b (ink_in seven.inks (p / 3)) 0 < 3) [
  | true ↦ seven_below (p / 3)
  | false ↦ lit< tt
]

marks : marks_of 3 5 ink
    ≡ 0 ∷ 2 ∷ 2 ∷ 0 ∷ 2 ∷ 0 ∷ 0 ∷ 1 ∷ 2 ∷ 2 ∷ 0 ∷ 2 ∷ 0 ∷ 0 ∷ 0 ∷ 2
    ∷ 2 ∷ 0 ∷ 0 ∷ 0 ∷ 2 ∷ 0 ∷ 0 ∷ 1 ∷ 2 ∷ 0 ∷ 0 ∷ 2 ∷ 0 ∷ 0 ∷ 0 ∷ 2 ∷ []
unfolding computing letter_names by_rule abcd one_if seven
marks = refl

-- X = a b d, number 11, and Y = c e; W = a b c, number 7, and V = d e
pub narrow_conjecture_2_false : NarrowConjecture2 → ⊥
unfolding others whole_group size those range member
narrow_conjecture_2_false =
    let labels = class_labels 3 5 (lit< tt) ink in
    marks_refute 3 5 (lit< tt) ink (λ p h. ink_below p) _ 11 7 (lit< tt) (lit< tt)
    (rw marks) (rw marks) (rw marks) (rw marks (lit< tt))
    (λ _ _. (lit< tt, lit< tt, labels 11 (lit< tt), labels 20 (lit< tt)))
    (λ _ _. (lit< tt, lit< tt, labels 7 (lit< tt), labels 24 (lit< tt)))
