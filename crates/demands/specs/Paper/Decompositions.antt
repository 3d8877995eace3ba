-- Document 003 (Butler), section II: simple and complex disjunctive decompositions, and Theorems 1 and 2, for every table of m levels
-- and n inputs and every group X of the inputs. Y is the group of the other inputs.
-- Assumes nothing.
use Rattle.std.specs.Prelude.{◌<◌, ◌≤◌, ◌+◌, ◌^◌, ◌≡◌, ◌↔◌}
use Rattle.laws.specs.Prelude.{ℕ, ◌∙◌, sym, ap, ◌∎, ◌≡⟨◌⟩◌, lt_of_lt_of_le, add_comm, get_or}
use Rattle.rules.specs.Groups.Groups.{part, others, classes, multiplicity}
use Rattle.rules.specs.Nets.Filling.{class_number}
use Rattle.trees.specs.Trees.Trees.{mix, Alike, Tells}
use Rattle.trees.specs.Groups.Members.{others_below}
use Rattle.trees.specs.Groups.Levels.{part_mix, mix_below, mix_self}
use Rattle.trees.specs.Groups.Points.{points_are_parts}
use Rattle.trees.specs.Groups.Classes.{alike_class, class_below, class_listed, class_part, classes_are_points, few_classes}
use Rattle.demands.specs.Paper.PartitionMatrix.{column_multiplicity, row_multiplicity, column_multiplicity_lem, row_multiplicity_lem, others_others}

-- "f(Z) has a simple disjunctive decomposition (SDD) if and only if f(Z) = F(g(X), Y)": g has k values and takes the levels
-- of X; F takes g's value and the levels of Y.
pub record SimpleBy (k m n : ℕ) (f : ℕ → ℕ) (x : ℕ) : Type 0 where
  pub g : ℕ → ℕ
  pub F : ℕ → ℕ → ℕ
  pub below : (p : ℕ) → g (part m n x p) < k
  pub equation : (p : ℕ) → p < m ^ n → f p ≡ F (g (part m n x p)) (part m n (others n x) p)

-- in the paper g has m values, like every wire there
abbrev pub Simple : ℕ → ℕ → (ℕ → ℕ) → ℕ → Type 0
Simple m n f x = SimpleBy m m n f x

-- "the complex disjunctive decomposition (CDD)", f(Z) = F(g1(X), g2(Y))
pub record Complex (m n : ℕ) (f : ℕ → ℕ) (x : ℕ) : Type 0 where
  pub g1 : ℕ → ℕ
  pub g2 : ℕ → ℕ
  pub F : ℕ → ℕ → ℕ
  pub below1 : (p : ℕ) → g1 (part m n x p) < m
  pub below2 : (p : ℕ) → g2 (part m n (others n x) p) < m
  pub equation : (p : ℕ) → p < m ^ n → f p ≡ F (g1 (part m n x p)) (g2 (part m n (others n x) p))

-- "assign to each of the μ distinct rows a value .. that two different rows have different values. columns are labeled in a similar
-- manner": g gives equal columns the same value (the equation implies that different columns have different values)
abbrev pub Labels : ℕ → ℕ → (ℕ → ℕ) → ℕ → (ℕ → ℕ) → Type 0
Labels m n f x g = (p q : ℕ) → Alike m n f x p q → g (part m n x p) ≡ g (part m n x q)

module _ (m n : ℕ) (pos : 0 < m) (x : ℕ) (x< : x < 2 ^ n) where
  -- a mix over x is a mix over the others with the two indices exchanged
  mix_others : (p y : ℕ) → mix m n (others n x) y p ≡ mix m n x p y
  unfolding mix
  mix_others p y = rw (others_others n x x<) (add_comm _ _)

  -- so it has y's levels at the others
  rest_mix : (p y : ℕ) → part m n (others n x) (mix m n x p y) ≡ part m n (others n x) y
  rest_mix p y = rw (← mix_others p y) (part_mix m n pos (others n x) y p (others_below n x))

-- the first assignment of class c of group x
abbrev pub listed : ℕ → ℕ → (ℕ → ℕ) → ℕ → ℕ → ℕ
listed m n f x c = get_or (classes m n f x) c 0

module _ (m n : ℕ) (pos : 0 < m) (f : ℕ → ℕ) (x : ℕ) (x< : x < 2 ^ n) where
  -- g's value and the levels of Y determine the ink
  pub simple_tells : {k : ℕ} (d : SimpleBy k m n f x) → Tells m n f x (λ p. d.g (part m n x p))
  simple_tells d p q e y = equation p ∙ ap (λ v. d.F v (part m n (others n x) y)) e ∙ sym (equation q)
    where
      equation : (p : ℕ) → f (mix m n x p y) ≡ d.F (d.g (part m n x p)) (part m n (others n x) y)
      equation p = rw (d.equation (mix m n x p y) (mix_below m n pos x p y x<), part_mix m n pos x p y x<, rest_mix m n pos x x< p y)

  -- the first assignment of p's class equals its own part in X
  listed_part : (p : ℕ) → part m n x (listed m n f x (class_number m n f x p)) ≡ listed m n f x (class_number m n f x p)
  listed_part p = (points_are_parts m n pos x _ (classes_are_points m n pos f x x< _ (class_below m n pos f x x< p))).0

  -- the class of p in X and the levels of Y determine the ink
  by_class : (p y : ℕ) → f (mix m n x p y) ≡ f (listed m n f x (class_number m n f x p) + part m n (others n x) y)
  unfolding mix
  by_class p y = class_listed m n pos f x x< p y ∙ ap (λ r. f (r + part m n (others n x) y)) (listed_part p)

  -- so F is the ink at a column's first assignment and the levels of Y
  pub class_equation : (p : ℕ) → p < m ^ n → f p ≡ f (listed m n f x (class_number m n f x (part m n x p)) + part m n (others n x) p)
  class_equation p h = rw (class_part m n pos f x x< p) (sym (ap f (mix_self m n pos x p x< h)) ∙ by_class p p)

  -- with at most k classes, the labels are below k
  pub label_below : {k : ℕ} → multiplicity m n f x ≤ k → (p : ℕ) → class_number m n f x p < k
  label_below few p = lt_of_lt_of_le (class_below m n pos f x x< p) few

module _ (m n : ℕ) (pos : 0 < m) (f : ℕ → ℕ) (x : ℕ) (x< : x < 2 ^ n) where
  -- the class of the levels of Y may replace these levels
  row_class : (c p : ℕ) → part m n x c ≡ c
      → f (c + part m n (others n x) p) ≡ f (c + listed m n f (others n x) (class_number m n f (others n x) (part m n (others n x) p)))
  unfolding mix
  row_class c p e =
      let y = others n x in
      let first : ℕ → ℕ = λ q. listed m n f y (class_number m n f y q) in
      let same = class_part m n pos f y (others_below n x) p in
      f (c + part m n y p) ≡⟨ ap (λ r. f (r + part m n y p)) (sym e) ∙ ap f (sym (mix_others m n pos x x< c p)) ⟩
      f (mix m n y p c) ≡⟨ by_class m n pos f y (others_below n x) p c ⟩
      f (first p + part m n (others n y) c) ≡⟨ rw (others_others n x x<, e, same) (ap f (add_comm (first p) c)) ⟩
      f (c + first (part m n y p)) ∎

  -- the classes of p in X and in Y determine the ink
  pub classes_equation : (p : ℕ) → p < m ^ n →
      let y = others n x in
      f p ≡ f (listed m n f x (class_number m n f x (part m n x p)) + listed m n f y (class_number m n f y (part m n y p)))
  classes_equation p h = class_equation m n pos f x x< p h ∙ row_class _ p (listed_part m n pos f x x< (part m n x p))

  -- a column's label is its class, ..
  pub class_labels : Labels m n f x (class_number m n f x)
  class_labels p q h = class_part m n pos f x x< p ∙ alike_class m n pos f x x< p q h ∙ sym (class_part m n pos f x x< q)

  -- .. and F is read off the matrix
  abbrev pub class_simple : {k : ℕ} → multiplicity m n f x ≤ k → SimpleBy k m n f x
  class_simple few = record {
    g = class_number m n f x;
    F = λ c y. f (listed m n f x c + y);
    below = λ p. label_below m n pos f x x< few _;
    equation = class_equation m n pos f x x<;
  }

  -- the same with labels for the rows too
  abbrev pub class_complex : multiplicity m n f x ≤ m → multiplicity m n f (others n x) ≤ m → Complex m n f x
  class_complex few_columns few_rows = record {
    g1 = class_number m n f x;
    g2 = class_number m n f (others n x);
    F = λ c d. f (listed m n f x c + listed m n f (others n x) d);
    below1 = λ p. label_below m n pos f x x< few_columns _;
    below2 = λ p. label_below m n pos f (others n x) (others_below n x) few_rows _;
    equation = classes_equation;
  }

-- a g of k values leaves at most k classes, since its values are below k and determine the class
simple_few : (k m n : ℕ) → 0 < m → (f : ℕ → ℕ) (x : ℕ) → x < 2 ^ n → SimpleBy k m n f x → multiplicity m n f x ≤ k
simple_few k m n pos f x x< d = few_classes m n pos f x x< k (λ p. d.g (part m n x p)) d.below (simple_tells m n pos f x x< d)

-- For every k: f(Z) = F(g(X), Y) with g of k values exactly if X has at most k classes. So the multiplicity of X is the fewest values that a
-- wire in place of X can carry.
pub values_needed : (k m n : ℕ) → 0 < m → (f : ℕ → ℕ) (x : ℕ) → x < 2 ^ n → SimpleBy k m n f x ↔ (multiplicity m n f x ≤ k)
values_needed k m n pos f x x< = (simple_few k m n pos f x x<, λ few. class_simple m n pos f x x< few)

-- Theorem 1: "f(Z), an m-valued function, has the SDD f(Z) = F(g(X), Y) if and only if its Y|X partition matrix has column
-- multiplicity ν ≤ m."
pub theorem_1 : (m n : ℕ) → 0 < m → (f : ℕ → ℕ) (x : ℕ) → x < 2 ^ n → Simple m n f x ↔ (column_multiplicity m n f x ≤ m)
theorem_1 m n pos f x x< = rw (column_multiplicity_lem m n f x) (values_needed m m n pos f x x<)

-- a CDD is an SDD for X, as (2), ..
abbrev pub columns_simple : (m n : ℕ) (f : ℕ → ℕ) (x : ℕ) → Complex m n f x → Simple m n f x
columns_simple m n f x d = record { g = d.g1; F = λ v y. d.F v (d.g2 y); below = d.below1; equation = d.equation }

-- .. and one for Y, as (3)
abbrev pub rows_simple : (m n : ℕ) (f : ℕ → ℕ) (x : ℕ) → x < 2 ^ n → Complex m n f x → Simple m n f (others n x)
rows_simple m n f x x< d =
    record { g = d.g2; F = λ v y. d.F (d.g1 y) v; below = d.below2; equation = rw (others_others n x x<) d.equation }

-- Theorem 2: "f(Z), an m-valued function, has the CDD f(Z) = F(g1(X), g2(Y)) if and only if its Y|X partition matrix has column
-- multiplicity ν ≤ m and row multiplicity μ ≤ m."
pub theorem_2 : (m n : ℕ) → 0 < m → (f : ℕ → ℕ) (x : ℕ) → x < 2 ^ n
    → Complex m n f x ↔ ((column_multiplicity m n f x ≤ m) × (row_multiplicity m n f x ≤ m))
theorem_2 m n pos f x x< =
    rw (column_multiplicity_lem m n f x, row_multiplicity_lem m n f x x<)
    (both, λ few. class_complex m n pos f x x< few.0 few.1)
  where
    both : Complex m n f x → (multiplicity m n f x ≤ m) × (multiplicity m n f (others n x) ≤ m)
    both d =
        (simple_few m m n pos f x x< (columns_simple m n f x d), simple_few m m n pos f (others n x) (others_below n x) (rows_simple m n f x x< d))
