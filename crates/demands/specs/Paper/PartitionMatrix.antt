-- Document 003 (Butler), section II: the partition matrix of a table for a group X and the others, Y. Its column multiplicity and
-- its row multiplicity are document 01's multiplicities of the two groups.
-- Assumes nothing.
use Rattle.std.specs.Prelude.{◌<◌, ◌+◌, ◌^◌, ◌≡◌, ◌∷◌}
use Rattle.laws.specs.Prelude.{ℕ, ◌∙◌, sym, ap, refl, fun_ext, true, false, Bool, List, [], map, add_comm, arith, eqb, length}
use Rattle.laws.specs.Prelude.{length-map}
use Rattle.rules.specs.Calls.Answers.{ink_in}
use Rattle.rules.specs.Groups.Groups.{size, others, whole_group, points, alike_over, firsts, classes, multiplicity}
use Rattle.rules.specs.Lists.{all, same}
use Rattle.rules.specs.Cases.Cases.{figure_rows, figure}
use Rattle.rules.specs.Cases.Written.{digits, by_rule}
use Rattle.rules.specs.Evaluation.{computing}
use Rattle.trees.specs.Groups.Firsts.{firsts_map}
use Rattle.trees.specs.Groups.Points.{points_length}

-- "the Y|X partition matrix has m^|X| columns and m^|Y| rows labeled by all possible assignments of values to X and Y,
-- respectively. Each square contains the value of f for the assignment of values to X corresponding to the column labelling and
-- for the assignment of values to Y corresponding to the row labelling." Column p's square in row y is the ink at index p + y.
unfoldable pub columns : ℕ → ℕ → (ℕ → ℕ) → ℕ → List (List ℕ)
columns m n f x = map (λ p. map (λ y. f (p + y)) (points m n (others n x))) (points m n x)

unfoldable pub rows : ℕ → ℕ → (ℕ → ℕ) → ℕ → List (List ℕ)
rows m n f x = map (λ y. map (λ p. f (p + y)) (points m n x)) (points m n (others n x))

-- "The column (row) multiplicity ν (μ) is the number of distinct columns (rows) in the matrix."
unfoldable pub column_multiplicity : ℕ → ℕ → (ℕ → ℕ) → ℕ → ℕ
column_multiplicity m n f x = length (firsts same [] (columns m n f x))

unfoldable pub row_multiplicity : ℕ → ℕ → (ℕ → ℕ) → ℕ → ℕ
row_multiplicity m n f x = length (firsts same [] (rows m n f x))

-- ---- their laws

-- "the Y|X partition matrix has m^|X| columns and m^|Y| rows"
pub column_count : (m n : ℕ) → 0 < m → (f : ℕ → ℕ) (x : ℕ) → length (columns m n f x) ≡ m ^ size n x
unfolding columns
column_count m n pos f x = length-map (points m n x) _ ∙ points_length m n pos x

pub row_count : (m n : ℕ) → 0 < m → (f : ℕ → ℕ) (x : ℕ) → length (rows m n f x) ≡ m ^ size n (others n x)
unfolding rows
row_count m n pos f x = length-map (points m n (others n x)) _ ∙ points_length m n pos (others n x)

-- columns are the same exactly if their assignments are alike
same_column : (f : ℕ → ℕ) (ys : List ℕ) (p q : ℕ) → same (map (λ y. f (p + y)) ys) (map (λ y. f (q + y)) ys) ≡ alike_over f ys p q
unfolding same alike_over all
same_column f [] p q = refl
same_column f (y ∷ ys) p q = ap (λ (rest : Bool). elim (eqb (f (p + y)) (f (q + y))) [ true ↦ rest | false ↦ false ]) (same_column f ys p q)

-- the others of the others
pub others_others : (n x : ℕ) → x < 2 ^ n → others n (others n x) ≡ x
unfolding others whole_group
others_others n x x< = omega arith

-- "The column multiplicity" is document 01's multiplicity of the group X.
pub column_multiplicity_lem : (m n : ℕ) (f : ℕ → ℕ) (x : ℕ) → column_multiplicity m n f x ≡ multiplicity m n f x
unfolding column_multiplicity columns multiplicity classes
column_multiplicity_lem m n f x =
    let ys = points m n (others n x) in
    let column : ℕ → List ℕ = λ p. map (λ y. f (p + y)) ys in
    sym (ap length (firsts_map column same [] (points m n x)))
    ∙ length-map (firsts (λ p q. same (column p) (column q)) [] (points m n x)) column
    ∙ ap (λ (alike : ℕ → ℕ → Bool). length (firsts alike [] (points m n x))) (fun_ext (λ p. fun_ext (same_column f ys p)))

-- the rows are the columns for the other group
rows_are_columns : (m n : ℕ) (f : ℕ → ℕ) (x : ℕ) → x < 2 ^ n → rows m n f x ≡ columns m n f (others n x)
unfolding rows columns
rows_are_columns m n f x x< =
    rw (others_others n x x<)
    (ap (λ (row : ℕ → List ℕ). map row (points m n (others n x)))
    (fun_ext (λ y. ap (λ (square : ℕ → ℕ). map square (points m n x)) (fun_ext (λ p. ap f (add_comm p y))))))

-- "The row multiplicity" is that of the other inputs, Y.
pub row_multiplicity_lem : (m n : ℕ) (f : ℕ → ℕ) (x : ℕ) → x < 2 ^ n → row_multiplicity m n f x ≡ multiplicity m n f (others n x)
unfolding row_multiplicity column_multiplicity
row_multiplicity_lem m n f x x< = rw (rows_are_columns m n f x x<) (column_multiplicity_lem m n f (others n x))

-- Figure 1, the z3 z4 | z1 z2 partition matrix: "For this example, ν = μ = 3."
pub figure_multiplicities : (column_multiplicity 3 4 (ink_in figure.inks) 3 ≡ 3) × (row_multiplicity 3 4 (ink_in figure.inks) 3 ≡ 3)
unfolding computing digits by_rule figure_rows figure column_multiplicity row_multiplicity columns rows
figure_multiplicities = (refl, refl)
