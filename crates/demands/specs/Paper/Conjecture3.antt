-- Document 003 (Butler), section VII, Conjecture 3, and a proof that it is false.
-- Assumes nothing.
use Rattle.std.specs.Prelude.{◌<◌, ◌≤◌, ◌+◌, ◌^◌, ◌≡◌, ◌↔◌, ◌≢◌, ◌∷◌}
use Rattle.laws.specs.Prelude.{ℕ, suc, zero, refl, subst, ap₂, subst⁻¹, List, [], arith, lit<, lit≤, get_or}
use Rattle.rules.specs.Groups.Groups.{part, others, whole_group, classes, multiplicity}
use Rattle.rules.specs.Sheets.Sheets.{level}
use Rattle.rules.specs.Text.{text}
use Rattle.rules.specs.Cases.Written.{digits}
use Rattle.rules.specs.Evaluation.{computing}
use Rattle.trees.specs.Groups.Members.{inside_member}
use Rattle.trees.specs.Groups.Levels.{level_part_in, part_ext}
use Rattle.trees.specs.Groups.MarkRule.{marked}
use Rattle.demands.specs.Paper.Decompositions.{Simple, Labels, class_labels, class_simple}
use Rattle.demands.specs.Paper.FanoutFree.{FanoutFree, ink_fanout_free, own_ink_mark}
use Rattle.laws.specs.Lists.Bounds.{inks_below}

-- H, a function of the other inputs and of a wire in place of inputs i and j, as a function of all inputs but j: input i stands for the wire
abbrev pub with_wire : ℕ → ℕ → ℕ → ℕ → (ℕ → ℕ → ℕ) → ℕ → ℕ
with_wire m n i j H q = H (level m n q i) (part m n (others n (2 ^ i + 2 ^ j)) q)

-- H is fanout-free: a network over the wire and the other inputs
abbrev pub RestFanoutFree : ℕ → ℕ → ℕ → ℕ → (ℕ → ℕ → ℕ) → Type 0
RestFanoutFree m n i j H = FanoutFree m n (others n (2 ^ j)) (with_wire m n i j H)

-- which decompositions are considered
abbrev pub KindOf3 : Type 1
KindOf3 = (m n : ℕ) (f : ℕ → ℕ) (x : ℕ) → Simple m n f x → Type 0

-- for any two considered, f(Z) = H1(g1(xi, xj), Z − {xi, xj}) (18) and f(Z) = H2(g2(xk, xl), Z − {xk, xl}) (19)
abbrev pub PairsAgree : KindOf3 → Type 0
PairsAgree Meant =
    (m n : ℕ) (f : ℕ → ℕ) → 1 < m → ((p : ℕ) → p < m ^ n → f p < m)
    → (i j k l : ℕ) → (i < n) × (j < n) × (i ≢ j) → (k < n) × (l < n) × (k ≢ l)
    → (one : Simple m n f (2 ^ i + 2 ^ j)) (two : Simple m n f (2 ^ k + 2 ^ l)) → Meant m n f _ one → Meant m n f _ two
    → RestFanoutFree m n i j one.F ↔ RestFanoutFree m n k l two.F

-- Conjecture 3: "If f(Z) has the decomposition (18) (19) then H1 is fanout-out free if and only if H2 is fanout-free."
abbrev pub Conjecture3 : Type 0
Conjecture3 = PairsAgree (λ m n f x d. Unit {0})

-- The same, restricted to decompositions as section II makes them, where g labels the columns, and without don't cares, so that f and g
-- determine H: "if g1 and g2 of (5) have missing logic levels, the value of F can be chosen arbitrarily for the levels
-- (don't cares)."
abbrev pub NarrowConjecture3 : Type 0
NarrowConjecture3 = PairsAgree (λ m n f x d. Labels m n f x d.g × ((v : ℕ) → v < m → (p : ℕ) × (d.g (part m n x p) ≡ v)))

-- ---- the counterexample: a table over 3 levels and the inputs a b c d

inks : List ℕ
inks = digits (text "111111111 111000000 111111111 121000000 121000000 000000000 000111111 000111111 111111111")

abbrev ink : ℕ → ℕ
ink p = get_or inks p 0

ink_below : (p : ℕ) → ink p < 3
unfolding computing digits inks
ink_below = inks_below 3 (lit< tt) inks refl

-- the first assignments of the classes of b c, and of c d
classes_bc : classes 3 4 ink (2 ^ 1 + 2 ^ 2) ≡ 0 ∷ 3 ∷ 12 ∷ []
unfolding computing digits inks
classes_bc = refl

classes_cd : classes 3 4 ink (2 ^ 2 + 2 ^ 3) ≡ 0 ∷ 1 ∷ 3 ∷ []
unfolding computing digits inks
classes_cd = refl

few_bc : multiplicity 3 4 ink (2 ^ 1 + 2 ^ 2) ≤ 3
unfolding multiplicity
few_bc = rw classes_bc (lit≤ tt)

few_cd : multiplicity 3 4 ink (2 ^ 2 + 2 ^ 3) ≤ 3
unfolding multiplicity
few_cd = rw classes_cd (lit≤ tt)

-- (18), with g1 of b and c: g1 is the class
abbrev one : Simple 3 4 ink (2 ^ 1 + 2 ^ 2)
one = class_simple 3 4 (lit< tt) ink (2 ^ 1 + 2 ^ 2) (lit< tt) few_bc

-- (19), with g2 of c and d
abbrev two : Simple 3 4 ink (2 ^ 2 + 2 ^ 3)
two = class_simple 3 4 (lit< tt) ink (2 ^ 2 + 2 ^ 3) (lit< tt) few_cd

-- every level of either wire is reached
reached_bc : (v : ℕ) → v < 3 → (p : ℕ) × (one.g (part 3 4 (2 ^ 1 + 2 ^ 2) p) ≡ v)
unfolding computing digits inks
reached_bc zero h = (0, refl)
reached_bc (suc zero) h = (3, refl)
reached_bc (suc (suc zero)) h = (12, refl)
reached_bc (suc (suc (suc v))) h = absurd (omega arith)

reached_cd : (v : ℕ) → v < 3 → (p : ℕ) × (two.g (part 3 4 (2 ^ 2 + 2 ^ 3) p) ≡ v)
unfolding computing digits inks
reached_cd zero h = (0, refl)
reached_cd (suc zero) h = (1, refl)
reached_cd (suc (suc zero)) h = (3, refl)
reached_cd (suc (suc (suc v))) h = absurd (omega arith)

-- H1 and H2 as tables
abbrev rest : ℕ → ℕ → List ℕ → ℕ → ℕ
rest i j firsts = with_wire 3 4 i j (λ v y. ink (get_or firsts v 0 + y))

-- the mark of a, the wire and d in H1's table, ..
mark_one : marked 3 4 (lit< tt) (rest 1 2 (0 ∷ 3 ∷ 12 ∷ [])) 11 ≡ 2
unfolding computing digits inks
mark_one = refl

-- .. and of a, b and the wire in H2's
mark_two : marked 3 4 (lit< tt) (rest 2 3 (0 ∷ 1 ∷ 3 ∷ [])) 7 ≡ 1
unfolding computing digits inks
mark_two = refl

-- since the mark is 2, H1 is fanout-free
one_free : RestFanoutFree 3 4 1 2 one.F
unfolding others whole_group
one_free =
    subst⁻¹ (λ firsts. FanoutFree 3 4 11 (rest 1 2 firsts)) classes_bc
    (ink_fanout_free 3 4 (lit< tt) (rest 1 2 (0 ∷ 3 ∷ 12 ∷ [])) (λ p h. ink_below _) 11 (lit< tt) mark_one)

-- H2 reads only a, b and the wire
two_own : (firsts : List ℕ) (q : ℕ) → rest 2 3 firsts (part 3 4 7 q) ≡ rest 2 3 firsts q
unfolding computing
two_own firsts q =
    ap₂ (λ v y. ink (get_or firsts v 0 + y))
    (level_part_in 3 4 (lit< tt) 7 q 2 (lit< tt) refl)
    (part_ext 3 4 (lit< tt) 3 (part 3 4 7 q) q (λ i h k. level_part_in 3 4 (lit< tt) 7 q i h (inside_member i 4 3 7 refl h k)))

-- so, since the mark is 1, H2 is not fanout-free
two_not_free : RestFanoutFree 3 4 2 3 two.F → ⊥
unfolding others whole_group
two_not_free free =
    let table = rest 2 3 (0 ∷ 1 ∷ 3 ∷ []) in
    let free_table = subst (λ firsts. FanoutFree 3 4 7 (rest 2 3 firsts)) classes_cd free in
    omega (arith, mark_two, own_ink_mark 3 4 (lit< tt) table 7 (lit< tt) (two_own (0 ∷ 1 ∷ 3 ∷ [])) free_table)

pub narrow_conjecture_3_false : NarrowConjecture3 → ⊥
narrow_conjecture_3_false c =
    two_not_free
    ((c 3 4 ink (lit< tt) (λ p h. ink_below p) 1 2 2 3
    (lit< tt, lit< tt, λ e. omega arith) (lit< tt, lit< tt, λ e. omega arith) one two
    (class_labels 3 4 (lit< tt) ink _ (lit< tt), reached_bc) (class_labels 3 4 (lit< tt) ink _ (lit< tt), reached_cd)).0 one_free)

pub conjecture_3_false : Conjecture3 → ⊥
conjecture_3_false c =
    narrow_conjecture_3_false (λ m n f several inks i j k l ij kl one two _ _. c m n f several inks i j k l ij kl one two tt tt)
