-- Assignments of a group such that all its assignments are alike to one of them. Any such list bounds its number of classes, and such a list
-- for the other inputs decides which of its assignments are alike.
-- Assumes nothing.
use Rattle.std.specs.Prelude.{◌<◌, ◌≤◌, ◌+◌, ◌-◌, ◌^◌, ◌*◌, ◌%◌, ◌/◌, ◌≡◌, ◌&&◌}
use Rattle.laws.specs.Prelude.{ℕ, suc, zero, ◌∙◌, sym, ap, refl, subst, ap₂, subst⁻¹, true, false, Bool}
use Rattle.laws.specs.Prelude.{true≢false, cond, zero-add, add-zero, zero-mul, pow-suc, pow-zero, mod-lt, div-lt_iff_lt-mul, mul_comm, mul-one, one-le-pow}
use Rattle.laws.specs.Prelude.{le_refl, mul_assoc, add_comm, le_step, mod-eq_of_lt, mul-div_cancel, sub_self, dec_lt, arith, eq-eqb, ne_eqb, digits_lt}
use Rattle.laws.specs.Prelude.{digits_mod, digits_div, sub-sub_self}
use Rattle.rules.specs.Groups.Groups.{member, part, whole_group, others, multiplicity}
use Rattle.rules.specs.Nets.Trees.{Apart}
use Rattle.rules.specs.Sheets.Sheets.{level}
use Rattle.laws.specs.Numbers.Levels.{level_last, level_front}
use Rattle.laws.specs.Lists.Tests.{or_false_iff}
use Rattle.trees.specs.Trees.Trees.{Alike, mix}
use Rattle.trees.specs.Groups.Members.{member_zero, member_single, single_below, whole_below, member_join, member_others}
use Rattle.trees.specs.Groups.Levels.{level_ext, level_part, level_part_in, level_mix, part_below, part_part, part_mix, mix_below}
use Rattle.trees.specs.Groups.Joins.{apart_sym}
use Rattle.trees.specs.Groups.Alike.{alike_part, alike_sym, alike_trans, alike_join}
use Rattle.trees.specs.Groups.Classes.{few_classes}

-- e 0 to e (c - 1) are assignments of g, and every one of its assignments is alike to one of them
pub record Covers (m n : ℕ) (f : ℕ → ℕ) (g c : ℕ) (e : ℕ → ℕ) : Type 0 where
  pub own : (k : ℕ) → k < c → part m n g (e k) ≡ e k
  pub every : (p : ℕ) → (k : ℕ) × (k < c) × Alike m n f g p (e k)

-- ---- an assignment of one group plus one of another that shares no input with it

module _ (m n : ℕ) (pos : 0 < m) (a b : ℕ) (a< : a < 2 ^ n) (b< : b < 2 ^ n) (apart : Apart n a b) (x y : ℕ) (x_own : part m n a x ≡ x)
    (y_own : part m n b y ≡ y) where
  -- y has level 0 at the members of a
  out : (i : ℕ) → i < n → member i b ≡ false → level m n y i ≡ 0
  out i h e = ap (λ r. level m n r i) (sym y_own) ∙ level_part m n pos b y i h ∙ ap (λ t. cond t (level m n y i) 0) e

  not_both : (i : ℕ) → i < n → member i a ≡ true → member i b ≡ false
  not_both i h e = rw e at (apart i h)

  -- .. so it is an assignment of all inputs outside a
  y_outside : part m n (others n a) y ≡ y
  y_outside = level_ext m n pos (part m n (others n a) y) y (part_below m n pos (others n a) y) (rw y_own at (part_below m n pos b y))
      (λ i h. at i h (member i a) refl)
    where
      at : (i : ℕ) → i < n → (t : Bool) → member i a ≡ t → level m n (part m n (others n a) y) i ≡ level m n y i
      at i h true e = simp (level_part m n pos (others n a) y i h, member_others i n a h a<, e) (sym (out i h (not_both i h e)))
      at i h false e = simp (level_part m n pos (others n a) y i h, member_others i n a h a<, e)

  -- the sum has x's levels at a and y's elsewhere
  pub sum_mix : mix m n a x y ≡ x + y
  unfolding mix
  sum_mix = ap₂ (λ (u v : ℕ). u + v) x_own y_outside

  pub sum_level : (i : ℕ) → i < n → level m n (x + y) i ≡ cond (member i a) (level m n x i) (level m n y i)
  sum_level i h = ap (λ r. level m n r i) (sym sum_mix) ∙ level_mix m n pos a x y i a< h

  -- its part in a is x
  pub sum_left : part m n a (x + y) ≡ x
  sum_left = ap (part m n a) (sym sum_mix) ∙ part_mix m n pos a x y a< ∙ x_own

  -- it is an assignment of the union of both groups
  pub sum_own : part m n (a + b) (x + y) ≡ x + y
  sum_own = level_ext m n pos (part m n (a + b) (x + y)) (x + y) (part_below m n pos (a + b) (x + y)) (rw sum_mix at (mix_below m n pos a x y a<))
      (λ i h. at i h (member i (a + b)) refl)
    where
      at : (i : ℕ) → i < n → (t : Bool) → member i (a + b) ≡ t → level m n (part m n (a + b) (x + y)) i ≡ level m n (x + y) i
      at i h true e = level_part_in m n pos (a + b) (x + y) i h e
      at i h false e =
          let neither = (or_false_iff (member i a) (member i b)).0 (sym (member_join i n a b a< b< apart h) ∙ e) in
          level_part m n pos (a + b) (x + y) i h
          ∙ ap (λ t. cond t (level m n (x + y) i) 0) e
          ∙ sym (sum_level i h ∙ ap (λ t. cond t (level m n x i) (level m n y i)) neither.0 ∙ out i h neither.1)

-- its part in b is y
pub sum_right : (m n : ℕ) (pos : 0 < m) (a b : ℕ) (a< : a < 2 ^ n) (b< : b < 2 ^ n) (apart : Apart n a b) (x y : ℕ) (x_own : part m n a x ≡ x)
    (y_own : part m n b y ≡ y)
    → part m n b (x + y) ≡ y
sum_right m n pos a b a< b< apart x y x_own y_own =
    ap (part m n b) (add_comm x y) ∙ sum_left m n pos b a b< a< (apart_sym n a b apart) y x y_own x_own

-- ---- one input

-- the part of an index in a group without inputs is 0
part_none : (m n g p : ℕ) → ((i : ℕ) → i < n → member i g ≡ false) → part m n g p ≡ 0
unfolding part
part_none m zero g p none = refl
part_none m (suc n) g p none = rw (part_none m n g (p / m) (λ i h. none i (le_step h)), none n (le_refl (suc n)), zero-mul)

-- the part in a single input is its level times its weight
pub part_single : (m n i p : ℕ) → i < n → part m n (2 ^ i) p ≡ level m n p i * m ^ (n - 1 - i)
unfolding part
part_single m zero i p h = absurd (omega arith)
part_single m (suc n) i p h = elim (dec_lt i n) [
  | yes less ↦
      let next : suc n - 1 - i ≡ suc (n - 1 - i) = omega arith in
      rw (member_single n i, ne_eqb n i (λ e. omega arith), part_single m n i (p / m) less, level_front m n p i less, next, pow-suc, add-zero)
      (mul_assoc (level m n (p / m) i) (m ^ (n - 1 - i)) m)
  | no last ↦
      let same : i ≡ n = omega arith in
      let none : suc n - 1 - i ≡ 0 = omega arith in
      rw (
        member_single n i,
        eq-eqb n i (sym same),
        part_none m n (2 ^ i) (p / m) (λ j j<. member_single j i ∙ ne_eqb j i (λ e. omega arith)),
        none,
        same,
        level_last m n p,
        pow-zero,
        mul-one,
        zero-mul,
        zero-add,
      )
]

-- the whole group leaves no other input
mix_whole : (m n p y : ℕ) → mix m n (whole_group n) p y ≡ part m n (whole_group n) p
unfolding mix others
mix_whole m n p y = rw (sub_self, part_none m n 0 y (λ i _. member_zero i), add-zero)

-- ---- one factor of a product

factor_some : (c d k : ℕ) → k < c * d → 0 < c
factor_some zero d k h = absurd (omega (arith, zero-mul d))
factor_some (suc c) d k h = omega arith

module _ (m n : ℕ) (pos : 0 < m) (f : ℕ → ℕ) where
  -- ---- what covers a group

  -- the empty group: its one assignment
  pub empty_cover : Covers m n f 0 1 (λ _. 0)
  empty_cover = record {
    own = λ k h. part_none m n 0 0 (λ i _. member_zero i);
    every = λ p. (0, omega arith, alike_part m n pos f 0 p 0 (part_none m n 0 p (λ i _. member_zero i) ∙ sym (part_none m n 0 0 (λ i _. member_zero i))));
  }

  -- one input: its levels times its weight
  pub input_cover : (i : ℕ) → i < n → Covers m n f (2 ^ i) m (λ l. l * m ^ (n - 1 - i))
  unfolding level
  input_cover i h = record {
    own = λ l l<.
        part_single m n i (l * m ^ (n - 1 - i)) h
        ∙ ap (λ (k : ℕ). k * m ^ (n - 1 - i)) (ap (λ (k : ℕ). k % m) (mul-div_cancel l (one-le-pow (n - 1 - i) m pos)) ∙ mod-eq_of_lt l<);
    every = λ p. (
      level m n p i,
      mod-lt _ pos,
      alike_part m n pos f (2 ^ i) p _ (sym (part_part m n pos (2 ^ i) p) ∙ ap (part m n (2 ^ i)) (part_single m n i p h)),
    );
  }

  -- if e covers it, and every e k is alike to some h j, then h covers it
  pub covers_kept : (g c : ℕ) (e : ℕ → ℕ) (d : ℕ) (h : ℕ → ℕ) → Covers m n f g c e → ((k : ℕ) → k < d → part m n g (h k) ≡ h k)
      → ((k : ℕ) → k < c → (j : ℕ) × (j < d) × Alike m n f g (e k) (h j)) → Covers m n f g d h
  covers_kept g c e d h cover own kept = record {
    own = own;
    every = λ p.
        let (k, k<, like) = cover.every p in
        let (j, j<, kept_like) = kept k k< in
        (j, j<, alike_trans m n pos f g p (e k) (h j) like kept_like);
  }

  -- the same assignments, given by another function
  pub covers_same : (g c : ℕ) (e h : ℕ → ℕ) → ((k : ℕ) → k < c → e k ≡ h k) → Covers m n f g c e → Covers m n f g c h
  covers_same g c e h same cover = record {
    own = λ k k<. rw same at (cover.own k k<);
    every = λ p.
        let (k, k<, like) = cover.every p in
        (k, k<, subst (Alike m n f g p) (same k k<) like);
  }

  -- ---- what follows from a cover

  -- a group has no more classes than assignments that cover it
  pub covers_few : (g c : ℕ) (e : ℕ → ℕ) → g < 2 ^ n → Covers m n f g c e → multiplicity m n f g ≤ c
  covers_few g c e g< cover =
      few_classes m n pos f g g< c (λ p. (cover.every p).0) (λ p. (cover.every p).1)
      (λ p q same. alike_trans m n pos f g p (e (cover.every p).0) q (cover.every p).2
      (alike_sym m n pos f g q (e (cover.every p).0) (subst⁻¹ (λ (k : ℕ). Alike m n f g q (e k)) same (cover.every q).2)))

  -- Rows from a smaller group: "If p and q are alike for G, then p + l·w and q + l·w are alike for G and one input more." For any two groups
  -- that share no input, the sums of assignments that cover one and assignments that cover the other cover the union.
  pub covers_join : (a b c d : ℕ) (e h : ℕ → ℕ) → a < 2 ^ n → b < 2 ^ n → Apart n a b → Covers m n f a c e → Covers m n f b d h
      → Covers m n f (a + b) (c * d) (λ k. e (k % c) + h (k / c))
  covers_join a b c d e h a< b< apart left right = record {
    own = λ k k<. sum_own m n pos a b a< b< apart (e (k % c)) (h (k / c)) (left.own (k % c) (mod-lt k (some k k<))) (right.own (k / c) (low k k<));
    every = λ p. at p (left.every p) (right.every p);
  }
    where
      some : (k : ℕ) → k < c * d → 0 < c
      some k k< = factor_some c d k k<

      low : (k : ℕ) → k < c * d → k / c < d
      low k k< = (div-lt_iff_lt-mul (some k k<)).1 (omega (arith, mul_comm c d))

      at : (p : ℕ) → (j : ℕ) × (j < c) × Alike m n f a p (e j) → (k : ℕ) × (k < d) × Alike m n f b p (h k)
          → (k : ℕ) × (k < c * d) × Alike m n f (a + b) p (e (k % c) + h (k / c))
      at p (j, j<, like_a) (k, k<, like_b) = (
        k * c + j,
        omega (arith, digits_lt k< j<, mul_comm c d),
        rw (digits_mod k j<, digits_div k j<)
            (alike_join m n pos f a b p (e j + h k) a< b< apart
            (alike_trans m n pos f a p (e j) (e j + h k) like_a
            (alike_part m n pos f a (e j) (e j + h k) (left.own j j< ∙ sym (sum_left m n pos a b a< b< apart (e j) (h k) (left.own j j<) (right.own k k<)))))
            (alike_trans m n pos f b p (h k) (e j + h k) like_b (alike_part m n pos f b (h k) (e j + h k)
            (right.own k k< ∙ sym
            (ap (part m n b) (add_comm (e j) (h k)) ∙ sum_left m n pos b a b< a< (apart_sym n a b apart) (h k) (e j) (right.own k k<) (left.own j j<)))))),
      )

  -- .. So one more input gives m times as many rows, however many classes the group has.
  pub covers_input : (g i c : ℕ) (e : ℕ → ℕ) → g < 2 ^ n → i < n → member i g ≡ false → Covers m n f g c e
      → Covers m n f (g + 2 ^ i) (c * m) (λ k. e (k % c) + k / c * m ^ (n - 1 - i))
  covers_input g i c e g< i< out cover =
      covers_join g (2 ^ i) c m e (λ l. l * m ^ (n - 1 - i)) g< (single_below i n i<) (λ j j<. at j (member j g) refl) cover (input_cover i i<)
    where
      at : (j : ℕ) (t : Bool) → member j g ≡ t → (t && member j (2 ^ i)) ≡ false
      at j true e = member_single j i ∙ ne_eqb j i (λ same. true≢false (sym e ∙ ap (λ (k : ℕ). member k g) same ∙ out))
      at j false e = refl

  -- ---- rows and columns

  -- the other inputs of the other inputs are the group itself, so a row and a column may change places
  crossed : (g p y : ℕ) → g < 2 ^ n → mix m n (others n g) y p ≡ mix m n g p y
  unfolding mix others whole_group
  crossed g p y g< =
      ap (λ (h : ℕ). part m n (others n g) y + part m n h p) (sub-sub_self (omega arith)) ∙ add_comm (part m n (others n g) y) (part m n g p)

  -- a row and a column together are an index
  pub row_column : (g r y : ℕ) → part m n g r ≡ r → part m n (others n g) y ≡ y → mix m n g r y ≡ r + y
  unfolding mix
  row_column g r y r_own y_own = ap₂ (λ (u v : ℕ). u + v) r_own y_own

  -- Columns from a disjoint group: rows of g are alike if they agree at columns that cover the other inputs, ..
  pub columns_alike : (g d : ℕ) (h : ℕ → ℕ) → g < 2 ^ n → Covers m n f (others n g) d h → (p q : ℕ) → part m n g p ≡ p → part m n g q ≡ q
      → ((k : ℕ) → k < d → f (p + h k) ≡ f (q + h k)) → Alike m n f g p q
  columns_alike g d h g< cover p q p_own q_own same y =
      let (k, k<, like) = cover.every y in
      at k k< like p p_own ∙ same k k< ∙ sym (at k k< like q q_own)
    where
      at : (k : ℕ) → k < d → Alike m n f (others n g) y (h k) → (r : ℕ) → part m n g r ≡ r → f (mix m n g r y) ≡ f (r + h k)
      at k k< like r r_own = sym (ap f (crossed g r y g<)) ∙ like r ∙ ap f (crossed g r (h k) g< ∙ row_column g r (h k) r_own (cover.own k k<))

  -- .. and only then
  pub alike_columns : (g y p q : ℕ) → part m n (others n g) y ≡ y → part m n g p ≡ p → part m n g q ≡ q → Alike m n f g p q → f (p + y) ≡ f (q + y)
  alike_columns g y p q y_own p_own q_own like = sym (ap f (row_column g p y p_own y_own)) ∙ like y ∙ ap f (row_column g q y q_own y_own)

  -- ---- the whole group

  -- it has at most k classes if every ink is below k
  pub whole_few : (k : ℕ) → ((p : ℕ) → p < m ^ n → f p < k) → multiplicity m n f (whole_group n) ≤ k
  whole_few k small =
      few_classes m n pos f (whole_group n) (whole_below n) k (λ p. f (part m n (whole_group n) p))
      (λ p. small (part m n (whole_group n) p) (part_below m n pos (whole_group n) p))
      (λ p q e y. ink p y ∙ e ∙ sym (ink q y))
    where
      ink : (p y : ℕ) → f (mix m n (whole_group n) p y) ≡ f (part m n (whole_group n) p)
      ink p y = ap f (mix_whole m n p y)
