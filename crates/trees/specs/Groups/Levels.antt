-- Indices by their levels: an index below m to the n is determined by its n levels, and `mix` takes each level from one of two indices.
-- Assumes nothing.
use Rattle.std.specs.Prelude.{◌<◌, ◌+◌, ◌^◌, ◌*◌, ◌%◌, ◌/◌, ◌≡◌, ◌⊎◌, ◌&&◌, ◌||◌}
use Rattle.laws.specs.Prelude.{ℕ, suc, zero, ◌∙◌, sym, ap, refl, inl, inr, true, false, Bool, not, test_cases}
use Rattle.laws.specs.Prelude.{true≢false, cond, zero-add, add-zero, zero-mul, pow-suc, pow-zero, mod-lt, div-lt_iff_lt-mul, div-add-mod', one-le-pow}
use Rattle.laws.specs.Prelude.{le_refl, le_of_suc-le-suc, not-suc-le-zero, le_step, zero-div, eq-or-lt_of_le, zero-mod, arith, digits_lt, digits_mod}
use Rattle.laws.specs.Prelude.{digits_div, lt-one}
use Rattle.rules.specs.Groups.Groups.{member, part, others, whole_group}
use Rattle.rules.specs.Nets.Trees.{Apart}
use Rattle.rules.specs.Sheets.Sheets.{level}
use Rattle.laws.specs.Numbers.Levels.{level_last, level_front}
use Rattle.trees.specs.Trees.Trees.{mix}
use Rattle.trees.specs.Groups.Members.{member_whole, member_others, member_join, join_below}

-- ---- levels as the digits of an index

-- an input is the last or one before it
at_front : {i n : ℕ} → i < suc n → (i ≡ n) ⊎ (i < n)
at_front h = eq-or-lt_of_le (le_of_suc-le-suc h)

-- one digit fewer
front_below : (m n p : ℕ) → 0 < m → p < m ^ suc n → p / m < m ^ n
front_below m n p pos h = (div-lt_iff_lt-mul pos).1 (rw pow-suc at h)

-- an index is determined by its levels
pub level_ext : (m n : ℕ) → 0 < m → (p q : ℕ) → p < m ^ n → q < m ^ n → ((i : ℕ) → i < n → level m n p i ≡ level m n q i) → p ≡ q
level_ext m zero pos p q p< q< e = lt-one (rw pow-zero at p<) ∙ sym (lt-one (rw pow-zero at q<))
level_ext m (suc n) pos p q p< q< e =
    let d = level_ext m n pos (p / m) (q / m) (front_below m n p pos p<) (front_below m n q pos q<) front in
    cc (div-add-mod' p m, div-add-mod' q m, sym (level_last m n p) ∙ e n (le_refl (suc n)) ∙ level_last m n q)
  where
    front : (i : ℕ) → i < n → level m n (p / m) i ≡ level m n (q / m) i
    front i h = sym (level_front m n p i h) ∙ e i (le_step h) ∙ level_front m n q i h

-- ---- a blend of two indices: the level of input i is p's if the test passes, and y's otherwise

blend : ℕ → ℕ → (ℕ → Bool) → ℕ → ℕ → ℕ
blend m zero b p y = 0
blend m (suc n) b p y = blend m n b (p / m) (y / m) * m + cond (b n) (p % m) (y % m)

module _ (m : ℕ) (pos : 0 < m) where
  -- each digit of a blend is a digit
  blend_digit : (b : Bool) (p y : ℕ) → cond b (p % m) (y % m) < m
  blend_digit true p y = mod-lt p pos
  blend_digit false p y = mod-lt y pos

  -- a blend is an index
  blend_below : (n : ℕ) (b : ℕ → Bool) (p y : ℕ) → blend m n b p y < m ^ n
  unfolding blend
  blend_below zero b p y = one-le-pow 0 m pos
  blend_below (suc n) b p y = rw pow-suc (digits_lt (blend_below n b (p / m) (y / m)) (blend_digit (b n) p y))

  -- the levels of a blend
  level_blend : (n : ℕ) (b : ℕ → Bool) (p y i : ℕ) → i < n → level m n (blend m n b p y) i ≡ cond (b i) (level m n p i) (level m n y i)
  unfolding blend
  level_blend zero b p y i h = absurd (not-suc-le-zero h)
  level_blend (suc n) b p y i h = elim (at_front h) [
    | inl e ↦ rw e (simp (level_last, digits_mod (blend m n b (p / m) (y / m)) (blend_digit (b n) p y)))
    | inr l ↦ simp (level_front, digits_div (blend m n b (p / m) (y / m)) (blend_digit (b n) p y)) (level_blend n b (p / m) (y / m) i l)
  ]

-- the part of an index in a group is its blend with 0
part_blend : (m n g p : ℕ) → part m n g p ≡ blend m n (λ i. member i g) p 0
unfolding part blend
part_blend m zero g p = refl
part_blend m (suc n) g p = simp (zero-div, zero-mod, part_blend m n g (p / m))

-- one of two digits, the other being 0
sum_digit : (c : Bool) (x y : ℕ) → cond c x 0 + cond (not c) y 0 ≡ cond c x y
sum_digit true x y = add-zero x
sum_digit false x y = zero-add y

-- parts in two complementary groups add up to a blend
sum_blend : (m n g h p y : ℕ) → ((i : ℕ) → i < n → member i h ≡ not (member i g))
    → part m n g p + part m n h y ≡ blend m n (λ i. member i g) p y
unfolding part blend
sum_blend m zero g h p y e = refl
sum_blend m (suc n) g h p y e =
    rw (← (sum_blend m n g h (p / m) (y / m) (λ i l. e i (le_step l))), ← (sum_digit (member n g) (p % m) (y % m)), e n (le_refl (suc n))) (omega arith)

-- the part of index 0 in every group is 0
part_zero : (m n g : ℕ) → part m n g 0 ≡ 0
unfolding part
part_zero m zero g = refl
part_zero m (suc n) g = simp (zero-div, zero-mod, part_zero m n g, zero-mul, zero-add) (same (member n g) 0)
  where
    same : (c : Bool) (x : ℕ) → cond c x x ≡ x
    same true x = refl
    same false x = refl

module _ (m n : ℕ) (pos : 0 < m) where
  pub level_below : (p i : ℕ) → level m n p i < m
  unfolding level
  level_below p i = mod-lt _ pos

  pub part_below : (g p : ℕ) → part m n g p < m ^ n
  part_below g p = rw part_blend (blend_below m pos n (λ i. member i g) p 0)

  -- every level of index 0 is 0
  level_zero : (i : ℕ) → level m n 0 i ≡ 0
  unfolding level
  level_zero i = simp (zero-div, zero-mod)

  -- the levels of a part
  pub level_part : (g p i : ℕ) → i < n → level m n (part m n g p) i ≡ cond (member i g) (level m n p i) 0
  level_part g p i h = rw part_blend (level_blend m pos n (λ i. member i g) p 0 i h ∙ ap (cond (member i g) (level m n p i)) (level_zero i))

  pub level_part_in : (g p i : ℕ) → i < n → member i g ≡ true → level m n (part m n g p) i ≡ level m n p i
  level_part_in g p i h e = rw (level_part, e)

  -- a mix of two indices is their blend
  mix_blend : (g p y : ℕ) → g < 2 ^ n → mix m n g p y ≡ blend m n (λ i. member i g) p y
  unfolding mix
  mix_blend g p y g< = sum_blend m n g (others n g) p y (λ i h. member_others i n g h g<)

  pub mix_below : (g p y : ℕ) → g < 2 ^ n → mix m n g p y < m ^ n
  mix_below g p y g< = rw mix_blend (blend_below m pos n (λ i. member i g) p y)

  -- the levels of a mix
  pub level_mix : (g p y i : ℕ) → g < 2 ^ n → i < n → level m n (mix m n g p y) i ≡ cond (member i g) (level m n p i) (level m n y i)
  level_mix g p y i g< h = rw mix_blend (level_blend m pos n (λ i. member i g) p y i h)

  pub level_mix_in : (g p y i : ℕ) → g < 2 ^ n → i < n → member i g ≡ true → level m n (mix m n g p y) i ≡ level m n p i
  level_mix_in g p y i g< h e = rw (level_mix, e)

  pub level_mix_out : (g p y i : ℕ) → g < 2 ^ n → i < n → member i g ≡ false → level m n (mix m n g p y) i ≡ level m n y i
  level_mix_out g p y i g< h e = rw (level_mix, e)

  -- an index is a mix with itself
  pub mix_self : (g p : ℕ) → g < 2 ^ n → p < m ^ n → mix m n g p p ≡ p
  mix_self g p g< p< =
      level_ext m n pos (mix m n g p p) p (mix_below g p p g<) p< (λ i h. rw (level_mix g p p i g< h) (either (member i g)))
    where
      either : (b : Bool) {k : ℕ} → cond b k k ≡ k
      either true = refl
      either false = refl

  pub part_whole : (p : ℕ) → p < m ^ n → part m n (whole_group n) p ≡ p
  part_whole p p< = level_ext m n pos (part m n (whole_group n) p) p (part_below (whole_group n) p) p<
      (λ i h. level_part_in (whole_group n) p i h (member_whole i n h))

  -- the part in a group depends only on the levels of its members
  pub part_ext : (g p q : ℕ) → ((i : ℕ) → i < n → member i g ≡ true → level m n p i ≡ level m n q i) → part m n g p ≡ part m n g q
  part_ext g p q e = level_ext m n pos (part m n g p) (part m n g q) (part_below g p) (part_below g q) (λ i h. test_cases (member i g)
      (λ c. simp (level_part, c) (e i h c))
      (λ c. simp (level_part, c)))

  -- taking a part again changes nothing
  pub part_part : (g p : ℕ) → part m n g (part m n g p) ≡ part m n g p
  part_part g p = part_ext g (part m n g p) p (level_part_in g p)

  pub part_mix : (g p y : ℕ) → g < 2 ^ n → part m n g (mix m n g p y) ≡ part m n g p
  part_mix g p y g< = part_ext g (mix m n g p y) p (λ i h e. level_mix_in g p y i g< h e)

  -- a mix with index 0 is the part
  pub mix_zero : (g p : ℕ) → mix m n g p 0 ≡ part m n g p
  unfolding mix
  mix_zero g p = rw (part_zero, add-zero)

  -- two mixes with the same levels are equal
  mix_ext : (a b p q y z : ℕ) → a < 2 ^ n → b < 2 ^ n → ((i : ℕ) → i < n → level m n (mix m n a p y) i ≡ level m n (mix m n b q z) i)
      → mix m n a p y ≡ mix m n b q z
  mix_ext a b p q y z a< b< = level_ext m n pos (mix m n a p y) (mix m n b q z) (mix_below a p y a<) (mix_below b q z b<)

  module _ (a b : ℕ) (a< : a < 2 ^ n) (b< : b < 2 ^ n) (apart : Apart n a b) where
    -- setting the levels of a joined group is setting those of its two parts, ..
    pub mix_join : (p y : ℕ) → mix m n (a + b) p y ≡ mix m n a p (mix m n b p y)
    mix_join p y = mix_ext (a + b) a p p y (mix m n b p y) (join_below n a b a< b< apart) a< go
      where
        either : (c d : Bool) (x z : ℕ) → cond (c || d) x z ≡ cond c x (cond d x z)
        either true d x z = refl
        either false d x z = refl

        go : (i : ℕ) → i < n → level m n (mix m n (a + b) p y) i ≡ level m n (mix m n a p (mix m n b p y)) i
        go i h = simp (level_mix, join_below, member_join i n a b a< b< apart h) (either (member i a) (member i b) (level m n p i) (level m n y i))

    -- .. in either order
    pub mix_swap : (p q y : ℕ) → mix m n a p (mix m n b q y) ≡ mix m n b q (mix m n a p y)
    mix_swap p q y = mix_ext a b p q (mix m n b q y) (mix m n a p y) a< b< go
      where
        one : (c d : Bool) → (c && d) ≡ false → (x y z : ℕ) → cond c x (cond d y z) ≡ cond d y (cond c x z)
        one true true e x y z = absurd (true≢false e)
        one true false e x y z = refl
        one false true e x y z = refl
        one false false e x y z = refl

        go : (i : ℕ) → i < n → level m n (mix m n a p (mix m n b q y)) i ≡ level m n (mix m n b q (mix m n a p y)) i
        go i h = simp level_mix (one (member i a) (member i b) (apart i h) (level m n p i) (level m n q i) (level m n y i))
