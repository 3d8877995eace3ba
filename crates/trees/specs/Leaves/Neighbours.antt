-- One input of a table: its assignments, and how neighbours decide whether it matters. Two indices are neighbours at an input if they differ only
-- there, and by one level: their difference is the input's weight.
-- Assumes nothing.
use Rattle.std.specs.Prelude.{◌<◌, ◌+◌, ◌-◌, ◌^◌, ◌*◌, ◌%◌, ◌/◌, ◌≡◌, ◌∷◌}
use Rattle.laws.specs.Prelude.{ℕ, suc, zero, ◌∙◌, sym, ap, refl, true, false, Bool, not, cond, List, [], map}
use Rattle.laws.specs.Prelude.{Memᴰ, append-nil, map-map, mem_of_map, zero-add, add-zero, zero-mul, pow-suc, suc-mul, pow-zero, div-add-mod', mul-one}
use Rattle.laws.specs.Prelude.{one-le-pow, le_refl, mul_assoc, one-mul, le_step, zero-div, zero-mod, mul-add-div_right, add-one, dec_lt, arith, eq-eqb}
use Rattle.laws.specs.Prelude.{eqb-true, ne_eqb, digits_mod}
use Rattle.rules.specs.Groups.Groups.{member, points, part, others, alike, alike_over}
use Rattle.rules.specs.Lists.{range, concat_map}
use Rattle.rules.specs.Nets.Leaves.{matters}
use Rattle.rules.specs.Sheets.Sheets.{level}
use Rattle.laws.specs.Lists.Tests.{all_mem, mem_all, mem_none, mem_any, not_true_false}
use Rattle.laws.specs.Lists.Concat.{map_same, concat_single}
use Rattle.laws.specs.Lists.Ranges.{range_mem}
use Rattle.trees.specs.Trees.Trees.{mix}
use Rattle.trees.specs.Groups.Members.{member_single, single_below, member_others}
use Rattle.trees.specs.Groups.Levels.{level_below, level_part, level_part_in, mix_self, mix_below}
use Rattle.trees.specs.Groups.Points.{part_in_points, points_are_parts}

-- ---- the assignments of one input

-- a group without inputs has one assignment
points_none : (m n g : ℕ) → ((i : ℕ) → i < n → member i g ≡ false) → points m n g ≡ 0 ∷ []
unfolding points concat_map
points_none m zero g none = refl
points_none m (suc n) g none = rw (points_none m n g (λ i h. none i (le_step h)), none n (le_refl (suc n)), zero-mul)

level_alone : (m l : ℕ) → 0 * m + l ≡ l * m ^ 0
level_alone m l = rw (zero-mul, zero-add, pow-zero, mul-one)

-- one for each level: the level times the input's weight
abbrev pub level_points : ℕ → ℕ → List ℕ
level_points m w = map (λ l. l * w) (range 0 m)

pub points_single : (m n i : ℕ) → i < n → points m n (2 ^ i) ≡ level_points m (m ^ (n - 1 - i))
unfolding points concat_map
points_single m zero i h = absurd (omega arith)
points_single m (suc n) i h = elim (dec_lt i n) [
  | yes less ↦
      let next : suc n - 1 - i ≡ suc (n - 1 - i) = omega arith in
      rw (member_single n i, ne_eqb n i (λ e. omega arith), concat_single (λ p. p * m), points_single m n i less, next, pow-suc)
      (map-map (λ p. p * m) (λ l. l * m ^ (n - 1 - i)) (range 0 m) ∙ map_same _ _ (λ l. mul_assoc l (m ^ (n - 1 - i)) m) (range 0 m))
  | no last ↦
      let same : i ≡ n = omega arith in
      let none : suc n - 1 - i ≡ 0 = omega arith in
      let empty = points_none m n (2 ^ i) (λ j h. member_single j i ∙ ne_eqb j i (λ e. omega arith)) in
      rw (member_single n i, eq-eqb n i (sym same), empty, none)
      (append-nil (map (λ l. 0 * m + l) (range 0 m)) ∙ map_same _ _ (level_alone m) (range 0 m))
]

-- ---- neighbours

module _ (m n : ℕ) (pos : 0 < m) (i : ℕ) (i< : i < n) where
  -- moving up some levels at the input adds that many weights
  level_up : (l p : ℕ) → level m n p i + l < m → level m n (l * m ^ (n - 1 - i) + p) i ≡ level m n p i + l
  unfolding level
  level_up l p h =
      let w = m ^ (n - 1 - i) in
      let digits : l + p / w ≡ p / w / m * m + (p / w % m + l) = omega (arith, div-add-mod' (p / w) m) in
      ap (λ (k : ℕ). k % m) (mul-add-div_right (one-le-pow (n - 1 - i) m pos) l p ∙ digits) ∙ digits_mod (p / w / m) h

  -- that many weights have that level at the input
  level_times : (l : ℕ) → l < m → level m n (l * m ^ (n - 1 - i)) i ≡ l
  unfolding level
  level_times l h =
      let none : level m n 0 i ≡ 0 = simp (zero-div, zero-mod) in
      ap (λ (k : ℕ). level m n k i) (sym (add-zero (l * m ^ (n - 1 - i)))) ∙ level_up l 0 (omega arith) ∙ omega arith

  -- every assignment of the input is such a number
  own_level : (q : ℕ) → Memᴰ q (points m n (2 ^ i)) → level m n q i * m ^ (n - 1 - i) ≡ q
  own_level q listed = go (mem_of_map (λ l. l * m ^ (n - 1 - i)) (range 0 m) (rw (points_single m n i i<) at listed))
    where
      go : (l : ℕ) × Memᴰ l (range 0 m) × (l * m ^ (n - 1 - i) ≡ q) → level m n q i * m ^ (n - 1 - i) ≡ q
      go (l, in_range, is) =
          let between = range_mem 0 m l in_range in
          ap (λ (k : ℕ). level m n k i * m ^ (n - 1 - i)) (sym is) ∙ ap (λ (k : ℕ). k * m ^ (n - 1 - i)) (level_times l (omega arith)) ∙ is

  -- the part of an index in the input is its level there, times the weight, ..
  own_part : (p : ℕ) → part m n (2 ^ i) p ≡ level m n p i * m ^ (n - 1 - i)
  own_part p =
      sym (own_level (part m n (2 ^ i) p) (part_in_points m n pos (2 ^ i) p))
      ∙ ap (λ (k : ℕ). k * m ^ (n - 1 - i)) (level_part_in m n pos (2 ^ i) p i i< (member_single i i ∙ eq-eqb i i refl))

  -- .. and together with its part in the others it is the index
  own_rest : (p : ℕ) → p < m ^ n → level m n p i * m ^ (n - 1 - i) + part m n (others n (2 ^ i)) p ≡ p
  unfolding mix
  own_rest p p< = ap (λ (k : ℕ). k + part m n (others n (2 ^ i)) p) (sym (own_part p)) ∙ mix_self m n pos (2 ^ i) p (single_below i n i<) p<

  -- an assignment of the others has level 0 at the input
  rest_level : (y : ℕ) → Memᴰ y (points m n (others n (2 ^ i))) → level m n y i ≡ 0
  rest_level y listed =
      let out : member i (others n (2 ^ i)) ≡ false = member_others i n (2 ^ i) i< (single_below i n i<) ∙ ap not (member_single i i ∙ eq-eqb i i refl) in
      ap (λ (k : ℕ). level m n k i) (sym (points_are_parts m n pos (others n (2 ^ i)) y listed).0)
      ∙ level_part m n pos (others n (2 ^ i)) y i i<
      ∙ ap (λ (b : Bool). cond b (level m n y i) 0) out

  -- the two make an index
  rest_below : (l y : ℕ) → l < m → Memᴰ y (points m n (others n (2 ^ i))) → l * m ^ (n - 1 - i) + y < m ^ n
  unfolding mix
  rest_below l y l< listed =
      let own : part m n (2 ^ i) (l * m ^ (n - 1 - i)) ≡ l * m ^ (n - 1 - i) =
      own_part (l * m ^ (n - 1 - i)) ∙ ap (λ (k : ℕ). k * m ^ (n - 1 - i)) (level_times l l<) in
      let rest : part m n (others n (2 ^ i)) y ≡ y = (points_are_parts m n pos (others n (2 ^ i)) y listed).0 in
      omega (arith, mix_below m n pos (2 ^ i) (l * m ^ (n - 1 - i)) y (single_below i n i<))

  module _ (f : ℕ → ℕ) where
    -- if neighbours have the same ink, so do all levels of the input, whatever the others are ..
    level_same : ((p : ℕ) → p < m ^ n → level m n p i + 1 < m → f p ≡ f (p + m ^ (n - 1 - i)))
        → (l y : ℕ) → l < m → Memᴰ y (points m n (others n (2 ^ i))) → f (l * m ^ (n - 1 - i) + y) ≡ f y
    level_same same zero y l< listed = ap f (ap (λ (k : ℕ). k + y) (zero-mul (m ^ (n - 1 - i))) ∙ zero-add y)
    level_same same (suc l) y l< listed =
        let w = m ^ (n - 1 - i) in
        let l_below : l < m = omega arith in
        let none : level m n y i ≡ 0 = rest_level y listed in
        let here : level m n (l * w + y) i ≡ l = level_up l y (omega arith) ∙ omega arith in
        let next : suc l * w + y ≡ l * w + y + w = omega (arith, suc-mul l w) in
        ap f next ∙ sym (same (l * w + y) (rest_below l y l_below listed) (omega arith)) ∙ level_same same l y l_below listed

    -- .. and the input does not matter
    pub same_idle : ((p : ℕ) → p < m ^ n → level m n p i + 1 < m → f p ≡ f (p + m ^ (n - 1 - i))) → matters m n f i ≡ false
    unfolding matters alike alike_over
    same_idle same =
        mem_none _ own λ p p_listed. mem_none _ own λ q q_listed. ap not
        (mem_all _ (points m n (others n (2 ^ i))) λ y y_listed. eq-eqb _ _ (at p p_listed y y_listed ∙ sym (at q q_listed y y_listed)))
      where
        own : List ℕ
        own = points m n (2 ^ i)

        at : (p : ℕ) → Memᴰ p own → (y : ℕ) → Memᴰ y (points m n (others n (2 ^ i))) → f (p + y) ≡ f y
        at p p_listed y y_listed =
            ap (λ (k : ℕ). f (k + y)) (sym (own_level p p_listed)) ∙ level_same same (level m n p i) y (level_below m n pos p i) y_listed

    -- and an input matters if two neighbours at it differ in ink
    pub differ_matters : (p : ℕ) → p < m ^ n → level m n p i + 1 < m → (f p ≡ f (p + m ^ (n - 1 - i)) → ⊥) → matters m n f i ≡ true
    unfolding matters alike alike_over
    differ_matters p p< up differ =
        let w = m ^ (n - 1 - i) in
        let y = part m n (others n (2 ^ i)) p in
        let next : level m n (p + w) i ≡ level m n p i + 1 =
        ap (λ (k : ℕ). level m n k i) (omega (arith, one-mul w)) ∙ level_up 1 p up in
        let first : part m n (2 ^ i) p + y ≡ p = ap (λ (k : ℕ). k + y) (own_part p) ∙ own_rest p p< in
        let second : part m n (2 ^ i) (p + w) + y ≡ p + w =
        ap (λ (k : ℕ). k + y) (own_part (p + w) ∙ ap (λ (k : ℕ). k * w) (next ∙ add-one _))
        ∙ omega (arith, suc-mul (level m n p i) w, own_rest p p<) in
        let unlike : alike m n f (2 ^ i) (part m n (2 ^ i) p) (part m n (2 ^ i) (p + w)) ≡ false =
        not_true_false _ λ e. differ (ap f (sym first) ∙ eqb-true _ _ (all_mem _ (part_in_points m n pos (others n (2 ^ i)) p) e) ∙ ap f second) in
        mem_any _ (part_in_points m n pos (2 ^ i) p) (mem_any _ (part_in_points m n pos (2 ^ i) (p + w)) (ap not unlike))
