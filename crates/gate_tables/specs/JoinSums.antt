-- The classes of a group that joins two others: each is listed by a sum of a sample of the left and one of the right. So the sums, taken in rising
-- order, give the classes in their order.
-- Assumes nothing.
use Rattle.std.specs.Prelude.{◌<◌, ◌≤◌, ◌+◌, ◌^◌, ◌≡◌}
use Rattle.laws.specs.Prelude.{ℕ, ◌∙◌, sym, ap, subst, true, false, Bool, List, Memᴰ, arith, eqb, length, get_or}
use Rattle.rules.specs.Groups.Groups.{part, points, size, classes, multiplicity}
use Rattle.rules.specs.Nets.Filling.{class_number}
use Rattle.rules.specs.Nets.Trees.{Apart}
use Rattle.laws.specs.Lists.Places.{mem_place}
use Rattle.trees.specs.Trees.Trees.{Alike, mix}
use Rattle.trees.specs.Groups.Members.{join_below}
use Rattle.trees.specs.Groups.Levels.{part_part, mix_zero, mix_join}
use Rattle.trees.specs.Groups.Points.{part_in_points, points_are_parts}
use Rattle.trees.specs.Groups.Alike.{alike_part, alike_sym, alike_trans, alike_join}
use Rattle.trees.specs.Groups.Covers.{sum_mix, sum_left, sum_right, sum_own}
use Rattle.trees.specs.Groups.Classes.{classes_are_points, class_below, class_listed, listed_once}
use Rattle.gate_tables.specs.ClassOrder.{class_not_above}
use Rattle.gate_tables.specs.Samples.{samples, samples_own}

module _ (m n : ℕ) (pos : 0 < m) (f : ℕ → ℕ) where
  -- each assignment of a group is alike to a sample that is not above it
  nearest : (g : ℕ) → g < 2 ^ n → (p : ℕ) → part m n g p ≡ p
      → (u : ℕ) × (u < length (samples m n f g)) × Alike m n f g p (get_or (samples m n f g) u 0) × (get_or (samples m n f g) u 0 ≤ p)
  unfolding samples multiplicity
  nearest g g< p own = go (eqb (size n g) 1)
    where
      go : (one : Bool) →
          let xs : List ℕ = elim one as (λ _. List ℕ) [ true ↦ points m n g | false ↦ classes m n f g ] in
          (u : ℕ) × (u < length xs) × Alike m n f g p (get_or xs u 0) × (get_or xs u 0 ≤ p)
      go true =
          let (u, u<, here) = mem_place p (points m n g) (subst (λ (q : ℕ). Memᴰ q (points m n g)) own (part_in_points m n pos g p)) in
          (u, u<, alike_part m n pos f g p _ (ap (part m n g) (sym here)), omega arith)
      go false = (class_number m n f g p, class_below m n pos f g g< p, class_listed m n pos f g g< p, class_not_above m n pos f g g< p own)

  module _ (a b : ℕ) (a< : a < 2 ^ n) (b< : b < 2 ^ n) (apart : Apart n a b) where
    abbrev left : List ℕ
    left = samples m n f a

    abbrev right : List ℕ
    right = samples m n f b

    abbrev joint : List ℕ
    joint = classes m n f (a + b)

    g< : a + b < 2 ^ n
    g< = join_below n a b a< b< apart

    -- an assignment's parts in the two groups add up to its part in the union
    parts_add : (p : ℕ) → part m n (a + b) p ≡ part m n a p + part m n b p
    unfolding mix
    parts_add p =
        sym (mix_zero m n pos (a + b) p)
        ∙ mix_join m n pos a b a< b< apart p 0
        ∙ ap (mix m n a p) (mix_zero m n pos b p)
        ∙ rw (part_part m n pos a p) at (sum_mix m n pos a b a< b< apart (part m n a p) (part m n b p) (part_part m n pos a p) (part_part m n pos b p))

    -- the sum of two samples
    pub sample_sum_own : (u v : ℕ) → u < length left → v < length right → part m n (a + b) (get_or left u 0 + get_or right v 0) ≡ get_or left u 0 + get_or right v 0
    sample_sum_own u v u< v< = sum_own m n pos a b a< b< apart _ _ (samples_own m n f a a< pos u u<) (samples_own m n f b b< pos v v<)

    pub class_sum : (c : ℕ) → c < length joint → (u : ℕ) × (v : ℕ) × (u < length left) × (v < length right) × (get_or joint c 0 ≡ get_or left u 0 + get_or right v 0)
    unfolding multiplicity
    class_sum c c< =
        let r = get_or joint c 0 in
        let r_own : part m n (a + b) r ≡ r = (points_are_parts m n pos (a + b) r (classes_are_points m n pos f (a + b) g< c c<)).0 in
        let (u, u<, like_a, low_a) = nearest a a< (part m n a r) (part_part m n pos a r) in
        let (v, v<, like_b, low_b) = nearest b b< (part m n b r) (part_part m n pos b r) in
        let x = get_or left u 0 in
        let y = get_or right v 0 in
        let x_own = samples_own m n f a a< pos u u< in
        let y_own = samples_own m n f b b< pos v v< in
        let in_a : Alike m n f a r (x + y) =
        alike_trans m n pos f a r (part m n a r) (x + y) (alike_part m n pos f a r (part m n a r) (sym (part_part m n pos a r)))
        (alike_trans m n pos f a (part m n a r) x (x + y) like_a
        (alike_part m n pos f a x (x + y) (x_own ∙ sym (sum_left m n pos a b a< b< apart x y x_own y_own)))) in
        let in_b : Alike m n f b r (x + y) =
        alike_trans m n pos f b r (part m n b r) (x + y) (alike_part m n pos f b r (part m n b r) (sym (part_part m n pos b r)))
        (alike_trans m n pos f b (part m n b r) y (x + y) like_b
        (alike_part m n pos f b y (x + y) (y_own ∙ sym (sum_right m n pos a b a< b< apart x y x_own y_own)))) in
        let like : Alike m n f (a + b) r (x + y) = alike_join m n pos f a b r (x + y) a< b< apart in_a in_b in
        let place : class_number m n f (a + b) (x + y) ≡ c =
        listed_once m n pos f (a + b) g< _ c (class_below m n pos f (a + b) g< (x + y)) c<
        (alike_sym m n pos f (a + b) _ _ (alike_trans m n pos f (a + b) r (x + y) _ like (class_listed m n pos f (a + b) g< (x + y)))) in
        let low : r ≤ x + y = subst (λ (k : ℕ). get_or joint k 0 ≤ x + y) place (class_not_above m n pos f (a + b) g< (x + y) (sample_sum_own u v u< v<)) in
        (u, v, u<, v<, omega (arith, parts_add r))
