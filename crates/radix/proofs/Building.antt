-- The loop of `offsets` over plain lists: before the turn for input i, the offsets are those of the inputs from i on.
-- Assumes nothing.
use Rattle.std.specs.Prelude.{◌<◌, ◌≤◌, ◌+◌, ◌-◌, ◌^◌, ◌*◌, ◌≡◌, ◌∷◌}
use Rattle.laws.specs.Prelude.{ℕ, suc, zero, ◌∙◌, sym, ap, refl, subst, ap₂, subst⁻¹, subst₂, true, false, Bool, List}
use Rattle.laws.specs.Prelude.{[], zero-add, pow-suc, le_trans, pow-zero, pow-le-pow_right, mul-one, mul-le-mul_left, arith, length, get_or, take, set}
use Rattle.laws.specs.Prelude.{get_or-take}
use Rattle.rules.specs.Groups.Groups.{member, size, points}
use Rattle.laws.specs.Lists.Bounds.{below_at}
use Rattle.trees.specs.Groups.Points.{points_length}
use Rattle.radix.specs.Fronts.{Front}
use Rattle.radix.specs.Offsets.{widened, widened_length, tail, tail_member, tail_other, tail_below, tail_length, points_tail}

module _ (m n g : ℕ) where
  -- what is built before the turn for input i
  pub record Built (out : List ℕ) (len w i : ℕ) : Type 0 where
    pub weight : w ≡ m ^ (n - i)
    pub count : len ≡ length (tail m g i (n - i))
    pub front : take len out ≡ tail m g i (n - i)

  pub built_none : (out : List ℕ) → 0 < length out → Built (set out 0 0) 1 1 n
  unfolding tail
  built_none [] h = absurd (omega arith)
  built_none (x ∷ out) h =
      record {
        weight = subst⁻¹ (λ (k : ℕ). 1 ≡ m ^ k) none (sym (pow-zero m));
        count = subst⁻¹ (λ (k : ℕ). 1 ≡ length (tail m g n k)) none refl;
        front = subst⁻¹ (λ (k : ℕ). 0 ∷ [] ≡ tail m g n k) none refl;
      }
    where
      none : n - n ≡ 0
      none = omega arith

  -- all is built
  pub built_all : {out : List ℕ} {len w i : ℕ} → i ≤ 0 → Built out len w i → Front (points m n g) len out
  built_all {out} {len} {w} {i} h b =
      let e : tail m g i (n - i) ≡ points m n g = ap₂ (tail m g) at_zero all ∙ sym (points_tail m n g) in
      record { count = b.count ∙ ap length e; is = b.front ∙ e }
    where
      at_zero : i ≡ 0
      at_zero = omega arith

      all : n - i ≡ n
      all = omega arith

  -- the offsets of the inputs from i on are no more than all
  tail_grows : 0 < m → (i k : ℕ) → length (tail m g i k) ≤ length (tail m g 0 (i + k))
  tail_grows pos zero k = omega (arith, ap (λ (j : ℕ). length (tail m g 0 j)) (zero-add k))
  tail_grows pos (suc i) k =
      le_trans (step (member i g) refl)
      (subst (λ (j : ℕ). length (tail m g i (suc k)) ≤ length (tail m g 0 j)) (omega arith) (tail_grows pos i (suc k)))
    where
      step : (t : Bool) → member i g ≡ t → length (tail m g (suc i) k) ≤ length (tail m g i (suc k))
      step true e =
          let l : length (tail m g i (suc k)) ≡ length (tail m g (suc i) k) * m =
          ap length (tail_member m g i k e) ∙ widened_length m (m ^ k) (tail m g (suc i) k) in
          omega (arith, l, mul-le-mul_left (length (tail m g (suc i) k)) pos, mul-one (length (tail m g (suc i) k)))
      step false e = omega (arith, ap length (tail_other m g i k e))

  module _ (pos : 0 < m) {out : List ℕ} {len w i : ℕ} (b : Built out len w i) where
    pub built_some : 0 < len
    built_some = subst⁻¹ (λ (k : ℕ). 0 < k) b.count (tail_length m g i (n - i) pos).0

    pub built_weight : w ≤ m ^ n
    built_weight = subst⁻¹ (λ (k : ℕ). k ≤ m ^ n) b.weight (pow-le-pow_right pos (omega arith))

    -- each is below the weight
    pub built_below : (k : ℕ) → k < len → get_or out k 0 < w
    built_below k h =
        subst₂ (λ (x y : ℕ). x < y)
        (ap (λ (l : List ℕ). get_or l k 0) (sym b.front) ∙ get_or-take len out k 0 h)
        (sym b.weight)
        (below_at (m ^ (n - i)) (tail m g i (n - i)) (tail_below m g i (n - i) pos) k (omega (arith, b.count)))

    module _ (low : i ≤ n) (more : 0 < i) where
      steps : n - (i - 1) ≡ suc (n - i)
      steps = omega arith

      back : suc (i - 1) ≡ i
      back = omega arith

      next_weight : w * m ≡ m ^ (n - (i - 1))
      next_weight = ap (λ (k : ℕ). k * m) b.weight ∙ sym (pow-suc m (n - i)) ∙ ap (λ (k : ℕ). m ^ k) (sym steps)

      -- the next weight is still that of an input, or of all
      pub built_next : w * m ≤ m ^ n
      built_next = subst⁻¹ (λ (k : ℕ). k ≤ m ^ n) next_weight (pow-le-pow_right pos (omega arith))

      next_member : member (i - 1) g ≡ true → tail m g (i - 1) (n - (i - 1)) ≡ widened m w (take len out)
      next_member e =
          ap (tail m g (i - 1)) steps
          ∙ tail_member m g (i - 1) (n - i) e
          ∙ ap₂ (widened m) (sym b.weight) (ap (λ (k : ℕ). tail m g k (n - i)) back ∙ sym b.front)

      next_count : member (i - 1) g ≡ true → len * m ≡ length (tail m g (i - 1) (n - (i - 1)))
      next_count e =
          ap (λ (k : ℕ). k * m) (b.count ∙ ap length (sym b.front)) ∙ sym (widened_length m w (take len out)) ∙ ap length (sym (next_member e))

      -- there is room for the widened list
      pub built_room : member (i - 1) g ≡ true → len * m ≤ m ^ size n g
      built_room e =
          let all : i - 1 + (n - (i - 1)) ≡ n = omega arith in
          omega (
            arith,
            next_count e,
            tail_grows pos (i - 1) (n - (i - 1)),
            ap (λ (k : ℕ). length (tail m g 0 k)) all ∙ ap length (sym (points_tail m n g)) ∙ points_length m n pos g,
          )

      -- if the input is a member
      pub built_member : (out' : List ℕ) (len' : ℕ) → member (i - 1) g ≡ true → len' ≡ len * m
          → take (len * m) out' ≡ widened m w (take len out) → Built out' len' (w * m) (i - 1)
      built_member out' len' e l f =
          record {
            weight = next_weight;
            count = l ∙ next_count e;
            front = ap (λ (k : ℕ). take k out') l ∙ f ∙ sym (next_member e);
          }

      -- if it is not a member
      pub built_other : member (i - 1) g ≡ false → Built out len (w * m) (i - 1)
      built_other e =
          record { weight = next_weight; count = b.count ∙ ap length same; front = b.front ∙ same }
        where
          same : tail m g i (n - i) ≡ tail m g (i - 1) (n - (i - 1))
          same = sym (ap (tail m g (i - 1)) steps ∙ tail_other m g (i - 1) (n - i) e ∙ ap (λ (k : ℕ). tail m g k (n - i)) back)
