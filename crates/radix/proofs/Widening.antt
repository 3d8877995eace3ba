-- The loop of `widen` over plain lists: at turn j the first j entries are those of the widened list.
-- Assumes nothing.
use Rattle.std.specs.Prelude.{◌<◌, ◌≤◌, ◌+◌, ◌-◌, ◌*◌, ◌%◌, ◌/◌, ◌≡◌, ◌∷◌, ◌++◌}
use Rattle.laws.specs.Prelude.{ℕ, suc, zero, ◌∙◌, sym, ap, subst, subst⁻¹, List, [], zero-mul}
use Rattle.laws.specs.Prelude.{mul-le-mul_right, mod-lt, div-lt_iff_lt-mul, mul_comm, mul-le-mul_left, le_of_lt, add-one, arith, length, get_or, take, set}
use Rattle.laws.specs.Prelude.{length-take-le, get_or-take, take-suc-set, take-suc}
use Rattle.radix.specs.Widths.{offsets_end}
use Rattle.radix.specs.Offsets.{widened, widened_length, widened_front, widened_step, widened_at}

module _ (out₀ : List ℕ) (len w m : ℕ) (some : 0 < m) (fits : len * m ≤ length out₀) where
  abbrev pub whole : List ℕ
  whole = widened m w (take len out₀)

  inside : len ≤ length out₀
  inside = omega (arith, mul-le-mul_left len some, native.Mathlib.Nat.mul-one len)

  front_length : length (take len out₀) ≡ len
  front_length = length-take-le len out₀ inside

  pub whole_length : length whole ≡ len * m
  whole_length = widened_length m w (take len out₀) ∙ ap (λ (k : ℕ). k * m) front_length

  pub starts : take len out₀ ≡ take len whole
  starts = sym (subst (λ (k : ℕ). take k whole ≡ take len out₀) front_length (widened_front m w (take len out₀) some))

  -- what the code computes for entry j is the widened list's entry
  pub entry : (out : List ℕ) (j : ℕ) → len ≤ j → 0 < len → j < len * m → take j out ≡ take j whole
      → get_or out (j - len) 0 + w ≡ get_or whole j 0
  entry out j low pos high e =
      ap (λ (k : ℕ). k + w)
      (sym (get_or-take j out (j - len) 0 (omega arith)) ∙ ap (λ (l : List ℕ). get_or l (j - len) 0) e ∙ get_or-take j whole (j - len) 0 (omega arith))
      ∙ sym (subst (λ (k : ℕ). k + (j - len) < k * m → get_or whole (k + (j - len)) 0 ≡ get_or whole (j - len) 0 + w) front_length
      (widened_step m w (take len out₀) (j - len)) (omega arith))
      ∙ ap (λ (k : ℕ). get_or whole k 0) (omega arith)

  -- a turn
  pub turn : (out : List ℕ) (j v : ℕ) → j < length out → j < len * m → take j out ≡ take j whole → v ≡ get_or whole j 0
      → take (j + 1) (set out j v) ≡ take (j + 1) whole
  turn out j v h high e q =
      ap (λ (k : ℕ). take k (set out j v)) (add-one j)
      ∙ take-suc-set out j v h
      ∙ ap (λ (l : List ℕ). l ++ (v ∷ [])) e
      ∙ ap {B = List ℕ} (λ (x : ℕ). take j whole ++ (x ∷ [])) q
      ∙ sym (take-suc whole j 0 (subst (λ (k : ℕ). j < k) (sym whole_length) high))
      ∙ ap (λ (k : ℕ). take k whole) (sym (add-one j))

  -- every entry is small
  pub small : ((k : ℕ) → k < len → get_or out₀ k 0 + w * m < offsets_end) → (j : ℕ) → j < len * m → get_or whole j 0 < offsets_end
  small h j high =
      let at : j < length (take len out₀) * m = subst⁻¹ (λ (k : ℕ). j < k * m) front_length high in
      let level : j / len < m = (div-lt_iff_lt-mul pos_len).1 (omega (arith, mul_comm len m)) in
      omega (
        arith,
        widened_at m w (take len out₀) j at
            ∙ ap (λ (k : ℕ). get_or (take len out₀) (j % k) 0 + j / k * w) front_length
            ∙ ap (λ (k : ℕ). k + j / len * w) (get_or-take len out₀ (j % len) 0 (mod-lt j pos_len)),
        h (j % len) (mod-lt j pos_len),
        mul-le-mul_right w (le_of_lt level),
        mul_comm m w,
      )
    where
      pos_len : 0 < len
      pos_len = go len high
        where
          go : (k : ℕ) → j < k * m → 0 < k
          go zero l = absurd (omega (arith, zero-mul m))
          go (suc k) l = omega arith
