-- A gate's digits computed only from the samples of its two wires: the digit at (u, v) is what the gate gives at the sum of left's sample u and
-- right's sample v, or 0 if one of the two has no such sample.
-- Assumes nothing.
use Rattle.std.specs.Prelude.{◌<◌, ◌+◌, ◌*◌, ◌%◌, ◌/◌, ◌≡◌}
use Rattle.laws.specs.Prelude.{ℕ, ◌∙◌, sym, subst, subst₂, Bool, List, mod-lt, div-lt_iff_lt-mul, div-add-mod', dec_lt}
use Rattle.laws.specs.Prelude.{arith, length, get_or}
use Rattle.rules.specs.Nets.Filling.{given, gate_digits}
use Rattle.trees.specs.Filling.DigitRule.{Parts, DigitRule, digit_rule}
use Rattle.trees.specs.Groups.Covers.{sum_left, sum_right}
use Rattle.gate_tables.specs.GateRows.{sum_of}
use Rattle.gate_tables.specs.Samples.{samples, samples_own, Sampled, sampled}

module _ (m n : ℕ) (pos : 0 < m) (f : ℕ → ℕ) (last : Bool) (a b : ℕ) (parts : Parts m n f a b) where
  -- a table with these digits
  abbrev Sampled-digits : List ℕ → List ℕ → List ℕ → Type 0
  Sampled-digits left right table =
      ((u v : ℕ) → u < length left → v < length right → get_or table (u * m + v) 0 ≡ given m n f last (a + b) (sum_of left right u v))
      × ((u v : ℕ) → v < m → (u < length left → v < length right → ⊥) → get_or table (u * m + v) 0 ≡ 0)

  -- the samples of the two sides
  abbrev left : List ℕ
  left = samples m n f a

  abbrev right : List ℕ
  right = samples m n f b

  lefts : Sampled m n f a left
  lefts = sampled m n pos f a parts.a_below

  rights : Sampled m n f b right
  rights = sampled m n pos f b parts.b_below

  rule : DigitRule m n f last a b (gate_digits m n f last a b)
  rule = digit_rule m n pos f a b parts last

  -- the sum of left's sample u and right's sample v is an assignment at which the two carry u and v
  digit_reached : (u v : ℕ) → u < length left → v < length right
      → get_or (gate_digits m n f last a b) (u * m + v) 0 ≡ given m n f last (a + b) (sum_of left right u v)
  digit_reached u v h k =
      let x = get_or left u 0 in
      let y = get_or right v 0 in
      let x_own = samples_own m n f a parts.a_below pos u h in
      let y_own = samples_own m n f b parts.b_below pos v k in
      let at_a = lefts.carries u (x + y) h (sum_left m n pos a b parts.a_below parts.b_below parts.apart x y x_own y_own) in
      let at_b = rights.carries v (x + y) k (sum_right m n pos a b parts.a_below parts.b_below parts.apart x y x_own y_own) in
      rule.reached u v (x + y) at_a at_b

  digit : (table : List ℕ) → Sampled-digits left right table → (u v : ℕ) → u < m → v < m
      → get_or table (u * m + v) 0 ≡ get_or (gate_digits m n f last a b) (u * m + v) 0
  digit table is u v u< v< = go (dec_lt u (length left)) (dec_lt v (length right))
    where
      go : Dec (u < length left) → Dec (v < length right) → get_or table (u * m + v) 0 ≡ get_or (gate_digits m n f last a b) (u * m + v) 0
      go (yes h) (yes k) = is.0 u v h k ∙ sym (digit_reached u v h k)
      go (yes h) (no k) = is.1 u v v< (λ _ l. k l) ∙ sym (rule.free u v u< v< (λ p p< d e. omega (arith, rights.all p)))
      go (no h) _ = is.1 u v v< (λ l _. h l) ∙ sym (rule.free u v u< v< (λ p p< d e. omega (arith, lefts.all p)))

  -- so the table is the gate's
  pub pass_digits : (xs ys table : List ℕ) → xs ≡ samples m n f a → ys ≡ samples m n f b → Sampled-digits xs ys table
      → (k : ℕ) → k < m * m → get_or table k 0 ≡ get_or (gate_digits m n f last a b) k 0
  pass_digits xs ys table of_a of_b_lem is k k< =
      subst (λ (i : ℕ). get_or table i 0 ≡ get_or (gate_digits m n f last a b) i 0) (div-add-mod' k m)
      (digit table (subst₂ (λ (us vs : List ℕ). Sampled-digits us vs table) of_a of_b_lem is) (k / m) (k % m) ((div-lt_iff_lt-mul pos).1 k<) (mod-lt k pos))
