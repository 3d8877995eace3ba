-- The digits of a gate by the class rule, over any two groups: how many, and what each is.
-- Assumes nothing.
use Rattle.std.specs.Prelude.{◌<◌, ◌+◌, ◌*◌, ◌%◌, ◌/◌, ◌≡◌, ◌&&◌, ◌∷◌}
use Rattle.laws.specs.Prelude.{ℕ, ◌∙◌, sym, ap, subst, inl, inr, false, Bool, false≢true, List, [], map, Memᴰ}
use Rattle.laws.specs.Prelude.{mem_not_nil, mem_cases_cons, mod-lt, div-lt_iff_lt-mul, div-add-mod', eqb, length, get_or, test_cases}
use Rattle.rules.specs.Groups.Groups.{points}
use Rattle.rules.specs.Lists.{find}
use Rattle.rules.specs.Nets.Filling.{carried, given, FillingReached, digit_at_of, gate_digits}
use Rattle.laws.specs.Lists.Tests.{both_eqb}
use Rattle.laws.specs.Lists.Rows.{grid_length, grid_at}

-- what the two wires carry and the gate gives at an assignment
abbrev reach : (ℕ → ℕ) → (ℕ → ℕ) → (ℕ → ℕ) → ℕ → FillingReached
reach left right own p = record { left = left p; right = right p; gives = own p }

-- q is one of ps and reaches the digit of row u and column v
abbrev pub Reaches : (ℕ → ℕ) → (ℕ → ℕ) → ℕ → ℕ → List ℕ → ℕ → Type 0
Reaches left right u v ps q = Memᴰ q ps × (left q ≡ u) × (right q ≡ v)

module _ (left right : ℕ → ℕ) (u v : ℕ) where
  -- if the first does not reach a digit, only the others can
  reached_later : (x q : ℕ) (ps : List ℕ) → (eqb (left x) u && eqb (right x) v) ≡ false → Reaches left right u v (x ∷ ps) q
      → Reaches left right u v ps q
  reached_later x q ps e (m, l, r) = elim (mem_cases_cons m) [
    | inl s ↦ absurd (false≢true (sym e ∙ (both_eqb (left x) u (right x) v).1 (sym (ap left s) ∙ l, sym (ap right s) ∙ r)))
    | inr k ↦ (k, l, r)
  ]

  module _ (own : ℕ → ℕ) (P : ℕ → Type 0) (gives : (q : ℕ) → left q ≡ u → right q ≡ v → P (own q)) where
    -- what holds for every value given at (u, v), and for 0 if there is none, holds for the digit there
    digit_has : (ps : List ℕ) → (((q : ℕ) → Reaches left right u v ps q → ⊥) → P 0) → P (digit_at_of (map (reach left right own) ps) u v)
    unfolding digit_at_of find
    digit_has [] unreached = unreached (λ q r. mem_not_nil r.0)
    digit_has (x ∷ ps) unreached = test_cases (eqb (left x) u && eqb (right x) v)
        (λ e. let b = (both_eqb (left x) u (right x) v).0 e in rw (e, digit_at_of, find) (gives x b.0 b.1))
        (λ e. rw (e, digit_at_of, find) (digit_has ps (λ none. unreached (λ q r. none q (reached_later x q ps e r)))))

module _ (m n : ℕ) (f : ℕ → ℕ) (last : Bool) (a b : ℕ) where
  -- there are m·m digits
  pub digits_count : length (gate_digits m n f last a b) ≡ m * m
  unfolding gate_digits
  digits_count = grid_length _ m

  -- what holds for every value that the gate must give at (u, v), and for 0 if there is none, holds for its digit there
  pub digits_have : (P : ℕ → Type 0) (u v : ℕ) → u < m → v < m
      → ((q : ℕ) → carried m n f a q ≡ u → carried m n f b q ≡ v → P (given m n f last (a + b) q))
      → (((q : ℕ) → Reaches (carried m n f a) (carried m n f b) u v (points m n (a + b)) q → ⊥) → P 0)
      → P (get_or (gate_digits m n f last a b) (u * m + v) 0)
  unfolding gate_digits
  digits_have P u v u< v< gives unreached =
      subst P (sym (grid_at _ m u v u< v<)) (digit_has _ _ u v _ P gives (points m n (a + b)) unreached)

-- the digits are below m if every value that the gate must give is
pub digits_below : (m n : ℕ) → 0 < m → (f : ℕ → ℕ) (last : Bool) (a b : ℕ) → ((p : ℕ) → given m n f last (a + b) p < m)
    → (k : ℕ) → k < m * m → get_or (gate_digits m n f last a b) k 0 < m
digits_below m n pos f last a b small k h =
    subst (λ i. get_or (gate_digits m n f last a b) i 0 < m) (div-add-mod' k m)
    (digits_have m n f last a b (λ x. x < m) (k / m) (k % m) ((div-lt_iff_lt-mul pos).1 h) (mod-lt k pos) (λ q d e. small q) (λ none. pos))
