-- The rule for a gate's digits, of document 01, section 'The settled net': "A gate below the last gives its group's classes .. The last
-- gate gives the ink. A digit that no assignment reaches is 0." For any two groups that a gate may join.
-- Assumes nothing.
use Rattle.std.specs.Prelude.{◌<◌, ◌+◌, ◌^◌, ◌*◌, ◌%◌, ◌/◌, ◌≡◌, ◌≢◌}
use Rattle.laws.specs.Prelude.{ℕ, ◌∙◌, sym, ap, refl, subst, ap₂, true, false, Bool, List, mod-lt, lt_of_lt_of_le}
use Rattle.laws.specs.Prelude.{div-lt_iff_lt-mul, div-add-mod', arith, length, get_or, ext_get_or}
use Rattle.rules.specs.Groups.Groups.{part, points, size}
use Rattle.rules.specs.Nets.Filling.{carried, given, gate_digits}
use Rattle.rules.specs.Nets.Trees.{Apart}
use Rattle.rules.specs.Sheets.SheetRules.{GateTable}
use Rattle.trees.specs.Trees.Trees.{Alike}
use Rattle.trees.specs.Groups.Members.{join_below, size_join, size_pos}
use Rattle.trees.specs.Groups.Levels.{part_below, part_part, mix_zero}
use Rattle.trees.specs.Groups.Points.{part_in_points}
use Rattle.trees.specs.Groups.Alike.{alike_join}
use Rattle.trees.specs.Groups.Classes.{Few, class_below, alike_class}
use Rattle.trees.specs.Groups.Joins.{part_left, part_right}
use Rattle.trees.specs.Filling.Carried.{carried_below, carried_tells, carried_part}
use Rattle.trees.specs.Filling.Digits.{Reaches, digits_count, digits_have, digits_below}

-- two groups that a gate may join: they share no input, and each of them and their union has at most m classes
pub record Parts (m n : ℕ) (f : ℕ → ℕ) (a b : ℕ) : Type 0 where
  pub some_a : 0 < a
  pub some_b : 0 < b
  pub a_below : a < 2 ^ n
  pub b_below : b < 2 ^ n
  pub apart : Apart n a b
  pub few_a : Few m n f a
  pub few_b : Few m n f b
  pub few : Few m n f (a + b)

-- the digits of the gate that joins groups a and b
pub record DigitRule (m n : ℕ) (f : ℕ → ℕ) (last : Bool) (a b : ℕ) (digits : List ℕ) : Type 0 where
  pub count : length digits ≡ m * m
  -- what the gate gives at any assignment at which left carries u and right v
  pub reached : (u v p : ℕ) → carried m n f a p ≡ u → carried m n f b p ≡ v → get_or digits (u * m + v) 0 ≡ given m n f last (a + b) p
  -- "A digit that no assignment reaches is 0."
  pub free : (u v : ℕ) → u < m → v < m → ((p : ℕ) → p < m ^ n → carried m n f a p ≡ u → carried m n f b p ≡ v → ⊥) → get_or digits (u * m + v) 0 ≡ 0

module _ (m n : ℕ) (pos : 0 < m) (f : ℕ → ℕ) (a b : ℕ) (parts : Parts m n f a b) where
  -- the joint group
  pub join_small : a + b < 2 ^ n
  join_small = join_below n a b parts.a_below parts.b_below parts.apart

  pub join_several : size n (a + b) ≢ 1
  join_several one =
      omega (
        arith,
        size_join n a b parts.a_below parts.b_below parts.apart,
        size_pos n a parts.a_below parts.some_a,
        size_pos n b parts.b_below parts.some_b,
      )

  -- what the joint group is given determines what both sides carry
  left_carries : (p q : ℕ) → part m n (a + b) p ≡ part m n (a + b) q → carried m n f a p ≡ carried m n f a q
  left_carries p q e =
      carried_part m n pos f a parts.a_below p q (part_left m n pos a b parts.a_below parts.b_below parts.apart p q e)

  right_carries : (p q : ℕ) → part m n (a + b) p ≡ part m n (a + b) q → carried m n f b p ≡ carried m n f b q
  right_carries p q e =
      carried_part m n pos f b parts.b_below p q (part_right m n pos a b parts.a_below parts.b_below parts.apart p q e)

  -- if both sides carry the same at p and q, then p and q are alike for the joint group
  sides_alike : (p q : ℕ) → carried m n f a p ≡ carried m n f a q → carried m n f b p ≡ carried m n f b q → Alike m n f (a + b) p q
  sides_alike p q d e =
      alike_join m n pos f a b p q parts.a_below parts.b_below parts.apart
      (carried_tells m n pos f a parts.a_below p q d) (carried_tells m n pos f b parts.b_below p q e)

  -- and then the gate gives the same
  gate_alike : (last : Bool) (p q : ℕ) → Alike m n f (a + b) p q → given m n f last (a + b) p ≡ given m n f last (a + b) q
  unfolding given
  gate_alike true p q h = sym (ap f (mix_zero m n pos _ p)) ∙ h 0 ∙ ap f (mix_zero m n pos _ q)
  gate_alike false p q h = alike_class m n pos f (a + b) join_small p q h

  -- some assignment of the joint group makes both sides carry what they carry at p
  some_reaches : (p : ℕ)
      → Reaches (carried m n f a) (carried m n f b) (carried m n f a p) (carried m n f b p) (points m n (a + b)) (part m n (a + b) p)
  some_reaches p =
      let e = part_part m n pos (a + b) p in
      (part_in_points m n pos (a + b) p, left_carries (part m n (a + b) p) p e, right_carries (part m n (a + b) p) p e)

  -- the digit for what the two sides carry is what the gate must give
  pub gate_digit : (last : Bool) (p : ℕ) → get_or (gate_digits m n f last a b) (carried m n f a p * m + carried m n f b p) 0 ≡ given m n f last (a + b) p
  gate_digit last p =
      digits_have m n f last a b (λ x. x ≡ given m n f last (a + b) p) _ _
      (carried_below m n pos f a parts.a_below parts.few_a p) (carried_below m n pos f b parts.b_below parts.few_b p)
      (λ q d e. gate_alike last q p (sides_alike q p d e))
      (λ none. absurd (none _ (some_reaches p)))

  pub digit_rule : (last : Bool) → DigitRule m n f last a b (gate_digits m n f last a b)
  digit_rule last = record {
    count = digits_count m n f last a b;
    reached = λ u v p left right.
        ap₂ (λ (s t : ℕ). get_or (gate_digits m n f last a b) (s * m + t) 0) (sym left) (sym right) ∙ gate_digit last p;
    free = λ u v u< v< none.
        digits_have m n f last a b (λ x. x ≡ 0) u v u< v<
        (λ q d e.
        let own = part_part m n pos (a + b) q in
        absurd (none (part m n (a + b) q) (part_below m n pos (a + b) q) (left_carries _ q own ∙ d) (right_carries _ q own ∙ e)))
        (λ _. refl);
  }

  -- and no other digits follow the rule
  pub digit_rule_only : (last : Bool) (digits : List ℕ) → DigitRule m n f last a b digits → digits ≡ gate_digits m n f last a b
  digit_rule_only last digits rule =
      ext_get_or 0 digits (gate_digits m n f last a b) (rule.count ∙ sym (digits_count m n f last a b))
      (λ k h.
      let k< : k < m * m = rw rule.count at h in
      let same = at (k / m) (k % m) ((div-lt_iff_lt-mul pos).1 k<) (mod-lt k pos) in
      subst (λ (i : ℕ). get_or digits i 0 ≡ get_or (gate_digits m n f last a b) i 0) (div-add-mod' k m) same)
    where
      at : (u v : ℕ) → u < m → v < m → get_or digits (u * m + v) 0 ≡ get_or (gate_digits m n f last a b) (u * m + v) 0
      at u v u< v< =
          digits_have m n f last a b (λ x. get_or digits (u * m + v) 0 ≡ x) u v u< v<
          (rule.reached u v)
          (λ none. rule.free u v u< v< (λ p p< d e. let r = some_reaches p in none _ (r.0, r.1 ∙ d, r.2 ∙ e)))

  -- what the gate must give is below m
  gate_below : ((p : ℕ) → p < m ^ n → f p < m) → (last : Bool) (p : ℕ) → given m n f last (a + b) p < m
  unfolding given
  gate_below inks true p = inks _ (part_below m n pos (a + b) p)
  gate_below inks false p = lt_of_lt_of_le (class_below m n pos f (a + b) join_small p) parts.few

  -- so its digits form a table
  pub gate_table : ((p : ℕ) → p < m ^ n → f p < m) → (last : Bool) → GateTable m (gate_digits m n f last a b)
  gate_table inks last =
      let count = digits_count m n f last a b in
      record { count = count; below = λ k h. digits_below m n pos f last a b (gate_below inks last) k (rw count at h) }
