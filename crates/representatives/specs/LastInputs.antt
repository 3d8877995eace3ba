-- The inputs from one on have the smallest weights, so their assignments are the numbers below a power of m. With them, a column becomes a run.
-- Assumes nothing.
use Rattle.std.specs.Prelude.{◌<◌, ◌≤◌, ◌+◌, ◌-◌, ◌^◌, ◌*◌, ◌%◌, ◌/◌, ◌≡◌, ◌&&◌}
use Rattle.laws.specs.Prelude.{ℕ, suc, zero, ◌∙◌, sym, ap, refl, subst, ap₂, subst⁻¹, true, false, Bool}
use Rattle.laws.specs.Prelude.{not, cond, and-false, List, zero-mul, pow-suc, pow-zero, mod-lt, lt_of_lt_of_le, one-le-pow, le_refl, le_step, mod-eq_of_lt}
use Rattle.laws.specs.Prelude.{div-eq_of_lt, mod-mod, mod-one, dec_lt, arith, length, get_or, mod-mul, pow_mono, pow_pos}
use Rattle.rules.specs.Groups.Groups.{member, part, whole_group, others}
use Rattle.trees.specs.Groups.Members.{whole_below, member_whole, member_others, others_below}
use Rattle.rules.specs.Nets.Trees.{Apart}
use Rattle.trees.specs.Groups.Alike.{alike_part}
use Rattle.trees.specs.Groups.Covers.{Covers, covers_same, covers_join}
use Rattle.trees.specs.Groups.Reps.{Listed}
use Rattle.representatives.specs.Columns.{columns_of, columns_length, columns_at}

-- no input from s on is a member of a group of the first s inputs
pub no_member : (s i g : ℕ) → g < 2 ^ s → s ≤ i → member i g ≡ false
unfolding member
no_member s i g g< h = rw (div-eq_of_lt (lt_of_lt_of_le g< (pow_mono h)))

-- the part of an index for a group with no members is 0
part_none : (m n g p : ℕ) → ((i : ℕ) → i < n → member i g ≡ false) → part m n g p ≡ 0
unfolding part
part_none m zero g p none = refl
part_none m (suc n) g p none = rw (part_none m n g (p / m) (λ i h. none i (le_step h)), none n (le_refl (suc n)), zero-mul)

-- the remainder by the power 0 is 0
rest_none : (m p k : ℕ) → k ≡ 0 → p % m ^ k ≡ 0
rest_none m p k e = ap (λ (j : ℕ). p % m ^ j) e ∙ ap (λ (j : ℕ). p % j) (pow-zero m) ∙ mod-one p

-- the part of an index for the inputs from s on is its last digits
module _ (m : ℕ) (pos : 0 < m) (s g : ℕ) (before : (i : ℕ) → i < s → member i g ≡ false) where
  last_part : (n : ℕ) → s ≤ n → ((i : ℕ) → i < n → s ≤ i → member i g ≡ true) → (p : ℕ) → part m n g p ≡ p % m ^ (n - s)
  unfolding part
  last_part zero low after p = sym (rest_none m p (zero - s) (omega arith))
  last_part (suc n) low after p = go (dec_lt s (suc n)) (λ le. last_part n le (λ i i< h. after i (le_step i<) h) (p / m))
    where
      go : Dec (s < suc n) → (s ≤ n → part m n g (p / m) ≡ p / m % m ^ (n - s)) → part m (suc n) g p ≡ p % m ^ (suc n - s)
      go (yes h) front =
          let next : suc (n - s) ≡ suc n - s = omega arith in
          ap₂ (λ (a : ℕ) (t : Bool). a * m + cond t (p % m) 0) (front (omega arith)) (after n (le_refl (suc n)) (omega arith))
          ∙ sym (mod-mul p {m = m ^ (n - s)} {c = m} (one-le-pow (n - s) m pos) pos)
          ∙ ap (λ (k : ℕ). p % k) (sym (pow-suc m (n - s)) ∙ ap (λ (k : ℕ). m ^ k) next)
      go (no h) front = part_none m (suc n) g p (λ i i<. before i (omega arith)) ∙ sym (rest_none m p (suc n - s) (omega arith))

module _ (m n : ℕ) (pos : 0 < m) (f : ℕ → ℕ) (s : ℕ) (low : s ≤ n) where
  -- the group of the inputs from s on
  last : ℕ
  last = others n (whole_group s)

  first_below : whole_group s < 2 ^ n
  first_below = lt_of_lt_of_le (whole_below s) (pow_mono low)

  not_last : (i : ℕ) → i < s → member i last ≡ false
  unfolding last
  not_last i h = member_others i n (whole_group s) (omega arith) first_below ∙ ap not (member_whole i s h)

  is_last : (i : ℕ) → i < n → s ≤ i → member i last ≡ true
  unfolding last
  is_last i i< h = member_others i n (whole_group s) i< first_below ∙ ap not (no_member s i (whole_group s) (whole_below s) h)

  digits : (p : ℕ) → part m n last p ≡ p % m ^ (n - s)
  digits p = last_part m pos s last not_last n low is_last p

  -- the numbers below a power of m cover it
  last_cover : Covers m n f last (m ^ (n - s)) (λ z. z)
  last_cover =
      record {
        own = λ z z<. digits z ∙ mod-eq_of_lt z<;
        every = λ p. (
          p % m ^ (n - s),
          mod-lt p (one-le-pow (n - s) m pos),
          alike_part m n pos f last p _ (digits p ∙ sym (mod-mod p (m ^ (n - s))) ∙ sym (digits (p % m ^ (n - s)))),
        );
      }

  module _ (g : ℕ) (g< : g < 2 ^ s) where
    -- the other inputs before s, and those from s on, are all other inputs
    both : 2 ^ s - 1 - g + last ≡ others n g
    unfolding last others whole_group
    both = omega (arith, g<, pow_pos s, pow_mono low)

    apart : Apart n (2 ^ s - 1 - g) last
    apart i i< = go (dec_lt i s)
      where
        go : Dec (i < s) → (member i (2 ^ s - 1 - g) && member i last) ≡ false
        go (yes h) = ap (λ t. member i (2 ^ s - 1 - g) && t) (not_last i h) ∙ and-false (member i (2 ^ s - 1 - g))
        go (no h) = ap (λ t. t && member i last) (no_member s i (2 ^ s - 1 - g) (omega (arith, pow_pos s)) (omega arith))

    -- so heads that cover the inputs before s, with a run, cover all the others
    pub run_listed : (hs : List ℕ) → Listed m n f (2 ^ s - 1 - g) hs → Listed m n f (others n g) (columns_of (m ^ (n - s)) hs)
    unfolding last
    run_listed hs heads =
        subst⁻¹ (λ (c : ℕ). Covers m n f (others n g) c (λ k. get_or (columns_of (m ^ (n - s)) hs) k 0)) (columns_length (m ^ (n - s)) hs)
        (covers_same m n pos f (others n g) (length hs * m ^ (n - s)) _ _ (λ k h. sym (columns_at (m ^ (n - s)) hs k h))
        (subst (λ (a : ℕ). Covers m n f a (length hs * m ^ (n - s)) (λ k. get_or hs (k % length hs) 0 + k / length hs)) both
        (covers_join m n pos f (2 ^ s - 1 - g) (others n (whole_group s)) (length hs) (m ^ (n - s)) (λ k. get_or hs k 0) (λ z. z)
        (omega (arith, pow_pos s, pow_mono low)) (others_below n (whole_group s)) apart heads last_cover)))
