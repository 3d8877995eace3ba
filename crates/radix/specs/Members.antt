-- The test whether a group has only one member, its first-listed member as a count of zeros, and the number of its members as a count of bits.
-- Assumes nothing.
use Rattle.std.specs.Prelude.{◌<◌, ◌+◌, ◌-◌, ◌^◌, ◌%◌, ◌/◌, ◌≡◌}
use Rattle.laws.specs.Prelude.{ℕ, suc, zero, ◌∙◌, sym, ap, refl, true, false, Bool, cond, dec_lt, arith, eqb, eq-eqb}
use Rattle.laws.specs.Prelude.{ne_eqb}
use Rattle.std.specs.Int.Count.{count_trailing_zeros, under, ones, ones_step}
use Rattle.rules.specs.Groups.Groups.{member, size}
use Rattle.rules.specs.Nets.Wirings.{first_input}
use Rattle.trees.specs.Groups.Members.{low_bit, first_odd, first_even, size_zero, size_suc, size_single, size_one, first_member}
use Rattle.radix.specs.Parts.{without_first}

-- a group has one member exactly if nothing is left without its first-listed one
pub single_test : (n g : ℕ) → 0 < g → g < 2 ^ n → (r : ℕ) → r ≡ g - 2 ^ first_input n g → eqb r 0 ≡ eqb (size n g) 1
single_test n g some g< r e = go (dec_lt 0 r)
  where
    go : Dec (0 < r) → eqb r 0 ≡ eqb (size n g) 1
    go (yes more) =
        ne_eqb r 0 (λ none. omega arith)
        ∙ sym (ne_eqb (size n g) 1 (λ one. omega (arith, (size_one n g g< one).1)))
    go (no none) =
        let first = (first_member n g g< some).0 in
        let all : g ≡ 2 ^ first_input n g = omega (arith, (without_first n g some g<).0) in
        eq-eqb r 0 (omega arith) ∙ sym (eq-eqb (size n g) 1 (ap (size n) all ∙ size_single (first_input n g) n first))

-- the zeros below the lowest set bit of a number that is not 0
pub trailing_first : (k n g : ℕ) → 0 < g → g < 2 ^ k → g < 2 ^ n → count_trailing_zeros k g ≡ first_input n g
unfolding count_trailing_zeros
trailing_first zero n g some g<k g<n = absurd (omega arith)
trailing_first (suc k) zero g some g<k g<n = absurd (omega arith)
trailing_first (suc k) (suc n) g some g<k g<n = go (member 0 g) refl (trailing_first k n (g / 2))
  where
    go : (b : Bool) → member 0 g ≡ b → (0 < g / 2 → g / 2 < 2 ^ k → g / 2 < 2 ^ n → count_trailing_zeros k (g / 2) ≡ first_input n (g / 2))
        → under (g % 2) (count_trailing_zeros k (g / 2)) ≡ first_input (suc n) g
    go true odd later =
        let low : g % 2 ≡ 1 = low_bit g ∙ ap (λ b. cond b 1 0) odd in
        rw (low, first_odd n g odd)
    go false even later =
        let low : g % 2 ≡ 0 = low_bit g ∙ ap (λ b. cond b 1 0) even in
        rw (low, first_even n g even) (ap suc (later (omega arith) (omega arith) (omega arith)))

-- the set bits of a group's number are its members
pub ones_size : (n g : ℕ) → g < 2 ^ n → ones g ≡ size n g
unfolding ones
ones_size zero g g< = let none : g ≡ 0 = omega arith in rw none (sym (size_zero 0))
ones_size (suc n) g g< = ones_step g ∙ ap (λ (k : ℕ). g % 2 + k) (ones_size n (g / 2) (omega arith)) ∙ sym (size_suc n g)
