-- Groups as bit patterns: the parts of a group in rising order, and a group without its first-listed input.
-- Assumes nothing.
use Rattle.std.specs.Prelude.{◌<◌, ◌≤◌, ◌+◌, ◌-◌, ◌^◌, ◌*◌, ◌%◌, ◌/◌, ◌≡◌, ◌&&◌}
use Rattle.laws.specs.Prelude.{ℕ, suc, zero, min, ◌∙◌, sym, ap, refl, subst, ap₂, true, false, Bool}
use Rattle.laws.specs.Prelude.{not, and-eq-true_iff, cond, dec_lt, arith}
use Rattle.std.specs.Int.Bits.{bit_and, and_step, and_zero_r, and_self}
use Rattle.std.proofs.lemmas.Nat.{and_le_l}
use Rattle.rules.specs.Groups.Groups.{member}
use Rattle.rules.specs.Nets.Wirings.{first_input}
use Rattle.rules.specs.Groups.Marks.{inside}
use Rattle.rules.specs.Nets.Trees.{Apart}
use Rattle.trees.specs.Groups.Members.{low_bit, low_member, member_suc, member_ext, member_rest, inside_member, member_inside, first_odd, first_even}
use Rattle.trees.specs.Trees.MarkTwo.{rest_inside}

-- every bit of s is a bit of r
abbrev pub PartOf : ℕ → ℕ → Type 0
PartOf s r = bit_and s r ≡ s

-- by the lowest bit, and the half
part_half : (s r : ℕ) → PartOf s r → PartOf (s / 2) (r / 2) × (s % 2 ≤ r % 2)
part_half s r p = omega (arith, and_step s r, and_le_l (s / 2) (r / 2))

half_part : (s r : ℕ) → PartOf (s / 2) (r / 2) → s % 2 ≤ r % 2 → PartOf s r
half_part s r p low = omega (arith, and_step s r)

-- `bit_and` from the lowest bits and from known halves
and_halves : (x r y low : ℕ) → x / 2 ≡ y → min (x % 2) (r % 2) ≡ low → bit_and x r ≡ bit_and y (r / 2) * 2 + low
and_halves x r y low e d = and_step x r ∙ ap₂ (λ (z l : ℕ). bit_and z (r / 2) * 2 + l) e d

-- ---- the next part

pub record Next (r s t : ℕ) : Type 0 where
  pub part : PartOf t r
  pub above : s < t
  pub least : (u : ℕ) → s < u → PartOf u r → t ≤ u

-- a part plus all bits outside r, restricted to r, is the part
fill : (k s r : ℕ) → r < 2 ^ k → PartOf s r → bit_and (s + (2 ^ k - 1 - r)) r ≡ s
fill zero s r r< p =
    let none : r ≡ 0 = omega arith in
    let x : ℕ = s + (2 ^ 0 - 1 - r) in
    ap (bit_and x) none ∙ and_zero_r x ∙ sym (ap (bit_and s) none ∙ and_zero_r s) ∙ p
fill (suc k) s r r< p =
    let halves = part_half s r p in
    let x : ℕ = s + (2 ^ suc k - 1 - r) in
    and_halves x r (s / 2 + (2 ^ k - 1 - r / 2)) (s % 2) (omega (arith, halves.1)) (omega (arith, halves.1))
    ∙ ap (λ (y : ℕ). y * 2 + s % 2) (fill k (s / 2) (r / 2) (omega arith) halves.0)
    ∙ omega arith

-- a part whose lowest bit is free: the next part is one more
next_here : (k r s t : ℕ) → r < 2 ^ suc k → s % 2 < r % 2 → PartOf (s / 2) (r / 2) → t ≡ bit_and (s + 2 ^ suc k - r) r → s < r → Next r s t
next_here k r s t r< free p e s< = record { part = half_part t r (rw half p) (omega arith); above = omega (arith, is); least = λ u s<u q. omega (arith, is) }
  where
    x : ℕ
    x = s + 2 ^ suc k - r

    is : t ≡ s / 2 * 2 + 1
    is =
        e
        ∙ and_halves x r (s / 2 + (2 ^ k - 1 - r / 2)) 1 (omega arith) (omega arith)
        ∙ ap (λ (y : ℕ). y * 2 + 1) (fill k (s / 2) (r / 2) (omega arith) p)

    half : t / 2 ≡ s / 2
    half = omega (arith, is)

-- a part whose lowest bit is r's: the next part is that of the half
next_on : (r s t : ℕ) → s % 2 ≡ r % 2 → Next (r / 2) (s / 2) t → Next r s (t * 2 + 0)
next_on r s t low next =
    record {
      part = half_part (t * 2 + 0) r (rw half next.part) (omega arith);
      above = omega (arith, next.above);
      least = λ u s<u q. let halves = part_half u r q in omega (arith, next.least (u / 2) (omega (arith, halves.1)) halves.0);
    }
  where
    half : (t * 2 + 0) / 2 ≡ t
    half = omega arith

-- The next part: the carry of an addition runs through all bits outside r.
pub next_part : (k r s : ℕ) → r < 2 ^ k → s < r → PartOf s r → Next r s (bit_and (s + 2 ^ k - r) r)
next_part zero r s r< s< p = absurd (omega arith)
next_part (suc k) r s r< s< p = go (part_half s r p) (dec_lt (s % 2) (r % 2)) (next_part k (r / 2) (s / 2))
  where
    x : ℕ
    x = s + 2 ^ suc k - r

    go : PartOf (s / 2) (r / 2) × (s % 2 ≤ r % 2) → Dec (s % 2 < r % 2)
        → (r / 2 < 2 ^ k → s / 2 < r / 2 → PartOf (s / 2) (r / 2) → Next (r / 2) (s / 2) (bit_and (s / 2 + 2 ^ k - r / 2) (r / 2)))
        → Next r s (bit_and x r)
    go halves (yes free) next = next_here k r s _ r< free halves.0 refl s<
    go halves (no full) next =
        subst (Next r s) (sym (and_halves x r (s / 2 + 2 ^ k - r / 2) 0 (omega arith) (omega arith)))
        (next_on r s _ (omega arith) (next (omega arith) (omega arith) halves.0))

-- ---- without the first-listed input

-- one less, combined with the number itself by `bit_and`: the lowest set bit is gone
pub without_first : (n g : ℕ) → 0 < g → g < 2 ^ n → (2 ^ first_input n g ≤ g) × (bit_and g (g - 1) ≡ g - 2 ^ first_input n g)
without_first zero g some g< = absurd (omega arith)
without_first (suc n) g some g< = go (member 0 g) refl (without_first n (g / 2))
  where
    go : (b : Bool) → member 0 g ≡ b
        → (0 < g / 2 → g / 2 < 2 ^ n → (2 ^ first_input n (g / 2) ≤ g / 2) × (bit_and (g / 2) (g / 2 - 1) ≡ g / 2 - 2 ^ first_input n (g / 2)))
        → (2 ^ first_input (suc n) g ≤ g) × (bit_and g (g - 1) ≡ g - 2 ^ first_input (suc n) g)
    go true odd later =
        let low : g % 2 ≡ 1 = low_bit g ∙ ap (λ b. cond b 1 0) odd in
        let half : (g - 1) / 2 ≡ g / 2 = omega arith in
        rw (first_odd n g odd) (
          omega arith,
          omega (arith, and_step g (g - 1), ap (bit_and (g / 2)) half ∙ and_self (g / 2)),
        )
    go false even later =
        let low : g % 2 ≡ 0 = low_bit g ∙ ap (λ b. cond b 1 0) even in
        let half : (g - 1) / 2 ≡ g / 2 - 1 = omega arith in
        let ih = later (omega arith) (omega arith) in
        rw (first_even n g even) (
          omega (arith, ih.0),
          omega (arith, and_step g (g - 1), ap (bit_and (g / 2)) half ∙ ih.1, ih.0),
        )

-- a group plus less than its lowest bit still has its first-listed input
pub first_run : (n g : ℕ) → 0 < g → g < 2 ^ n
    → (g + 2 ^ first_input n g ≤ 2 ^ n) × ((k : ℕ) → k < 2 ^ first_input n g → member (first_input n g) (g + k) ≡ true)
first_run zero g some g< = absurd (omega arith)
first_run (suc n) g some g< = go (member 0 g) refl (first_run n (g / 2))
  where
    go : (b : Bool) → member 0 g ≡ b
        → (0 < g / 2 → g / 2 < 2 ^ n
        → (g / 2 + 2 ^ first_input n (g / 2) ≤ 2 ^ n) × ((k : ℕ) → k < 2 ^ first_input n (g / 2) → member (first_input n (g / 2)) (g / 2 + k) ≡ true))
        → (g + 2 ^ first_input (suc n) g ≤ 2 ^ suc n) × ((k : ℕ) → k < 2 ^ first_input (suc n) g → member (first_input (suc n) g) (g + k) ≡ true)
    go true odd later = rw (first_odd n g odd) (omega arith, λ k k<. ap (member 0) (omega arith) ∙ odd)
    go false even later =
        let low : g % 2 ≡ 0 = low_bit g ∙ ap (λ b. cond b 1 0) even in
        let ih = later (omega arith) (omega arith) in
        rw (first_even n g even) (
          omega (arith, ih.0),
          λ k k<. member_suc (first_input n (g / 2)) (g + k) ∙ ap (member (first_input n (g / 2))) (omega arith) ∙ ih.1 (k / 2) (omega arith),
        )

-- ---- parts by their members

bit_and_lem : (s t : Bool) → min (cond s 1 0) (cond t 1 0) ≡ cond (s && t) 1 0
bit_and_lem true true = refl
bit_and_lem true false = refl
bit_and_lem false true = refl
bit_and_lem false false = refl

pub member_and : (i a g : ℕ) → member i (bit_and a g) ≡ (member i a && member i g)
member_and zero a g =
    low_member (bit_and a g) (member 0 a && member 0 g)
    (omega (arith, and_step a g) ∙ ap₂ min (low_bit a) (low_bit g) ∙ bit_and_lem (member 0 a) (member 0 g))
member_and (suc i) a g =
    member_suc i (bit_and a g)
    ∙ ap (member i) (omega (arith, and_step a g))
    ∙ member_and i (a / 2) (g / 2)
    ∙ ap₂ ◌&&◌ (sym (member_suc i a)) (sym (member_suc i g))

pub inside_part : (n a g : ℕ) → a < 2 ^ n → inside n a g ≡ true → PartOf a g
inside_part n a g a< h = member_ext n (bit_and a g) a (omega (arith, and_le_l a g)) a< (λ i i<. member_and i a g ∙ go i i< (member i a) refl)
  where
    go : (i : ℕ) → i < n → (b : Bool) → member i a ≡ b → (member i a && member i g) ≡ member i a
    go i i< true e = rw (e, inside_member i n a g h i< e)
    go i i< false e = rw e

pub part_inside : (n a g : ℕ) → PartOf a g → inside n a g ≡ true
part_inside n a g p = member_inside n a g (λ i i< e. rw e at (sym (member_and i a g) ∙ ap (member i) p ∙ e))

-- ---- without the members of another group

-- if a group shares no input with another, neither does a part of it
pub part_apart : (n a g other : ℕ) → inside n a g ≡ true → Apart n g other → Apart n a other
part_apart n a g other part apart i i< = go (member i a) refl
  where
    go : (t : Bool) → member i a ≡ t → (t && member i other) ≡ false
    go true e = rw (inside_member i n a g part i< e) at (apart i i<)
    go false e = refl

module _ (n g other : ℕ) (g< : g < 2 ^ n) where
  shared_inside : inside n (bit_and g other) g ≡ true
  shared_inside = member_inside n (bit_and g other) g (λ i i< e. ((and-eq-true_iff _ _).0 (sym (member_and i g other) ∙ e)).0)

  -- what is left is a part, ..
  pub without_inside : inside n (g - bit_and g other) g ≡ true
  without_inside = rest_inside n (bit_and g other) g (omega (arith, and_le_l g other)) g< shared_inside

  -- .. whose members are not in the other group
  pub member_without : (i : ℕ) → i < n → member i (g - bit_and g other) ≡ (member i g && not (member i other))
  member_without i i< =
      member_rest i n (bit_and g other) g (omega (arith, and_le_l g other)) g< shared_inside i<
      ∙ ap (λ t. member i g && not t) (member_and i g other)
      ∙ bits (member i g) (member i other)
    where
      bits : (s t : Bool) → (s && not (s && t)) ≡ (s && not t)
      bits true t = refl
      bits false t = refl

  pub without_apart : Apart n (g - bit_and g other) other
  without_apart i i< = rw (member_without i i<) (bits (member i g) (member i other))
    where
      bits : (s t : Bool) → ((s && not t) && t) ≡ false
      bits true true = refl
      bits true false = refl
      bits false t = refl
