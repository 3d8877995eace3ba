-- Groups as sets: a group's number, its members and its size.
-- Assumes nothing.
use Rattle.std.specs.Prelude.{◌<◌, ◌≤◌, ◌+◌, ◌-◌, ◌^◌, ◌%◌, ◌/◌, ◌≡◌, ◌&&◌, ◌||◌}
use Rattle.laws.specs.Prelude.{ℕ, suc, zero, ◌∙◌, sym, ap, refl, ap₂, true, false, Bool, not, false≢true}
use Rattle.laws.specs.Prelude.{and-false, pow-succ', zero-div, div-div-eq-div-mul, div-one, arith, eqb, eqb-suc-zero, eqb-suc-suc, eqb-zero-suc, pow_pos}
use Rattle.laws.specs.Prelude.{pow-lt, test_cases}
use Rattle.rules.specs.Groups.Groups.{member, size, whole_group, others}
use Rattle.rules.specs.Groups.Marks.{inside}
use Rattle.rules.specs.Lists.{range, those}
use Rattle.rules.specs.Nets.Trees.{Apart}
use Rattle.rules.specs.Nets.Wirings.{first_input}
use Rattle.laws.specs.Lists.Tests.{all_mem, mem_all, one_where, one_if_le, one_if_or}
use Rattle.laws.specs.Lists.Ranges.{range_shift, mem_range, range_mem}
use Rattle.laws.specs.Lists.Counts.{count_cons, count_map}
use Rattle.laws.specs.Lists.FirstPlaces.{first_cons, first_map}

-- ---- a group by its lowest bit and the group of the other bits

-- the lowest bit says whether input 0 is a member
pub low_bit : (g : ℕ) → g % 2 ≡ one_where (member zero g)
unfolding member
low_bit g = rw div-one (go (g % 2) (omega arith))
  where
    go : (x : ℕ) → x < 2 → x ≡ one_where (eqb x 1)
    go zero h = refl
    go (suc zero) h = refl
    go (suc (suc x)) h = omega arith

-- and conversely: input 0 is a member if the lowest bit is 1
pub low_member : (g : ℕ) (t : Bool) → g % 2 ≡ one_where t → member zero g ≡ t
unfolding member
low_member g t e = rw (div-one, e) (elim t as (λ s. eqb (one_where s) 1 ≡ s) [ true ↦ refl | false ↦ refl ])

-- the other members are those of the half, shifted by one place
pub member_suc : (i g : ℕ) → member (suc i) g ≡ member i (g / 2)
unfolding member
member_suc i g = rw (pow-succ', ← div-div-eq-div-mul)

-- two groups with the same members are equal
pub member_ext : (n g h : ℕ) → g < 2 ^ n → h < 2 ^ n → ((i : ℕ) → i < n → member i g ≡ member i h) → g ≡ h
member_ext zero g h g< h< e = omega arith
member_ext (suc n) g h g< h< e =
    omega (
      arith,
      member_ext n (g / 2) (h / 2) (omega arith) (omega arith) (λ i k. simp member_suc at (e (suc i) (omega arith))),
      low_bit g ∙ ap one_where (e 0 (omega arith)) ∙ sym (low_bit h),
    )

-- the empty group has no member
pub member_zero : (i : ℕ) → member i 0 ≡ false
unfolding member
member_zero i = rw zero-div

-- a later input's group, halved, is the group of the input before
pow_half : (i : ℕ) → 2 ^ suc i / 2 ≡ 2 ^ i
pow_half i = omega arith

-- the group of one input is a group
pub single_below : (i n : ℕ) → i < n → 2 ^ i < 2 ^ n
single_below i n h = pow-lt h

-- its one member is that input
pub member_single : (i j : ℕ) → member i (2 ^ j) ≡ eqb i j
member_single zero zero = low_member 1 true refl
member_single zero (suc j) = low_member (2 ^ suc j) false (omega arith) ∙ sym (eqb-zero-suc j)
member_single (suc i) zero = member_suc i 1 ∙ member_zero i ∙ sym (eqb-suc-zero i)
member_single (suc i) (suc j) = rw (member_suc, pow_half) (member_single i j ∙ sym (eqb-suc-suc i j))

-- the whole group is a group
pub whole_below : (n : ℕ) → whole_group n < 2 ^ n
unfolding whole_group
whole_below n = omega (arith, pow_pos n)

-- the whole group, halved, is the whole group of one input fewer
whole_half : (n : ℕ) → whole_group (suc n) / 2 ≡ whole_group n
unfolding whole_group
whole_half n = omega (arith, pow_pos n)

-- its lowest bit is 1
whole_low : (n : ℕ) → whole_group (suc n) % 2 ≡ 1
unfolding whole_group
whole_low n = omega (arith, pow_pos n)

-- every input is a member of it
pub member_whole : (i n : ℕ) → i < n → member i (whole_group n) ≡ true
member_whole i zero h = absurd (omega arith)
member_whole zero (suc n) h = low_member (whole_group (suc n)) true (whole_low n)
member_whole (suc i) (suc n) h = rw (member_suc, whole_half) (member_whole i n (omega arith))

-- ---- two groups that share no input

-- the lowest bits of two such groups
low_apart : (n a b : ℕ) → Apart (suc n) a b → a % 2 + b % 2 ≡ one_where (member 0 a || member 0 b)
low_apart n a b apart = ap₂ ◌+◌ (low_bit a) (low_bit b) ∙ sym (one_if_or (member 0 a) (member 0 b) (apart 0 (omega arith)))

-- their halves share no input either
half_apart : (n a b : ℕ) → Apart (suc n) a b → Apart n (a / 2) (b / 2)
half_apart n a b apart i h = simp member_suc at (apart (suc i) (omega arith))

-- the lowest bit of their sum is the sum of the lowest bits
low_join : (n a b : ℕ) → Apart (suc n) a b → (a + b) % 2 ≡ a % 2 + b % 2
low_join n a b apart = omega (arith, low_apart n a b apart, one_if_le (member 0 a || member 0 b))

-- the half of their sum is the sum of the halves
half_join : (n a b : ℕ) → Apart (suc n) a b → (a + b) / 2 ≡ a / 2 + b / 2
half_join n a b apart = omega (arith, low_apart n a b apart, one_if_le (member 0 a || member 0 b))

-- their union is their sum
pub member_join : (i n a b : ℕ) → a < 2 ^ n → b < 2 ^ n → Apart n a b → i < n → member i (a + b) ≡ (member i a || member i b)
member_join i zero a b a< b< apart h = absurd (omega arith)
member_join zero (suc n) a b a< b< apart h = low_member (a + b) (member 0 a || member 0 b) (low_join n a b apart ∙ low_apart n a b apart)
member_join (suc i) (suc n) a b a< b< apart h =
    simp (member_suc, half_join n a b apart) (member_join i n (a / 2) (b / 2) (omega arith) (omega arith) (half_apart n a b apart) (omega arith))

-- the sum is a group
pub join_below : (n a b : ℕ) → a < 2 ^ n → b < 2 ^ n → Apart n a b → a + b < 2 ^ n
join_below zero a b a< b< apart = omega arith
join_below (suc n) a b a< b< apart =
    omega (arith, half_join n a b apart, join_below n (a / 2) (b / 2) (omega arith) (omega arith) (half_apart n a b apart))

-- ---- a part of a group, and the rest

-- `inside` as a statement
pub inside_member : (i n a g : ℕ) → inside n a g ≡ true → i < n → member i a ≡ true → member i g ≡ true
unfolding inside
inside_member i n a g h i< e = rw e at (all_mem (λ j. not (member j a) || member j g) (mem_range 0 n i (omega arith) (omega arith)) h)

-- and conversely
pub member_inside : (n a g : ℕ) → ((i : ℕ) → i < n → member i a ≡ true → member i g ≡ true) → inside n a g ≡ true
unfolding inside
member_inside n a g h =
    mem_all (λ i. not (member i a) || member i g) (range 0 n) λ i in_range.
    let between = range_mem 0 n i in_range in go (member i a) (member i g) (h i (omega arith))
  where
    go : (s t : Bool) → (s ≡ true → t ≡ true) → (not s || t) ≡ true
    go true t f = f refl
    go false t f = refl

-- if s implies t, then t is s plus what s leaves of t
bits_rest : (s t : Bool) → (s ≡ true → t ≡ true) → one_where t ≡ one_where s + one_where (t && not s)
bits_rest true true f = refl
bits_rest true false f = absurd (false≢true (f refl))
bits_rest false true f = refl
bits_rest false false f = refl

-- the lowest bits of a part and its group
low_inside : (n a g : ℕ) → inside (suc n) a g ≡ true → g % 2 ≡ a % 2 + one_where (member 0 g && not (member 0 a))
low_inside n a g h =
    rw (low_bit g, low_bit a) (bits_rest (member 0 a) (member 0 g) (inside_member 0 (suc n) a g h (omega arith)))

-- the half of a part is a part of the half
half_inside : (n a g : ℕ) → inside (suc n) a g ≡ true → inside n (a / 2) (g / 2) ≡ true
half_inside n a g h =
    member_inside n (a / 2) (g / 2) λ i i< e.
    rw member_suc at (inside_member (suc i) (suc n) a g h (omega arith) (member_suc i a ∙ e))

-- a part's number is at most its group's
pub inside_le : (n a g : ℕ) → a < 2 ^ n → g < 2 ^ n → inside n a g ≡ true → a ≤ g
inside_le zero a g a< g< h = omega arith
inside_le (suc n) a g a< g< h =
    omega (arith, low_inside n a g h, inside_le n (a / 2) (g / 2) (omega arith) (omega arith) (half_inside n a g h))

-- the rest, by subtraction, has the other members
pub member_rest : (i n a g : ℕ) → a < 2 ^ n → g < 2 ^ n → inside n a g ≡ true → i < n → member i (g - a) ≡ (member i g && not (member i a))
member_rest i zero a g a< g< h i< = absurd (omega arith)
member_rest zero (suc n) a g a< g< h i< =
    low_member (g - a) (member 0 g && not (member 0 a)) (omega (arith, low_inside n a g h, inside_le (suc n) a g a< g< h))
member_rest (suc i) (suc n) a g a< g< h i< =
    let half : (g - a) / 2 ≡ g / 2 - a / 2 = omega (arith, low_inside n a g h, inside_le (suc n) a g a< g< h) in
    simp (member_suc, half) (member_rest i n (a / 2) (g / 2) (omega arith) (omega arith) (half_inside n a g h) (omega arith))

-- a part and the rest share no input
pub rest_apart : (n a g : ℕ) → a < 2 ^ n → g < 2 ^ n → inside n a g ≡ true → Apart n a (g - a)
rest_apart n a g a< g< h i i< = ap (λ t. member i a && t) (member_rest i n a g a< g< h i<) ∙ go (member i a) (member i g)
  where
    go : (s t : Bool) → (s && (t && not s)) ≡ false
    go true t = and-false t
    go false t = refl

-- the parts of a joined group are inside it
pub inside_join : (n a b : ℕ) → a < 2 ^ n → b < 2 ^ n → Apart n a b → inside n a (a + b) ≡ true
inside_join n a b a< b< apart =
    member_inside n a (a + b) λ i i< e. member_join i n a b a< b< apart i< ∙ ap (λ t. t || member i b) e

-- the other inputs are all those outside the group
pub member_others : (i n g : ℕ) → i < n → g < 2 ^ n → member i (others n g) ≡ not (member i g)
unfolding others
member_others i n g h g< =
    member_rest i n g (whole_group n) g< (whole_below n) (member_inside n g (whole_group n) (λ j j< e. member_whole j n j<)) h
    ∙ ap (λ t. t && not (member i g)) (member_whole i n h)

-- the other inputs are a group
pub others_below : (n g : ℕ) → others n g < 2 ^ n
unfolding others
others_below n g = omega (arith, whole_below n)

-- ---- sizes

-- the lowest bit, and the size of the half
pub size_suc : (n g : ℕ) → size (suc n) g ≡ g % 2 + size n (g / 2)
unfolding size range
size_suc n g = simp (count_cons (λ i. member i g) 0, range_shift 0 n, count_map suc (λ i. member i g), low_bit g, member_suc)

-- the empty group has no member
pub size_zero : (n : ℕ) → size n 0 ≡ 0
unfolding size those range
size_zero zero = refl
size_zero (suc n) = rw size_suc (omega (arith, size_zero n))

-- one input is one member
pub size_single : (i n : ℕ) → i < n → size n (2 ^ i) ≡ 1
size_single i zero h = absurd (omega arith)
size_single zero (suc n) h = omega (arith, size_suc n 1, size_zero n)
size_single (suc i) (suc n) h = rw (size_suc, pow_half) (omega (arith, size_single i n (omega arith)))

-- the whole group has every input
pub size_whole : (n : ℕ) → size n (whole_group n) ≡ n
unfolding size those range
size_whole zero = refl
size_whole (suc n) = rw (size_suc, whole_half, whole_low) (omega (arith, size_whole n))

-- the sizes of two groups that share no input add up
pub size_join : (n a b : ℕ) → a < 2 ^ n → b < 2 ^ n → Apart n a b → size n (a + b) ≡ size n a + size n b
unfolding size those range
size_join zero a b a< b< apart = refl
size_join (suc n) a b a< b< apart =
    simp (size_suc, half_join n a b apart)
    (omega (arith, low_join n a b apart, size_join n (a / 2) (b / 2) (omega arith) (omega arith) (half_apart n a b apart)))

-- there are n minus the group's size other inputs
pub size_others : (n g : ℕ) → g < 2 ^ n → size n (others n g) ≡ n - size n g
unfolding others whole_group
size_others n g g< =
    let apart : Apart n g (others n g) =
    rest_apart n g (whole_group n) g< (whole_below n) (member_inside n g (whole_group n) (λ j j< e. member_whole j n j<)) in
    let all : g + others n g ≡ whole_group n = omega arith in
    omega (arith, size_join n g (others n g) g< (others_below n g) apart, ap (size n) all, size_whole n)

-- a group has at most all inputs
pub size_le : (n g : ℕ) → size n g ≤ n
unfolding size those range
size_le zero g = omega arith
size_le (suc n) g = omega (arith, size_suc n g, size_le n (g / 2))

-- only the empty group has no member
size_empty : (n g : ℕ) → g < 2 ^ n → size n g ≡ 0 → g ≡ 0
size_empty zero g g< h = omega arith
size_empty (suc n) g g< h = omega (arith, size_empty n (g / 2) (omega arith) (omega (arith, size_suc n g)), size_suc n g)

-- a group that is not empty has a member
pub size_pos : (n g : ℕ) → g < 2 ^ n → 0 < g → 0 < size n g
size_pos n g g< h = go (size n g) (size_empty n g g<)
  where
    go : (k : ℕ) → (k ≡ 0 → g ≡ 0) → 0 < k
    go zero f = omega (arith, f refl)
    go (suc k) f = omega arith

-- ---- the first-listed member

-- input 0 if it is a member
pub first_odd : (n g : ℕ) → member 0 g ≡ true → first_input (suc n) g ≡ 0
unfolding first_input range
first_odd n g e = first_cons (λ i. member i g) 0 (range 1 n) ∙ rw e

-- otherwise the half's, shifted by one place
pub first_even : (n g : ℕ) → member 0 g ≡ false → first_input (suc n) g ≡ suc (first_input n (g / 2))
unfolding first_input range
first_even n g e = first_cons (λ i. member i g) 0 (range 1 n) ∙ simp (e, range_shift 0 n, first_map suc (λ i. member i g), member_suc)

-- a group of one member is that member's power of two
pub size_one : (n g : ℕ) → g < 2 ^ n → size n g ≡ 1 → (first_input n g < n) × (g ≡ 2 ^ first_input n g)
size_one zero g g< h = absurd (omega (arith, size_le 0 g))
size_one (suc n) g g< h = test_cases (member 0 g)
    (λ e.
    let low : g % 2 ≡ 1 = low_bit g ∙ ap one_where e in
    rw (first_odd n g e) (omega (arith, size_empty n (g / 2) (omega arith) (omega (arith, size_suc n g)))))
    (λ e.
    let low : g % 2 ≡ 0 = low_bit g ∙ ap one_where e in
    rw (first_even n g e) (omega (arith, size_one n (g / 2) (omega arith) (omega (arith, size_suc n g)))))

-- the first-listed member of a group that is not empty
pub first_member : (n g : ℕ) → g < 2 ^ n → 0 < g → (first_input n g < n) × (member (first_input n g) g ≡ true)
first_member zero g g< h = absurd (omega arith)
first_member (suc n) g g< h = test_cases (member 0 g)
    (λ e. rw (first_odd n g e) (omega arith, e))
    (λ e.
    let low : g % 2 ≡ 0 = low_bit g ∙ ap one_where e in
    let (below, is) = first_member n (g / 2) (omega arith) (omega arith) in
    rw (first_even n g e) (omega arith, member_suc (first_input n (g / 2)) g ∙ is))
