-- The list of a group's assignments.
-- Assumes nothing.
use Rattle.std.specs.Prelude.{◌<◌, ◌+◌, ◌-◌, ◌^◌, ◌*◌, ◌%◌, ◌/◌, ◌≡◌, ◌⊎◌, ◌∷◌, ◌++◌}
use Rattle.laws.specs.Prelude.{ℕ, suc, zero, ◌∙◌, sym, ap, refl, fun_ext, inl, inr, true, false, Bool, cond}
use Rattle.laws.specs.Prelude.{List, [], map, Memᴰ, mem_head, mem_not_nil, mem_tail, mem_append_cases}
use Rattle.laws.specs.Prelude.{mem_eq_of_singleton, zero-add, add-zero, zero-mul, pow-suc, suc-mul, pow-zero, mod-lt, lt_of_lt_of_le, div-lt_iff_lt-mul}
use Rattle.laws.specs.Prelude.{div-add-mod', le_refl, one-mul, add_comm, le_of_suc-le-suc, not-suc-le-zero, le_step, add-lt-add_of_le_of_lt, div-mul-le_self}
use Rattle.laws.specs.Prelude.{le-add_right, arith, length, get_or, digits_mod, digits_div, pow-add}
use Rattle.rules.specs.Groups.Groups.{member, part, points, size, whole_group}
use Rattle.rules.specs.Lists.{range, concat_map, those}
use Rattle.laws.specs.Lists.Places.{mem_get_or}
use Rattle.laws.specs.Lists.Concat.{concat_length, mem_concat, concat_mem}
use Rattle.laws.specs.Lists.Ranges.{range_length, range_append, range_suc, map_range, mem_range, range_mem}
use Rattle.laws.specs.Lists.Counts.{count_cons, count_append}
use Rattle.trees.specs.Groups.Levels.{part_below}
use Rattle.trees.specs.Groups.Members.{member_whole, member_zero}

-- ---- one more input: each assignment extends to a range of them

-- how many levels one more input takes
abbrev choices : ℕ → Bool → ℕ
choices m c = cond c m 1

-- the extensions of an assignment
abbrev block : ℕ → Bool → ℕ → List ℕ
block m c p = range (p * m) (choices m c)

-- a group's assignments with one more input
points_suc : (m n g : ℕ) → points m (suc n) g ≡ concat_map (block m (member n g)) (points m n g)
unfolding points range
points_suc m n g = ap (λ f. concat_map f (points m n g)) (fun_ext (same (member n g)))
  where
    same : (c : Bool) (p : ℕ) → elim c as (λ _. List ℕ) [ true ↦ map (λ l. p * m + l) (range 0 m) | false ↦ p * m ∷ [] ] ≡ block m c p
    same true p = map_range (p * m) 0 m ∙ ap (λ a. range a m) (add-zero (p * m))
    same false p = refl

-- ---- an assignment of the group equals its own part

-- the last digit of a part is one of the choices, ..
digit_choice : (m : ℕ) → 0 < m → (c : Bool) (p : ℕ) → cond c (p % m) 0 < choices m c
digit_choice m pos true p = mod-lt p pos
digit_choice m pos false p = le_refl 1

-- .. and each choice is such a digit
choice_digit : (m : ℕ) → 0 < m → (c : Bool) (d : ℕ) → d < choices m c → (d < m) × (cond c d 0 ≡ d)
choice_digit m pos true d h = (h, refl)
choice_digit m pos false d h = omega arith

-- an index in a block, by its digits
block_mem : (m : ℕ) → 0 < m → (c : Bool) (r q : ℕ) → Memᴰ q (block m c r) → (q / m ≡ r) × (cond c (q % m) 0 ≡ q % m)
block_mem m pos c r q i =
    let b = range_mem (r * m) (choices m c) q i in
    digits (q - r * m) (omega arith) (choice_digit m pos c (q - r * m) (omega arith))
  where
    digits : (d : ℕ) → q ≡ r * m + d → (d < m) × (cond c d 0 ≡ d) → (q / m ≡ r) × (cond c (q % m) 0 ≡ q % m)
    digits d e l = rw (e, digits_div r l.0, digits_mod r l.0) (refl, l.1)

-- the part of an index in the group is one of its assignments
pub part_in_points : (m n : ℕ) → 0 < m → (g p : ℕ) → Memᴰ (part m n g p) (points m n g)
unfolding part points
part_in_points m zero pos g p = mem_head refl
part_in_points m (suc n) pos g p =
    rw points_suc
    (mem_concat (block m (member n g)) (part_in_points m n pos g (p / m))
    (mem_range (part m n g (p / m) * m) (choices m (member n g)) _ (le-add_right _ _)
    (add-lt-add_of_le_of_lt (le_refl (part m n g (p / m) * m)) (digit_choice m pos (member n g) p))))

-- an assignment of the group equals its own part
points_fixed : (m n : ℕ) → 0 < m → (g q : ℕ) → Memᴰ q (points m n g) → part m n g q ≡ q
unfolding part points
points_fixed m zero pos g q h = sym (mem_eq_of_singleton h)
points_fixed m (suc n) pos g q h =
    let s = concat_mem (block m (member n g)) (points m n g) (rw points_suc at h) in
    let fixed = points_fixed m n pos g s.0 s.1 in
    let digits = block_mem m pos (member n g) s.0 q s.2 in
    cc (div-add-mod' q m)

-- ---- their order

-- each number is below all later ones
abbrev Rising : List ℕ → Type 0
Rising [] = Unit {0}
Rising (x ∷ xs) = ((y : ℕ) → Memᴰ y xs → x < y) × Rising xs

-- by place, a later number is larger
rising_get_or : (xs : List ℕ) → Rising xs → (i j : ℕ) → i < j → j < length xs → get_or xs i 0 < get_or xs j 0
rising_get_or [] r i j h k = absurd (not-suc-le-zero k)
rising_get_or (x ∷ xs) r zero zero h k = absurd (not-suc-le-zero h)
rising_get_or (x ∷ xs) r zero (suc j) h k = r.0 (get_or xs j 0) (mem_get_or xs j 0 (le_of_suc-le-suc k))
rising_get_or (x ∷ xs) r (suc i) zero h k = absurd (not-suc-le-zero h)
rising_get_or (x ∷ xs) r (suc i) (suc j) h k = rising_get_or xs r.1 i j (le_of_suc-le-suc h) (le_of_suc-le-suc k)

-- two rising lists, with the first below the second
rising_append : (xs ys : List ℕ) → Rising xs → Rising ys → ((x y : ℕ) → Memᴰ x xs → Memᴰ y ys → x < y) → Rising (xs ++ ys)
rising_append [] ys rx ry h = ry
rising_append (x ∷ xs) ys rx ry h = ((λ y i. go y (mem_append_cases xs i)), rising_append xs ys rx.1 ry (λ z y i. h z y (mem_tail i)))
  where
    go : (y : ℕ) → Memᴰ y xs ⊎ Memᴰ y ys → x < y
    go y (inl i) = rx.0 y i
    go y (inr i) = h x y (mem_head refl) i

-- a range rises
rising_range : (a k : ℕ) → Rising (range a k)
unfolding range
rising_range a zero = tt
rising_range a (suc k) = ((λ y i. (range_mem (suc a) k y i).0), rising_range (suc a) k)

-- a block of a lower assignment is below one of a higher
lt_of_div_lt : (m a b : ℕ) → 0 < m → a / m < b / m → a < b
lt_of_div_lt m a b pos h = lt_of_lt_of_le ((div-lt_iff_lt-mul pos).0 h) (div-mul-le_self b m)

-- the blocks of a rising list rise
rising_blocks : (m : ℕ) → 0 < m → (c : Bool) (xs : List ℕ) → Rising xs → Rising (concat_map (block m c) xs)
unfolding concat_map
rising_blocks m pos c [] r = tt
rising_blocks m pos c (x ∷ xs) r =
    rising_append (block m c x) (concat_map (block m c) xs) (rising_range (x * m) (choices m c)) (rising_blocks m pos c xs r.1)
    (λ a b i j. apart a b i (concat_mem (block m c) xs j))
  where
    apart : (a b : ℕ) → Memᴰ a (block m c x) → (z : ℕ) × Memᴰ z xs × Memᴰ b (block m c z) → a < b
    apart a b i s = lt_of_div_lt m a b pos (rw ((block_mem m pos c x a i).0, (block_mem m pos c s.0 b s.2).0) (r.0 s.0 s.1))

-- a group's assignments rise
rising_points : (m n : ℕ) → 0 < m → (g : ℕ) → Rising (points m n g)
unfolding points
rising_points m zero pos g = ((λ y i. absurd (mem_not_nil i)), tt)
rising_points m (suc n) pos g = rw points_suc (rising_blocks m pos (member n g) (points m n g) (rising_points m n pos g))

-- ---- their number

-- one more input adds at most one member
size_last : (n g : ℕ) → size (suc n) g ≡ size n g + cond (member n g) 1 0
unfolding size those
size_last n g = rw (range_suc, count_append, count_cons, zero-add) (omega arith)

-- one more member multiplies the number of assignments by m
pow_choice : (m : ℕ) (c : Bool) → m ^ cond c 1 0 ≡ choices m c
pow_choice m true = pow-suc m 0 ∙ ap (λ x. x * m) (pow-zero m) ∙ one-mul m
pow_choice m false = pow-zero m

-- there are m to the number of members
pub points_length : (m n : ℕ) → 0 < m → (g : ℕ) → length (points m n g) ≡ m ^ size n g
unfolding points size those range
points_length m zero pos g = sym (pow-zero m)
points_length m (suc n) pos g =
    rw (
      points_suc,
      concat_length (block m (member n g)) (choices m (member n g)) (λ p. range_length (p * m) _),
      points_length m n pos g,
      size_last,
      pow-add,
      pow_choice,
    )

-- ---- the assignments of the whole group and of the empty group

-- the blocks over a range are a range
blocks_range : (m a k : ℕ) → concat_map (block m true) (range a k) ≡ range (a * m) (k * m)
unfolding concat_map range
blocks_range m a zero = rw zero-mul
blocks_range m a (suc k) = rw (blocks_range m (suc a) k, suc-mul k m, add_comm (k * m) m, range_append, suc-mul a m)

-- the assignments of a group with every input are all indices
points_full : (m n g : ℕ) → ((i : ℕ) → i < n → member i g ≡ true) → points m n g ≡ range 0 (m ^ n)
unfolding points range
points_full m zero g e = rw pow-zero
points_full m (suc n) g e =
    rw (points_suc, points_full m n g (λ i h. e i (le_step h)), e n (le_refl (suc n)), pow-suc, blocks_range, zero-mul)

-- the empty group has one assignment
pub points_empty : (m n : ℕ) → 0 < m → points m n 0 ≡ 0 ∷ []
unfolding points concat_map range
points_empty m zero pos = refl
points_empty m (suc n) pos = rw (points_suc, points_empty m n pos, member_zero, zero-mul)

module _ (m n : ℕ) (pos : 0 < m) where
  -- an assignment of the group equals its own part
  pub points_are_parts : (g q : ℕ) → Memᴰ q (points m n g) → (part m n g q ≡ q) × (q < m ^ n)
  points_are_parts g q h = let e = points_fixed m n pos g q h in (e, rw e at (part_below m n pos g q))

  -- the whole group's assignments are all indices, in order
  pub points_whole : points m n (whole_group n) ≡ range 0 (m ^ n)
  points_whole = points_full m n (whole_group n) (λ i h. member_whole i n h)

  -- they are counted upward
  pub points_rise : (g i j : ℕ) → i < j → j < length (points m n g) → get_or (points m n g) i 0 < get_or (points m n g) j 0
  points_rise g = rising_get_or (points m n g) (rising_points m n pos g)
