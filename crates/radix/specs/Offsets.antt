-- A group's assignments built from the last input to the first, as the code builds them: they are document 01's, and each is
-- small.
-- Assumes nothing.
use Rattle.std.specs.Prelude.{◌<◌, ◌≤◌, ◌+◌, ◌^◌, ◌*◌, ◌%◌, ◌/◌, ◌≡◌, ◌∷◌, ◌++◌}
use Rattle.laws.specs.Prelude.{ℕ, suc, zero, ◌∙◌, sym, ap, refl, subst, ap₂, subst⁻¹, true, false, Bool, List, []}
use Rattle.laws.specs.Prelude.{map, append-nil, map-map, map-id, zero-add, add-zero, zero-mul, mul-le-mul_right, pow-suc, suc-mul, pow-zero}
use Rattle.laws.specs.Prelude.{mod-lt, lt_of_lt_of_le, div-lt_iff_lt-mul, div-add-mod', mul_comm, mul-one, add_assoc, mul_assoc, add-mul, mul-zero}
use Rattle.laws.specs.Prelude.{add_comm, suc-add, add-suc, mul-le-mul_left, mul-suc, le-mul_of_pos_right, one-le-mul, arith, length, get_or, take}
use Rattle.laws.specs.Prelude.{length-append, length-map, get_or-append, take_at, get_or-append-add}
use Rattle.rules.specs.Lists.{range, concat_map}
use Rattle.rules.specs.Groups.Groups.{member, points}
use Rattle.laws.specs.Lists.Bounds.{Below, below_append, below_map, below_more}
use Rattle.laws.specs.Lists.Concat.{concat_append, concat_concat, concat_map_lem, map_concat, concat_same, map_same}
use Rattle.laws.specs.Lists.Places.{map_at}
use Rattle.laws.specs.Lists.Ranges.{range_suc, range_shift}

-- the offsets xs for each level of an input of weight w
unfoldable pub widened : ℕ → ℕ → List ℕ → List ℕ
widened m w xs = concat_map (λ l. map (λ x. l * w + x) xs) (range 0 m)

-- the assignments of the k inputs from input i on
unfoldable pub tail : ℕ → ℕ → ℕ → ℕ → List ℕ
tail m g i zero = 0 ∷ []
tail m g i (suc k) = elim (member i g) [ true ↦ widened m (m ^ k) (tail m g (suc i) k) | false ↦ tail m g (suc i) k ]

pub tail_member : (m g i k : ℕ) → member i g ≡ true → tail m g i (suc k) ≡ widened m (m ^ k) (tail m g (suc i) k)
unfolding tail
tail_member m g i k e = rw (e, tail)

pub tail_other : (m g i k : ℕ) → member i g ≡ false → tail m g i (suc k) ≡ tail m g (suc i) k
unfolding tail
tail_other m g i k e = rw (e, tail)

-- ---- they are document 01's

-- each p of a list, times w, plus each of some offsets
spread : ℕ → List ℕ → List ℕ → List ℕ
spread w xs ps = concat_map (λ p. map (λ x. p * w + x) xs) ps

one_more : (m p l w x : ℕ) → (p * m + l) * w + x ≡ p * (w * m) + (l * w + x)
one_more m p l w x =
    ap (λ (k : ℕ). k + x) (add-mul (p * m) l w ∙ ap (λ (k : ℕ). k + l * w) (mul_assoc p m w ∙ ap (λ (k : ℕ). p * k) (mul_comm m w)))
    ∙ add_assoc (p * (w * m)) (l * w) x

-- an input that is a member: its levels move from the front to the offsets
spread_member : (m w : ℕ) (xs ps : List ℕ)
    → spread w xs (concat_map (λ p. map (λ l. p * m + l) (range 0 m)) ps) ≡ spread (w * m) (widened m w xs) ps
unfolding spread widened
spread_member m w xs ps =
    concat_concat (λ p. map (λ l. p * m + l) (range 0 m)) (λ p. map (λ x. p * w + x) xs) ps
    ∙ concat_same _ _
    (λ p. concat_map_lem (λ l. p * m + l) (λ q. map (λ x. q * w + x) xs) (range 0 m)
    ∙ concat_same _ _
    (λ l. map_same _ _ (one_more m p l w) xs ∙ sym (map-map (λ y. p * (w * m) + y) (λ x. l * w + x) xs))
    (range 0 m)
    ∙ sym (map_concat (λ l. map (λ x. l * w + x) xs) (λ y. p * (w * m) + y) (range 0 m)))
    ps

-- an input that is not a member does not change the offsets
spread_other : (m w : ℕ) (xs ps : List ℕ) → spread w xs (concat_map (λ p. p * m ∷ []) ps) ≡ spread (w * m) xs ps
unfolding spread concat_map
spread_other m w xs ps =
    concat_concat (λ p. p * m ∷ []) (λ p. map (λ x. p * w + x) xs) ps
    ∙ concat_same _ _
    (λ p. append-nil (map (λ x. p * m * w + x) xs)
    ∙ map_same _ _ (λ x. ap (λ (k : ℕ). k + x) (mul_assoc p m w ∙ ap (λ (k : ℕ). p * k) (mul_comm m w))) xs)
    ps

spread_none : (ps : List ℕ) → spread 1 (0 ∷ []) ps ≡ ps
unfolding spread concat_map
spread_none [] = refl
spread_none (p ∷ ps) = λ i. (ap (λ (k : ℕ). k + 0) (mul-one p) ∙ add-zero p) i ∷ spread_none ps i

spread_step : (m g i k : ℕ) (xs : List ℕ) (t : Bool) → member i g ≡ t
    → spread (m ^ k) xs (points m (suc i) g)
    ≡ spread (m ^ k * m) (elim (member i g) [ true ↦ widened m (m ^ k) xs | false ↦ xs ]) (points m i g)
unfolding points
spread_step m g i k xs true e = rw e (spread_member m (m ^ k) xs (points m i g))
spread_step m g i k xs false e = rw e (spread_other m (m ^ k) xs (points m i g))

-- the assignments of all inputs are those of the first i, each combined with those of the k inputs from i on
points_spread : (m g i k : ℕ) → points m (i + k) g ≡ spread (m ^ k) (tail m g i k) (points m i g)
unfolding tail
points_spread m g i zero =
    ap (λ (j : ℕ). points m j g) (add-zero i) ∙ sym (spread_none (points m i g)) ∙ ap (λ (w : ℕ). spread w (0 ∷ []) (points m i g)) (sym (pow-zero m))
points_spread m g i (suc k) =
    ap (λ (j : ℕ). points m j g) (add-suc i k ∙ sym (suc-add i k))
    ∙ points_spread m g (suc i) k
    ∙ spread_step m g i k (tail m g (suc i) k) (member i g) refl
    ∙ ap (λ (w : ℕ). spread w (tail m g i (suc k)) (points m i g)) (sym (pow-suc m k))

-- The code's list is document 01's.
pub points_tail : (m n g : ℕ) → points m n g ≡ tail m g 0 n
unfolding points spread concat_map
points_tail m n g =
    ap (λ (k : ℕ). points m k g) (sym (zero-add n))
    ∙ points_spread m g 0 n
    ∙ append-nil (map (λ x. 0 * m ^ n + x) (tail m g 0 n))
    ∙ map_same _ _ (λ x. ap (λ (k : ℕ). k + x) (zero-mul (m ^ n)) ∙ zero-add x) (tail m g 0 n)
    ∙ map-id (tail m g 0 n)

-- ---- widening, entry by entry

-- the blocks of some levels from l on
blocks : ℕ → List ℕ → ℕ → ℕ → List ℕ
blocks w xs l count = concat_map (λ l. map (λ x. l * w + x) xs) (range l count)

blocks_shift : (w : ℕ) (xs : List ℕ) (l count : ℕ) → blocks w xs (suc l) count ≡ map (λ y. y + w) (blocks w xs l count)
unfolding blocks
blocks_shift w xs l count =
    ap (concat_map (λ l. map (λ x. l * w + x) xs)) (range_shift l count)
    ∙ concat_map_lem suc (λ l. map (λ x. l * w + x) xs) (range l count)
    ∙ concat_same _ _
    (λ k. map_same _ _ (λ x. ap (λ (j : ℕ). j + x) (suc-mul k w) ∙ omega arith) xs ∙ sym (map-map (λ y. y + w) (λ x. k * w + x) xs))
    (range l count)
    ∙ sym (map_concat (λ l. map (λ x. l * w + x) xs) (λ y. y + w) (range l count))

blocks_length : (w : ℕ) (xs : List ℕ) (l count : ℕ) → length (blocks w xs l count) ≡ count * length xs
unfolding blocks concat_map range
blocks_length w xs l zero = sym (zero-mul (length xs))
blocks_length w xs l (suc count) =
    length-append (map (λ x. l * w + x) xs) (blocks w xs (suc l) count)
    ∙ ap₂ (λ (a b : ℕ). a + b) (length-map xs (λ x. l * w + x)) (blocks_length w xs (suc l) count)
    ∙ omega (arith, suc-mul count (length xs))

pub widened_length : (m w : ℕ) (xs : List ℕ) → length (widened m w xs) ≡ length xs * m
unfolding widened blocks
widened_length m w xs = blocks_length w xs 0 m ∙ mul_comm m (length xs)

-- the first block is xs itself
pub widened_front : (m w : ℕ) (xs : List ℕ) → 0 < m → take (length xs) (widened m w xs) ≡ xs
unfolding widened concat_map range
widened_front zero w xs h = absurd (omega arith)
widened_front (suc m) w xs h =
    take_at (map (λ x. 0 * w + x) xs) (concat_map (λ l. map (λ x. l * w + x) xs) (range 1 m)) (length xs) (length-map xs (λ x. 0 * w + x))
    ∙ map_same _ _ (λ x. ap (λ (k : ℕ). k + x) (zero-mul w) ∙ zero-add x) xs
    ∙ map-id xs

blocks_last : (w : ℕ) (xs : List ℕ) (m : ℕ) → blocks w xs 0 (suc m) ≡ blocks w xs 0 m ++ concat_map (λ l. map (λ x. l * w + x) xs) (m ∷ [])
unfolding blocks
blocks_last w xs m =
    ap (concat_map (λ l. map (λ x. l * w + x) xs)) (range_suc 0 m ∙ ap {B = List ℕ} (λ (k : ℕ). range 0 m ++ (k ∷ [])) (zero-add m))
    ∙ concat_append (λ l. map (λ x. l * w + x) xs) (range 0 m) (m ∷ [])

one_block : (l w x : ℕ) → x < w → l * w + x < suc l * w
one_block l w x h = omega (arith, suc-mul l w)

-- and each further entry is the one a block earlier, plus w
pub widened_step : (m w : ℕ) (xs : List ℕ) (j : ℕ) → length xs + j < length xs * m
    → get_or (widened m w xs) (length xs + j) 0 ≡ get_or (widened m w xs) j 0 + w
unfolding widened blocks concat_map range
widened_step zero w xs j h = absurd (omega (arith, mul-zero (length xs)))
widened_step (suc m) w xs j h =
    let first : List ℕ = map (λ x. 0 * w + x) xs in
    let inside : j < length (blocks w xs 0 m) = omega (arith, blocks_length w xs 0 m, mul-suc (length xs) m, mul_comm m (length xs)) in
    ap (λ (k : ℕ). get_or (first ++ blocks w xs 1 m) (k + j) 0) (sym (length-map xs (λ x. 0 * w + x)))
    ∙ get_or-append-add first (blocks w xs 1 m) j 0
    ∙ ap (λ (l : List ℕ). get_or l j 0) (blocks_shift w xs 0 m)
    ∙ map_at (λ y. y + w) (blocks w xs 0 m) j 0 0 inside
    ∙ ap (λ (k : ℕ). k + w)
    (sym (get_or-append (blocks w xs 0 m) (concat_map (λ l. map (λ x. l * w + x) xs) (m ∷ [])) 0 j inside)
    ∙ ap (λ (l : List ℕ). get_or l j 0) (sym (blocks_last w xs m)))

-- an entry by its block and its place there
blocks_at : (w : ℕ) (xs : List ℕ) (l count k j : ℕ) → k < count → j < length xs → get_or (blocks w xs l count) (k * length xs + j) 0 ≡ get_or xs j 0 + (l + k) * w
unfolding blocks concat_map range
blocks_at w xs l zero k j k< j< = absurd (omega arith)
blocks_at w xs l (suc count) zero j k< j< =
    ap (λ (i : ℕ). get_or (first ++ blocks w xs (suc l) count) (i + j) 0) (zero-mul (length xs))
    ∙ ap (λ (i : ℕ). get_or (first ++ blocks w xs (suc l) count) i 0) (zero-add j)
    ∙ get_or-append first (blocks w xs (suc l) count) 0 j (omega (arith, length-map xs (λ x. l * w + x)))
    ∙ map_at (λ x. l * w + x) xs j 0 0 j<
    ∙ add_comm (l * w) (get_or xs j 0)
    ∙ ap (λ (i : ℕ). get_or xs j 0 + i * w) (sym (add-zero l))
  where
    first : List ℕ
    first = map (λ x. l * w + x) xs
blocks_at w xs l (suc count) (suc k) j k< j< =
    ap (λ (i : ℕ). get_or (first ++ blocks w xs (suc l) count) i 0) place
    ∙ get_or-append-add first (blocks w xs (suc l) count) (k * length xs + j) 0
    ∙ blocks_at w xs (suc l) count k j (omega arith) j<
    ∙ ap (λ (i : ℕ). get_or xs j 0 + i * w) (omega arith)
  where
    first : List ℕ
    first = map (λ x. l * w + x) xs

    place : suc k * length xs + j ≡ length first + (k * length xs + j)
    place = omega (arith, suc-mul k (length xs), length-map xs (λ x. l * w + x))

pub widened_at : (m w : ℕ) (xs : List ℕ) (k : ℕ) → k < length xs * m → get_or (widened m w xs) k 0 ≡ get_or xs (k % length xs) 0 + k / length xs * w
unfolding widened blocks
widened_at m w [] k h = absurd (omega (arith, zero-mul m))
widened_at m w (x ∷ xs) k h =
    ap (λ (i : ℕ). get_or (blocks w (x ∷ xs) 0 m) i 0) (sym (div-add-mod' k count))
    ∙ blocks_at w (x ∷ xs) 0 m (k / count) (k % count) ((div-lt_iff_lt-mul some).1 (omega (arith, mul_comm count m))) (mod-lt k some)
    ∙ ap (λ (i : ℕ). get_or (x ∷ xs) (k % count) 0 + i * w) (zero-add (k / count))
  where
    count : ℕ
    count = length (x ∷ xs)

    some : 0 < count
    some = omega arith

-- every entry is small
blocks_below : (w : ℕ) (xs : List ℕ) → Below w xs → (m l count : ℕ) → l + count ≤ m → Below (w * m) (blocks w xs l count)
unfolding blocks concat_map range
blocks_below w xs small m l zero h = tt
blocks_below w xs small m l (suc count) h =
    below_append (w * m) (map (λ x. l * w + x) xs) (blocks w xs (suc l) count)
    (below_map w (w * m) (λ x. l * w + x)
    (λ x k. lt_of_lt_of_le (subst (λ (y : ℕ). l * w + x < y) (mul_comm (suc l) w) (one_block l w x k)) (mul-le-mul_left w (omega arith)))
    xs small)
    (blocks_below w xs small m (suc l) count (omega arith))

pub widened_below : (m w : ℕ) (xs : List ℕ) → Below w xs → Below (w * m) (widened m w xs)
unfolding widened blocks
widened_below m w xs small = blocks_below w xs small m 0 m (omega arith)

-- a weight is at most the next one
weight_grows : (m k : ℕ) → 0 < m → m ^ k ≤ m ^ suc k
weight_grows m k pos = subst (λ (x : ℕ). m ^ k ≤ x) (sym (pow-suc m k)) (le-mul_of_pos_right (m ^ k) pos)

pub tail_below : (m g i k : ℕ) → 0 < m → Below (m ^ k) (tail m g i k)
unfolding tail
tail_below m g i zero pos = (subst (λ (x : ℕ). 0 < x) (sym (pow-zero m)) (omega arith), tt)
tail_below m g i (suc k) pos = step (member i g) refl (tail_below m g (suc i) k pos)
  where
    step : (t : Bool) → member i g ≡ t → Below (m ^ k) (tail m g (suc i) k) → Below (m ^ suc k) (tail m g i (suc k))
    step true e h = subst⁻¹ (Below (m ^ suc k)) (tail_member m g i k e) (rw (pow-suc m k) (widened_below m (m ^ k) (tail m g (suc i) k) h))
    step false e h = subst⁻¹ (Below (m ^ suc k)) (tail_other m g i k e) (below_more (m ^ k) (m ^ suc k) (weight_grows m k pos) (tail m g (suc i) k) h)

-- there is at least one, and at most one for each combination of levels
pub tail_length : (m g i k : ℕ) → 0 < m → (0 < length (tail m g i k)) × (length (tail m g i k) ≤ m ^ k)
unfolding tail
tail_length m g i zero pos = (omega arith, subst (λ (x : ℕ). 1 ≤ x) (sym (pow-zero m)) (omega arith))
tail_length m g i (suc k) pos = step (member i g) refl (tail_length m g (suc i) k pos)
  where
    step : (t : Bool) → member i g ≡ t → (0 < length (tail m g (suc i) k)) × (length (tail m g (suc i) k) ≤ m ^ k)
        → (0 < length (tail m g i (suc k))) × (length (tail m g i (suc k)) ≤ m ^ suc k)
    step true e h =
        let l : length (tail m g i (suc k)) ≡ length (tail m g (suc i) k) * m =
        ap length (tail_member m g i k e) ∙ widened_length m (m ^ k) (tail m g (suc i) k) in (
          subst⁻¹ (λ (x : ℕ). 0 < x) l (one-le-mul h.0 pos),
          subst⁻¹ (λ (x : ℕ). x ≤ m ^ suc k) l (subst⁻¹ (λ (x : ℕ). length (tail m g (suc i) k) * m ≤ x) (pow-suc m k) (mul-le-mul_right m h.1)),
        )
    step false e h =
        let l : length (tail m g i (suc k)) ≡ length (tail m g (suc i) k) = ap length (tail_other m g i k e) in
        (omega arith, omega (arith, weight_grows m k pos))
