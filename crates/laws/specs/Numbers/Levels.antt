-- The levels of an index, and their count: "The input levels count upward from all zeros, last input fastest."
-- Assumes nothing.
use Rattle.std.specs.Prelude.{◌<◌, ◌≤◌, ◌+◌, ◌-◌, ◌*◌, ◌%◌, ◌/◌, ◌≡◌, ◌&&◌, ◌∷◌, ◌++◌}
use Rattle.laws.specs.Prelude.{ℕ, suc, zero, ◌∙◌, sym, ap, refl, true, false, Bool, cond, and-false, List}
use Rattle.laws.specs.Prelude.{[], zero-add, suc-mul, pow-zero, mod-lt, div-add-mod', pow-succ', zero-div, div-div-eq-div-mul, div-one}
use Rattle.laws.specs.Prelude.{zero-mod, add-one, dec_le, arith, leb, length, get_or, take, drop, length-append, replicate, length-drop, take_at, le-leb}
use Rattle.laws.specs.Prelude.{lt-leb, digits_mod, digits_div}
use Rattle.rules.specs.Lists.{range}
use Rattle.rules.specs.Sheets.Sheets.{level, levels_at}
use Rattle.laws.specs.Lists.Concat.{map-append}
use Rattle.laws.specs.Lists.Ranges.{range_suc, map_range_length, map_range_at, map_range_same, map_range_all}

-- ---- the step of the count

-- is each the highest level?
unfoldable pub all_top : ℕ → List ℕ → Bool
all_top m [] = true
all_top m (l ∷ ls) = leb m (l + 1) && all_top m ls

-- A level changes when every later one is the highest: one up, and from the highest to 0.
unfoldable pub next_levels : ℕ → List ℕ → List ℕ
next_levels m [] = []
next_levels m (l ∷ ls) = cond (all_top m ls) (cond (leb m (l + 1)) 0 (l + 1)) l ∷ next_levels m ls

top_turn : (m : ℕ) (ls : List ℕ) (l : ℕ) → m ≤ l + 1 → all_top m (ls ++ (l ∷ [])) ≡ all_top m ls
unfolding all_top
top_turn m [] l h = simp (le-leb m (l + 1) h)
top_turn m (x ∷ ls) l h = ap (λ (b : Bool). leb m (x + 1) && b) (top_turn m ls l h)

top_up : (m : ℕ) (ls : List ℕ) (l : ℕ) → l + 1 < m → all_top m (ls ++ (l ∷ [])) ≡ false
unfolding all_top
top_up m [] l h = simp (lt-leb m (l + 1) h)
top_up m (x ∷ ls) l h = ap (λ (b : Bool). leb m (x + 1) && b) (top_up m ls l h) ∙ and-false (leb m (x + 1))

-- at the highest level the earlier ones change too, ..
pub next_turn : (m : ℕ) (ls : List ℕ) (l : ℕ) → m ≤ l + 1 → next_levels m (ls ++ (l ∷ [])) ≡ next_levels m ls ++ (0 ∷ [])
unfolding next_levels all_top
next_turn m [] l h = simp (le-leb m (l + 1) h)
next_turn m (x ∷ ls) l h = λ i. cond (top_turn m ls l h i) (cond (leb m (x + 1)) 0 (x + 1)) x ∷ next_turn m ls l h i

-- .. and below it they stay
pub next_up : (m : ℕ) (ls : List ℕ) (l : ℕ) → l + 1 < m → next_levels m (ls ++ (l ∷ [])) ≡ ls ++ ((l + 1) ∷ [])
unfolding next_levels all_top
next_up m [] l h = simp (lt-leb m (l + 1) h)
next_up m (x ∷ ls) l h = λ i. cond (top_up m ls l h i) (cond (leb m (x + 1)) 0 (x + 1)) x ∷ next_up m ls l h i

pub next_length : (m : ℕ) (ls : List ℕ) → length (next_levels m ls) ≡ length ls
unfolding next_levels
next_length m [] = refl
next_length m (l ∷ ls) = ap suc (next_length m ls)

-- ---- an index's levels

-- the last input's level is the lowest digit
pub level_last : (m n p : ℕ) → level m (suc n) p n ≡ p % m
unfolding level
level_last m n p = let e : suc n - 1 - n ≡ 0 = omega arith in rw (e, pow-zero, div-one)

-- the earlier inputs' levels are those of the index over m
pub level_front : (m n p i : ℕ) → i < n → level m (suc n) p i ≡ level m n (p / m) i
unfolding level
level_front m n p i h =
    let e : suc n - 1 - i ≡ suc (n - 1 - i) = omega arith in
    rw (e, pow-succ', ← div-div-eq-div-mul)

pub levels_length : (m n p : ℕ) → length (levels_at m n p) ≡ n
unfolding levels_at
levels_length m n p = map_range_length (level m n p) 0 n

pub levels_below : (m n p k : ℕ) → 0 < m → k < n → get_or (levels_at m n p) k 0 < m
unfolding levels_at level
levels_below m n p k pos h = rw (map_range_at (level m n p) 0 n k 0) (mod-lt _ pos)

-- so the levels are those of the index over m, and the lowest digit
pub levels_suc : (m n p : ℕ) → levels_at m (suc n) p ≡ levels_at m n (p / m) ++ (p % m ∷ [])
unfolding levels_at
levels_suc m n p =
    rw (range_suc, map-append, zero-add, level_last)
    (ap (λ (ls : List ℕ). ls ++ (p % m ∷ [])) (map_range_same (level m (suc n) p) (level m n (p / m)) 0 n (λ i _ h. level_front m n p i (omega arith))))

-- the count starts at all zeros
levels_first : (m n : ℕ) → levels_at m n 0 ≡ replicate n 0
unfolding levels_at level
levels_first m n = map_range_same (level m n 0) (λ _. 0) 0 n (λ i _ _. simp (zero-div, zero-mod)) ∙ map_range_all 0 0 n

take_replicate : {A : Type 0} (a : A) (n count : ℕ) → n ≤ count → take n (replicate count a) ≡ replicate n a
take_replicate a zero count h = refl
take_replicate a (suc n) zero h = absurd (omega arith)
take_replicate a (suc n) (suc count) h = ap {B = List _} (λ r. a ∷ r) (take_replicate a n count (omega arith))

-- so a list of zeros starts with the first levels
pub zeros_front : (m n count : ℕ) → n ≤ count → take n (replicate {A = ℕ} count 0) ≡ levels_at m n 0
zeros_front m n count h = take_replicate 0 n count h ∙ sym (levels_first m n)

-- a step of an index: its lowest digit turns to 0, ..
step_turn : (m p : ℕ) → 0 < m → m ≤ p % m + 1 → (suc p / m ≡ suc (p / m)) × (suc p % m ≡ 0)
step_turn m p pos t =
    let e : suc p ≡ suc (p / m) * m + 0 = omega (arith, div-add-mod' p m, mod-lt p pos, suc-mul (p / m) m) in
    (ap (λ (k : ℕ). k / m) e ∙ digits_div (suc (p / m)) pos, ap (λ (k : ℕ). k % m) e ∙ digits_mod (suc (p / m)) pos)

-- .. or moves up
step_up : (m p : ℕ) → p % m + 1 < m → (suc p / m ≡ p / m) × (suc p % m ≡ p % m + 1)
step_up m p u =
    let e : suc p ≡ p / m * m + (p % m + 1) = omega (arith, div-add-mod' p m) in
    (ap (λ (k : ℕ). k / m) e ∙ digits_div (p / m) u, ap (λ (k : ℕ). k % m) e ∙ digits_mod (p / m) u)

-- the next index has the next levels
pub levels_next : (m n p : ℕ) → 0 < m → levels_at m n (suc p) ≡ next_levels m (levels_at m n p)
levels_next m zero p pos = unfold levels_at next_levels range in refl
levels_next m (suc n) p pos = rw (levels_suc m n p, levels_suc m n (suc p)) (go (dec_le m (p % m + 1)) (levels_next m n (p / m) pos))
  where
    go : Dec (m ≤ p % m + 1) → levels_at m n (suc (p / m)) ≡ next_levels m (levels_at m n (p / m))
        → levels_at m n (suc p / m) ++ (suc p % m ∷ []) ≡ next_levels m (levels_at m n (p / m) ++ (p % m ∷ []))
    go (yes t) ih = rw (next_turn m (levels_at m n (p / m)) (p % m) t, ← ih, (step_turn m p pos t).0, (step_turn m p pos t).1)
    go (no t) ih = let u : p % m + 1 < m = omega arith in rw (next_up m (levels_at m n (p / m)) (p % m) u, (step_up m p u).0, (step_up m p u).1)

-- levels at the front of a list, changed to those of the next index
module _ (m n p : ℕ) (pos : 0 < m) (before after : List ℕ) (front : take n before ≡ levels_at m n p)
    (step : after ≡ next_levels m (take n before) ++ drop n before) where
  pub front_next : take n after ≡ levels_at m n (p + 1)
  front_next =
      rw (step, front, take_at (next_levels m (levels_at m n p)) (drop n before) n (next_length m _ ∙ levels_length m n p), add-one)
      (sym (levels_next m n p pos))

  pub front_kept : n ≤ length before → length after ≡ length before
  front_kept fits = rw (step, front) (simp (length-append, length-drop, next_length, levels_length) (omega arith))
