-- One turn of `next_levels`: the first i levels are still to be stepped. Assumes nothing.
use Rattle.std.specs.Prelude.{◌<◌, ◌≤◌, ◌+◌, ◌-◌, ◌≡◌, ◌∷◌, ◌++◌}
use Rattle.laws.specs.Prelude.{ℕ, suc, zero, ◌∙◌, sym, refl, ap₂, List, le_refl, arith, length, get_or, take, drop, set}
use Rattle.laws.specs.Prelude.{get_or-set_same, drop-cons, append_snoc, drop-set-lt, take-set-le, take-suc, lt-length-set, set_split}
use Rattle.laws.specs.Numbers.Levels.{next_levels, next_turn, next_up}

-- the first i levels stepped, and the rest unchanged
abbrev pub stepped : ℕ → ℕ → List ℕ → List ℕ
stepped m i xs = next_levels m (take i xs) ++ drop i xs

-- no level is left to be stepped
pub step_none : (m i : ℕ) (xs : List ℕ) → i ≤ 0 → stepped m i xs ≡ xs
unfolding next_levels
step_none m zero xs h = refl
step_none m (suc i) xs h = absurd (omega arith)

-- the level before place i goes up, and the step of the count is done
pub step_up : (m i : ℕ) (xs : List ℕ) → 0 < i → i ≤ length xs → get_or xs (i - 1) 0 + 1 < m → set xs (i - 1) (get_or xs (i - 1) 0 + 1) ≡ stepped m i xs
step_up m zero xs pos h up = absurd (omega arith)
step_up m (suc i) xs pos h up =
    let e : suc i - 1 ≡ i = omega arith in
    rw e (rw (set_split xs i (get_or xs i 0 + 1) h, take-suc xs i 0 h, next_up m (take i xs) (get_or xs i 0) (rw e at up))
    (sym (append_snoc (take i xs) (get_or xs i 0 + 1) (drop (suc i) xs))))

-- it becomes 0, and the levels before it are still to be stepped
pub step_turn : (m i : ℕ) (xs : List ℕ) → 0 < i → i ≤ length xs → m ≤ get_or xs (i - 1) 0 + 1 → stepped m (i - 1) (set xs (i - 1) 0) ≡ stepped m i xs
step_turn m zero xs pos h top = absurd (omega arith)
step_turn m (suc i) xs pos h top =
    let e : suc i - 1 ≡ i = omega arith in
    let zeroed : drop i (set xs i 0) ≡ 0 ∷ drop (suc i) xs =
    drop-cons (set xs i 0) i 0 (lt-length-set xs i 0 h) ∙ ap₂ (λ (l : ℕ) (ls : List ℕ). l ∷ ls) (get_or-set_same xs i 0 0 h)
    (drop-set-lt (suc i) xs i 0 (omega arith)) in
    rw e (rw (take-set-le i xs i 0 (le_refl i), take-suc xs i 0 h, next_turn m (take i xs) (get_or xs i 0) (rw e at top), zeroed)
    (sym (append_snoc (next_levels m (take i xs)) 0 (drop (suc i) xs))))
