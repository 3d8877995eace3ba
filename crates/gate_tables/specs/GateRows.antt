-- The sums of left's and right's samples, one row for each sample of the left, taken in rising order.
-- Assumes nothing.
use Rattle.std.specs.Prelude.{◌<◌, ◌≤◌, ◌+◌, ◌-◌, ◌≡◌}
use Rattle.std.specs.Prelude.{Option, MatchOption}
use Rattle.laws.specs.Prelude.{ℕ, suc, zero, sym, refl, subst, ap₂, List, ℕ_discrete, arith, length, get_or, set}
use Rattle.laws.specs.Prelude.{get_or-set_same, get_or-set_other}

-- the sum of left's sample u and right's sample v
abbrev pub sum_of : List ℕ → List ℕ → ℕ → ℕ → ℕ
sum_of left right u v = get_or left u 0 + get_or right v 0

-- The sums of row u before next u are done. All sums of the first rows are done, ..
abbrev pub RowsDone : List ℕ → List ℕ → ℕ → Type 0
RowsDone right next rows = (w : ℕ) → w < rows → length right ≤ get_or next w 0

-- .. or r is a row among them whose next sum, s, is least
pub record LeastRow (left right next : List ℕ) (rows r s : ℕ) : Type 0 where
  pub below : r < rows
  pub some : get_or next r 0 < length right
  pub is : s ≡ sum_of left right r (get_or next r 0)
  pub least : (w : ℕ) → w < rows → get_or next w 0 < length right → s ≤ sum_of left right w (get_or next w 0)

abbrev pub LeastTo : List ℕ → List ℕ → List ℕ → ℕ → Option (ℕ × ℕ) → Type 0
LeastTo left right next rows found = MatchOption found (RowsDone right next rows) (λ p. LeastRow left right next rows p.0 p.1)

-- the sum of left's sample u and right's sample v, if there is such a v
abbrev pub NextSum : List ℕ → List ℕ → ℕ → ℕ → Option ℕ → Type 0
NextSum left right u v sum = MatchOption sum (length right ≤ v) (λ s. (v < length right) × (s ≡ sum_of left right u v))

-- how many sums of the first rows are left
abbrev pub sums_left : ℕ → ℕ → List ℕ → ℕ
sums_left zero c next = 0
sums_left (suc u) c next = (c - get_or next u 0) + sums_left u c next

sums_other : (rows c : ℕ) (next : List ℕ) (r x : ℕ) → rows ≤ r → sums_left rows c (set next r x) ≡ sums_left rows c next
sums_other zero c next r x h = refl
sums_other (suc u) c next r x h =
    ap₂ (λ (i k : ℕ). (c - i) + k) (get_or-set_other next r u x 0 (λ e. omega arith)) (sums_other u c next r x (omega arith))

-- each sum done leaves one fewer
pub sums_fewer : (rows c : ℕ) (next : List ℕ) (r : ℕ) → r < rows → r < length next → get_or next r 0 < c
    → sums_left rows c (set next r (get_or next r 0 + 1)) < sums_left rows c next
sums_fewer zero c next r h room low = absurd (omega arith)
sums_fewer (suc u) c next r h room low = go (ℕ_discrete u r) (λ r<. sums_fewer u c next r r< room low)
  where
    go : Dec (u ≡ r) → (r < u → sums_left u c (set next r (get_or next r 0 + 1)) < sums_left u c next)
        → sums_left (suc u) c (set next r (get_or next r 0 + 1)) < sums_left (suc u) c next
    go (yes e) _ = omega (
      arith,
      subst (λ (i : ℕ). get_or (set next r (get_or next r 0 + 1)) i 0 ≡ get_or next i 0 + 1) (sym e) (get_or-set_same next r (get_or next r 0 + 1) 0 room),
      subst (λ (i : ℕ). get_or next i 0 < c) (sym e) low,
      sums_other u c next r (get_or next r 0 + 1) (omega arith),
    )
    go (no ne) later = omega (arith, get_or-set_other next r u (get_or next r 0 + 1) 0 ne, later (omega arith))
