-- Columns given as heads and a run: each head plus each number below the run. The cells of a row at the columns of one head are neighbours.
-- Assumes nothing.
use Rattle.std.specs.Prelude.{◌<◌, ◌≤◌, ◌+◌, ◌-◌, ◌*◌, ◌%◌, ◌/◌, ◌≡◌, ◌≢◌, Option, Some, None}
use Rattle.laws.specs.Prelude.{ℕ, ◌∙◌, sym, ap, subst, add-zero, ap₂, true, List, map, Memᴰ, zero-add, zero-mul, mod-lt}
use Rattle.laws.specs.Prelude.{div-lt_iff_lt-mul, mul_comm, mul-one, add_assoc, mul-zero, mod-eq_of_lt, div-eq_of_lt, dec_lt, ℕ_discrete, arith, eqb}
use Rattle.laws.specs.Prelude.{length, get_or, eq-eqb, digits_lt, digits_mod, digits_div}
use Rattle.rules.specs.Lists.{range}
use Rattle.rules.specs.Groups.Groups.{alike_over}
use Rattle.laws.specs.Lists.Ranges.{map_range_length, map_range_at, map_range_same, by_places}
use Rattle.laws.specs.Lists.Tests.{mem_all}
use Rattle.laws.specs.Lists.Places.{mem_place}
use Rattle.classes.specs.Within.{Within}
use Rattle.representatives.specs.Runs.{SameRuns, RunApart}

unfoldable pub columns_of : ℕ → List ℕ → List ℕ
columns_of run hs = map (λ k. get_or hs (k % length hs) 0 + k / length hs) (range 0 (length hs * run))

-- y is one of the columns ys
abbrev pub Column : List ℕ → ℕ → Type 0
Column ys y = (k : ℕ) × (k < length ys) × (get_or ys k 0 ≡ y)

-- the result of comparing two rows: they are alike, or a column at which they differ
abbrev pub ApartBy : (ℕ → ℕ) → List ℕ → ℕ → ℕ → Option ℕ → Type 0
ApartBy f ys p q None = alike_over f ys p q ≡ true
ApartBy f ys p q (Some y) = Column ys y × f (p + y) ≢ f (q + y)

-- a row plus a column is below the bound
pub column_within : {b : ℕ} (ys : List ℕ) (p : ℕ) {y : ℕ} → Within b ys p → Column ys y → p + y < b
column_within {b} ys p {y} within (k, k<, e) = subst (λ (x : ℕ). p + x < b) e (within k k<)

module _ (run : ℕ) (hs : List ℕ) where
  pub columns_length : length (columns_of run hs) ≡ length hs * run
  unfolding columns_of
  columns_length = map_range_length _ 0 (length hs * run)

  pub columns_at : (k : ℕ) → k < length hs * run → get_or (columns_of run hs) k 0 ≡ get_or hs (k % length hs) 0 + k / length hs
  unfolding columns_of
  columns_at k h = map_range_at _ 0 (length hs * run) k 0 h ∙ ap (λ (j : ℕ). get_or hs (j % length hs) 0 + j / length hs) (zero-add k)

  -- if there are columns, there are heads and the run is not empty
  pub columns_some : 0 < length (columns_of run hs) → (0 < length hs) × (0 < run)
  columns_some some = (heads (dec_lt 0 (length hs)), runs (dec_lt 0 run))
    where
      heads : Dec (0 < length hs) → 0 < length hs
      heads (yes h) = h
      heads (no h) =
          let none : length hs ≡ 0 = omega arith in
          absurd (omega (arith, some, columns_length, ap (λ (k : ℕ). k * run) none, zero-mul run))

      runs : Dec (0 < run) → 0 < run
      runs (yes h) = h
      runs (no h) =
          let none : run ≡ 0 = omega arith in
          absurd (omega (arith, some, columns_length, ap (λ (k : ℕ). length hs * k) none, mul-zero (length hs)))

  -- a head plus a number below the run is a column
  pub column_there : (j z : ℕ) → j < length hs → z < run → Column (columns_of run hs) (get_or hs j 0 + z)
  column_there j z j< z< =
      let inside : z * length hs + j < length hs * run = omega (arith, digits_lt z< j<, mul_comm run (length hs)) in (
        z * length hs + j,
        omega (arith, columns_length),
        columns_at (z * length hs + j) inside ∙ ap₂ (λ (a b : ℕ). get_or hs a 0 + b) (digits_mod z j<) (digits_div z j<),
      )

  -- the first head is a column
  pub column_first : 0 < length (columns_of run hs) → Column (columns_of run hs) (get_or hs 0 0)
  column_first some =
      let there = columns_some some in subst (Column (columns_of run hs)) (add-zero (get_or hs 0 0)) (column_there 0 0 there.0 there.1)

  -- a row's runs lie inside the cells
  pub run_within : {b : ℕ} (p j : ℕ) → 0 < run → j < length hs → Within b (columns_of run hs) p → p + get_or hs j 0 + run ≤ b
  run_within p j some j< within = omega (arith, column_within (columns_of run hs) p within (column_there j (run - 1) j< (omega arith)))

  -- rows that are equal in each head's run are alike
  pub runs_alike : (f : ℕ → ℕ) (p q : ℕ) → ((j z : ℕ) → j < length hs → z < run → f (p + (get_or hs j 0 + z)) ≡ f (q + (get_or hs j 0 + z)))
      → alike_over f (columns_of run hs) p q ≡ true
  unfolding alike_over
  runs_alike f p q same = mem_all _ (columns_of run hs) at
    where
      at : (y : ℕ) → Memᴰ y (columns_of run hs) → eqb (f (p + y)) (f (q + y)) ≡ true
      at y is =
          let (k, k<, here) = mem_place y (columns_of run hs) is in
          let below : k < length hs * run = omega (arith, columns_length) in
          let some : 0 < length hs = (columns_some (omega arith)).0 in
          let low : k / length hs < run = (div-lt_iff_lt-mul some).1 (omega (arith, mul_comm run (length hs))) in
          eq-eqb _ _
          (subst (λ (x : ℕ). f (p + x) ≡ f (q + x)) (sym (columns_at k below) ∙ here) (same (k % length hs) (k / length hs) (mod-lt k some) low))

-- the inks of p and q are the same in the runs of the first k heads
abbrev pub SameHeads : (ℕ → ℕ) → ℕ → List ℕ → ℕ → ℕ → ℕ → Type 0
SameHeads f run hs p q k = (j z : ℕ) → j < k → z < run → f (p + (get_or hs j 0 + z)) ≡ f (q + (get_or hs j 0 + z))

module _ (f : ℕ → ℕ) (run : ℕ) (hs : List ℕ) (p q k : ℕ) where
  -- one more head
  pub heads_next : SameRuns f (p + get_or hs k 0) (q + get_or hs k 0) run → SameHeads f run hs p q k → SameHeads f run hs p q (k + 1)
  heads_next same so_far j i h i< = go (ℕ_discrete j k)
    where
      go : Dec (j ≡ k) → f (p + (get_or hs j 0 + i)) ≡ f (q + (get_or hs j 0 + i))
      go (yes e) = rw (e, sym (add_assoc p (get_or hs k 0) i), sym (add_assoc q (get_or hs k 0) i)) (same i i<)
      go (no ne) = so_far j i (omega arith) i<

  -- or a column that distinguishes the two
  pub run_differs : {z : ℕ} → RunApart f (p + get_or hs k 0) (q + get_or hs k 0) run z → k < length hs
      → Column (columns_of run hs) (get_or hs k 0 + z) × f (p + (get_or hs k 0 + z)) ≢ f (q + (get_or hs k 0 + z))
  run_differs {z} apart k< =
      (column_there run hs k z k< apart.low, λ e. apart.differ (rw (add_assoc p (get_or hs k 0) z, add_assoc q (get_or hs k 0) z) e))

-- with a run of one the columns are the heads
pub columns_one : (hs : List ℕ) → columns_of 1 hs ≡ hs
unfolding columns_of
columns_one hs =
    ap (λ (c : ℕ). map (λ k. get_or hs (k % length hs) 0 + k / length hs) (range 0 c)) (mul-one (length hs))
    ∙ map_range_same _ (λ i. get_or hs i 0) 0 (length hs)
    (λ i _ h.
    let i< : i < length hs = omega arith in
    ap₂ (λ (a b : ℕ). get_or hs a 0 + b) (mod-eq_of_lt i<) (div-eq_of_lt i<) ∙ omega arith)
    ∙ by_places 0 hs
