-- The cells in blocks. The cells with the same levels at the inputs before input i are contiguous, with one run of its weight for each level. So two
-- neighbours at the input are in one block, and the first of them is not in its last run.
-- Assumes nothing.
use Rattle.std.specs.Prelude.{◌<◌, ◌≤◌, ◌+◌, ◌-◌, ◌^◌, ◌*◌, ◌%◌, ◌/◌, ◌≡◌}
use Rattle.std.specs.Bool.{Decides}
use Rattle.laws.specs.Prelude.{ℕ, suc, ◌∙◌, sym, ap, refl, true, false, Bool, List, not, false≢true, ℕ_discrete, length, get_or}
use Rattle.laws.specs.Prelude.{mul-le-mul_right, mod-lt, div-lt_iff_lt-mul, div-add-mod', one-le-pow, mul_assoc, one-mul, pow-succ'}
use Rattle.laws.specs.Prelude.{mul-pos, mul-add-div_right, add-div_right, lt-div-mul-add, arith, digits_lt, digits_mod, pow-add}
use Rattle.rules.specs.Sheets.Sheets.{level}
use Rattle.rules.specs.Nets.Leaves.{matters}
use Rattle.trees.specs.Leaves.Neighbours.{same_idle, differ_matters}

-- each cell of a block, except those in its last run, has the ink of the cell one weight later
abbrev pub SameCells : List ℕ → ℕ → Type 0
SameCells block weight = (j : ℕ) → j < length block - weight → get_or block j 0 ≡ get_or block (weight + j) 0

-- the same of block k
abbrev pub SameBlock : (ℕ → ℕ) → ℕ → ℕ → ℕ → Type 0
SameBlock f block weight k = (j : ℕ) → j < block - weight → f (k * block + j) ≡ f (k * block + weight + j)

-- a block is m runs of the weight, and the cells are m ^ i blocks
pub blocks_all : (m n i : ℕ) → i < n → m ^ n ≡ m ^ i * (m * m ^ (n - 1 - i))
blocks_all m n i h =
    let places : n ≡ i + suc (n - 1 - i) = omega arith in
    ap (λ (k : ℕ). m ^ k) places ∙ pow-add m i (suc (n - 1 - i)) ∙ ap (λ (k : ℕ). m ^ i * k) (pow-succ' m (n - 1 - i))

module _ (m n : ℕ) (pos : 0 < m) (i : ℕ) (i< : i < n) where
  some_weight : 0 < m ^ (n - 1 - i)
  some_weight = one-le-pow (n - 1 - i) m pos

  some_block : 0 < m * m ^ (n - 1 - i)
  some_block = mul-pos pos some_weight

  -- the level at place j of a block is the number of its run
  level_block : (k j : ℕ) → j < m * m ^ (n - 1 - i) → level m n (k * (m * m ^ (n - 1 - i)) + j) i ≡ j / m ^ (n - 1 - i)
  unfolding level
  level_block k j h =
      let w = m ^ (n - 1 - i) in
      ap (λ (x : ℕ). x % m) (ap (λ (x : ℕ). (x + j) / w) (sym (mul_assoc k m w)) ∙ mul-add-div_right some_weight (k * m) j)
      ∙ digits_mod k ((div-lt_iff_lt-mul some_weight).1 h)

  -- a place is before the last run
  run_inner : (j : ℕ) → j / m ^ (n - 1 - i) + 1 < m → j < m * m ^ (n - 1 - i) - m ^ (n - 1 - i)
  run_inner j up =
      let w = m ^ (n - 1 - i) in
      let runs : (j / w + 2) * w ≤ m * w = mul-le-mul_right w (omega arith) in
      omega (arith, lt-div-mul-add {a = j} some_weight)

  inner_run : (j : ℕ) → j < m * m ^ (n - 1 - i) - m ^ (n - 1 - i) → j / m ^ (n - 1 - i) + 1 < m
  inner_run j inner =
      let w = m ^ (n - 1 - i) in
      rw (← add-div_right j some_weight) ((div-lt_iff_lt-mul some_weight).1 (omega arith))

  module _ (f : ℕ → ℕ) where
    -- if this holds for every block, the input does not matter, ..
    blocks_idle : ((k : ℕ) → k < m ^ i → SameBlock f (m * m ^ (n - 1 - i)) (m ^ (n - 1 - i)) k) → matters m n f i ≡ false
    blocks_idle each = same_idle m n pos i i< f λ p p< up.
        let w = m ^ (n - 1 - i) in
        let k = p / (m * w) in
        let j = p % (m * w) in
        let digits : k * (m * w) + j ≡ p = div-add-mod' p (m * w) in
        let j_below : j < m * w = mod-lt p some_block in
        let run : level m n p i ≡ j / w = ap (λ (x : ℕ). level m n x i) (sym digits) ∙ level_block k j j_below in
        let k_below : k < m ^ i = (div-lt_iff_lt-mul some_block).1 (rw (blocks_all m n i i<) at p<) in
        let inner : j < m * w - w = run_inner j (rw run at up) in
        ap f (sym digits) ∙ each k k_below j inner ∙ ap f (omega arith)

    -- .. and if it fails for a block, the input matters
    block_matters : (k j : ℕ) → k < m ^ i → j < m * m ^ (n - 1 - i) - m ^ (n - 1 - i)
        → (f (k * (m * m ^ (n - 1 - i)) + j) ≡ f (k * (m * m ^ (n - 1 - i)) + m ^ (n - 1 - i) + j) → ⊥) → matters m n f i ≡ true
    block_matters k j k< j< differ =
        let w = m ^ (n - 1 - i) in
        let run : level m n (k * (m * w) + j) i ≡ j / w = level_block k j (omega arith) in
        differ_matters m n pos i i< f (k * (m * w) + j) (rw (blocks_all m n i i<) (digits_lt k< (omega arith))) (rw run (inner_run j j<))
        (λ e. differ (e ∙ ap f (omega arith)))

    -- so whether it holds for every block shows whether the input matters
    blocks_tell : (same : Bool) → Decides same ((k : ℕ) → k < m ^ i → SameBlock f (m * m ^ (n - 1 - i)) (m ^ (n - 1 - i)) k) → not same ≡ matters m n f i
    blocks_tell true told = sym (blocks_idle (told.0 refl))
    blocks_tell false told = go (matters m n f i) refl
      where
        go : (t : Bool) → matters m n f i ≡ t → true ≡ matters m n f i
        go true e = sym e
        go false e = absurd (false≢true (told.1 λ k k< j j<. equal (ℕ_discrete _ _) (λ differ. false≢true (sym e ∙ block_matters k j k< j< differ))))
          where
            equal : {x y : ℕ} → Dec (x ≡ y) → ((x ≡ y → ⊥) → ⊥) → x ≡ y
            equal (yes same) _ = same
            equal (no differ) h = absurd (h differ)

  -- for a number equal to the weight
  module _ (weight : ℕ) (weight_is : weight ≡ m ^ (n - 1 - i)) where
    -- a block is not empty, its first run is within it, ..
    pub block_some : 0 < m * weight
    block_some = rw weight_is some_block

    pub run_within : weight ≤ m * weight
    run_within = rw (one-mul weight) at (mul-le-mul_right weight pos)

    -- .. and the cells are whole blocks
    pub cells_blocks : m ^ n ≡ m ^ i * (m * weight)
    cells_blocks = rw weight_is (blocks_all m n i i<)

    pub block_fits : m * weight ≤ m ^ n
    block_fits = rw cells_blocks (rw (one-mul (m * weight)) at (mul-le-mul_right (m * weight) (one-le-pow i m pos)))

    -- so they show whether the input matters
    pub tell : (f : ℕ → ℕ) (same : Bool) → Decides same ((k : ℕ) → k < m ^ i → SameBlock f (m * weight) weight k) → not same ≡ matters m n f i
    tell f same = rw weight_is (blocks_tell f same)
