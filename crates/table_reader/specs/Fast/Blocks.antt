-- The rows, block by block.
-- Assumes nothing.
use Rattle.std.specs.Prelude.{◌<◌, ◌≤◌, ◌+◌, ◌-◌, ◌^◌, ◌*◌, ◌≡◌, ◌∷◌, ◌++◌}
use Rattle.laws.specs.Prelude.{ℕ, suc, zero, ◌∙◌, sym, ap, refl, ap₂, true, Bool, List, [], append_assoc}
use Rattle.laws.specs.Prelude.{add-zero, suc-mul, add_assoc, add-mul, add-one, arith, length, take, drop, replicate, length-take-le, drop_at}
use Rattle.laws.specs.Prelude.{take-add, pow-suc, mul-le-mul_right}
use Rattle.rules.specs.Limits.{size_fits, most_levels, most_inputs}
use Rattle.rules.specs.Sheets.Sheets.{levels_at}
use Rattle.laws.specs.Numbers.Levels.{next_levels, next_length, front_next}
use Rattle.laws.specs.Numbers.Sizes.{Size, sized}
use Rattle.table_reader.specs.Fast.Block.{BlockTried, more_levels, FewBytes, few_bytes}
use Rattle.table_reader.specs.Fast.Rows.{TableReached, InRows, reached_kept}

-- no row is read yet: `levels` begins with the levels of index 0, and the cells have room
pub record RowsStart (m n : ℕ) (levels cells : List ℕ) : Type 0 where
  pub size : size_fits m n ≡ true
  pub short : n ≤ length levels
  pub due : take (n - 2) levels ≡ levels_at m (n - 2) 0
  pub zeros : take 2 (drop (n - 2) levels) ≡ 0 ∷ 0 ∷ []
  pub room : m ^ n ≤ length cells

-- the bounds that this gives, for n = front + 2
pub record StartBounds (m n front : ℕ) (levels cells : List ℕ) : Type 0 where
  pub least : 0 < m
  pub few : m ≤ most_levels
  pub inputs : front ≤ most_inputs
  pub all_inputs : n ≡ front + 1 + 1
  pub short : front ≤ length levels
  pub room : m ^ (front + 1 + 1) ≤ length cells
  pub bytes : FewBytes m front

pub start_bounds : {m n : ℕ} {levels cells : List ℕ} → RowsStart m n levels cells → StartBounds m n (n - 2) levels cells
start_bounds {m} {n} starts =
    let size : Size m n = sized m n starts.size in
    let all : n ≡ n - 2 + 1 + 1 = omega (arith, size.inputs_least) in
    let inputs : n - 2 ≤ most_inputs = omega (arith, size.inputs_most) in
    record {
      least = omega (arith, size.levels_least);
      few = size.levels_most;
      inputs = inputs;
      all_inputs = all;
      short = omega (arith, starts.short);
      room = rw (← all) starts.room;
      bytes = few_bytes m (n - 2) size.levels_most inputs;
    }

-- the rows of block q are among all
pub block_within : (m front q : ℕ) → q < m ^ front → q * m * m + m * m ≤ m ^ (front + 1 + 1)
block_within m front q more =
    let lines : (q + 1) * m ≤ m ^ (front + 1) = rw (add-one front, pow-suc) (omega (arith, mul-le-mul_right m more)) in
    rw (add-one (front + 1), pow-suc) (omega (arith, mul-le-mul_right m lines))

pub two_zeros : (k count : ℕ) → k + 2 ≤ count → take 2 (drop k (replicate {A = ℕ} count 0)) ≡ 0 ∷ 0 ∷ []
two_zeros k zero h = absurd (omega arith)
two_zeros k (suc zero) h = absurd (omega arith)
two_zeros zero (suc (suc count)) h = refl
two_zeros (suc k) (suc (suc count)) h = two_zeros k (suc count) (omega arith)

-- q blocks are read: `levels` begins with the levels of block q, and then has two zeros
pub record InBlocks (s : List ℕ) (at m front : ℕ) (cells levels : List ℕ) (place q : ℕ) : Type 0 where
  pub most : q ≤ m ^ front
  pub due : take front levels ≡ levels_at m front q
  pub zeros : take 2 (drop front levels) ≡ 0 ∷ 0 ∷ []
  pub reached : TableReached s at m (front + 1 + 1) cells place (q * m * m)

module _ (m front : ℕ) (pos : 0 < m) where
  -- the first row of a line, ..
  line_levels : (k q : ℕ) → levels_at m (k + 1) (q * m) ≡ levels_at m k q ++ (0 ∷ [])
  line_levels k q = ap (levels_at m (k + 1)) (sym (add-zero (q * m))) ∙ more_levels m k q 0 pos

  -- .. and of block q
  first_levels : (q : ℕ) → levels_at m (front + 1 + 1) (q * m * m) ≡ levels_at m front q ++ (0 ∷ 0 ∷ [])
  first_levels q = line_levels (front + 1) (q * m) ∙ ap (λ ls. ls ++ (0 ∷ [])) (line_levels front q) ∙ append_assoc (levels_at m front q) (0 ∷ []) (0 ∷ [])

  module _ (s : List ℕ) (at : ℕ) (cells levels : List ℕ) (place q : ℕ) (blocks : InBlocks s at m front cells levels place q) where
    -- one more block was read, and the levels were updated
    pub blocks_next : (later after : List ℕ) (end : ℕ) → front ≤ length levels → q < m ^ front → (r : Bool)
        → BlockTried s place m front (q * m * m) (m * m) end cells after r → r ≡ true
        → later ≡ next_levels m (take front levels) ++ drop front levels → InBlocks s at m front after later end (q + 1)
    blocks_next later after end short more r tried told step =
        let next : (q + 1) * m * m ≡ q * m * m + m * m = ap (λ k. k * m) (ap (λ k. k * m) (add-one q) ∙ suc-mul q m) ∙ add-mul (q * m) m m in
        let long : length (next_levels m (take front levels)) ≡ front = next_length m (take front levels) ∙ length-take-le front levels short in
        record {
          most = omega arith;
          due = front_next m front q pos levels later blocks.due step;
          zeros = ap (take 2) (ap (drop front) step ∙ drop_at (next_levels m (take front levels)) (drop front levels) front long) ∙ blocks.zeros;
          reached = rw next (tried.reached told at blocks.reached);
        }

    -- the reading of blocks stops here: the cells of the blocks read are kept
    pub blocks_left : (n : ℕ) (after : List ℕ) → n ≡ front + 1 + 1 → take (q * m * m) after ≡ take (q * m * m) cells
        → InRows s at m n after levels place (q * m * m)
    blocks_left n after e kept =
        rw e (record {
          reached = reached_kept s at m (front + 1 + 1) cells place (q * m * m) blocks.reached after kept;
          due =
              ap (λ k. take k levels) (add_assoc front 1 1)
              ∙ (take-add front 2 levels ∙ (ap₂ (λ xs ys. xs ++ ys) blocks.due blocks.zeros ∙ sym (first_levels q)));
        })
