-- A row that matches its frame is read in one step: the weights of its levels sum to its index.
-- Assumes nothing.
use Rattle.std.specs.Prelude.{◌<◌, ◌≤◌, ◌+◌, ◌-◌, ◌^◌, ◌*◌, ◌%◌, ◌≡◌, Ok}
use Rattle.laws.specs.Prelude.{ℕ, suc, ◌∙◌, sym, ap, refl, true, List, zero-mul, pow-zero, mul-one, mul_assoc, add-mul}
use Rattle.laws.specs.Prelude.{mul-zero, pow-succ', arith, length, get_or, drop}
use Rattle.rules.specs.Text.{zero_byte, space_byte}
use Rattle.rules.specs.Limits.{size_fits, most_levels}
use Rattle.rules.specs.Sheets.Fields.{field_in, loose}
use Rattle.rules.specs.Sheets.LooseSheet.{any_level}
use Rattle.fields.specs.Runs.{spaces_end, spaces_here, spaces_later}
use Rattle.fields.specs.Steps.{step_as, itself}
use Rattle.fields.specs.declared.steps.Field.{Field}
use Rattle.loose_sheets.specs.Fast.Frame.{SpaceAt, LevelAt, LooseLaid, laid_none, laid_space, laid_level, Framed}
use Rattle.loose_sheets.specs.Fast.Matching.{FitsAt, Fit, counted, counted_next, counted_on, InFrame, in_steps, steps_bounds}
use Rattle.laws.specs.Numbers.Sizes.{sized}
use Rattle.table_reader.specs.Fast.Plain.{Plain}
use Rattle.loose_sheets.specs.Reader.Index.{IndexRead, InIndex, index_start, index_done, index_next}
use Rattle.loose_sheets.specs.Fast.Plain.{plain_level}

one_level : (index m d p : ℕ) → index * (m * p) + d * p ≡ (index * m + d) * p
one_level index m d p = rw (add-mul, mul_assoc) refl

module _ (s : List ℕ) (at m n : ℕ) (few : m ≤ most_levels) (frame : List ℕ) where
  -- i levels are read, and the spaces after them are skipped; their weighted sum agrees with the index so far
  record InLaid (j i : ℕ) : Type 0 where
    most : i ≤ n
    place : ℕ
    index : ℕ
    here : at + j < length s → (get_or s (at + j) 0 ≡ space_byte → ⊥) → place ≡ at + j
    past : 0 < i → place ≡ spaces_end s (at + j)
    reads : InIndex s at m n place index i
    counts : counted s at frame j ≡ index * m ^ (n - i)

  space_byte_lem : (j : ℕ) → SpaceAt frame j → FitsAt s at frame j → get_or s (at + j) 0 ≡ space_byte
  space_byte_lem j space here = omega (arith, space.shifts, space.bounds, here.byte, here.fits)

  level_byte : (j after : ℕ) → LevelAt frame m j after → FitsAt s at frame j
      → (get_or s (at + j) 0 - zero_byte < m) × (get_or s (at + j) 0 ≡ zero_byte + (get_or s (at + j) 0 - zero_byte))
  level_byte j after level here =
      (omega (arith, level.shifts, level.bounds, here.byte, here.fits, few), omega (arith, level.shifts, level.bounds, here.byte, here.fits, few))

  -- one more space
  module _ (j i : ℕ) (before : InLaid j i) (some : 0 < i) (room : at + (j + 1) < length s) (space : get_or s (at + j) 0 ≡ space_byte)
      (none : get_or frame (256 + j) 0 ≡ 0) where
    passed : before.place ≡ spaces_end s (at + (j + 1))
    passed =
        let one : at + j + 1 ≡ at + (j + 1) = omega arith in
        before.past some ∙ (sym (spaces_later s (at + j) (omega (arith, room)) space) ∙ ap (spaces_end s) one)

    one_space : InLaid (j + 1) i
    one_space =
        let nothing : (get_or s (at + j) 0 % 16) * get_or frame (256 + j) 0 ≡ 0 = rw none (mul-zero _) in
        record {
          most = before.most;
          place = before.place;
          index = before.index;
          here = λ within other. passed ∙ spaces_here s (at + (j + 1)) within other;
          past = λ _. passed;
          reads = before.reads;
          counts = omega (arith, counted_next s at frame j, nothing, before.counts);
        }

  -- one more level, and the space after it
  module _ (j i d : ℕ) (before : InLaid j i) (fewer : i < n) (below : d < m) (room : at + (j + 2) < length s)
      (byte : get_or s (at + j) 0 ≡ zero_byte + d) (space : get_or s (at + (j + 1)) 0 ≡ space_byte)
      (weight : get_or frame (256 + j) 0 ≡ m ^ (n - (i + 1))) (none : get_or frame (256 + (j + 1)) 0 ≡ 0) where
    stands : Plain s (at + j) d space_byte
    stands =
        let one : at + (j + 1) ≡ at + j + 1 = omega arith in
        record { within = omega (arith, room); byte = byte; after = rw one at space }

    next : ℕ
    next = spaces_end s (at + j + 2)

    abbrev found : Field
    found = record { value = d; next = spaces_end s (at + j + 2) }

    level : step_as itself s (Ok found) ≡ field_in loose (any_level m) space_byte (drop before.place s) before.place
    level =
        let here : before.place ≡ at + j = before.here (omega (arith, room)) (λ e. omega (arith, e, byte)) in
        rw here (plain_level s (at + j) m d below stands)

    counts_more : counted s at frame (j + 2) ≡ (before.index * m + d) * m ^ (n - (i + 1))
    counts_more =
        let nothing : (get_or s (at + (j + 1)) 0 % 16) * get_or frame (256 + (j + 1)) 0 ≡ 0 = rw none (mul-zero _) in
        let digit : get_or s (at + j) 0 % 16 ≡ d = omega (arith, byte, below, few) in
        let this : (get_or s (at + j) 0 % 16) * get_or frame (256 + j) 0 ≡ d * m ^ (n - (i + 1)) = rw (digit, weight) refl in
        let suc_left : n - i ≡ suc (n - (i + 1)) = omega arith in
        let so_far : counted s at frame j ≡ before.index * (m * m ^ (n - (i + 1))) = before.counts ∙ rw (suc_left, pow-succ') refl in
        let two : j + 2 ≡ j + 1 + 1 = omega arith in
        rw (two, ← (one_level before.index m d (m ^ (n - (i + 1)))))
        (omega (arith, counted_next s at frame (j + 1), counted_next s at frame j, nothing, this, so_far))

    one_more : InLaid (j + 2) (i + 1)
    one_more =
        let two : at + j + 2 ≡ at + (j + 2) = omega arith in
        record {
          most = omega arith;
          place = spaces_end s (at + j + 2);
          index = before.index * m + d;
          here = λ within other. ap (spaces_end s) two ∙ spaces_here s (at + (j + 2)) within other;
          past = λ _. ap (spaces_end s) two;
          reads = index_next s at m n before.place before.index i before.reads fewer (Ok found) level found refl;
          counts = counts_more;
        }

  -- the state after the first j places, if they match
  abbrev Before : ℕ → ℕ → Type 0
  Before j i = Fit s at frame j → at + j < length s → InLaid j i

  of_none : (k h : ℕ) → k ≡ 0 → h ≡ 0 → Before k h
  unfolding counted
  of_none k h none_laid none_read fit room =
      rw (none_laid, none_read) (record {
        most = omega arith;
        place = at;
        index = 0;
        here = λ _ _. omega arith;
        past = λ some. absurd (omega arith);
        reads = index_start s at m n;
        counts = sym (zero-mul _);
      })

  of_space : (j i k : ℕ) → Before j i → 0 < i → SpaceAt frame j → k ≡ j + 1 → Before k i
  of_space j i k before some space one fit room =
      rw one
      (one_space j i (before (λ q b. fit q (omega (arith, one, b))) (omega (arith, one, room))) some (omega (arith, one, room))
      (space_byte_lem j space (fit j (omega (arith, one)))) space.weighs)

  of_level : (j i k h : ℕ) → Before j i → i < n → LevelAt frame m j (n - (i + 1)) → SpaceAt frame (j + 1) → k ≡ j + 2 → h ≡ i + 1
      → Before k h
  of_level j i k h before fewer at_level space two one fit room =
      let (below, byte) = level_byte j (n - (i + 1)) at_level (fit j (omega (arith, two))) in
      rw (two, one)
      (one_more j i (get_or s (at + j) 0 - zero_byte) (before (λ q b. fit q (omega (arith, two, b))) (omega (arith, two, room))) fewer below
      (omega (arith, two, room)) byte (space_byte_lem (j + 1) space (fit (j + 1) (omega (arith, two)))) at_level.weighs space.weighs)

  reads_laid : (k h : ℕ) → LooseLaid frame m n k h → Before k h
  reads_laid k h (laid_none _ _ none_laid none_read) = of_none k h none_laid none_read
  reads_laid k h (laid_space j i _ before some space one) = of_space j h k (reads_laid j h before) some space one
  reads_laid k h (laid_level j i _ _ before fewer at_level space two one) = of_level j i k h (reads_laid j i before) fewer at_level space two one

-- ---- the whole row

module _ (s : List ℕ) (at m n : ℕ) (size : size_fits m n ≡ true) (frame : List ℕ) (width : ℕ) (framed : Framed m n frame width) (r : ℕ)
    (row : InFrame s at frame width r) where
  pub ink_within : at + width < length s
  ink_within = omega (arith, (steps_bounds width framed.most).0, row.room)

  before_ink : InLaid s at m n (sized m n size).levels_most frame width n
  before_ink =
      reads_laid s at m n (sized m n size).levels_most frame width n (framed.laid row.some)
      (λ k b. row.fitted.fit k (omega (arith, b, (steps_bounds width framed.most).0))) ink_within

  index_is : r ≡ before_ink.index
  index_is =
      let after : width + (in_steps width - width) ≡ in_steps width = omega (arith, (steps_bounds width framed.most).0) in
      let none_left : n - n ≡ 0 = omega arith in
      let all : counted s at frame (in_steps width) ≡ before_ink.index =
      ap (counted s at frame) (sym after)
      ∙ (counted_on s at frame width (framed.rest row.some) (in_steps width - width)
      ∙ (before_ink.counts ∙ rw (none_left, pow-zero, mul-one) refl)) in
      omega (arith, row.fitted.sum, all, before_ink.reads.below, (sized m n size).cells_most)

  pub framed_reads : IndexRead s at m n (Ok (record { value = r; next = at + width }))
  framed_reads =
      rw (index_is, ← (before_ink.here ink_within row.other))
      (index_done s at m n before_ink.place before_ink.index n before_ink.reads (omega arith))
