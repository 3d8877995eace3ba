-- A row is laid out place by place, over places that have no weight yet.
-- Assumes nothing.
use Rattle.std.specs.Prelude.{◌<◌, ◌≤◌, ◌+◌, ◌-◌, ◌^◌, ◌≡◌, ◌≢◌}
use Rattle.laws.specs.Prelude.{ℕ, ◌∙◌, refl, subst, le_trans, pow-le-pow_right, true, false, Bool, List, arith, length, get_or, set, length-set}
use Rattle.laws.specs.Prelude.{get_or-set_same, get_or-set_other, eqb, eqb-true, eqb-false}
use Rattle.rules.specs.Limits.{most_cells, size_fits}
use Rattle.laws.specs.Numbers.Sizes.{Size, sized}
use Rattle.loose_sheets.specs.Fast.Frame.{most_laid, frame_length, PlaceAt, LevelAt, LooseLaid, laid_none, laid_space, laid_level, Framed}

-- no place has a weight
pub record Unlaid (frame : List ℕ) : Type 0 where
  pub long : length frame ≡ frame_length
  pub blank : (k : ℕ) → get_or frame k 0 ≡ 0

-- the first j places are laid out, with i levels, and those after them have no weight
pub record Laying (m n : ℕ) (frame : List ℕ) (i j : ℕ) : Type 0 where
  pub long : length frame ≡ frame_length
  pub light : (k : ℕ) → get_or frame (256 + k) 0 ≤ most_cells
  pub most : i ≤ n
  pub laid : LooseLaid frame m n j i
  pub rest : (k : ℕ) → j ≤ k → get_or frame (256 + k) 0 ≡ 0

-- the frame with other numbers at place j
abbrev pub placed : List ℕ → ℕ → ℕ → ℕ → ℕ → List ℕ
placed frame j shift least weight = set (set (set frame j shift) (128 + j) least) (256 + j) weight

module _ (frame : List ℕ) (j shift least weight : ℕ) where
  placed_length : length (placed frame j shift least weight) ≡ length frame
  placed_length = length-set (set (set frame j shift) (128 + j) least) (256 + j) weight
      ∙ (length-set (set frame j shift) (128 + j) least ∙ length-set frame j shift)

  placed_other : (q : ℕ) → (q ≢ j) → (q ≡ 128 + j → ⊥) → (q ≡ 256 + j → ⊥) → get_or (placed frame j shift least weight) q 0 ≡ get_or frame q 0
  placed_other q a b c =
      get_or-set_other (set (set frame j shift) (128 + j) least) (256 + j) q weight 0 c
      ∙ (get_or-set_other (set frame j shift) (128 + j) q least 0 b ∙ get_or-set_other frame j q shift 0 a)

  module _ (long : length frame ≡ frame_length) (low : j < most_laid) where
    placed_weight : get_or (placed frame j shift least weight) (256 + j) 0 ≡ weight
    placed_weight =
        get_or-set_same (set (set frame j shift) (128 + j) least) (256 + j) weight 0
        (omega (arith, low, long, length-set (set frame j shift) (128 + j) least, length-set frame j shift))

    placed_here : PlaceAt (placed frame j shift least weight) j shift least weight
    placed_here =
        record {
          shifts = get_or-set_other (set (set frame j shift) (128 + j) least) (256 + j) j weight 0 (λ e. omega (arith, e))
              ∙ (get_or-set_other (set frame j shift) (128 + j) j least 0 (λ e. omega (arith, e))
              ∙ get_or-set_same frame j shift 0 (omega (arith, low, long)));
          bounds = get_or-set_other (set (set frame j shift) (128 + j) least) (256 + j) (128 + j) weight 0 (λ e. omega (arith, e))
              ∙ get_or-set_same (set frame j shift) (128 + j) least 0 (omega (arith, low, long, length-set frame j shift));
          weighs = placed_weight;
        }

    -- later weights stay, and all stay light
    placed_rest : (k : ℕ) → j < k → get_or (placed frame j shift least weight) (256 + k) 0 ≡ get_or frame (256 + k) 0
    placed_rest k h = placed_other (256 + k) (λ e. omega (arith, e, h)) (λ e. omega (arith, e, h)) (λ e. omega (arith, e, h))

    placed_light : weight ≤ most_cells → ((k : ℕ) → get_or frame (256 + k) 0 ≤ most_cells) → (k : ℕ)
        → get_or (placed frame j shift least weight) (256 + k) 0 ≤ most_cells
    placed_light small light k = go (eqb k j) refl
      where
        go : (t : Bool) → eqb k j ≡ t → get_or (placed frame j shift least weight) (256 + k) 0 ≤ most_cells
        go true e = rw (eqb-true k j e, placed_weight) small
        go false e =
            rw (placed_other (256 + k) (λ q. omega (arith, q, low)) (λ q. omega (arith, q, low)) (λ q. eqb-false k j e (omega (arith, q)))) (light k)

    -- what is laid out stays so when a later place changes
    place_kept : (k a b w : ℕ) → k < j → PlaceAt frame k a b w → PlaceAt (placed frame j shift least weight) k a b w
    place_kept k a b w h at_k =
        record {
          shifts = placed_other k (λ e. omega (arith, e, h)) (λ e. omega (arith, e, h)) (λ e. omega (arith, e, h)) ∙ at_k.shifts;
          bounds = placed_other (128 + k) (λ e. omega (arith, e, low)) (λ e. omega (arith, e, h)) (λ e. omega (arith, e, h)) ∙ at_k.bounds;
          weighs = placed_other (256 + k) (λ e. omega (arith, e, low)) (λ e. omega (arith, e, low)) (λ e. omega (arith, e, h)) ∙ at_k.weighs;
        }

    laid_kept : (m n k h : ℕ) → k ≤ j → LooseLaid frame m n k h → LooseLaid (placed frame j shift least weight) m n k h
    laid_kept m n k h below (laid_none _ _ none_laid none_read) = laid_none k h none_laid none_read
    laid_kept m n k h below (laid_space p _ _ before some space one) =
        laid_space p h k (laid_kept m n p h (omega (arith, below, one)) before) some (place_kept p _ _ _ (omega (arith, below, one)) space) one
    laid_kept m n k h below (laid_level p i _ _ before fewer level space two one) =
        laid_level p i k h (laid_kept m n p i (omega (arith, below, two)) before) fewer (place_kept p _ _ _ (omega (arith, below, two)) level)
        (place_kept (p + 1) _ _ _ (omega (arith, below, two)) space) two one

-- ---- the steps

-- the weight of a level is light
pub level_light : (m n i : ℕ) → size_fits m n ≡ true → m ^ (n - (i + 1)) ≤ most_cells
level_light m n i fits =
    let size : Size m n = sized m n fits in
    le_trans (pow-le-pow_right (omega (arith, size.levels_least)) (omega arith)) size.cells_most

pub laying_start : (m n : ℕ) (frame : List ℕ) → Unlaid frame → Laying m n frame 0 0
laying_start m n frame unlaid =
    record {
      long = unlaid.long;
      light = λ k. rw (unlaid.blank (256 + k)) (omega arith);
      most = omega arith;
      laid = laid_none 0 0 refl refl;
      rest = λ k _. unlaid.blank (256 + k);
    }

module _ (m n : ℕ) (frame : List ℕ) (i j : ℕ) (before : Laying m n frame i j) where
  -- no frame
  pub laying_none : Framed m n frame 0
  laying_none =
      record {
        long = before.long;
        light = before.light;
        most = omega arith;
        laid = λ some. absurd (omega (arith, some));
        rest = λ some. absurd (omega (arith, some));
      }

  pub laying_space : 0 < i → j < most_laid → Laying m n (placed frame j 65503 65535 0) i (j + 1)
  laying_space some low =
      record {
        long = placed_length frame j 65503 65535 0 ∙ before.long;
        light = placed_light frame j 65503 65535 0 before.long low (omega arith) before.light;
        most = before.most;
        laid = laid_space j i (j + 1) (laid_kept frame j 65503 65535 0 before.long low m n j i (omega arith) before.laid) some
            (placed_here frame j 65503 65535 0 before.long low) refl;
        rest = λ k h. placed_rest frame j 65503 65535 0 before.long low k (omega (arith, h)) ∙ before.rest k (omega (arith, h));
      }

  module _ (weight : ℕ) (weighs : weight ≡ m ^ (n - (i + 1))) (small : weight ≤ most_cells) (fewer : i < n) (low : j + 1 < most_laid) where
    abbrev level : List ℕ
    level = placed frame j (65488 - m) (65536 - m) weight

    level_long : length level ≡ frame_length
    level_long = placed_length frame j (65488 - m) (65536 - m) weight ∙ before.long

    level_at_lem : LevelAt level m j (n - (i + 1))
    level_at_lem = subst (PlaceAt level j (65488 - m) (65536 - m)) weighs
        (placed_here frame j (65488 - m) (65536 - m) weight before.long (omega (arith, low)))

    pub laying_level : Laying m n (placed level (j + 1) 65503 65535 0) (i + 1) (j + 2)
    laying_level =
        record {
          long = placed_length level (j + 1) 65503 65535 0 ∙ level_long;
          light = placed_light level (j + 1) 65503 65535 0 level_long low (omega arith)
              (placed_light frame j (65488 - m) (65536 - m) weight before.long (omega (arith, low)) small before.light);
          most = omega (arith, fewer);
          laid = laid_level j i (j + 2) (i + 1)
              (laid_kept level (j + 1) 65503 65535 0 level_long low m n j i (omega arith)
              (laid_kept frame j (65488 - m) (65536 - m) weight before.long (omega (arith, low)) m n j i (omega arith) before.laid))
              fewer (place_kept level (j + 1) 65503 65535 0 level_long low j _ _ _ (omega arith) level_at_lem)
              (placed_here level (j + 1) 65503 65535 0 level_long low) refl refl;
          rest = λ k h. placed_rest level (j + 1) 65503 65535 0 level_long low k (omega (arith, h))
              ∙ (placed_rest frame j (65488 - m) (65536 - m) weight before.long (omega (arith, low)) k (omega (arith, h))
              ∙ before.rest k (omega (arith, h)));
        }
