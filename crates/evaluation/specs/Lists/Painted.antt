-- Values written to cells, in any order: one cell, a row of cells, and the cells for all pairs of a gate's two lists.
-- Assumes nothing.
use Rattle.std.specs.Prelude.{◌<◌, ◌≤◌, ◌+◌, ◌*◌, ◌%◌, ◌/◌, ◌≡◌, ◌⊎◌}
use Rattle.laws.specs.Prelude.{ℕ, ◌∙◌, sym, refl, subst, inl, inr, List, ℕ_discrete, arith, length, get_or, set}
use Rattle.laws.specs.Prelude.{length-set, get_or-set_same, get_or-set_other}
use Rattle.rules.specs.Limits.{most_levels, most_cells}
use Rattle.evaluation.specs.declared.lists.order.Span.{Span}
use Rattle.evaluation.specs.declared.lists.order.Order.{Order}

-- `Writes c v` says that v is written to cell c. If each such value is that of f, the cells written agree with f, and so do those that did before
pub record Painted (Writes : ℕ → ℕ → Type 0) (before after : List ℕ) : Type 0 where
  pub same : length after ≡ length before
  pub agree : (f : ℕ → ℕ) → ((c v : ℕ) → Writes c v → v ≡ f c) → (x : ℕ) → (get_or before x 0 ≡ f x) ⊎ ((v : ℕ) × Writes x v) → get_or after x 0 ≡ f x

-- one cell
pub painted_cell : (cells : List ℕ) (c v : ℕ) → c < length cells → Painted (λ x u. (c ≡ x) × (v ≡ u)) cells (set cells c v)
painted_cell cells c v room =
    record { same = length-set cells c v; agree = λ f fits x reached. go f (fits c v (refl, refl)) x reached (ℕ_discrete x c) }
  where
    go : (f : ℕ → ℕ) → v ≡ f c → (x : ℕ) → (get_or cells x 0 ≡ f x) ⊎ ((u : ℕ) × ((c ≡ x) × (v ≡ u))) → Dec (x ≡ c) → get_or (set cells c v) x 0 ≡ f x
    go f fits x reached (yes e) = rw e (get_or-set_same cells c v 0 room ∙ fits)
    go f fits x (inl h) (no other) = get_or-set_other cells c x v 0 other ∙ h
    go f fits x (inr (_, (e, _))) (no other) = absurd (other (sym e))

-- the first k of several parts
abbrev pub Parts : (ℕ → ℕ → ℕ → Type 0) → ℕ → ℕ → ℕ → Type 0
Parts Writes k c v = (i : ℕ) × (i < k) × Writes i c v

module _ (Writes : ℕ → ℕ → ℕ → Type 0) (before : List ℕ) where
  pub painted_none : Painted (Parts Writes 0) before before
  painted_none = record { same = refl; agree = λ f fits x reached. go f x reached }
    where
      go : (f : ℕ → ℕ) (x : ℕ) → (get_or before x 0 ≡ f x) ⊎ ((v : ℕ) × Parts Writes 0 x v) → get_or before x 0 ≡ f x
      go f x (inl h) = h
      go f x (inr (v, (i, none, _))) = absurd (omega arith)

  pub painted_more : (k : ℕ) (cells after : List ℕ) → Painted (Parts Writes k) before cells → Painted (Writes k) cells after
      → Painted (Parts Writes (k + 1)) before after
  painted_more k cells after done more =
      record { same = more.same ∙ done.same; agree = λ f fits x at. more.agree f (λ c v w. fits c v (k, omega arith, w)) x (go f fits x at) }
    where
      early : (f : ℕ → ℕ) → ((c v : ℕ) → Parts Writes (k + 1) c v → v ≡ f c) → (x : ℕ) → (get_or before x 0 ≡ f x) ⊎ ((v : ℕ) × Parts Writes k x v)
          → get_or cells x 0 ≡ f x
      early f fits x at = done.agree f (λ c v w. fits c v (w.0, omega (arith, w.1), w.2)) x at

      go : (f : ℕ → ℕ) → ((c v : ℕ) → Parts Writes (k + 1) c v → v ≡ f c) → (x : ℕ) → (get_or before x 0 ≡ f x) ⊎ ((v : ℕ) × Parts Writes (k + 1) x v)
          → (get_or cells x 0 ≡ f x) ⊎ ((v : ℕ) × Writes k x v)
      go f fits x (inl h) = inl (early f fits x (inl h))
      go f fits x (inr (v, (i, h, w))) = pick (ℕ_discrete i k)
        where
          pick : Dec (i ≡ k) → (get_or cells x 0 ≡ f x) ⊎ ((u : ℕ) × Writes k x u)
          pick (yes e) = inr (v, subst (λ (q : ℕ). Writes q x v) e w)
          pick (no ne) = inl (early f fits x (inr (v, (i, omega arith, w))))

-- ---- a row: the cells for one outer entry, whose digits begin at `row` and whose first cell is `place`, and all inner entries

abbrev pub row_cell : Span → ℕ → List ℕ → ℕ → ℕ
row_cell inner place lists j = place + get_or lists (inner.start + j) 0 / 16

abbrev pub row_digit : Span → ℕ → ℕ → List ℕ → ℕ → ℕ
row_digit inner row step lists j = row + get_or lists (inner.start + j) 0 % 16 * step

pub record RowCells (inner : Span) (digits : List ℕ) (row step place : ℕ) (lists : List ℕ) (long : ℕ) : Type 0 where
  pub there : inner.start + inner.count ≤ length lists
  pub digit_there : (j : ℕ) → j < inner.count → row_digit inner row step lists j < length digits
  pub room : (j : ℕ) → j < inner.count → row_cell inner place lists j < long

abbrev pub RowWrites : Span → List ℕ → ℕ → ℕ → ℕ → List ℕ → ℕ → ℕ → ℕ → Type 0
RowWrites inner digits row step place lists j c v = (row_cell inner place lists j ≡ c) × (get_or digits (row_digit inner row step lists j) 0 ≡ v)

abbrev pub RowPainted : Span → List ℕ → ℕ → ℕ → ℕ → List ℕ → ℕ → List ℕ → List ℕ → Type 0
RowPainted inner digits row step place lists k before after = Painted (Parts (RowWrites inner digits row step place lists) k) before after

-- ---- all pairs: a row for each outer entry

abbrev pub outer_row : Order → ℕ → List ℕ → ℕ → ℕ
outer_row o from lists i = from + get_or lists (o.outer.start + i) 0 % 16 * o.wide

abbrev pub outer_place : Order → ℕ → List ℕ → ℕ → ℕ
outer_place o offset lists i = offset + get_or lists (o.outer.start + i) 0 / 16

pub record PairCells (o : Order) (digits : List ℕ) (from offset : ℕ) (lists cells : List ℕ) : Type 0 where
  pub few : o.wide ≤ most_levels
  pub from_there : from ≤ length digits
  pub near : offset ≤ most_cells
  pub outer_there : o.outer.start + o.outer.count ≤ length lists
  pub rows : (i : ℕ) → i < o.outer.count → RowCells o.inner digits (outer_row o from lists i) o.step (outer_place o offset lists i) lists (length cells)

abbrev pub PairWrites : Order → List ℕ → ℕ → ℕ → List ℕ → ℕ → ℕ → ℕ → Type 0
PairWrites o digits from offset lists i =
    Parts (RowWrites o.inner digits (outer_row o from lists i) o.step (outer_place o offset lists i) lists) o.inner.count

abbrev pub AllPainted : Order → List ℕ → ℕ → ℕ → List ℕ → ℕ → List ℕ → List ℕ → Type 0
AllPainted o digits from offset lists k before after = Painted (Parts (PairWrites o digits from offset lists) k) before after
