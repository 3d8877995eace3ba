-- A gate at every pair of an entry of its outer list and one of its inner list. An entry is 16 times an assignment plus a value.
-- Assumes nothing.
use Rattle.std.specs.Prelude.{◌<◌, ◌≤◌, ◌+◌, ◌*◌, ◌%◌, ◌/◌, ◌≡◌}
use Rattle.laws.specs.Prelude.{ℕ, ◌∙◌, ap, ap₂, refl, List, mul-le-mul_right, suc-mul, mul-le-mul, add-one, ℕ_discrete}
use Rattle.laws.specs.Prelude.{arith, length, get_or, digits_lt}
use Rattle.rules.specs.Limits.{most_levels}
use Rattle.evaluation.specs.declared.lists.order.Span.{Span}
use Rattle.evaluation.specs.declared.lists.order.Order.{Order}
use Rattle.evaluation.specs.Lists.Runs.{Run}

-- above every entry
abbrev pub entries_end : ℕ
entries_end = 65_536

-- a level times the distance of its digits is small
pub level_distance : {k : ℕ} (e : ℕ) → k ≤ most_levels → e % 16 * k ≤ 135
level_distance e few = let low : e % 16 ≤ 15 = omega arith in mul-le-mul low few

-- the gate's entry for an outer entry, whose digits begin at `row` and whose assignment is `place`, and the inner entry b
abbrev pub joined_entry : List ℕ → ℕ → ℕ → ℕ → ℕ → ℕ
joined_entry digits row step place b = (place + b / 16) * 16 + get_or digits (row + b % 16 * step) 0

-- .. and entry j of the inner list
abbrev pub row_entry : Span → List ℕ → ℕ → ℕ → ℕ → List ℕ → ℕ → ℕ
row_entry inner digits row step place lists j = joined_entry digits row step place (get_or lists (inner.start + j) 0)

pub record RowReady (inner : Span) (digits : List ℕ) (row step place to : ℕ) (lists : List ℕ) : Type 0 where
  pub near : step ≤ most_levels
  pub inner_there : inner.start + inner.count ≤ to
  pub room : to + inner.count ≤ length lists
  pub digit_there : (j : ℕ) → j < inner.count → row + get_or lists (inner.start + j) 0 % 16 * step < length digits
  pub fits : (j : ℕ) → j < inner.count → row_entry inner digits row step place lists j < entries_end

abbrev pub RowDone : Span → List ℕ → ℕ → ℕ → ℕ → ℕ → List ℕ → List ℕ → Type 0
RowDone inner digits row step place to before after = Run to inner.count (row_entry inner digits row step place before) before after

-- the gate's entry for the outer entry a and the inner entry b
abbrev pub pair_of : Order → List ℕ → ℕ → ℕ → ℕ → ℕ
pair_of o digits from a b = joined_entry digits (from + a % 16 * o.wide) o.step (a / 16) b

-- .. for entries i and j of the two lists
abbrev pub pair_entry : Order → List ℕ → ℕ → List ℕ → ℕ → ℕ → ℕ
pair_entry o digits from lists i j = pair_of o digits from (get_or lists (o.outer.start + i) 0) (get_or lists (o.inner.start + j) 0)

pub record JoinReady (o : Order) (digits : List ℕ) (from to : ℕ) (lists : List ℕ) : Type 0 where
  pub outer_there : o.outer.start + o.outer.count ≤ to
  pub inner_there : o.inner.start + o.inner.count ≤ to
  pub room : to + o.outer.count * o.inner.count ≤ length lists
  pub few : o.wide ≤ most_levels
  pub near : o.step ≤ most_levels
  pub from_there : from ≤ length digits
  pub digit_there : (i j : ℕ) → i < o.outer.count → j < o.inner.count
      → from + get_or lists (o.outer.start + i) 0 % 16 * o.wide + get_or lists (o.inner.start + j) 0 % 16 * o.step < length digits
  pub fits : (i j : ℕ) → i < o.outer.count → j < o.inner.count → pair_entry o digits from lists i j < entries_end

-- the first i of the outer list have their entries, from `to` on
pub record PairsJoined (o : Order) (digits : List ℕ) (from to : ℕ) (before : List ℕ) (i : ℕ) (after : List ℕ) : Type 0 where
  pub same : length after ≡ length before
  pub front : (q : ℕ) → q < to → get_or after q 0 ≡ get_or before q 0
  pub there : (h j : ℕ) → h < i → j < o.inner.count → get_or after (to + (h * o.inner.count + j)) 0 ≡ pair_entry o digits from before h j

pub joined_none : (o : Order) (digits : List ℕ) (from to : ℕ) (before : List ℕ) → PairsJoined o digits from to before 0 before
joined_none o digits from to before = record { same = refl; front = λ q h. refl; there = λ h j none. absurd (omega arith) }

pub pair_rows_more : (i count : ℕ) → i * count + count ≡ (i + 1) * count
pair_rows_more i count = rw (add-one, suc-mul) (omega arith)

module _ (o : Order) (digits : List ℕ) (from to : ℕ) (before : List ℕ) (ready : JoinReady o digits from to before) (i at : ℕ) (turn : i < o.outer.count)
    (is_at : at ≡ to + i * o.inner.count) (lists : List ℕ) (done : PairsJoined o digits from to before i lists) where
  abbrev count : ℕ
  count = o.inner.count

  abbrev a : ℕ
  a = get_or lists (o.outer.start + i) 0

  outer_same : a ≡ get_or before (o.outer.start + i) 0
  outer_same = done.front (o.outer.start + i) (omega (arith, ready.outer_there))

  inner_same : (j : ℕ) → j < count → get_or lists (o.inner.start + j) 0 ≡ get_or before (o.inner.start + j) 0
  inner_same j h = done.front (o.inner.start + j) (omega (arith, ready.inner_there))

  pub join_row_room : at + count ≤ length lists
  join_row_room = omega (arith, is_at, pair_rows_more i count, mul-le-mul_right count turn, ap (λ (k : ℕ). k * count) (add-one i), ready.room, done.same)

  pub row_ready : RowReady o.inner digits (from + a % 16 * o.wide) o.step (a / 16) at lists
  row_ready =
      record {
        near = ready.near;
        inner_there = omega (arith, is_at, ready.inner_there);
        room = join_row_room;
        digit_there = λ j h. rw (outer_same, inner_same j h) (ready.digit_there i j turn h);
        fits = λ j h. rw (outer_same, inner_same j h) (ready.fits i j turn h);
      }

  pub joined_more : (after : List ℕ) → RowDone o.inner digits (from + a % 16 * o.wide) o.step (a / 16) at lists after
      → PairsJoined o digits from to before (i + 1) after
  joined_more after row =
      record {
        same = row.same ∙ done.same;
        front = λ q h. row.front q (omega (arith, is_at)) ∙ done.front q h;
        there = λ h j h< j<. go h j h< j< (ℕ_discrete h i);
      }
    where
      go : (h j : ℕ) → h < i + 1 → j < count → Dec (h ≡ i) → get_or after (to + (h * count + j)) 0 ≡ pair_entry o digits from before h j
      go h j h< j< (yes e) =
          let place : to + (i * count + j) ≡ at + j = omega (arith, is_at) in
          rw (e, place) (row.there j j< ∙ ap₂ (pair_of o digits from) outer_same (inner_same j j<))
      go h j h< j< (no other) =
          let less : h < i = omega arith in
          row.front _ (omega (arith, is_at, digits_lt less j<)) ∙ done.there h j less j<
