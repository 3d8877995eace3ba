-- `representatives::first_rows::row_firsts` meets its contract: each row's class is known, or the row is kept. Assumes nothing.
use Rattle.std.specs.Prelude.{◌<◌, ◌+◌, ◌-◌, ◌≡◌}
use Rattle.laws.specs.Prelude.{ℕ, List, ◌∙◌, sym, refl, arith, ltb-true, ltb-false, length, length-take, length-drop, get_or, get_or-take, take, drop}
use Rattle.std.proofs.lemmas.Grind.{get_or_after_one}
use Rattle.rules.specs.Calls.Answers.{ink_in}
use Rattle.representatives.specs.Columns.{columns_of, columns_some, column_first}
use Rattle.classes.specs.Counting.{firsts_found_one, kept_all, kept_enough, kept_known, kept_new}
use Rattle.representatives.proofs.first_rows.row_firsts.Goals as goal

-- the rows after the first: their number, and each of them
rows_left : (xs : List ℕ) → length (take (length xs - 1) (drop 1 xs)) ≡ length xs - 1
rows_left xs = omega (arith, length-take (length xs - 1) (drop 1 xs), length-drop 1 xs)

row_at : (xs : List ℕ) (i : ℕ) → i < length (take (length xs - 1) (drop 1 xs)) → get_or (take (length xs - 1) (drop 1 xs)) i 0 ≡ get_or xs (i + 1) 0
row_at xs i h = get_or-take (length xs - 1) (drop 1 xs) i 0 (omega (arith, rows_left xs)) ∙ get_or_after_one xs i 0 ∙ grind arith

pub bounds-heads-0 : goal.bounds-heads-0
bounds-heads-0 c = (columns_some c.args.run c.args.heads.now c.requires.columns).0

pub loop-p-init : goal.loop-p-init
loop-p-init c =
    let a = c.args in
    let pre = c.requires in (
      omega arith,
      column_first a.run a.heads.now pre.columns,
      firsts_found_one (ink_in a.cells.now) (length a.cells.now) (columns_of a.run a.heads.now) a.xs.now (a.m + 1) a.firsts.now (omega arith)
          (omega (arith, pre.room)) pre.rows (pre.within 0 pre.rows),
      pre.levels,
    )

pub is_known-requires : goal.is_known-requires
is_known-requires c =
    let l = c.loop-p in
    let here = c.loop-p-test.true in
    rw (row_at c.args.xs.now l.p-index here) (
      (columns_some c.args.run c.args.heads.now c.requires.columns).1,
      l.invariant.1,
      omega (arith, l.invariant.2.few, l.invariant.2.room),
      c.requires.within (l.p-index + 1) (omega (arith, rows_left c.args.xs.now)),
      l.invariant.2.inside,
    )

pub loop-p-preserved-then-is_known : goal.loop-p-preserved-then-is_known
loop-p-preserved-then-is_known c =
    let inv = c.loop-p.invariant in
    let known = ltb-true _ _ (rw (row_at c.args.xs.now c.loop-p.p-index c.loop-p-test.true) at (sym c.is_known.ensures ∙ c.if-is_known.true)) in
    (inv.0, inv.1, kept_known inv.2 (omega (arith, rows_left c.args.xs.now)) refl known, inv.3)

pub returns-then-count-m : goal.returns-then-count-m
returns-then-count-m c =
    let inv = c.loop-p.invariant in
    let at = row_at c.args.xs.now c.loop-p.p-index c.loop-p-test.true in
    let more : c.loop-p.p-index + 1 < length c.args.xs.now = omega (arith, rows_left c.args.xs.now) in
    rw at (kept_enough
    (kept_new inv.2 more refl (ltb-false _ _ (rw at at (sym c.is_known.ensures ∙ c.if-is_known.false))) (omega arith)
    (c.requires.within (c.loop-p.p-index + 1) more)) (omega arith))

pub place_apart-hint-requires : goal.place_apart-hint-requires
place_apart-hint-requires c =
    let l = c.loop-p in
    rw (row_at c.args.xs.now l.p-index c.loop-p-test.true) (
      (columns_some c.args.run c.args.heads.now c.requires.columns).1,
      l.invariant.1,
      c.requires.within (l.p-index + 1) (omega (arith, rows_left c.args.xs.now)),
      l.invariant.2.inside (l.count - 1) (omega arith),
    )

pub loop-p-preserved : goal.loop-p-preserved
loop-p-preserved c =
    let inv = c.loop-p.invariant in
    let at = row_at c.args.xs.now c.loop-p.p-index c.loop-p-test.true in
    let more : c.loop-p.p-index + 1 < length c.args.xs.now = omega (arith, rows_left c.args.xs.now) in
    rw at (
      omega arith,
      c.place_apart-hint.ensures.there,
      kept_new inv.2 more refl (ltb-false _ _ (rw at at (sym c.is_known.ensures ∙ c.if-is_known.false))) (omega arith)
          (c.requires.within (c.loop-p.p-index + 1) more),
      omega (arith, c.if-count-m.false),
    )

pub returns : goal.returns
returns c = kept_all c.loop-p.invariant.2 (omega (arith, rows_left c.args.xs.now))
