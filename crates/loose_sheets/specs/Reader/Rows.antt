-- The rows of a loose sheet, one after the other.
-- Assumes nothing.
use Rattle.std.specs.Prelude.{◌<◌, ◌≤◌, ◌+◌, ◌-◌, ◌^◌, ◌≡◌, ◌∷◌, ◌++◌, Result, Ok, Err}
use Rattle.laws.specs.Prelude.{ℕ, suc, zero, ◌∙◌, sym, ap, refl, true, false, Bool, List, [], map, zero-add}
use Rattle.laws.specs.Prelude.{sub-zero, arith, eqb, length, get_or, take, drop, set, replicate, get_or-set_same, get_or-set_other, length-take-le, get_or-take}
use Rattle.laws.specs.Prelude.{ext_get_or, eq-eqb, eqb-true, eqb-false}
use Rattle.std.proofs.Math.Option.{some}
use Rattle.rules.specs.Lists.{range, any, find}
use Rattle.rules.specs.Sheets.Fields.{then}
use Rattle.rules.specs.Sheets.LooseSheet.{Row, is_of, ink_of, ink_named, loose_rows}
use Rattle.laws.specs.Lists.Bounds.{Below, at_below}
use Rattle.laws.specs.Lists.Ranges.{map_range_length, map_range_at}
use Rattle.answers.specs.declared.refusal.Refusal.{Refusal}
use Rattle.fields.specs.Chained.{never_both}
use Rattle.fields.specs.Steps.{Step, step_as}
use Rattle.fields.specs.declared.steps.Field.{Field}
use Rattle.loose_sheets.specs.Reader.Row.{LooseGiven, RowReads, row_as}
use Rattle.loose_sheets.specs.declared.reader.row.RowRead.{RowRead}

-- a buffer that holds only zeros
abbrev pub Blank : List ℕ → Type 0
Blank cells = (p : ℕ) → get_or cells p 0 ≡ 0

pub zeros_blank : (count : ℕ) → Blank (replicate count 0)
zeros_blank zero p = refl
zeros_blank (suc count) zero = refl
zeros_blank (suc count) (suc p) = zeros_blank count p

-- the inks of some rows are at the front of `cells`, in index order
pub record InksOf (m n : ℕ) (rows : List Row) (cells : List ℕ) : Type 0 where
  pub inks : take (m ^ n) cells ≡ map (ink_named rows) (range 0 (m ^ n))
  pub below : Below (suc m) (take (m ^ n) cells)

-- reading all rows from `at` on
pub record LooseRowsRead (s : List ℕ) (at m n : ℕ) (cells : List ℕ) (r : Step) : Type 0 where
  pub rows : List Row
  pub reads : step_as (λ _. rows) s r ≡ loose_rows m n (m ^ n) [] (drop at s) at
  pub held : (found : Field) → r ≡ Ok found → InksOf m n rows cells

-- ---- one more row

-- the row's own index is named by it, ..
any_last : (p : ℕ) (rows : List Row) (row : Row) → is_of p row ≡ true → any (is_of p) (rows ++ (row ∷ [])) ≡ true
unfolding any
any_last p [] row e = rw (e, any) refl
any_last p (r ∷ rows) row e = go (is_of p r) (any_last p rows row e)
  where
    go : (t : Bool) → any (is_of p) (rows ++ (row ∷ [])) ≡ true → ◌≡◌ {A = Bool} (elim t [ true ↦ true | false ↦ any (is_of p) (rows ++ (row ∷ [])) ]) true
    go true h = refl
    go false h = h

-- .. any other is named as before
any_other : (p : ℕ) (rows : List Row) (row : Row) → is_of p row ≡ false → any (is_of p) (rows ++ (row ∷ [])) ≡ any (is_of p) rows
unfolding any
any_other p [] row e = rw (e, any) refl
any_other p (r ∷ rows) row e = go (is_of p r) (any_other p rows row e)
  where
    go : (t : Bool) → any (is_of p) (rows ++ (row ∷ [])) ≡ any (is_of p) rows
        → ◌≡◌ {A = Bool} (elim t [ true ↦ true | false ↦ any (is_of p) (rows ++ (row ∷ [])) ]) (elim t [ true ↦ true | false ↦ any (is_of p) rows ])
    go true h = refl
    go false h = h

-- the ink of an index that no row named before
ink_last : (p : ℕ) (rows : List Row) (row : Row) → is_of p row ≡ true → any (is_of p) rows ≡ false → ink_named (rows ++ (row ∷ [])) p ≡ row.ink
unfolding ink_named find any
ink_last p [] row e none_named = rw (e, find) refl
ink_last p (r ∷ rows) row e none_named = go (is_of p r) none_named (ink_last p rows row e)
  where
    go : (t : Bool) → ◌≡◌ {A = Bool} (elim t [ true ↦ true | false ↦ any (is_of p) rows ]) false
        → (any (is_of p) rows ≡ false → ink_of (find (is_of p) (rows ++ (row ∷ []))) ≡ row.ink)
        → ink_of (elim t [ true ↦ some r | false ↦ find (is_of p) (rows ++ (row ∷ [])) ]) ≡ row.ink
    go true h more = absurd (let z : ◌≡◌ {A = Bool} true false = h in let y : ◌≡◌ {A = ℕ} 0 1 = cc in omega arith)
    go false h more = more h

ink_other : (p : ℕ) (rows : List Row) (row : Row) → is_of p row ≡ false → ink_named (rows ++ (row ∷ [])) p ≡ ink_named rows p
unfolding ink_named find
ink_other p [] row e = rw (e, find) refl
ink_other p (r ∷ rows) row e = go (is_of p r) (ink_other p rows row e)
  where
    go : (t : Bool) → ink_of (find (is_of p) (rows ++ (row ∷ []))) ≡ ink_of (find (is_of p) rows)
        → ink_of (elim t [ true ↦ some r | false ↦ find (is_of p) (rows ++ (row ∷ [])) ]) ≡ ink_of (elim t [ true ↦ some r | false ↦ find (is_of p) rows ])
    go true h = refl
    go false h = h

-- ---- the rows so far

-- k rows are read: those that `given` represents, their inks in `cells`; the rows from here are the rows from the start
pub record LooseInRows (s : List ℕ) (at m n : ℕ) (cells given : List ℕ) (place k : ℕ) : Type 0 where
  pub rows : List Row
  pub most : k ≤ m ^ n
  pub marks : LooseGiven (m ^ n) rows given
  pub inks : (p : ℕ) → p < m ^ n → get_or cells p 0 ≡ ink_named rows p
  pub below : (p : ℕ) → p < m ^ n → get_or cells p 0 < suc m
  pub reads : loose_rows m n (m ^ n) [] (drop at s) at ≡ loose_rows m n (m ^ n - k) rows (drop place s) place

pub rows_start : (s : List ℕ) (at m n : ℕ) (cells given : List ℕ) → Blank cells → Blank given → LooseInRows s at m n cells given at 0
unfolding any ink_named find
rows_start s at m n cells given blank none_given =
    record {
      rows = [];
      most = omega arith;
      marks = record { named = λ p h q. absurd (q (none_given p)); left = λ p h q. refl };
      inks = λ p h. blank p;
      below = λ p h. rw (blank p) (omega arith);
      reads = rw (sub-zero (m ^ n)) refl;
    }

module _ (s : List ℕ) (at m n : ℕ) (cells given : List ℕ) (place k : ℕ) (before : LooseInRows s at m n cells given place k) where
  pub loose_rows_done : m ^ n ≤ k → m ^ n ≤ length cells → LooseRowsRead s at m n cells (Ok (record { value = 0; next = place }))
  unfolding loose_rows
  loose_rows_done done room =
      let none_left : m ^ n - k ≡ 0 = omega arith in
      record {
        rows = before.rows;
        reads = sym (rw none_left at before.reads);
        held = λ _ _. record {
          inks = front;
          below = at_below (suc m) (take (m ^ n) cells)
              (λ p h. rw (get_or-take (m ^ n) cells p 0 (within p h)) (before.below p (within p h)));
        };
      }
    where
      long : length (take (m ^ n) cells) ≡ m ^ n
      long = length-take-le (m ^ n) cells room

      within : (p : ℕ) → p < length (take (m ^ n) cells) → p < m ^ n
      within p h = omega (arith, long, h)

      front : take (m ^ n) cells ≡ map (ink_named before.rows) (range 0 (m ^ n))
      front = ext_get_or 0 _ _ (long ∙ sym (map_range_length (ink_named before.rows) 0 (m ^ n)))
          (λ p h. get_or-take (m ^ n) cells p 0 (within p h)
          ∙ (before.inks p (within p h)
          ∙ sym (map_range_at (ink_named before.rows) 0 (m ^ n) p 0 (within p h) ∙ ap (ink_named before.rows) (zero-add p))))

  module _ (more : k < m ^ n) (r : Result RowRead Refusal) (row : RowReads s place m n given r) where
    onward : loose_rows m n (m ^ n) [] (drop at s) at
        ≡ then (row_as s r) (λ row. loose_rows m n (m ^ n - (k + 1)) (before.rows ++ (row ∷ [])))
    unfolding loose_rows
    onward =
        let counted : m ^ n - k ≡ suc (m ^ n - (k + 1)) = omega arith in
        before.reads
        ∙ (ap (λ c. loose_rows m n c before.rows (drop place s) place) counted
        ∙ ap (λ x. then x (λ row. loose_rows m n (m ^ n - (k + 1)) (before.rows ++ (row ∷ [])))) (sym (row.reads before.rows before.marks)))

    pub loose_rows_back : (e : Refusal) → r ≡ Err e → (after : List ℕ) → LooseRowsRead s at m n after (Err e)
    unfolding then
    loose_rows_back e is after = record { rows = []; reads = rw (onward, is) refl; held = λ found q. absurd (never_both (Err e) e found refl q) }

    module _ (this : RowRead) (on : r ≡ Ok this) (room : m ^ n ≤ length cells) (marked : m ^ n ≤ length given) where
      abbrev p : ℕ
      p = this.index

      abbrev ink : ℕ
      ink = this.ink

      named_row : Row
      named_row = record { index = p; ink = ink }

      pub rows_next : LooseInRows s at m n (set cells p ink) (set given p 1) this.next (k + 1)
      unfolding then named_row
      rows_next =
          let (low, small, fresh) = row.held this on in
          record {
            rows = before.rows ++ (named_row ∷ []);
            most = omega arith;
            marks = record { named = λ q h x. named q h x (eqb p q) refl; left = λ q h x. left q h x (eqb p q) refl };
            inks = λ q h. inks q h low fresh (eqb p q) refl;
            below = λ q h. below q h small low (eqb p q) refl;
            reads = rw (onward, on) refl;
          }
        where
          named : (q : ℕ) → q < m ^ n → (get_or (set given p 1) q 0 ≡ 0 → ⊥) → (t : Bool) → eqb p q ≡ t → any (is_of q) (before.rows ++ (named_row ∷ [])) ≡ true
          named q h x true e = any_last q before.rows named_row e
          named q h x false e =
              any_other q before.rows named_row e
              ∙ before.marks.named q h (λ z. x (get_or-set_other given p q 1 0 (λ y. eqb-false p q e (sym y)) ∙ z))

          left : (q : ℕ) → q < m ^ n → get_or (set given p 1) q 0 ≡ 0 → (t : Bool) → eqb p q ≡ t → any (is_of q) (before.rows ++ (named_row ∷ [])) ≡ false
          left q h x true e =
              let here : get_or (set given p 1) q 0 ≡ 1 = rw (← (eqb-true p q e)) (get_or-set_same given p 1 0 (omega (arith, eqb-true p q e))) in
              absurd (omega arith)
          left q h x false e =
              any_other q before.rows named_row e
              ∙ before.marks.left q h (sym (get_or-set_other given p q 1 0 (λ y. eqb-false p q e (sym y))) ∙ x)

          inks : (q : ℕ) → q < m ^ n → p < m ^ n → get_or given p 0 ≡ 0 → (t : Bool) → eqb p q ≡ t
              → get_or (set cells p ink) q 0 ≡ ink_named (before.rows ++ (named_row ∷ [])) q
          inks q h low fresh true e =
              rw (← (eqb-true p q e))
              (get_or-set_same cells p ink 0 (omega arith) ∙ sym (ink_last p before.rows named_row (eq-eqb p p refl) (before.marks.left p low fresh)))
          inks q h low fresh false e =
              get_or-set_other cells p q ink 0 (λ y. eqb-false p q e (sym y)) ∙ (before.inks q h ∙ sym (ink_other q before.rows named_row e))

          below : (q : ℕ) → q < m ^ n → ink ≤ m → p < m ^ n → (t : Bool) → eqb p q ≡ t → get_or (set cells p ink) q 0 < suc m
          below q h small low true e = rw (← (eqb-true p q e), get_or-set_same cells p ink 0 (omega arith)) (omega arith)
          below q h small low false e = rw (get_or-set_other cells p q ink 0 (λ y. eqb-false p q e (sym y))) (before.below q h)
