-- Rows that cover a group and columns that cover the other inputs: what the first row of each class says about the group.
-- Assumes nothing.
use Rattle.std.specs.Prelude.{◌<◌, ◌≤◌, ◌+◌, ◌-◌, ◌^◌, ◌*◌, ◌≡◌, ◌⊎◌}
use Rattle.laws.specs.Prelude.{ℕ, ◌∙◌, sym, ap, refl, subst, subst⁻¹, subst₂, inl, inr, false, List, [], Memᴰ}
use Rattle.laws.specs.Prelude.{mem_not_nil, zero-add, sub-zero, pow-suc, le_trans, pow-zero, pow-le-pow_right, lt_of_lt_of_le, one-mul, not-suc-le-zero}
use Rattle.laws.specs.Prelude.{arith, length, get_or, take, set, length-set, length-take, get_or-set_same, get_or-set_other, length-take-le, get_or-take, eq-eqb}
use Rattle.rules.specs.Groups.Groups.{part, size, others, alike_over, multiplicity}
use Rattle.laws.specs.Lists.Tests.{mem_all}
use Rattle.laws.specs.Lists.Places.{mem_get_or, mem_place}
use Rattle.trees.specs.Trees.Trees.{mix}
use Rattle.trees.specs.Groups.Members.{size_pos}
use Rattle.trees.specs.Groups.Levels.{part_below, mix_below}
use Rattle.trees.specs.Groups.Firsts.{Keeps, firsts_keep}
use Rattle.trees.specs.Groups.Covers.{Covers, covers_same, row_column}
use Rattle.trees.specs.Groups.Reps.{Listed, reps_count, firsts_reps}
use Rattle.trees.specs.Groups.Told.{Told}
use Rattle.classes.specs.Firsts.{classes_over, front_all, front_within}
use Rattle.classes.specs.Within.{Within}
use Rattle.radix.specs.Fronts.{Front}
use Rattle.radix.specs.Widths.{most_members}
use Rattle.representatives.specs.Columns.{Column}
use Rattle.representatives.specs.Copies.{Copied}
use Rattle.representatives.specs.FirstRows.{RowsFit}
use Rattle.representatives.specs.Steps.{RepJudged}
use Rattle.representatives.specs.Witnesses.{RowsTold, ToldAll}

-- the front of an array, as a list
pub front_listed : (m n : ℕ) → 0 < m → (f : ℕ → ℕ) (g : ℕ) (out : List ℕ) (count : ℕ) → count ≤ length out → Covers m n f g count (λ k. get_or out k 0)
    → Listed m n f g (take (count - 0) out)
front_listed m n pos f g out count room cover =
    subst⁻¹ (λ (k : ℕ). Listed m n f g (take k out)) (sub-zero count)
    (subst⁻¹ (λ (k : ℕ). Covers m n f g k (λ j. get_or (take count out) j 0)) (length-take-le count out room)
    (covers_same m n pos f g count _ _ (λ k k<. sym (get_or-take count out k 0 k<)) cover))

module _ {m n : ℕ} {f : ℕ → ℕ} {g : ℕ} (pos : 0 < m) (g< : g < 2 ^ n) (us vs : List ℕ) (rows : Listed m n f g us) (columns : Listed m n f (others n g) vs) where
  -- a column is an assignment of the other inputs
  column_own : (y : ℕ) → Column vs y → part m n (others n g) y ≡ y
  column_own y (k, k<, e) = subst (λ (x : ℕ). part m n (others n g) x ≡ x) e (columns.own k k<)

  -- a row plus a column is an index
  pub counting_within : (cells : ℕ) → m ^ n ≤ cells → (p : ℕ) → part m n g p ≡ p → Within cells vs p
  counting_within cells room p own k k< =
      lt_of_lt_of_le (subst (λ (x : ℕ). x < m ^ n) (row_column m n pos f g p (get_or vs k 0) own (columns.own k k<))
      (mix_below m n pos g p (get_or vs k 0) g<)) room

  pub counting_fits : (cells room : ℕ) → m ^ n ≤ cells → m < room → RowsFit cells us vs m room
  counting_fits cells room fit more =
      record {
        rows = some us (rows.every 0).1;
        columns = some vs (columns.every 0).1;
        levels = pos;
        room = more;
        within = λ i i<. counting_within cells fit (get_or us i 0) (rows.own i i<);
      }
    where
      some : (l : List ℕ) {k : ℕ} → k < length l → 0 < length l
      some l h = omega arith

  module _ {count : ℕ} {fs : List ℕ} (room : m < length fs) (found : Front (take (m + 1) (classes_over f vs us)) count fs) where
    all : List ℕ
    all = classes_over f vs us

    keeps : Keeps (alike_over f vs) [] us all
    unfolding all classes_over alike_over
    keeps = firsts_keep (alike_over f vs) (λ p. mem_all _ vs (λ y _. eq-eqb (f (p + y)) (f (p + y)) refl)) [] us

    -- the first `count` of them are at the front
    most : (count ≤ length all) × (count ≤ m + 1)
    unfolding all
    most = omega (arith, found.count, length-take (m + 1) (classes_over f vs us))

    at : (j : ℕ) → j < count → get_or all j 0 ≡ get_or fs j 0
    unfolding all
    at j h =
        sym (get_or-take (m + 1) (classes_over f vs us) j 0 (omega (arith, most)))
        ∙ ap (λ (l : List ℕ). get_or l j 0) (sym found.is)
        ∙ get_or-take count fs j 0 h

    -- each is an assignment of the group
    pub counting_own : (j : ℕ) → j < count → part m n g (get_or fs j 0) ≡ get_or fs j 0
    counting_own j h = subst (λ (x : ℕ). part m n g x ≡ x) (at j h) (own (keeps.from _ (mem_get_or all j 0 (omega (arith, most)))))
      where
        own : Memᴰ (get_or all j 0) [] ⊎ Memᴰ (get_or all j 0) us → part m n g (get_or all j 0) ≡ get_or all j 0
        own (inl none) = absurd (mem_not_nil none)
        own (inr is) = let (k, k<, here) = mem_place _ us is in subst (λ (x : ℕ). part m n g x ≡ x) here (rows.own k k<)

    -- if there are few of them, they cover the group
    pub counting_cover : count ≤ m → Covers m n f g count (λ k. get_or fs k 0)
    unfolding all classes_over
    counting_cover few =
        covers_same m n pos f g count _ _ at
        (subst⁻¹ (λ (c : ℕ). Covers m n f g c (λ k. get_or all k 0)) (front_all (m + 1) all found (omega (arith, front_within m all found few))).count
        (firsts_reps m n pos f g g< vs columns us rows).cover)

    -- and there are no more than classes
    pub counting_exact : count ≤ m → count ≤ multiplicity m n f g
    unfolding all classes_over
    counting_exact few =
        omega (
          arith,
          (front_all (m + 1) all found (omega (arith, front_within m all found few))).count,
          reps_count m n pos f g g< _ _ (firsts_reps m n pos f g g< vs columns us rows),
        )

    -- if there are too many, columns distinguish them, ..
    pub counting_told : m < count → n ≤ most_members → (cells : ℕ) → m ^ n ≤ cells → RowsTold m n f cells vs fs
    counting_told over inputs cells fit =
        record {
          levels = pos;
          inputs = inputs;
          some = columns_some (columns.every 0).1;
          small = λ y is. subst (λ (x : ℕ). x < m ^ n) (column_own y is) (part_below m n pos (others n g) y);
          room = room;
          within = λ j j≤. counting_within cells fit (get_or fs j 0) (counting_own j (omega arith));
          unlike = λ j k h k≤. subst₂ (λ (x y : ℕ). alike_over f vs x y ≡ false) (at k (omega arith)) (at j (omega arith))
              (keeps.fresh (λ _ _ _ l. absurd (not-suc-le-zero l)) j k h (omega (arith, most)));
        }
      where
        columns_some : {k : ℕ} → k < length vs → 0 < length vs
        columns_some h = omega arith

    -- .. so their columns are witness columns, also for larger groups
    pub counting_many : m < count → {s : ℕ} → ToldAll m n f vs fs s → Told m n f g s (m + 1)
    counting_many over {s} told =
        record {
          row = λ j. get_or fs j 0;
          base = told.base;
          apart = λ i j h j<.
              let tells = told.tells i j h (omega arith) in
              record {
                column = tells.column;
                same = tells.same;
                differ = λ e. tells.differ (sym (ink tells.column tells.there j (omega arith)) ∙ sym e
                    ∙ ink tells.column tells.there i (omega arith));
              };
        }
      where
        ink : (y : ℕ) → Column vs y → (j : ℕ) → j < count → f (mix m n g (get_or fs j 0) y) ≡ f (get_or fs j 0 + y)
        ink y is j j< = ap f (row_column m n pos f g (get_or fs j 0) y (counting_own j j<) (column_own y is))

-- what is recorded

module _ {m n : ℕ} {f : ℕ → ℕ} {g from : ℕ} {before : List ℕ} (levels : 1 < m) (g< : g < 2 ^ n) (some : 0 < g) (room : g * m + m ≤ length before) where
  -- too many classes
  pub judged_many : {s : ℕ} {after : List ℕ} → Told m n f g s (m + 1) → after ≡ set (set before (g * m) s) (g * m + 1) from
      → RepJudged m n f g from before 0 after
  judged_many {s} {after} told written =
      record {
        below = λ j h. at j ∙ get_or-set_other (set before (g * m) s) (g * m + 1) j from 0 (λ e. omega arith)
            ∙ get_or-set_other before (g * m) j s 0 (λ e. omega arith);
        few = λ h. absurd (omega arith);
        many = λ _. subst⁻¹ (λ (x : ℕ). Told m n f g x (m + 1))
            (at (g * m) ∙ get_or-set_other (set before (g * m) s) (g * m + 1) (g * m) from 0 (λ e. omega arith)
            ∙ get_or-set_same before (g * m) s 0 (omega arith)) told;
        base = λ _. at (g * m + 1) ∙ get_or-set_same (set before (g * m) s) (g * m + 1) from 0 (omega (arith, length-set before (g * m) s));
      }
    where
      at : (j : ℕ) → get_or after j 0 ≡ get_or (set (set before (g * m) s) (g * m + 1) from) j 0
      at j = ap (λ (l : List ℕ). get_or l j 0) written

  -- few classes
  pub judged_few : {count : ℕ} {fs after : List ℕ} → count ≤ m → count ≤ multiplicity m n f g → Covers m n f g count (λ k. get_or fs k 0)
      → Copied fs 0 before (g * m) count after → RepJudged m n f g from before count after
  judged_few {count} {fs} {after} few exact cover copied =
      record {
        below = copied.below;
        few = λ _.
            record {
              most = few;
              exact = exact;
              fits = le_trans few (subst (λ (k : ℕ). k ≤ m ^ size n g) first_power (pow-le-pow_right (omega arith) (size_pos n g g< some)));
              cover = covers_same m n (omega arith) f g count _ _ (λ k k<. sym (copied.copied k k< ∙ ap (λ (j : ℕ). get_or fs j 0) (zero-add k))) cover;
            };
        many = λ none. absurd (omega (arith, (cover.every 0).1));
        base = λ none. absurd (omega (arith, (cover.every 0).1));
      }
    where
      first_power : m ^ 1 ≡ m
      first_power = pow-suc m 0 ∙ ap (λ (k : ℕ). k * m) (pow-zero m) ∙ one-mul m
