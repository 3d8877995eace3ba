-- Representatives: assignments that cover a group, no two of them alike. There are as many as classes. Given rows that cover the group and columns
-- that cover the other inputs, the first row of each class is such a list.
-- Assumes nothing.
use Rattle.std.specs.Prelude.{◌<◌, ◌+◌, ◌^◌, ◌≡◌, ◌⊎◌}
use Rattle.laws.specs.Prelude.{ℕ, ◌∙◌, sym, refl, inl, inr, true, true≢false, List, [], Memᴰ, mem_not_nil}
use Rattle.laws.specs.Prelude.{not-suc-le-zero, le_antisymm, arith, eqb, length, get_or, eq-eqb, eqb-true}
use Rattle.rules.specs.Groups.Groups.{part, others, alike, alike_over, firsts, multiplicity}
use Rattle.rules.specs.Nets.Filling.{class_number}
use Rattle.laws.specs.Lists.Tests.{two_ways, all_mem, mem_all}
use Rattle.laws.specs.Lists.Places.{mem_get_or, mem_place}
use Rattle.laws.specs.Lists.FirstPlaces.{first_passing}
use Rattle.laws.specs.Lists.Pigeonhole.{later_differ, pigeonhole}
use Rattle.trees.specs.Trees.Trees.{Alike}
use Rattle.trees.specs.Groups.Alike.{alike_sym, alike_holds, alike_tested}
use Rattle.trees.specs.Groups.Classes.{class_below, class_alike}
use Rattle.trees.specs.Groups.Firsts.{Keeps, firsts_keep}
use Rattle.trees.specs.Groups.Covers.{Covers, covers_few, covers_kept, columns_alike, alike_columns}

-- a list that covers
abbrev pub Listed : ℕ → ℕ → (ℕ → ℕ) → ℕ → List ℕ → Type 0
Listed m n f g l = Covers m n f g (length l) (λ k. get_or l k 0)

pub record Reps (m n : ℕ) (f : ℕ → ℕ) (g c : ℕ) (e : ℕ → ℕ) : Type 0 where
  pub cover : Covers m n f g c e
  pub differ : (i j : ℕ) → i < j → j < c → Alike m n f g (e i) (e j) → ⊥

module _ (m n : ℕ) (pos : 0 < m) (f : ℕ → ℕ) (g : ℕ) (g< : g < 2 ^ n) where
  -- there are as many as classes
  pub reps_count : (c : ℕ) (e : ℕ → ℕ) → Reps m n f g c e → c ≡ multiplicity m n f g
  reps_count c e reps =
      le_antisymm
      (pigeonhole (multiplicity m n f g) c (λ i. class_number m n f g (e i)) (λ i _. class_below m n pos f g g< (e i))
      (later_differ c _ λ i j h j< same. reps.differ i j h j< (class_alike m n pos f g g< (e i) (e j) same)))
      (covers_few m n pos f g c e g< reps.cover)

  module _ (ys : List ℕ) (columns : Listed m n f (others n g) ys) where
    -- rows that agree at all columns are alike
    pub agree_alike : (p q : ℕ) → part m n g p ≡ p → part m n g q ≡ q → alike_over f ys p q ≡ true → Alike m n f g p q
    unfolding alike_over
    agree_alike p q p_own q_own h =
        columns_alike m n pos f g (length ys) (λ k. get_or ys k 0) g< columns p q p_own q_own (λ k k<. eqb-true _ _ (all_mem _ (mem_get_or ys k 0 k<) h))

    -- and conversely
    pub alike_agree : (p q : ℕ) → part m n g p ≡ p → part m n g q ≡ q → Alike m n f g p q → alike_over f ys p q ≡ true
    unfolding alike_over
    alike_agree p q p_own q_own like = mem_all _ ys at
      where
        at : (y : ℕ) → Memᴰ y ys → eqb (f (p + y)) (f (q + y)) ≡ true
        at y is = let (k, k<, here) = mem_place y ys is in eq-eqb _ _ (alike_columns m n pos f g y p q (own k k< here) p_own q_own like)
          where
            own : (k : ℕ) → k < length ys → get_or ys k 0 ≡ y → part m n (others n g) y ≡ y
            own k k< here = rw here at (columns.own k k<)

    -- so the test over covering columns is the test over all
    pub columns_tell : (p q : ℕ) → part m n g p ≡ p → part m n g q ≡ q → alike_over f ys p q ≡ alike m n f g p q
    columns_tell p q p_own q_own =
        two_ways (alike_over f ys p q) (alike m n f g p q)
        (λ h. rw (p_own, q_own) at (alike_tested m n pos f g p q g< (agree_alike p q p_own q_own h)))
        (λ h. alike_agree p q p_own q_own (alike_holds m n pos f g p q g< (rw (p_own, q_own) h)))

    -- The first of each class among rows that cover g.
    pub firsts_reps : (xs : List ℕ) → Listed m n f g xs → Reps m n f g (length (firsts (alike_over f ys) [] xs)) (λ k. get_or (firsts (alike_over f ys) [] xs) k 0)
    unfolding alike_over
    firsts_reps xs rows = record {
      cover = covers_kept m n pos f g (length xs) (λ k. get_or xs k 0) (length kept) (λ k. get_or kept k 0) rows own
          (λ k k<.
          let (j<, passes) = first_passing (alike_over f ys (get_or xs k 0)) 0 kept (keeps.covers _ (mem_get_or xs k 0 k<)) in
          (_, j<, agree_alike _ _ (rows.own k k<) (own _ j<) passes));
      differ = λ i j h j< like.
          true≢false (sym (alike_agree _ _ (own j j<) (own i (omega arith)) (alike_sym m n pos f g _ _ like))
          ∙ keeps.fresh (λ _ _ _ l. absurd (not-suc-le-zero l)) i j h j<);
    }
      where
        kept : List ℕ
        kept = firsts (alike_over f ys) [] xs

        keeps : Keeps (alike_over f ys) [] xs kept
        keeps = firsts_keep (alike_over f ys) (λ p. mem_all _ ys (λ y _. eq-eqb (f (p + y)) (f (p + y)) refl)) [] xs

        own : (k : ℕ) → k < length kept → part m n g (get_or kept k 0) ≡ get_or kept k 0
        own k k< = at (keeps.from _ (mem_get_or kept k 0 k<))
          where
            at : Memᴰ (get_or kept k 0) [] ⊎ Memᴰ (get_or kept k 0) xs → part m n g (get_or kept k 0) ≡ get_or kept k 0
            at (inl none) = absurd (mem_not_nil none)
            at (inr is) = let (j, j<, here) = mem_place _ xs is in rw here at (rows.own j j<)
