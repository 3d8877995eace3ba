-- The theorems of Nets/SettledLaws that rest on a definition which a must-fail edit changes: they stand here, so that the edit leaves specs/ readable.
-- Assumes nothing.
use Rattle.std.specs.Prelude.{ℕ, zero, suc, ◌+◌, ◌<◌, ◌≡◌, ◌↔◌, ◌⊎◌, Bool, ◌||◌, length, get_or}
use Rattle.std.proofs.Math.Path.{refl, subst}
use Rattle.std.proofs.Common.{sym, ap, ◌∙◌, inl, inr, true≢false, eq-or-lt_of_le, arith, length-append}
use Rattle.std.proofs.Math.Bool.{true, false, or-true}
use Rattle.std.proofs.lemmas.Bool.{false≢true}
use mathlib.Core.List.{List, [], ◌∷◌, ◌++◌, append_assoc, append-nil}
use Rattle.std.proofs.Math.ListN.{get_or-append}
use Rattle.std.proofs.lemmas.List.{get_or_at}
use Rattle.std.proofs.Math.Dec.{eqb}
use borrow.Author.Tests.{eqb-true, eqb-false}
use Rattle.rules.specs.Lists.{all, any, first_place}
use Rattle.rules.specs.Groups.Groups.{others, points, alike_over, alike, firsts, classes}
use Rattle.rules.specs.Nets.SettledLaws.{ByAppearance}

-- ---- "in the order in which they first appear"

-- combines the test of the first element with the rest's answer, in `any` and in `first_place`
abbrev or_rest : Bool → Bool → Bool
or_rest t rest = elim t [ true ↦ true | false ↦ rest ]

abbrev place_by : Bool → ℕ → ℕ
place_by t rest = elim t [ true ↦ zero | false ↦ suc rest ]

-- a test of a list with one more element
any_snoc : (test : ℕ → Bool) (xs : List ℕ) (x : ℕ) → any test (xs ++ (x ∷ [])) ≡ (any test xs || test x)
unfolding any
any_snoc test [] x = go (test x)
  where
    go : (t : Bool) → or_rest t false ≡ t
    go true = refl
    go false = refl
any_snoc test (y ∷ xs) x = go (test y) _ _ (any_snoc test xs x)
  where
    go : (t b c : Bool) → b ≡ (c || test x) → or_rest t b ≡ (or_rest t c || test x)
    go true b c e = refl
    go false b c e = e

-- the first place stays the same if more elements follow, ..
first_stays : (test : ℕ → Bool) (xs ys : List ℕ) → first_place test xs < length xs → first_place test (xs ++ ys) ≡ first_place test xs
unfolding first_place
first_stays test [] ys h = absurd (omega arith)
first_stays test (x ∷ xs) ys h = go (test x) h (first_stays test xs ys)
  where
    go : (t : Bool) → place_by t (first_place test xs) < suc (length xs)
        → (first_place test xs < length xs → first_place test (xs ++ ys) ≡ first_place test xs)
        → place_by t (first_place test (xs ++ ys)) ≡ place_by t (first_place test xs)
    go true h later = refl
    go false h later = ap suc (later (omega arith))

-- .. and is the end if none passed before
first_new : (test : ℕ → Bool) (xs : List ℕ) (x : ℕ) → any test xs ≡ false → test x ≡ true → first_place test (xs ++ (x ∷ [])) ≡ length xs
unfolding first_place any
first_new test [] x none e = rw (e, first_place)
first_new test (y ∷ xs) x none e = go (test y) none (λ none. first_new test xs x none e)
  where
    go : (t : Bool) → or_rest t (any test xs) ≡ false → (any test xs ≡ false → first_place test (xs ++ (x ∷ [])) ≡ length xs)
        → place_by t (first_place test (xs ++ (x ∷ []))) ≡ suc (length xs)
    go true none later = absurd (true≢false none)
    go false none later = ap suc (later none)

-- one of two tests passes
either : (a b : Bool) → (a || b) ≡ true → (a ≡ true) ⊎ (b ≡ true)
either true b e = inl refl
either false b e = inr e

-- a place in a list with one more element is that of the new element, or an earlier one
new_or_old : (l : List ℕ) (p i : ℕ) → i < length (l ++ (p ∷ [])) → (i ≡ length l) ⊎ (i < length l)
new_or_old l p i h = eq-or-lt_of_le (omega (arith, length-append l (p ∷ [])))

module _ (same : ℕ → ℕ → Bool) (own : (p : ℕ) → same p p ≡ true) (chain : (p q r : ℕ) → same p q ≡ true → same q r ≡ true → same p r ≡ true) where
  -- if q is alike to p, and p to an element of l, then q is alike to an element of l
  any_chain : (q p : ℕ) (l : List ℕ) → same q p ≡ true → any (same p) l ≡ true → any (same q) l ≡ true
  unfolding any
  any_chain q p [] e h = h
  any_chain q p (x ∷ l) e h = go (same p x) refl (same q x) refl h (any_chain q p l e)
    where
      go : (s : Bool) → same p x ≡ s → (t : Bool) → same q x ≡ t → or_rest s (any (same p) l) ≡ true
          → (any (same p) l ≡ true → any (same q) l ≡ true) → or_rest t (any (same q) l) ≡ true
      go s d true c h later = refl
      go true d false c h later = absurd (false≢true (sym c ∙ chain q p x e d))
      go false d false c h later = later h

  -- one more element after those of `done`, whose classes are in l
  module _ (done l : List ℕ) (p : ℕ) (before : ByAppearance same done l) where
    -- the classes listed appear where they did
    place_kept : (i : ℕ) → i < length l → first_place (same (get_or l i 0)) (done ++ (p ∷ [])) ≡ first_place (same (get_or l i 0)) done
    place_kept i h = first_stays (same (get_or l i 0)) done (p ∷ []) (before.appears i h)

    appears_kept : (i : ℕ) → i < length l → first_place (same (get_or l i 0)) (done ++ (p ∷ [])) < length (done ++ (p ∷ []))
    appears_kept i h = rw (place_kept i h, length-append) (omega (arith, before.appears i h))

    first_kept : (i : ℕ) → i < length l → get_or (done ++ (p ∷ [])) (first_place (same (get_or l i 0)) (done ++ (p ∷ []))) 0 ≡ get_or l i 0
    first_kept i h = rw (place_kept i h) (get_or-append done (p ∷ []) 0 _ (before.appears i h) ∙ before.first i h)

    -- an element of a class that is listed
    passed : any (same p) l ≡ true → ByAppearance same (done ++ (p ∷ [])) l
    passed e = record {
      all_listed = λ q h. go q (either (any (same q) done) (same q p) (rw any_snoc at h));
      appears = appears_kept;
      first = first_kept;
      order = λ i j h k. rw (place_kept i (omega arith), place_kept j k) (before.order i j h k);
    }
      where
        go : (q : ℕ) → (any (same q) done ≡ true) ⊎ (same q p ≡ true) → any (same q) l ≡ true
        go q (inl d) = before.all_listed q d
        go q (inr s) = any_chain q p l s e

    -- an element of a class that is not listed
    module _ (e : any (same p) l ≡ false) where
      -- it appears with this element
      place_new : first_place (same p) (done ++ (p ∷ [])) ≡ length done
      place_new = go (any (same p) done) refl
        where
          go : (b : Bool) → any (same p) done ≡ b → first_place (same p) (done ++ (p ∷ [])) ≡ length done
          go true d = absurd (true≢false (sym (before.all_listed p d) ∙ e))
          go false d = first_new (same p) done p d (own p)

      old_at : (i : ℕ) → i < length l → get_or (l ++ (p ∷ [])) i 0 ≡ get_or l i 0
      old_at i h = get_or-append l (p ∷ []) 0 i h

      new_at : (i : ℕ) → i ≡ length l → get_or (l ++ (p ∷ [])) i 0 ≡ p
      new_at i d = get_or_at l p [] 0 i (sym d)

      added : ByAppearance same (done ++ (p ∷ [])) (l ++ (p ∷ []))
      added = record {
        all_listed = λ q h. rw any_snoc (listed q (either (any (same q) done) (same q p) (rw any_snoc at h)));
        appears = λ i h. appears_at i (new_or_old l p i h);
        first = λ i h. first_at i (new_or_old l p i h);
        order = λ i j h k. order_at i j h (new_or_old l p j k);
      }
        where
          listed : (q : ℕ) → (any (same q) done ≡ true) ⊎ (same q p ≡ true) → (any (same q) l || same q p) ≡ true
          listed q (inl d) = rw (before.all_listed q d)
          listed q (inr s) = rw (s, or-true)

          appears_at : (i : ℕ) → (i ≡ length l) ⊎ (i < length l) → first_place (same (get_or (l ++ (p ∷ [])) i 0)) (done ++ (p ∷ [])) < length (done ++ (p ∷ []))
          appears_at i (inl d) = rw (new_at i d, place_new, length-append) (omega arith)
          appears_at i (inr h) = rw (old_at i h) (appears_kept i h)

          first_at : (i : ℕ) → (i ≡ length l) ⊎ (i < length l)
              → get_or (done ++ (p ∷ [])) (first_place (same (get_or (l ++ (p ∷ [])) i 0)) (done ++ (p ∷ []))) 0 ≡ get_or (l ++ (p ∷ [])) i 0
          first_at i (inl d) = rw (new_at i d, place_new) (get_or_at done p [] 0 (length done) refl)
          first_at i (inr h) = rw (old_at i h) (first_kept i h)

          order_at : (i j : ℕ) → i < j → (j ≡ length l) ⊎ (j < length l)
              → first_place (same (get_or (l ++ (p ∷ [])) i 0)) (done ++ (p ∷ [])) < first_place (same (get_or (l ++ (p ∷ [])) j 0)) (done ++ (p ∷ []))
          order_at i j h (inl d) =
              let i< : i < length l = omega arith in
              rw (old_at i i<, new_at j d, place_new, place_kept i i<) (before.appears i i<)
          order_at i j h (inr k) =
              let i< : i < length l = omega arith in
              rw (old_at i i<, old_at j k, place_kept i i<, place_kept j k) (before.order i j h k)

  -- an element of a class that is listed is skipped, ..
  firsts_listed : (l ps : List ℕ) (p : ℕ) → any (same p) l ≡ true → firsts same l (p ∷ ps) ≡ firsts same l ps
  unfolding firsts
  firsts_listed l ps p e = rw (e, firsts)

  -- .. and one of an unlisted class is appended
  firsts_unlisted : (l ps : List ℕ) (p : ℕ) → any (same p) l ≡ false → firsts same l (p ∷ ps) ≡ firsts same (l ++ (p ∷ [])) ps
  unfolding firsts
  firsts_unlisted l ps p e = rw (e, firsts)

  -- so `firsts` continues as it began
  firsts_on : (done l ps : List ℕ) → ByAppearance same done l → ByAppearance same (done ++ ps) (firsts same l ps)
  firsts_on done l [] before = unfold firsts in rw append-nil before
  firsts_on done l (p ∷ ps) before =
      subst (λ (all : List ℕ). ByAppearance same all (firsts same l (p ∷ ps))) (append_assoc done (p ∷ []) ps)
      (go (any (same p) l) refl (firsts_on (done ++ (p ∷ [])) l ps) (firsts_on (done ++ (p ∷ [])) (l ++ (p ∷ [])) ps))
    where
      go : (b : Bool) → any (same p) l ≡ b
          → (ByAppearance same (done ++ (p ∷ [])) l → ByAppearance same ((done ++ (p ∷ [])) ++ ps) (firsts same l ps))
          → (ByAppearance same (done ++ (p ∷ [])) (l ++ (p ∷ [])) → ByAppearance same ((done ++ (p ∷ [])) ++ ps) (firsts same (l ++ (p ∷ [])) ps))
          → ByAppearance same ((done ++ (p ∷ [])) ++ ps) (firsts same l (p ∷ ps))
      go true e old new = rw (firsts_listed l ps p e) (old (passed done l p before e))
      go false e old new = rw (firsts_unlisted l ps p e) (new (added done l p before e))

  -- What `firsts` keeps of a list is one element of each class, in the order in which they first appear.
  firsts_by_appearance : (ps : List ℕ) → ByAppearance same ps (firsts same [] ps)
  firsts_by_appearance ps =
      firsts_on [] [] ps
      (record { all_listed = λ p h. h; appears = λ i h. absurd (omega arith); first = λ i h. absurd (omega arith); order = λ i j h k. absurd (omega arith) })

-- two assignments are alike over a list of others exactly if the ink is the same with each
alike_cons : (f : ℕ → ℕ) (y : ℕ) (ys : List ℕ) (p q : ℕ) → (alike_over f (y ∷ ys) p q ≡ true) ↔ ((f (p + y) ≡ f (q + y)) × (alike_over f ys p q ≡ true))
unfolding alike_over all
alike_cons f y ys p q = go (eqb (f (p + y)) (f (q + y))) refl
  where
    go : (b : Bool) → eqb (f (p + y)) (f (q + y)) ≡ b
        → (elim b as (λ _. Bool) [ true ↦ alike_over f ys p q | false ↦ false ] ≡ true) ↔ ((f (p + y) ≡ f (q + y)) × (alike_over f ys p q ≡ true))
    go true e = (λ h. (eqb-true _ _ e, h), λ h. h.1)
    go false e = (λ h. absurd (false≢true h), λ h. absurd (eqb-false _ _ e h.0))

-- so each is alike to itself, ..
alike_own : (f : ℕ → ℕ) (ys : List ℕ) (p : ℕ) → alike_over f ys p p ≡ true
unfolding alike_over all
alike_own f [] p = refl
alike_own f (y ∷ ys) p = (alike_cons f y ys p p).1 (refl, alike_own f ys p)

-- .. and alikeness is transitive
alike_chain : (f : ℕ → ℕ) (ys : List ℕ) (p q r : ℕ) → alike_over f ys p q ≡ true → alike_over f ys q r ≡ true → alike_over f ys p r ≡ true
unfolding alike_over all
alike_chain f [] p q r a b = refl
alike_chain f (y ∷ ys) p q r a b =
    let (here, there) = (alike_cons f y ys p q).0 a in
    let (here', there') = (alike_cons f y ys q r).0 b in
    (alike_cons f y ys p r).1 (here ∙ here', alike_chain f ys p q r there there')

-- A group's classes are numbered "in the order in which they first appear as the group's assignments are counted".
pub classes_by_appearance : (m n : ℕ) (f : ℕ → ℕ) (g : ℕ) → ByAppearance (alike m n f g) (points m n g) (classes m n f g)
unfolding classes alike
classes_by_appearance m n f g =
    firsts_by_appearance (alike_over f (points m n (others n g))) (alike_own f (points m n (others n g))) (alike_chain f (points m n (others n g)))
    (points m n g)
