-- What `firsts` keeps of a list, for a test that every element passes against itself: elements of the list; none passes
-- against an earlier one; and each element passes against one that is kept.
-- Assumes nothing.
use Rattle.std.specs.Prelude.{◌<◌, ◌≡◌, ◌⊎◌, ◌∷◌, ◌++◌}
use Rattle.laws.specs.Prelude.{ℕ, sym, refl, inl, inr, ⊎_map, true, false, Bool, List, [], map, Memᴰ, mem_head}
use Rattle.laws.specs.Prelude.{mem_not_nil, mem_tail, mem_append_cases, mem_cases_cons, mem_eq_of_singleton, mem_append_right}
use Rattle.laws.specs.Prelude.{mem_append_left, map-append, le_of_suc-le-suc, eq-or-lt_of_le, arith, length, get_or, length-append, get_or-append, get_or_at}
use Rattle.rules.specs.Groups.Groups.{firsts}
use Rattle.rules.specs.Lists.{any}
use Rattle.laws.specs.Lists.Tests.{none_mem, mem_any, any_map}
use Rattle.laws.specs.Lists.Places.{mem_get_or}
use Rattle.laws.specs.Lists.FirstPlaces.{first_passing}

-- no element passes against an earlier one
abbrev pub FreshOf : (ℕ → ℕ → Bool) → List ℕ → Type 0
FreshOf same l = (i j : ℕ) → i < j → j < length l → same (get_or l j 0) (get_or l i 0) ≡ false

-- l is what is kept of the list ps after the elements `kept`
pub record Keeps (same : ℕ → ℕ → Bool) (kept ps l : List ℕ) : Type 0 where
  pub from : (x : ℕ) → Memᴰ x l → Memᴰ x kept ⊎ Memᴰ x ps
  pub stays : (x : ℕ) → Memᴰ x kept → Memᴰ x l
  pub covers : (p : ℕ) → Memᴰ p ps → any (same p) l ≡ true
  pub fresh : FreshOf same kept → FreshOf same l

module _ (same : ℕ → ℕ → Bool) (own : (p : ℕ) → same p p ≡ true) where
  -- an element that passes against a kept one passes against one that is kept in the end
  carried : (kept ps l : List ℕ) (p : ℕ) → any (same p) kept ≡ true → Keeps same kept ps l → any (same p) l ≡ true
  carried kept ps l p e k =
      let f = first_passing (same p) 0 kept e in
      mem_any (same p) (k.stays _ (mem_get_or kept _ 0 f.0)) f.1

  -- one more element of the list, which is covered
  cover : (ps l : List ℕ) (p : ℕ) → any (same p) l ≡ true → ((q : ℕ) → Memᴰ q ps → any (same q) l ≡ true)
      → (q : ℕ) → Memᴰ q (p ∷ ps) → any (same q) l ≡ true
  cover ps l p e rest q i = elim (mem_cases_cons i) [ inl d ↦ rw d e | inr i ↦ rest q i ]

  -- an element that passes against a kept one
  passed : (kept ps l : List ℕ) (p : ℕ) → any (same p) kept ≡ true → Keeps same kept ps l → Keeps same kept (p ∷ ps) l
  passed kept ps l p e k = record {
    from = λ x i. ⊎_map (λ i. i) mem_tail (k.from x i);
    stays = k.stays;
    covers = cover ps l p (carried kept ps l p e k) k.covers;
    fresh = k.fresh;
  }

  -- an element that passes against none may be appended
  fresh_snoc : (kept : List ℕ) (p : ℕ) → any (same p) kept ≡ false → FreshOf same kept → FreshOf same (kept ++ (p ∷ []))
  fresh_snoc kept p e h i j i<j j< = go (eq-or-lt_of_le (le_of_suc-le-suc (omega (arith, length-append kept (p ∷ []), j<))))
    where
      end : List ℕ
      end = kept ++ (p ∷ [])

      go : (j ≡ length kept) ⊎ (j < length kept) → same (get_or end j 0) (get_or end i 0) ≡ false
      go (inl d) = rw (get_or_at kept p [] 0 j (sym d), get_or-append kept (p ∷ []) 0 i (omega arith)) (none_mem (same p) (mem_get_or kept i 0 (omega arith)) e)
      go (inr l) = rw (get_or-append kept (p ∷ []) 0 j l, get_or-append kept (p ∷ []) 0 i (omega arith)) (h i j i<j l)

  -- an element that passes against no kept one
  added : (kept ps l : List ℕ) (p : ℕ) → any (same p) kept ≡ false → Keeps same (kept ++ (p ∷ [])) ps l → Keeps same kept (p ∷ ps) l
  added kept ps l p e k = record {
    from = λ x i. go x (k.from x i);
    stays = λ x i. k.stays x (mem_append_left (p ∷ []) i);
    covers = cover ps l p (mem_any (same p) (k.stays p (mem_append_right kept (mem_head refl))) (own p)) k.covers;
    fresh = λ h. k.fresh (fresh_snoc kept p e h);
  }
    where
      last : (x : ℕ) → Memᴰ x kept ⊎ Memᴰ x (p ∷ []) → Memᴰ x kept ⊎ Memᴰ x (p ∷ ps)
      last x = ⊎_map (λ i. i) (λ i. mem_head (mem_eq_of_singleton i))

      go : (x : ℕ) → Memᴰ x (kept ++ (p ∷ [])) ⊎ Memᴰ x ps → Memᴰ x kept ⊎ Memᴰ x (p ∷ ps)
      go x (inl i) = last x (mem_append_cases kept i)
      go x (inr i) = inr (mem_tail i)

  -- what `firsts` keeps
  pub firsts_keep : (kept ps : List ℕ) → Keeps same kept ps (firsts same kept ps)
  unfolding firsts
  firsts_keep kept [] = record { from = λ x i. inl i; stays = λ x i. i; covers = λ p i. absurd (mem_not_nil i); fresh = λ h. h }
  firsts_keep kept (p ∷ ps) = go (any (same p) kept) refl (firsts_keep kept ps) (firsts_keep (kept ++ (p ∷ [])) ps)
    where
      go : (b : Bool) → any (same p) kept ≡ b
          → Keeps same kept ps (firsts same kept ps) → Keeps same (kept ++ (p ∷ [])) ps (firsts same (kept ++ (p ∷ [])) ps)
          → Keeps same kept (p ∷ ps) (elim b as (λ _. List ℕ) [ true ↦ firsts same kept ps | false ↦ firsts same (kept ++ (p ∷ [])) ps ])
      go true e k _ = passed kept ps _ p e k
      go false e _ k = added kept ps _ p e k

-- for the values of a function: the firsts' values are the values' firsts
pub firsts_map : {A B : Type 0} (f : A → B) (same : B → B → Bool) (kept ps : List A)
    → map f (firsts (λ p q. same (f p) (f q)) kept ps) ≡ firsts same (map f kept) (map f ps)
unfolding firsts
firsts_map f same kept [] = refl
firsts_map f same kept (p ∷ ps) =
    rw (any_map f (same (f p)) kept, firsts)
    (go (any (λ q. same (f p) (f q)) kept) _ _ (firsts_map f same kept ps) (rw map-append at (firsts_map f same (kept ++ (p ∷ [])) ps)))
  where
    go : (b : Bool) (c d : List _) {k l : List _} → map f c ≡ k → map f d ≡ l
        → map f (elim b [ true ↦ c | false ↦ d ]) ≡ elim b [ true ↦ k | false ↦ l ]
    go true c d e _ = e
    go false c d _ e = e
