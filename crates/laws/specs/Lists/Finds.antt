-- The first element that a search finds, by `find`.
-- Assumes nothing.
use Rattle.std.specs.Prelude.{◌<◌, ◌≤◌, ◌+◌, ◌≡◌, ◌↔◌, ◌≢◌, ◌⊎◌, ◌&&◌, ◌∷◌, ◌++◌}
use Rattle.laws.specs.Prelude.{ℕ, suc, zero, ◌∙◌, sym, ap, refl, subst, ⊎_elim, inl, inr, true, false, Bool}
use Rattle.laws.specs.Prelude.{true≢false, List, [], Memᴰ, mem_head, mem_tail, mem_cases_cons, arith}
use Rattle.rules.specs.Lists.{range, those, find}
use Rattle.std.proofs.Math.Option.{Option, none, some, some-injective, none-ne-some}

-- The number that a search found is P, and first by R among all that are P; if it found nothing, no number is P.
pub data First (P : ℕ → Type 0) (R : ℕ → ℕ → Type 0) : Option ℕ → Type 0 where
  found : (g : ℕ) → P g → ((h : ℕ) → P h → R g h) → First P R (some g)
  missing : ((h : ℕ) → P h → ⊥) → First P R none

module _ {P : ℕ → Type 0} {R : ℕ → ℕ → Type 0} where
  -- if some number is P, one was found
  pub the_first : {o : Option ℕ} → First P R o → (w : ℕ) → P w →
      let g = elim o as (λ _. ℕ) [ none ↦ 0 | some g ↦ g ] in
      P g × ((h : ℕ) → P h → R g h)
  the_first (found g p least) w q = (p, least)
  the_first (missing empty) w q = absurd (empty w q)

  -- what was found is P
  pub found_is : {o : Option ℕ} → First P R o → (x : ℕ) → o ≡ some x → P x
  found_is (found g p least) x e = subst P (some-injective g x e) p
  found_is (missing empty) x e = absurd (none-ne-some x e)

  -- the only number that is P is found
  pub found_only : {o : Option ℕ} → First P R o → (x : ℕ) → P x → ((y : ℕ) → P y → y ≡ x) → o ≡ some x
  found_only (found g p least) x q only = ap some (only g p)
  found_only (missing empty) x q only = absurd (empty x q)

-- the same, with equivalent P and R
pub first_same : {P S : ℕ → Type 0} {R R' : ℕ → ℕ → Type 0} {o : Option ℕ} → First P R o
    → ((h : ℕ) → P h ↔ S h) → ((g h : ℕ) → S g → S h → R g h → R' g h) → First S R' o
first_same (found g p least) same before =
    found g ((same g).0 p) (λ h s. before g h ((same g).0 p) s (least h ((same h).1 s)))
first_same (missing empty) same before = missing (λ h s. empty h ((same h).1 s))

-- the first of two searches, if everything the one finds comes before everything the other finds
abbrev pub or_else : Option ℕ → Option ℕ → Option ℕ
or_else none o = o
or_else (some g) o = some g

pub first_or : {P Q S : ℕ → Type 0} {R : ℕ → ℕ → Type 0} {o p : Option ℕ} → First P R o → First Q R p
    → ((h : ℕ) → (P h ⊎ Q h) ↔ S h) → ((g h : ℕ) → P g → Q h → R g h) → First S R (or_else o p)
first_or (found g p least) second either before =
    found g ((either g).0 (inl p)) (λ h s. ⊎_elim (least h) (before g h p) ((either h).1 s))
first_or (missing empty) (found g q least) either before =
    found g ((either g).0 (inr q)) (λ h s. ⊎_elim (λ p. absurd (empty h p)) (least h) ((either h).1 s))
first_or (missing empty) (missing empty') either before = missing (λ h s. ⊎_elim (empty h) (empty' h) ((either h).1 s))

-- a search through two lists, one after the other
pub find_append : (t : ℕ → Bool) (xs ys : List ℕ) → find t (xs ++ ys) ≡ or_else (find t xs) (find t ys)
unfolding find
find_append t [] ys = refl
find_append t (x ∷ xs) ys = go (t x) (find_append t xs ys)
  where
    go : (b : Bool) → find t (xs ++ ys) ≡ or_else (find t xs) (find t ys)
        → elim b as (λ _. Option ℕ) [ true ↦ some x | false ↦ find t (xs ++ ys) ]
        ≡ or_else (elim b [ true ↦ some x | false ↦ find t xs ]) (find t ys)
    go true later = refl
    go false later = later

-- a search among the elements that pass another test
pub find_those : (s t : ℕ → Bool) (xs : List ℕ) → find t (those s xs) ≡ find (λ x. s x && t x) xs
unfolding find those
find_those s t [] = refl
find_those s t (x ∷ xs) = go (s x) (find_those s t xs)
  where
    go : (b : Bool) → find t (those s xs) ≡ find (λ x. s x && t x) xs
        → find t (elim b [ true ↦ x ∷ those s xs | false ↦ those s xs ])
        ≡ elim (b && t x) as (λ _. Option ℕ) [ true ↦ some x | false ↦ find (λ x. s x && t x) xs ]
    go true later = ap (λ (r : Option ℕ). elim (t x) as (λ _. Option ℕ) [ true ↦ some x | false ↦ r ]) later
    go false later = later

-- a search through a range finds the lowest
abbrev pub InRange : (ℕ → Bool) → ℕ → ℕ → ℕ → Type 0
InRange t from count g = (from ≤ g) × (g < from + count) × (t g ≡ true)

pub first_in_range : (t : ℕ → Bool) (from count : ℕ) → First (InRange t from count) ◌≤◌ (find t (range from count))
unfolding find range
first_in_range t from zero = missing (λ h p. omega arith)
first_in_range t from (suc count) = go (t from) refl (first_in_range t (suc from) count)
  where
    next : t from ≡ false → (h : ℕ) → InRange t from (suc count) h → InRange t (suc from) count h
    next here h p =
        let other : h ≢ from = λ e. true≢false (sym p.2 ∙ ap t e ∙ here) in
        (omega arith, omega arith, p.2)

    go : (b : Bool) → t from ≡ b → First (InRange t (suc from) count) ◌≤◌ (find t (range (suc from) count))
        → First (InRange t from (suc count)) ◌≤◌ (elim b [ true ↦ some from | false ↦ find t (range (suc from) count) ])
    go true here later = found from (omega arith, omega arith, here) (λ h p. p.0)
    go false here later = first_same later (λ h. (λ p. (omega arith, omega arith, p.2), next here h)) (λ g h p q r. r)

pub find_same : (t u : ℕ → Bool) (xs : List ℕ) → ((x : ℕ) → Memᴰ x xs → t x ≡ u x) → find t xs ≡ find u xs
unfolding find
find_same t u [] e = refl
find_same t u (x ∷ xs) e =
    rw (e x (mem_head refl), find)
    (ap (λ (o : Option ℕ). elim (u x) as (λ _. Option ℕ) [ true ↦ some x | false ↦ o ]) (find_same t u xs (λ y m. e y (mem_tail m))))

pub those_mem : (t : ℕ → Bool) (xs : List ℕ) (x : ℕ) → Memᴰ x (those t xs) → Memᴰ x xs
unfolding those
those_mem t [] x m = m
those_mem t (y ∷ xs) x m = go (t y) (those_mem t xs x) m
  where
    go : (b : Bool) → (Memᴰ x (those t xs) → Memᴰ x xs) → Memᴰ x (elim b [ true ↦ y ∷ those t xs | false ↦ those t xs ]) → Memᴰ x (y ∷ xs)
    go true later m = ⊎_elim (λ e. mem_head e) (λ r. mem_tail (later r)) (mem_cases_cons m)
    go false later m = mem_tail (later m)
