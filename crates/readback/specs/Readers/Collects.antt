-- Readers that read several things of a kind, one after another, and append them to those read before.
-- Assumes nothing.
use Rattle.std.specs.Prelude.{◌≡◌, ◌↔◌, ◌∷◌, ◌++◌}
use Rattle.laws.specs.Prelude.{ℕ, suc, sym, ap, refl, fun_ext, List, [], append-nil, arith, length, append_snoc}
use Rattle.rules.specs.Sheets.Fields.{Read, read, turned_back, Reader, then, ◌>>=◌, give}
use Rattle.readback.specs.Readers.Spells.{Spells, spells_give, spells_then, spells_as}

module _ {A : Type 0} where
  -- `count` things that satisfy `Rule`
  abbrev pub Several : ℕ → (List A → Type 0) → Type 0
  Several count Rule = (xs : List A) × (length xs ≡ count) × Rule xs

  -- `r` reads `count` things that satisfy `Rule`, printed by `print`, and appends them to the earlier ones
  abbrev pub Collects : Reader (List A) → List A → ℕ → (List A → Type 0) → (List A → List ℕ) → Type 0
  Collects r earlier count Rule print = Spells r (Several count Rule) (λ x. earlier ++ x.0) (λ x. print x.0)

  -- no more things
  pub collects_none : (earlier : List A) (Rule : List A → Type 0) (print : List A → List ℕ) → Rule [] → print [] ≡ []
      → Collects (give earlier) earlier 0 Rule print
  collects_none earlier Rule print h e = spells_as (spells_give earlier) (λ x. (([], refl, h), sym (append-nil earlier), sym e)) none
    where
      none : (y : Several 0 Rule) → (x : Unit {0}) × (earlier ++ y.0 ≡ earlier) × (print y.0 ≡ [])
      none ([], l, g) = (tt, append-nil earlier, e)
      none (x ∷ xs, l, g) = absurd (omega arith)

  -- one thing, then the others
  pub collects_more : {r : Reader A} (k : A → Reader (List A)) (earlier : List A) (count : ℕ)
      (One : A → Type 0) (Rest : A → List A → Type 0) (Rule : List A → Type 0) (p : A → List ℕ) (rest print : List A → List ℕ)
      → Spells r ((a : A) × One a) (λ x. x.0) (λ x. p x.0)
      → ((a : A) → Collects (k a) (earlier ++ (a ∷ [])) count (Rest a) rest)
      → ((a : A) (xs : List A) → (One a × Rest a xs) ↔ Rule (a ∷ xs))
      → ((a : A) (xs : List A) → length xs ≡ count → p a ++ rest xs ≡ print (a ∷ xs))
      → Collects (r >>= k) earlier (suc count) Rule print
  collects_more k earlier count One Rest Rule p rest print first next rules text = spells_as (spells_then k first (λ x. next x.0))
      (λ ((a, h), (xs, l, g)). ((a ∷ xs, ap suc l, (rules a xs).0 (h, g)), append_snoc earlier a xs, text a xs l))
      more
    where
      more : (y : Several (suc count) Rule) → (x : (x : (a : A) × One a) × Several count (Rest x.0))
          × (earlier ++ y.0 ≡ earlier ++ (x.0.0 ∷ []) ++ x.1.0) × (print y.0 ≡ p x.0.0 ++ rest x.1.0)
      more ([], l, g) = absurd (omega arith)
      more (a ∷ xs, l, g) =
          let e : length xs ≡ count = omega arith in
          let (h, i) = (rules a xs).1 g in
          (((a, h), (xs, e, i)), sym (append_snoc earlier a xs), sym (text a xs e))

-- two readers and then a third, grouped either way
pub then_then : {A B C : Type 0} (r : Reader A) (k : A → Reader B) (l : B → Reader C) → (r >>= k >>= l) ≡ (r >>= λ a. k a >>= l)
unfolding then
then_then {A = A} r k l = fun_ext (λ s. fun_ext (λ at. go (r s at)))
  where
    go : (t : Read A) → then (then t k) l ≡ then t (λ a. k a >>= l)
    go (read a rest place) = refl
    go (turned_back number place) = refl
