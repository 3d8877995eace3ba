-- Chains of kept assignments. A head or a link is 1 more than a place, and 0 ends the chain; a link leads to an earlier place.
-- Assumes nothing.
use Rattle.std.specs.Prelude.{◌<◌, ◌+◌, ◌≡◌}
use Rattle.laws.specs.Prelude.{ℕ, suc, zero, ◌∙◌, sym, ap, refl, subst, true, false, Bool, true≢false, List, arith, get_or, replicate}
use Rattle.laws.specs.Lists.Tests.{not_true_false}

-- place j is in the chain that starts at a head
pub data InChain (links : List ℕ) (j : ℕ) : ℕ → Type 0 where
  here : (head : ℕ) → head ≡ j + 1 → InChain links j head
  later : (head i : ℕ) → head ≡ i + 1 → InChain links j (get_or links i 0) → InChain links j head

-- every head is 0
abbrev pub NoChains : List ℕ → Type 0
NoChains heads = (b : ℕ) → get_or heads b 0 ≡ 0

pub no_chains : (count : ℕ) → NoChains (replicate count 0)
no_chains zero b = refl
no_chains (suc count) zero = refl
no_chains (suc count) (suc b) = no_chains count b

-- a place below `end` whose element passes
pub record Passing (test : ℕ → Bool) (xs : List ℕ) (end : ℕ) : Type 0 where
  pub place : ℕ
  pub below : place < end
  pub passes : test (get_or xs place 0) ≡ true

-- the result r of searching a chain
pub record Searched (test : ℕ → Bool) (xs links : List ℕ) (head : ℕ) (r : Bool) : Type 0 where
  pub found : r ≡ true → Passing test xs head
  pub missed : r ≡ false → (j : ℕ) → InChain links j head → test (get_or xs j 0) ≡ false

module _ (test : ℕ → Bool) (xs links : List ℕ) (head : ℕ) where
  -- during the search: what passes is in the rest of the chain
  abbrev pub Rest : ℕ → Type 0
  Rest at = (j : ℕ) → InChain links j head → test (get_or xs j 0) ≡ true → InChain links j at

  pub rest_next : (at i : ℕ) → at ≡ i + 1 → Rest at → test (get_or xs i 0) ≡ false → Rest (get_or links i 0)
  rest_next at i e rest fails j chain passes = go (rest j chain passes)
    where
      go : InChain links j at → InChain links j (get_or links i 0)
      go (here _ h) = let same : j ≡ i = omega arith in absurd (true≢false (sym passes ∙ ap (λ (k : ℕ). test (get_or xs k 0)) same ∙ fails))
      go (later _ k h on) = let same : k ≡ i = omega arith in subst (λ (k : ℕ). InChain links j (get_or links k 0)) same on

  pub search_found : (i : ℕ) → i < head → test (get_or xs i 0) ≡ true → Searched test xs links head true
  search_found i low passes = record { found = λ _. record { place = i; below = low; passes = passes }; missed = λ e. absurd (true≢false e) }

  pub search_missed : (at : ℕ) → at ≡ 0 → Rest at → Searched test xs links head false
  search_missed at e rest = record { found = λ h. absurd (true≢false (sym h)); missed = λ _ j chain. not_true_false _ (λ e. ended j (rest j chain e)) }
    where
      ended : (j : ℕ) → InChain links j at → ⊥
      ended j (here _ h) = omega arith
      ended j (later _ k h on) = omega arith
