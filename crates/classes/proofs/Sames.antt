-- A search that begins after places at which its test fails.
-- Assumes nothing.
use Rattle.std.specs.Prelude.{◌<◌, ◌≤◌, ◌-◌, ◌≡◌}
use Rattle.laws.specs.Prelude.{ℕ, suc, zero, ◌∙◌, sym, ap, refl, false, Bool, add-one, arith}
use Rattle.rules.specs.Lists.{range, find}
use Rattle.laws.specs.Lists.Walks.{find_next}

module _ (test : ℕ → Bool) where
  -- a search from there on gives the same result
  pub find_behind : (end k : ℕ) → k ≤ end → ((j : ℕ) → j < k → test j ≡ false) → find test (range k (end - k)) ≡ find test (range 0 (end - 0))
  find_behind end zero le none = refl
  find_behind end (suc k) le none =
      ap (λ (i : ℕ). find test (range i (end - i))) (sym (add-one k))
      ∙ find_next test k end (omega arith) (none k (omega arith))
      ∙ find_behind end k (omega arith) (λ j h. none j (omega arith))
