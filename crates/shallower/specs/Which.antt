-- What the answer of the shallower of two sheets represents, and what is returned: its address and its bytes.
-- Assumes nothing.
use Rattle.std.specs.Prelude.{◌≡◌}
use Rattle.laws.specs.Prelude.{ℕ, refl, List, []}
use Rattle.std.specs.Borrow.{Bor}
use Rattle.rules.specs.Calls.Shallower as rules
use Rattle.rules.specs.Calls.Shallower.{first_sheet, second_sheet, no_sheet, shallower_call, which_of}
use Rattle.shallower.specs.declared.which.Which.{Which}
use Rattle.shallower.specs.declared.which.Which.TheVariants.{First, Second, Neither}

abbrev pub which_as : Which → rules.Which
which_as First = first_sheet
which_as Second = second_sheet
which_as Neither = no_sheet

-- "hands back the shallower sheet itself", or "an empty part of the first"
abbrev pub handed : rules.Which → Bor (List ℕ) → Bor (List ℕ) → (ℕ × ℕ) × List ℕ
handed first_sheet first second = (first.ref_ptr, first.now)
handed second_sheet first second = (second.ref_ptr, second.now)
handed no_sheet first second = (first.ref_ptr, [])

-- its bytes are the definition's
pub handed_bytes : (first second : Bor (List ℕ)) → (handed (which_of first.now second.now) first second).1 ≡ shallower_call first.now second.now
unfolding shallower_call
handed_bytes first second = go (which_of first.now second.now)
  where
    go : (w : rules.Which) → (handed w first second).1
        ≡ elim w as (λ _. List ℕ) [ first_sheet ↦ first.now | second_sheet ↦ second.now | no_sheet ↦ [] ]
    go first_sheet = refl
    go second_sheet = refl
    go no_sheet = refl
