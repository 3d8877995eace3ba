-- The shallower of two sheets as two numbers: which, and the length of what is returned.
-- Assumes nothing.
use Rattle.laws.specs.Prelude.{ℕ, List, length}
use Rattle.rules.specs.Calls.Shallower.{Which, first_sheet, second_sheet, no_sheet}
use Rattle.capi.specs.declared.shallower_sheet.SitgurpWhich.{SitgurpWhich}

abbrev pub flat_which : Which → List ℕ → List ℕ → SitgurpWhich
flat_which first_sheet first second = record { which = 1; length = length first }
flat_which second_sheet first second = record { which = 2; length = length second }
flat_which no_sheet first second = record { which = 0; length = 0 }
