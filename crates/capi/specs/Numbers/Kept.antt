-- The answer of the keep call, as four numbers.
-- Assumes nothing.
use Rattle.rules.specs.Calls.Keeping.{Keeping, rewritten, turned_away}
use Rattle.capi.specs.Numbers.Named.{flat_named}
use Rattle.capi.specs.declared.numbers.kept.SitgurpKept.{SitgurpKept}

abbrev pub flat_kept : Keeping → SitgurpKept
flat_kept (rewritten length changed) = record { named = 0; number = 0; value = length; changed = changed }
flat_kept (turned_away named number place) = record { named = flat_named named; number = number; value = place; changed = 0 }
