-- A verdict as four numbers.
-- Assumes nothing.
use Rattle.rules.specs.Calls.Checking.{Verdict, agree, differ, turned_down}
use Rattle.capi.specs.Numbers.Named.{flat_named}
use Rattle.capi.specs.declared.numbers.verdict.SitgurpVerdict.{SitgurpVerdict}

abbrev pub flat_verdict : Verdict → SitgurpVerdict
flat_verdict agree = record { kind = 0; named = 0; number = 0; value = 0 }
flat_verdict (differ index) = record { kind = 1; named = 0; number = 0; value = index }
flat_verdict (turned_down named number place) = record { kind = 2; named = flat_named named; number = number; value = place }
