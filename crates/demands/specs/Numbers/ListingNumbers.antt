-- The numbers with which the lister may refuse.
-- Assumes nothing.
use Rattle.laws.specs.Prelude.{ℕ, List}
use Rattle.rules.specs.Sheets.Reading.{read_net}
use Rattle.rules.specs.Calls.Lister.{listing}
use Rattle.readback.specs.Readers.Numbers.{net_numbers, net_refusal}
use Rattle.demands.specs.Numbers.Numbers.{Gives, accepts, by_onward}

pub listing_numbers : (s : List ℕ) (k : ℕ) → Gives net_numbers (listing s k)
unfolding listing
listing_numbers s k = by_onward net_numbers (read_net s) _ (net_refusal s) (λ net. accepts net_numbers _)
