-- The numbers with which the call for arrival times may refuse, by the sheet that it refuses.
-- Assumes nothing.
use Rattle.std.specs.Prelude.{◌≡◌}
use Rattle.laws.specs.Prelude.{ℕ, subst, List, arith}
use Rattle.rules.specs.Nets.Arrivals.{Timing, net_refused, arrivals_refused, arrivals_call}
use Rattle.rules.specs.Sheets.Reading.{read_net}
use Rattle.rules.specs.Sheets.ArrivalSheet.{read_arrivals}
use Rattle.laws.specs.Lists.Distinct.{In}
use Rattle.readback.specs.Readers.Numbers.{net_numbers, net_refusal}
use Rattle.readback.specs.Arrivals.ArrivalRefusals.{arrival_numbers, arrivals_refusal}
use Rattle.demands.specs.Numbers.Numbers.{by_answer}

-- every number with which it refuses a sheet is one of that sheet's
pub record TimingTurns (timing : Timing) : Type 0 where
  pub net : (number place : ℕ) → timing ≡ net_refused number place → In number net_numbers
  pub arrivals : (number place : ℕ) → timing ≡ arrivals_refused number place → In number arrival_numbers

pub arrivals_numbers : (s r : List ℕ) (delay : ℕ) → TimingTurns (arrivals_call s r delay)
unfolding arrivals_call
arrivals_numbers s r delay =
    by_answer TimingTurns (read_net s) _ _
    (λ net _. by_answer TimingTurns (read_arrivals net.header.names r) _ _
    (λ arrivals _. record {
      net = λ number place e. absurd (let z : ◌≡◌ {A = ℕ} 0 1 = cc in omega arith);
      arrivals = λ number place e. absurd (let z : ◌≡◌ {A = ℕ} 0 1 = cc in omega arith);
    })
    (λ k at e. record {
      net = λ number place d. absurd (let z : ◌≡◌ {A = ℕ} 0 1 = cc in omega arith);
      arrivals = λ number place d. subst (λ (j : ℕ). In j arrival_numbers) (let z : k ≡ number = cc in z) (arrivals_refusal net.header.names r k at e);
    }))
    (λ k at e. record {
      net = λ number place d. subst (λ (j : ℕ). In j net_numbers) (let z : k ≡ number = cc in z) (net_refusal s k at e);
      arrivals = λ number place d. absurd (let z : ◌≡◌ {A = ℕ} 0 1 = cc in omega arith);
    })
