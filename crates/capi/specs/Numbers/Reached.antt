-- A job's answer for a group, as the call for C returns it. The two numbers determine the answer.
-- Assumes nothing.
use Rattle.std.specs.Prelude.{◌^◌, ◌≡◌, ◌||◌}
use Rattle.laws.specs.Prelude.{ℕ, refl, true, false, eqb, leb}
use Rattle.rules.specs.Calls.Answers.{Answer, accepted, refused}
use Rattle.rules.specs.Calls.Jobs.{Job, Reached, final, not_reached, reached_in, ask_job}
use Rattle.laws.specs.Calls.Answers.{not_refused}
use Rattle.laws.specs.Lists.Tests.{by_test}
use Rattle.capi.specs.declared.numbers.reached.SitgurpMark.{SitgurpMark}

-- kind 0 with the mark; kind 1 if the group is not reached; otherwise the refusal's number with its place
abbrev pub flat_reached : Answer Reached → SitgurpMark
flat_reached (accepted (final mark)) = record { kind = 0; value = mark }
flat_reached (accepted not_reached) = record { kind = 1; value = 0 }
flat_reached (refused number place) = record { kind = number; value = place }

-- the answer that a kind and a value represent
abbrev pub reached_from : SitgurpMark → Answer Reached
reached_from r =
    elim (eqb r.kind 0) [
      | true ↦ accepted (final r.value)
      | false ↦ elim (eqb r.kind 1) [ true ↦ accepted not_reached | false ↦ refused r.kind r.value ]
    ]

module _ (job : Job) (g : ℕ) where
  -- a refused asking has kind 11, so its kind is neither 0 nor 1
  pub refused_kind : (number place : ℕ) → (ask_job job g).answer ≡ refused number place
      → flat_reached (ask_job job g).answer ≡ record { kind = 11; value = 0 }
  unfolding ask_job
  refused_kind =
      by_test (λ (a : Answer Reached). (number place : ℕ) → a ≡ refused number place → flat_reached a ≡ record { kind = 11; value = 0 })
      (eqb g 0 || leb (2 ^ job.table.header.inputs) g) _ _ (λ _ _ _. refl) (λ number place e. absurd (not_refused _ number place e))

  -- the two numbers determine the answer, for every job and group
  pub reached_told : reached_from (flat_reached (ask_job job g).answer) ≡ (ask_job job g).answer
  unfolding ask_job
  reached_told =
      by_test (λ (a : Answer Reached). reached_from (flat_reached a) ≡ a) (eqb g 0 || leb (2 ^ job.table.header.inputs) g) _ _ refl
      (accepted_told (reached_in job g))
    where
      accepted_told : (r : Reached) → reached_from (flat_reached (accepted r)) ≡ accepted r
      accepted_told (final mark) = refl
      accepted_told not_reached = refl
