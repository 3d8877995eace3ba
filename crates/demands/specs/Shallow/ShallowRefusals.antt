-- Document 02: a making and a settling that "are otherwise as document 01 has them". They return what making and settling return, except for the
-- count of layers, and leave the same cells and marks; so they refuse exactly when those do, with the same number and place, and change no other
-- buffer. This holds for 15 too: net sheets with one header and the same leaves have the same length.
-- Assumes nothing.
use Rattle.std.specs.Prelude.{◌≡◌, ◌↔◌}
use Rattle.laws.specs.Prelude.{ℕ, ap, refl, List, answer_cases}
use Rattle.rules.specs.Calls.Answers.{Answer, accepted, refused, onward}
use Rattle.rules.specs.Calls.OpenCells.{read_full}
use Rattle.rules.specs.Calls.Settling.{settled_net, made_into, settle_call, make_call}
use Rattle.rules.specs.Calls.ShallowSettling.{Layered, layered_into, shallow_net, settle_shallow_call, make_shallow_call}
use Rattle.rules.specs.Sheets.Reading.{read_net, table_of_net}
use Rattle.rules.specs.Sheets.Sheets.{Table}
use Rattle.laws.specs.Calls.Answers.{not_refused}
use Rattle.laws.specs.Calls.Settling.{settle_refused, settle_accepted, make_refused, make_accepted}
use Rattle.laws.specs.Calls.ShallowSettling.{plain_answer, plain_made, plain_into, settle_shallow_refused, settle_shallow_accepted}
use Rattle.laws.specs.Calls.ShallowSettling.{make_shallow_refused, make_shallow_accepted}
use Rattle.laws.specs.Calls.ButSheet.{ButSheet, but_none, into_but}
use Rattle.readback.specs.Sheets.ReadBack.{net_accepted}
use Rattle.trees.proofs.Shallow.ShallowTables.{shallow_as_long}
use Rattle.demands.specs.Numbers.Numbers.{Gives}
use Rattle.demands.specs.Numbers.SettlingNumbers.{settle_numbers, make_numbers, settle_numbers_lem, make_numbers_lem, settle_never_16}
use Rattle.demands.specs.Sheets.FullSheets.{FullTableRules, full_accepted, net_kept, full_keeps}

-- an answer without its count of layers refuses exactly if it did with it
plain_refuses : (answer : Answer Layered) (number place : ℕ) → (answer ≡ refused number place) ↔ (plain_answer answer ≡ refused number place)
unfolding plain_answer onward
plain_refuses (accepted a) number place = (λ e. absurd (not_refused a number place e), λ e. absurd (not_refused a.length number place e))
plain_refuses (refused k at) number place = (λ e. ap plain_answer e, λ e. cc)

-- from a table
from_table : (t : Table) → FullTableRules t → (cells marks output : List ℕ)
    → ButSheet (plain_made (layered_into shallow_net t cells marks output)) (made_into settled_net t cells marks output)
from_table t kept cells marks output =
    rw plain_into (into_but shallow_net settled_net t cells marks output (shallow_as_long t (full_keeps t kept) kept.below))

module _ (s cells marks output : List ℕ) where
  -- shallow making has the same result as making, except for the sheet, ..
  pub make_but_sheet : ButSheet (plain_made (make_shallow_call s cells marks output)) (make_call s cells marks output)
  unfolding plain_made plain_answer onward
  make_but_sheet = go (read_full s) refl
    where
      go : (a : Answer Table) → read_full s ≡ a → ButSheet (plain_made (make_shallow_call s cells marks output)) (make_call s cells marks output)
      go (refused number place) e =
          rw (make_shallow_refused s cells marks output number place e, make_refused s cells marks output number place e) (but_none _)
      go (accepted t) e =
          rw (make_shallow_accepted s cells marks output t e, make_accepted s cells marks output t e) (from_table t (full_accepted s t e).1 cells marks output)

  -- .. and shallow settling the same as settling
  pub settle_but_sheet : ButSheet (plain_made (settle_shallow_call s cells marks output)) (settle_call s cells marks output)
  unfolding plain_made plain_answer onward
  settle_but_sheet = answer_cases (read_net s)
      (λ number place e. rw (settle_shallow_refused s cells marks output number place e, settle_refused s cells marks output number place e) (but_none _))
      (λ net e. rw (settle_shallow_accepted s cells marks output net e, settle_accepted s cells marks output net e)
      (from_table (table_of_net net) (net_kept net (net_accepted s net e).1) cells marks output))

  -- So shallow making refuses exactly when making does, with the same number and place, ..
  pub make_shallow_refuses : (number place : ℕ)
      → ((make_shallow_call s cells marks output).answer ≡ refused number place) ↔ ((make_call s cells marks output).answer ≡ refused number place)
  unfolding plain_made
  make_shallow_refuses number place = rw (← make_but_sheet.answer) (plain_refuses _ number place)

  -- .. and shallow settling exactly when settling does
  pub settle_shallow_refuses : (number place : ℕ)
      → ((settle_shallow_call s cells marks output).answer ≡ refused number place) ↔ ((settle_call s cells marks output).answer ≡ refused number place)
  unfolding plain_made
  settle_shallow_refuses number place = rw (← settle_but_sheet.answer) (plain_refuses _ number place)

  -- with the numbers that those may give
  pub make_shallow_numbers : Gives make_numbers (make_shallow_call s cells marks output).answer
  make_shallow_numbers number place e = make_numbers_lem s cells marks output number place ((make_shallow_refuses number place).0 e)

  pub settle_shallow_numbers : Gives settle_numbers (settle_shallow_call s cells marks output).answer
  settle_shallow_numbers number place e = settle_numbers_lem s cells marks output number place ((settle_shallow_refuses number place).0 e)

  -- "Settling never gives 16."
  pub settle_shallow_never_16 : (place : ℕ) → (settle_shallow_call s cells marks output).answer ≡ refused 16 place → ⊥
  settle_shallow_never_16 place e = settle_never_16 s cells marks output place ((settle_shallow_refuses 16 place).0 e)
