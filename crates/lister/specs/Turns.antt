-- What a lister gives at a place, and at its k-th turn.
-- Assumes nothing.
use Rattle.std.specs.Prelude.{◌+◌, ◌≡◌, Option, Some, None}
use Rattle.laws.specs.Prelude.{ℕ, true, false, Bool, List, [], ltb, length, drop}
use Rattle.std.specs.Borrow.{Bor}
use Rattle.rules.specs.Calls.Answers.{Answer, accepted, refused}
use Rattle.rules.specs.Calls.Lister.{line_length, Turn, gate_at, none_left_of, listing}
use Rattle.readback.specs.Nets.GateLines.{part_of}
use Rattle.lister.specs.declared.turns.Line.{Line}
use Rattle.lister.specs.Places.{stands_at}

-- the turn of a lister at the place `at`
unfoldable pub turn_at : List ℕ → ℕ → Turn
turn_at s at = elim (ltb at (length s)) [ true ↦ gate_at (record { start = at; count = line_length (drop at s) }) | false ↦ none_left_of ]

-- The turn that a lister gives for an answer of `listing`. On a sheet that is not accepted it only says that no line is left;
-- `open` returns the refusal.
unfoldable pub turn_in : Answer Turn → Turn
turn_in (accepted t) = t
turn_in (refused number place) = none_left_of

-- whether no line is left
unfoldable pub is_none : Turn → Bool
is_none (gate_at p) = false
is_none none_left_of = true

-- the returned part of the sheet as a reference: where it points, and its bytes. It has no bytes if no line is left.
unfoldable pub part_in : Bor (List ℕ) → Turn → (ℕ × ℕ) × List ℕ
part_in s (gate_at p) = ((s.ref_ptr.0, p.start + s.ref_ptr.1), part_of s.now p)
part_in s none_left_of = (s.ref_ptr, [])

-- the turn in the code's numbers
unfoldable pub turn_numbers : Turn → Option Line
turn_numbers (gate_at p) = Some (record { start = p.start; count = p.count })
turn_numbers none_left_of = None

-- `r` is `f` of the turn of a lister at `at`. If `at` is the place after k turns from its start, on any sheet, it is `f` of turn k of `listing`.
pub record Says {A : Type 0} (s : List ℕ) (at : ℕ) (f : Turn → A) (r : A) : Type 0 where
  pub here : r ≡ f (turn_at s at)
  pub turn : (k : ℕ) → at ≡ stands_at s k → r ≡ f (turn_in (listing s k))
