-- What a lister gives at a place, and so at turn k if k turns lead there.
-- Assumes nothing.
use Rattle.std.specs.Prelude.{◌<◌, ◌≤◌, ◌+◌, ◌-◌, ◌≡◌, Option, Some, None}
use Rattle.laws.specs.Prelude.{ℕ, ◌∙◌, ap, List, [], zero-add, dec_lt, arith, leb, length, take, drop, lt-ltb, le-ltb, le-leb, lt-leb}
use denote.Ref.{Bor}
use Rattle.rules.specs.Calls.Lister.{line_length, Turn, gate_at, none_left_of}
use Rattle.readback.specs.Nets.GateLines.{part_of}
use Rattle.lister.specs.Turns.{turn_at, is_none, part_in, turn_numbers, Says}
use Rattle.lister.specs.Standing.{turn_stands}
use Rattle.lister.specs.declared.turns.Line.{Line}
use Rattle.lister.proofs.TurnSteps.{line_within}

pub says : {A : Type 0} (s : List ℕ) (at : ℕ) (f : Turn → A) (r : A) → r ≡ f (turn_at s at) → Says s at f r
says s at f r e = record { here = e; turn = λ k d. e ∙ ap f (ap (turn_at s) d ∙ turn_stands s k) }

-- ---- each answer at its place

module _ (s : List ℕ) (at : ℕ) where
  turn_line : at < length s → turn_at s at ≡ gate_at (record { start = at; count = line_length (drop at s) })
  unfolding turn_at
  turn_line h = rw (lt-ltb at (length s) h, turn_at)

  turn_end : length s ≤ at → turn_at s at ≡ none_left_of
  unfolding turn_at
  turn_end h = rw (le-ltb at (length s) h, turn_at)

  pub none_left : Says s at is_none (leb (length s) at)
  unfolding is_none
  none_left = says s at is_none _ (go (dec_lt at (length s)))
    where
      go : Dec (at < length s) → leb (length s) at ≡ is_none (turn_at s at)
      go (yes h) = rw (turn_line h, lt-leb (length s) at h)
      go (no h) = rw (turn_end (omega arith), le-leb (length s) at (omega arith))

  -- a line, and where it ends
  module _ (end : ℕ) (is_end : end ≡ at + line_length (drop at s)) (h : at < length s) where
    count : end - at ≡ line_length (drop at s)
    count = omega arith

    pub line_end : end ≤ length s
    line_end = omega (arith, line_within s at (omega arith))

    pub turn_given : Says s at turn_numbers (Some (record { start = at; count = end - at }))
    unfolding turn_numbers
    turn_given = says s at turn_numbers _ (rw (turn_line h) (ap {B = Option Line} (λ n. Some (record { start = at; count = n })) count))

  pub turn_none : length s ≤ at → Says s at turn_numbers None
  unfolding turn_numbers
  turn_none h = says s at turn_numbers _ (rw (turn_end h))

module _ (s : Bor (List ℕ)) (at : ℕ) where
  pub part_given : (end : ℕ) → end ≡ at + line_length (drop at s.now) → at < length s.now
      → Says s.now at (part_in s) ((s.ref_ptr.0, at + s.ref_ptr.1), take (end - at) (drop at s.now))
  unfolding part_in part_of
  part_given end is_end h = says s.now at (part_in s) _ (rw (turn_line s.now at h, count s.now at end is_end h))

  pub part_none : length s.now ≤ at → Says s.now at (part_in s) ((s.ref_ptr.0, 0 + s.ref_ptr.1), [])
  unfolding part_in
  part_none h = says s.now at (part_in s) _ (rw (turn_end s.now at h, zero-add))
