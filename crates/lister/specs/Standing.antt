-- The place of a lister after k turns is one turn after the previous place, stays at the sheet's end, and has turn k of `listing`.
-- Assumes nothing.
use Rattle.std.specs.Prelude.{◌<◌, ◌≤◌, ◌+◌, ◌-◌, ◌≡◌}
use Rattle.laws.specs.Prelude.{ℕ, suc, zero, min, ◌∙◌, sym, ap, refl, subst, List, add-zero, add-suc, dec_lt, dec_le, arith, length}
use Rattle.laws.specs.Prelude.{lt-ltb, le-ltb}
use Rattle.rules.specs.Sheets.Sheets.{Net}
use Rattle.rules.specs.Calls.Answers.{Answer, accepted, refused, onward}
use Rattle.rules.specs.Sheets.Reading.{read_net}
use Rattle.rules.specs.Calls.Lister.{after_lines, none_left_of, turn_of, listing}
use Rattle.readback.specs.Nets.GateLines.{line_at, gate_inside, gates_end, turn_refused}
use Rattle.lister.specs.Places.{line_start, stands_at, line_after_of}
use Rattle.lister.specs.Turns.{turn_at, turn_in}

module _ (s : List ℕ) where
  pub stands_accepted : (net : Net) (k : ℕ) → read_net s ≡ accepted net → stands_at s k ≡ line_start s (4 + k)
  unfolding stands_at
  stands_accepted net k reads = rw (reads, stands_at)

  pub stands_refused : (number place k : ℕ) → read_net s ≡ refused number place → stands_at s k ≡ length s
  unfolding stands_at
  stands_refused number place k reads = rw (reads, stands_at)

  -- the line before the sheet's end leads to the next
  pub start_next : (j : ℕ) → line_after_of s (line_start s j) ≡ line_start s (suc j)
  unfolding line_after_of line_start after_lines
  start_next j = go (dec_le (after_lines s j) (length s))
    where
      go : Dec (after_lines s j ≤ length s) → line_after_of s (line_start s j) ≡ line_start s (suc j)
      go (yes h) = let e : min (after_lines s j) (length s) ≡ after_lines s j = omega arith in rw e
      go (no h) = omega arith

  end_next : line_after_of s (length s) ≡ length s
  unfolding line_after_of
  end_next = omega arith

  -- a turn leads from the place after k turns to the place after k + 1
  pub stands_next : (k : ℕ) → line_after_of s (stands_at s k) ≡ stands_at s (k + 1)
  stands_next k = go (read_net s) refl
    where
      go : (a : Answer Net) → read_net s ≡ a → line_after_of s (stands_at s k) ≡ stands_at s (k + 1)
      go (accepted net) e =
          ap (line_after_of s) (stands_accepted net k e) ∙ start_next (4 + k) ∙ ap (line_start s) (omega arith) ∙ sym (stands_accepted net (k + 1) e)
      go (refused number place) e =
          ap (line_after_of s) (stands_refused number place k e) ∙ end_next ∙ sym (stands_refused number place (k + 1) e)

  -- a later line begins later
  after_more : (j k : ℕ) → after_lines s j ≤ after_lines s (j + k)
  unfolding after_lines
  after_more j zero = rw add-zero (omega arith)
  after_more j (suc k) = let h = after_more j k in rw add-suc (omega arith)

  line_stays : (j k : ℕ) → j ≤ k → length s ≤ line_start s (4 + j) → line_start s (4 + j) ≡ line_start s (4 + k)
  unfolding line_start
  line_stays j k h e =
      let m : after_lines s (4 + j) ≤ after_lines s (4 + k) = subst (λ (i : ℕ). after_lines s (4 + j) ≤ after_lines s i) (omega arith)
      (after_more (4 + j) (k - j)) in
      omega arith

  -- a lister at the sheet's end stays there
  pub stays : (j k : ℕ) → j ≤ k → length s ≤ stands_at s j → stands_at s j ≡ stands_at s k
  stays j k h end = go (read_net s) refl
    where
      go : (a : Answer Net) → read_net s ≡ a → stands_at s j ≡ stands_at s k
      go (accepted net) e =
          stands_accepted net j e ∙ line_stays j k h (omega (arith, stands_accepted net j e)) ∙ sym (stands_accepted net k e)
      go (refused number place) e = stands_refused number place j e ∙ sym (stands_refused number place k e)

  turn_accepted : (net : Net) (k : ℕ) → read_net s ≡ accepted net → turn_at s (line_start s (4 + k)) ≡ turn_of s net k
  unfolding turn_at line_start turn_of line_at
  turn_accepted net k reads = go (dec_lt k (length net.gates))
    where
      go : Dec (k < length net.gates) → turn_at s (line_start s (4 + k)) ≡ turn_of s net k
      go (yes h) =
          let inside = gate_inside s net reads k h in
          let e : line_start s (4 + k) ≡ after_lines s (4 + k) = omega arith in
          rw (lt-ltb k (length net.gates) h, turn_of) (ap (turn_at s) e ∙ rw (lt-ltb (after_lines s (4 + k)) (length s) (omega arith), turn_at))
      go (no h) =
          let end = gates_end s net reads in
          let e : length s ≤ line_start s (4 + k) = omega (arith, line_stays (length net.gates) k (omega arith) (omega arith)) in
          rw (le-ltb (line_start s (4 + k)) (length s) e, le-ltb k (length net.gates) (omega arith), turn_at, turn_of)

  turn_end : turn_at s (length s) ≡ none_left_of
  unfolding turn_at
  turn_end = rw (le-ltb (length s) (length s) (omega arith), turn_at)

  -- at the place after k turns, on any sheet, a lister gives turn k
  pub turn_stands : (k : ℕ) → turn_at s (stands_at s k) ≡ turn_in (listing s k)
  unfolding turn_in listing onward
  turn_stands k = go (read_net s) refl
    where
      go : (a : Answer Net) → read_net s ≡ a → turn_at s (stands_at s k) ≡ turn_in (listing s k)
      go (accepted net) e = ap (turn_at s) (stands_accepted net k e) ∙ turn_accepted net k e ∙ rw (e, listing)
      go (refused number place) e = ap (turn_at s) (stands_refused number place k e) ∙ turn_end ∙ sym (ap turn_in (turn_refused s number place k e))
