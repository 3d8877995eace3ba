-- A gate lister whose caller keeps the position: `sitgurp_lister_open` returns the first, `sitgurp_lister_next` the line at a position and the next
-- position. Followed from the first position, turn k is turn k of `listing`, which is what `sitgurp_gate_line` returns.
-- Assumes nothing.
use Rattle.std.specs.Prelude.{◌<◌, ◌≤◌, ◌+◌, ◌-◌, ◌≡◌}
use Rattle.laws.specs.Prelude.{ℕ, suc, zero, min, ◌∙◌, sym, ap, refl, List, add-one, arith, length, drop, lt-ltb, le-ltb}
use Rattle.rules.specs.Sheets.Sheets.{Net}
use Rattle.rules.specs.Calls.Answers.{Answer, accepted, refused, onward}
use Rattle.rules.specs.Sheets.Reading.{read_net}
use Rattle.rules.specs.Calls.Lister.{line_length, Turn, gate_at, none_left_of, turn_of, listing}
use Rattle.lister.specs.Calls.{opening}
use Rattle.lister.specs.Places.{stands_at, line_after_of}
use Rattle.lister.specs.Turns.{turn_at, turn_in}
use Rattle.lister.specs.Standing.{stands_next, turn_stands}
use Rattle.capi.specs.declared.numbers.line.SitgurpLine.{SitgurpLine}
use Rattle.capi.specs.declared.numbers.turn.SitgurpTurn.{SitgurpTurn}
use Rattle.capi.specs.Numbers.Turn.{flat_turn}

-- a turn and the next position, as four numbers
abbrev pub flat_line : Turn → ℕ → SitgurpLine
flat_line none_left_of next = record { kind = 0; start = 0; length = 0; next = next }
flat_line (gate_at part) next = record { kind = 1; start = part.start; length = part.count; next = next }

-- what `sitgurp_lister_next` returns at a position
abbrev pub line_from : List ℕ → ℕ → SitgurpLine
line_from s at = flat_line (turn_at s at) (line_after_of s at)

-- the position of turn k, counted from the first
unfoldable pub followed : List ℕ → ℕ → ℕ → ℕ
followed s first zero = first
followed s first (suc k) = (line_from s (followed s first k)).next

-- a line without the next position
abbrev pub as_turn : SitgurpLine → SitgurpTurn
as_turn line = record { kind = line.kind; first = line.start; second = line.length }

module _ (s : List ℕ) (at end next : ℕ) (ends : end ≡ at + line_length (drop at s)) (goes : next ≡ min (end + 1) (length s)) where
  next_after : next ≡ line_after_of s at
  unfolding line_after_of
  next_after = omega arith

  -- where a line begins
  pub line_given_lem : at < length s → record { kind = 1; start = at; length = end - at; next = next } ≡ line_from s at
  unfolding turn_at
  line_given_lem h =
      let count : end - at ≡ line_length (drop at s) = omega arith in
      rw (lt-ltb at (length s) h, turn_at, count, next_after)

  -- at the sheet's end and past it
  pub line_none : length s ≤ at → record { kind = 0; start = 0; length = 0; next = next } ≡ line_from s at
  unfolding turn_at
  line_none h = rw (le-ltb at (length s) h, turn_at, next_after)

differ : (a number place : ℕ) → ◌≡◌ {A = Answer ℕ} (accepted a) (refused number place) → ⊥
differ a number place e = let z : ◌≡◌ {A = ℕ} 0 1 = cc in omega arith

module _ (s : List ℕ) where
  -- an opened sheet is accepted, and a lister starts at its first position
  opened : (first : ℕ) → opening s ≡ accepted first → (net : Net) × (read_net s ≡ accepted net) × (first ≡ stands_at s 0)
  unfolding opening onward
  opened first e = go (read_net s) refl
    where
      same : (a b : ℕ) → ◌≡◌ {A = Answer ℕ} (accepted a) (accepted b) → a ≡ b
      same a b e = cc

      go : (a : Answer Net) → read_net s ≡ a → (net : Net) × (read_net s ≡ accepted net) × (first ≡ stands_at s 0)
      go (accepted net) r = let o : opening s ≡ accepted (stands_at s 0) = rw (r, opening) in (net, r, same _ _ (sym e ∙ o))
      go (refused number place) r = let o : opening s ≡ refused number place = rw (r, opening) in absurd (differ _ _ _ (sym e ∙ o))

  next_flat : (t : Turn) (next : ℕ) → (flat_line t next).next ≡ next
  next_flat none_left_of next = refl
  next_flat (gate_at part) next = refl

  followed_place : (first : ℕ) → first ≡ stands_at s 0 → (k : ℕ) → followed s first k ≡ stands_at s k
  unfolding followed
  followed_place first e zero = e
  followed_place first e (suc k) =
      next_flat (turn_at s (followed s first k)) _ ∙ ap (line_after_of s) (followed_place first e k) ∙ stands_next s k ∙ ap (stands_at s) (add-one k)

  turn_flat : (t : Turn) (next : ℕ) → as_turn (flat_line t next) ≡ flat_turn (accepted t)
  turn_flat none_left_of next = refl
  turn_flat (gate_at part) next = refl

  -- started by opening and followed, turn k is what `sitgurp_gate_line` returns for k
  pub followed_turn : (first : ℕ) → opening s ≡ accepted first → (k : ℕ) → as_turn (line_from s (followed s first k)) ≡ flat_turn (listing s k)
  unfolding listing onward turn_in
  followed_turn first e k =
      let (net, reads, starts) = opened first e in
      let listed : listing s k ≡ accepted (turn_of s net k) = rw (reads, listing) in
      let turn : turn_at s (followed s first k) ≡ turn_of s net k = ap (turn_at s) (followed_place first starts k) ∙ turn_stands s k ∙ ap turn_in listed in
      turn_flat (turn_at s (followed s first k)) _ ∙ ap (λ (t : Turn). flat_turn (accepted t)) turn ∙ sym (ap flat_turn listed)

  -- a sheet that does not open has the same refusal at every turn
  pub refused_turn : (number place : ℕ) → opening s ≡ refused number place → (k : ℕ) → listing s k ≡ refused number place
  unfolding opening listing onward
  refused_turn number place e k = go (read_net s) refl
    where
      same : (m p n q : ℕ) → ◌≡◌ {A = Answer ℕ} (refused m p) (refused n q) → ◌≡◌ {A = Answer Turn} (refused m p) (refused n q)
      same m p n q e = let i : m ≡ n = cc in let j : p ≡ q = cc in rw (i, j)

      go : (a : Answer Net) → read_net s ≡ a → listing s k ≡ refused number place
      go (accepted net) r = let o : opening s ≡ accepted (stands_at s 0) = rw (r, opening) in absurd (differ _ _ _ (sym o ∙ e))
      go (refused m p) r =
          let o : opening s ≡ refused m p = rw (r, opening) in
          let l : listing s k ≡ refused m p = rw (r, listing) in
          l ∙ same _ _ _ _ (sym o ∙ e)
