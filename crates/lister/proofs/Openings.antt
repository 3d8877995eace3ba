-- The result of opening a sheet, and the answers that follow from it.
-- Assumes nothing.
use Rattle.std.specs.Prelude.{◌≡◌, Option, Result, Ok, Err}
use Rattle.laws.specs.Prelude.{ℕ, ◌∙◌, sym, ap, refl, List, arith, length}
use Rattle.std.specs.Result.{result_unwrap_or}
use Rattle.rules.specs.Sheets.Sheets.{Net}
use Rattle.rules.specs.Calls.Answers.{Answer, accepted, refused, onward}
use Rattle.rules.specs.Sheets.Reading.{read_net}
use Rattle.rules.specs.Calls.Lister.{Turn, gate_at, none_left_of, turn_of, listing}
use Rattle.answers.specs.AnswerMaps.{answer_as, answer_of}
use Rattle.answers.specs.Kinds.{number_of}
use Rattle.answers.specs.declared.refusal.Refusal.{Refusal}
use Rattle.net_sheets.specs.Reader.NetReading.{NetReads, net_of}
use Rattle.net_sheets.specs.declared.reader.net.NetRead.{NetRead}
use Rattle.readback.specs.Nets.GateLines.{turn_refused}
use Rattle.lister.specs.declared.turns.Line.{Line}
use Rattle.lister.specs.Places.{line_start, stands_at}
use Rattle.lister.specs.Turns.{turn_in, turn_numbers, Says}
use Rattle.lister.specs.Standing.{stands_accepted, stands_refused}
use Rattle.lister.specs.Calls.{opening, turn_as, listed_as}

differ : {A : Type 0} (a : A) (number place : ℕ) → ◌≡◌ {A = Answer A} (accepted a) (refused number place) → ⊥
differ a number place e = let z : ◌≡◌ {A = ℕ} 0 1 = cc in omega arith

same_accepted : {A : Type 0} (a b : A) → ◌≡◌ {A = Answer A} (accepted a) (accepted b) → a ≡ b
same_accepted a b e = cc

same_refused : {A B : Type 0} (m p n q : ℕ) → ◌≡◌ {A = Answer A} (refused m p) (refused n q) → ◌≡◌ {A = Answer B} (refused m p) (refused n q)
same_refused m p n q e = let i : m ≡ n = cc in let j : p ≡ q = cc in rw (i, j)

module _ (s : List ℕ) where
  -- an accepted sheet is opened where a lister starts, ..
  open_accepted : (net : Net) (at : ℕ) → read_net s ≡ accepted net → at ≡ stands_at s 0 → accepted at ≡ opening s
  unfolding opening onward
  open_accepted net at r e = rw (r, opening) (ap accepted e)

  -- .. and any other is refused
  open_refused : (number place : ℕ) → read_net s ≡ refused number place → refused number place ≡ opening s
  unfolding opening onward
  open_refused number place r = rw (r, opening)

-- the same by the result of reading the sheet
module _ (s : List ℕ) (r : Result NetRead Refusal) (reads : NetReads s r) where
  pub read_accepted : (read : NetRead) (at : ℕ) → r ≡ Ok read → at ≡ line_start s 4 → accepted at ≡ opening s
  read_accepted read at d e =
      let a = sym reads.answer ∙ ap (answer_as (net_of s)) d in
      open_accepted s _ at a (e ∙ sym (stands_accepted s _ 0 a))

  pub read_refused : (e : Refusal) → r ≡ Err e → refused (number_of e.kind) e.place ≡ opening s
  read_refused e d = open_refused s (number_of e.kind) e.place (sym reads.answer ∙ ap (answer_as (net_of s)) d)

module _ (s : List ℕ) (o : Result ℕ Refusal) (e : answer_of o ≡ opening s) where
  -- an opened sheet is accepted, and a lister starts at the returned place
  pub opened_at : (at : ℕ) → o ≡ Ok at → (net : Net) × (read_net s ≡ accepted net) × (at ≡ stands_at s 0)
  opened_at at d = go (read_net s) refl
    where
      go : (a : Answer Net) → read_net s ≡ a → (net : Net) × (read_net s ≡ accepted net) × (at ≡ stands_at s 0)
      go (accepted net) r = (net, r, same_accepted _ _ (ap answer_of (sym d) ∙ e ∙ sym (open_accepted s net (stands_at s 0) r refl)))
      go (refused number place) r = absurd (differ _ _ _ (ap answer_of (sym d) ∙ e ∙ sym (open_refused s number place r)))

  -- if the sheet was not opened, the refusal is the sheet's
  not_opened : (refusal : Refusal) → o ≡ Err refusal → read_net s ≡ refused (number_of refusal.kind) refusal.place
  not_opened refusal d = go (read_net s) refl
    where
      go : (a : Answer Net) → read_net s ≡ a → read_net s ≡ refused (number_of refusal.kind) refusal.place
      go (accepted net) r = absurd (differ _ _ _ (open_accepted s net (stands_at s 0) r refl ∙ sym e ∙ ap answer_of d))
      go (refused m p) r = r ∙ same_refused {B = Net} _ _ _ _ (open_refused s m p r ∙ sym e ∙ ap answer_of d)

  -- if the sheet was not opened, a lister starts at its end
  pub not_opened_at : (refusal : Refusal) → o ≡ Err refusal → length s ≡ stands_at s 0
  not_opened_at refusal d = sym (stands_refused s _ _ 0 (not_opened refusal d))

  -- the place where a lister starts, opened or not
  pub starts_at : (place : ℕ) → place ≡ result_unwrap_or o (length s) → place ≡ stands_at s 0
  starts_at place is = go o refl
    where
      go : (r : Result ℕ Refusal) → o ≡ r → place ≡ stands_at s 0
      go (Ok at) d = is ∙ ap (λ r. result_unwrap_or r (length s)) d ∙ (opened_at at d).2
      go (Err refusal) d = is ∙ ap (λ r. result_unwrap_or r (length s)) d ∙ not_opened_at refusal d

  pub listed_refused : (refusal : Refusal) (k : ℕ) → o ≡ Err refusal → listed_as (Err refusal) ≡ listing s k
  unfolding listed_as
  listed_refused refusal k d = sym (turn_refused s _ _ k (not_opened refusal d))

  -- the code's turn means the turn
  turn_as_lem : (t : Turn) → turn_as (turn_numbers t) ≡ t
  unfolding turn_as turn_numbers
  turn_as_lem (gate_at p) = refl
  turn_as_lem none_left_of = refl

  pub listed_given : (first at k : ℕ) (turn : Option Line) → o ≡ Ok first → at ≡ stands_at s k → Says s at turn_numbers turn → listed_as (Ok turn) ≡ listing s k
  unfolding listed_as listing onward turn_in
  listed_given first at k turn d stands says =
      let (net, reads, _) = opened_at first d in
      let same : turn_in (listing s k) ≡ turn_of s net k = rw (reads, listing) in
      rw (reads, listing) (ap accepted (ap turn_as (says.turn k stands ∙ ap turn_numbers same) ∙ turn_as_lem _))
