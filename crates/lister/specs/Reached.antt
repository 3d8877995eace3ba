-- A lister returned by `start` and advanced by `next`, using only their contracts: after k turns its place, on any sheet, is one where it gives
-- turn k of `listing`, and `done` and `line` then answer for that turn. The fields of a lister are private to its module, so code elsewhere
-- has no other lister.
-- Assumes nothing.
use Rattle.std.specs.Prelude.{◌≡◌}
use Rattle.laws.specs.Prelude.{ℕ, suc, zero, ◌∙◌, ap, ap₂, List, add-one}
use Rattle.std.specs.Borrow.{Bor}
use Rattle.rules.specs.Calls.Answers.{refused}
use Rattle.rules.specs.Sheets.Reading.{read_net}
use Rattle.rules.specs.Calls.Lister.{Turn, none_left_of, listing}
use Rattle.readback.specs.Nets.GateLines.{turn_refused}
use Rattle.lister.specs.declared.walk.Lister.{Lister}
use Rattle.lister.specs.Places.{stands_at, Onward}
use Rattle.lister.specs.Turns.{turn_at, turn_in, Says}
use Rattle.lister.specs.Standing.{turn_stands}

-- what `start` returns
abbrev pub Started : Bor (List ℕ) → Lister → Type 0
Started sheet r = (r.sheet ≡ sheet) × (r.at ≡ stands_at sheet.now 0)

-- what `next` returns
abbrev pub TurnedOn : Lister → Lister → Type 0
TurnedOn d r = (r.sheet ≡ d.sheet) × Onward d.sheet.now d.at r.at

-- `start` on the sheet, then k times `next`
pub data NetReached (sheet : Bor (List ℕ)) : ℕ → Lister → Type 0 where
  started : {r : Lister} → Started sheet r → NetReached sheet zero r
  turned : {k : ℕ} {d r : Lister} → NetReached sheet k d → TurnedOn d r → NetReached sheet (suc k) r

module _ (sheet : Bor (List ℕ)) where
  -- it keeps its sheet, and its place is the one after k turns
  pub reached_place_lem : {k : ℕ} {r : Lister} → NetReached sheet k r → (r.sheet ≡ sheet) × (r.at ≡ stands_at sheet.now k)
  reached_place_lem (started h) = h
  reached_place_lem (turned {k = k} {d = d} {r = r} reached h) =
      let (same, place) = reached_place_lem reached in
      let on : Onward sheet.now d.at r.at = rw same at h.1 in (
        h.0 ∙ same,
        on.turn k place ∙ ap (stands_at sheet.now) (add-one k),
      )

  -- at its place it gives turn k
  pub reached_turn : {k : ℕ} {r : Lister} → NetReached sheet k r → turn_at r.sheet.now r.at ≡ turn_in (listing sheet.now k)
  reached_turn {k} reached =
      let (same, place) = reached_place_lem reached in
      ap₂ (λ (t : Bor (List ℕ)) (at : ℕ). turn_at t.now at) same place ∙ turn_stands sheet.now k

  -- its answers are those for turn k
  pub reached_says : {A : Type 0} {k : ℕ} {d : Lister} (f : Turn → A) (r : A) → NetReached sheet k d → Says d.sheet.now d.at f r
      → r ≡ f (turn_in (listing sheet.now k))
  reached_says f r reached says = says.here ∙ ap f (reached_turn reached)

  -- "it starts only on an accepted sheet": on any other no line is left, at any turn
  pub reached_refused : {k : ℕ} {r : Lister} (number place : ℕ) → NetReached sheet k r → read_net sheet.now ≡ refused number place
      → turn_at r.sheet.now r.at ≡ none_left_of
  unfolding turn_in
  reached_refused {k} number place reached e = reached_turn reached ∙ ap turn_in (turn_refused sheet.now number place k e)
