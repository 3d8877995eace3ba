-- Where a sheet is refused. The place is at most the sheet's length. "Sheets are judged from the front, field by field": the bytes after
-- the refused field and the byte that follows it do not matter.
-- Assumes nothing.
use Rattle.std.specs.Prelude.{◌≤◌, ◌≡◌}
use Rattle.laws.specs.Prelude.{ℕ, suc, ap, refl, List, zero-add, arith, length, take, drop}
use Rattle.rules.specs.Calls.Answers.{Answer, refused}
use Rattle.rules.specs.Sheets.Fields.{Read, read, turned_back, Reader, run}
use Rattle.rules.specs.Sheets.Reading.{answered, read_net, read_table}
use Rattle.rules.specs.Sheets.Sheets.{net_sheet, table_sheet}
use Rattle.laws.specs.Lists.Runs.{field_end}
use Rattle.readback.specs.Readers.Fronts.{FromFront, front_closed, turned_place, turned_alike, turned_through}
use Rattle.readback.specs.Readers.Ends.{front_or_end, front_used}
use Rattle.readback.specs.Nets.NetSheets.{net_to_end}
use Rattle.readback.specs.Readers.Walks.{front_composes, any_first, to_end_walk, net_walk, table_walk}

-- ---- the readers of sheets judge from the front

pub front_to_end : FromFront net_to_end
front_to_end = to_end_walk front_composes (λ _ _ _. tt) (λ _. tt) any_first front_closed (λ A a more h. front_or_end a more h)

pub front_net : FromFront net_sheet
front_net = net_walk front_composes (λ _ _ _. tt) (λ _. tt) any_first front_closed (λ A a more h. front_or_end a more h) front_used

front_table : FromFront table_sheet
front_table = table_walk front_composes (λ _. tt) (λ _. tt) any_first front_closed

-- ---- refusals

-- the place of every refusal is at most the sheet's length
abbrev pub PlacesWithin : {A : Type 0} → (List ℕ → Answer A) → Type 0
PlacesWithin call = (s : List ℕ) (number place : ℕ) → call s ≡ refused number place → place ≤ length s

-- How a call judges a sheet.
pub record JudgedFromFront {A : Type 0} (call : List ℕ → Answer A) : Type 0 where
  pub places_within : PlacesWithin call
  -- A sheet with the same bytes up to the end of the refused field, and the same byte after it, or its end there too, is refused in the same way.
  pub front : (s t : List ℕ) (number place : ℕ) → call s ≡ refused number place → take (suc (field_end s place)) t ≡ take (suc (field_end s place)) s
      → call t ≡ refused number place
  -- If there is such a field, the byte after it does not matter either: a sheet with the same bytes before the place, and there the same
  -- byte, or its end too, and the same field, is refused in the same way.
  pub field : (s t : List ℕ) (number place : ℕ) → call s ≡ refused number place → take (suc place) t ≡ take (suc place) s
      → run (drop place t) ≡ run (drop place s) → call t ≡ refused number place

module _ {A : Type 0} {r : Reader A} (front : FromFront r) where
  -- a refusal is the reader's
  pub refusal_turned : (s : List ℕ) (number place : ℕ) → answered (r s 0) ≡ refused number place → r s 0 ≡ turned_back number place
  unfolding answered
  refusal_turned s number place e = go (r s 0) refl e
    where
      go : (u : Read A) → r s 0 ≡ u → answered u ≡ refused number place → r s 0 ≡ turned_back number place
      go (read a rest p) d e = absurd (let z : ◌≡◌ {A = ℕ} 0 1 = cc in omega arith)
      go (turned_back k p) d e = rw d (cc)

  pub judged_from_front : JudgedFromFront (λ s. answered (r s 0))
  unfolding answered
  judged_from_front = record {
    places_within = λ s number place e. rw (zero-add (length s)) at (turned_place front s 0 number place (refusal_turned s number place e));
    front = λ s t number place e h. ap answered (turned_through front s t number place (refusal_turned s number place e) h);
    field = λ s t number place e h k. ap answered (turned_alike front s t number place (refusal_turned s number place e) h k);
  }

pub net_judged : JudgedFromFront read_net
unfolding read_net
net_judged = judged_from_front front_net

pub table_judged : JudgedFromFront read_table
unfolding read_table
table_judged = judged_from_front front_table
