-- A table sheet as the input of a call with cells and marks: its refusals, and what is known of it once both have room.
-- Assumes nothing.
use Rattle.std.specs.Prelude.{◌≤◌, ◌-◌, ◌^◌, ◌≡◌, Result, Ok, Err}
use Rattle.laws.specs.Prelude.{ℕ, ◌∙◌, sym, ap, subst, refl, List, arith, length, take}
use Rattle.rules.specs.Sheets.Sheets.{Table}
use Rattle.rules.specs.Groups.Marks.{marks_length}
use Rattle.rules.specs.Calls.Answers.{accepted, refused}
use Rattle.rules.specs.Calls.OpenCells.{read_full}
use Rattle.rules.specs.Calls.Settling.{room_for}
use Rattle.nets.specs.declared.forms.Header.{Header}
use Rattle.nets.specs.Forms.{table_in}
use Rattle.answers.specs.AnswerMaps.{outcome_as}
use Rattle.answers.specs.Kinds.{number_of}
use Rattle.answers.specs.declared.refusal.Refusal.{Refusal}
use Rattle.table_reader.specs.Full.{FullReads}
use Rattle.fields.specs.Chained.{never_both}
use Rattle.accepted.specs.Taken.{Given, full_taken, read_full_refused, inks_table, inks_given}
use Rattle.settling.specs.declared.input.TableInput.{TableInput}
use Rattle.settling.specs.Outcomes.{given_count}
use Rattle.settling.specs.Room.{both_long}

-- refused because of the sheet, or because of the room
pub data SettlingTurnedBack (s cells marks : List ℕ) (number place : ℕ) : Type 0 where
  by_sheet : read_full s ≡ refused number place → SettlingTurnedBack s cells marks number place
  by_room : (t : Table) → read_full s ≡ accepted t → room_for t cells marks ≡ refused number place → SettlingTurnedBack s cells marks number place

-- a table that was read, with room for its cells and marks
pub record InputTaken (s : List ℕ) (h : Header) (inks cells marks : List ℕ) : Type 0 where
  pub given : Given s h inks
  pub reads : read_full s ≡ accepted (table_in s h inks)
  pub room : room_for (table_in s h inks) cells marks ≡ accepted tt
  pub cells_long : length inks ≤ length cells
  pub marks_long : marks_length h.inputs ≤ length marks

-- what is known of a table sheet that was read
pub record InputHeld (s inks cells marks : List ℕ) (input : TableInput) : Type 0 where
  pub taken : InputTaken s input.header (take (input.count - 0) inks) cells marks
  pub inside : input.count ≤ length inks

pub record InputRead (s inks cells marks : List ℕ) (r : Result TableInput Refusal) : Type 0 where
  pub refused : (e : Refusal) → r ≡ Err e → SettlingTurnedBack s cells marks (number_of e.kind) e.place
  pub held : (input : TableInput) → r ≡ Ok input → InputHeld s inks cells marks input

module _ (s inks cells marks : List ℕ) (read : Result Header Refusal) (reads : FullReads s inks read) where
  turned : (e : Refusal) → SettlingTurnedBack s cells marks (number_of e.kind) e.place → InputRead s inks cells marks (Err e)
  turned e back =
      record {
        refused = λ k q. subst (λ (x : Refusal). SettlingTurnedBack s cells marks (number_of x.kind) x.place) (same k q) back;
        held = λ input q. absurd (never_both (Err e) e input refl q);
      }
    where
      same : (k : Refusal) → ◌≡◌ {A = Result TableInput Refusal} (Err e) (Err k) → e ≡ k
      same k q = cc

  pub settling_sheet_refused : (e : Refusal) → read ≡ Err e → InputRead s inks cells marks (Err e)
  settling_sheet_refused e is = turned e (by_sheet (read_full_refused s inks read reads e is))

  -- a sheet that is accepted, and what the room for its table says
  module _ (h : Header) (is : read ≡ Ok h) (count : ℕ) (all : count ≡ h.levels ^ h.inputs) (judged : Result (Unit {0}) Refusal)
      (judges : (own : List ℕ) → outcome_as tt judged ≡ room_for (table_in own h (take (count - 0) inks)) cells marks) where
    whole : read_full s ≡ accepted (table_in s h (take (count - 0) inks))
    whole = (full_taken s inks read reads h is).reads ∙ ap accepted (sym (inks_table s h inks count all))

    pub room_refused : (e : Refusal) → judged ≡ Err e → InputRead s inks cells marks (Err e)
    room_refused e short = turned e (by_room _ whole (sym (judges s) ∙ ap (outcome_as tt) short))

    pub room_judged : count ≤ length inks → judged ≡ Ok tt → InputRead s inks cells marks (Ok (record { header = h; count = count }))
    room_judged inside fits =
        record {
          refused = λ e q. absurd (never_both _ e _ q refl);
          held = λ input q. subst (InputHeld s inks cells marks) (same input q) (record { taken = taken; inside = inside });
        }
      where
        same : (input : TableInput) → ◌≡◌ {A = Result TableInput Refusal} (Ok (record { header = h; count = count })) (Ok input)
            → record { header = h; count = count } ≡ input
        same input q = cc

        given : Given s h (take (count - 0) inks)
        given = inks_given s h inks count all (full_taken s inks read reads h is)

        taken : InputTaken s h (take (count - 0) inks) cells marks
        taken =
            let long = both_long s h _ (given_count s h _ given) cells marks (sym (ap (outcome_as tt) fits) ∙ judges s) in
            record {
              given = given;
              reads = whole;
              room = sym (judges s) ∙ ap (outcome_as tt) fits;
              cells_long = long.0;
              marks_long = long.1;
            }
