-- A table, given by a header's names in a sheet and its inks: what making a net from it requires, and the outcomes.
-- Assumes nothing.
use Rattle.std.specs.Prelude.{◌<◌, ◌≤◌, ◌^◌, ◌≡◌, Result}
use Rattle.laws.specs.Prelude.{ℕ, ◌∙◌, sym, ap, refl, ap₂, subst⁻¹, subst₂, true, List, length}
use Rattle.rules.specs.Limits.{size_fits, most_settled}
use Rattle.rules.specs.Sheets.Printed.{printed_net}
use Rattle.rules.specs.Sheets.SheetRules.{IsNet, NetRules}
use Rattle.rules.specs.Groups.Marks.{mark_in, marks_of, no_tree_place, stored_marks}
use Rattle.rules.specs.Groups.Groups.{whole_group}
use Rattle.rules.specs.Calls.Answers.{accepted, onward, refused, ink_in, written}
use Rattle.rules.specs.Calls.Answers as answers
use Rattle.rules.specs.Calls.ShallowSettling as shallow
use Rattle.rules.specs.Sheets.Sheets.{Gate, Net, Table}
use Rattle.rules.specs.Nets.Layers.{layers}
use Rattle.rules.specs.Calls.Settling.{Made, room_for, settled_net, written_sheet, after_marks}
use Rattle.rules.specs.Calls.ShallowSettling.{layered, layered_into, net_layers, shallow_net, with_layers}
use Rattle.laws.specs.Calls.Settling.{marks_of_table, into_refused, into_room, marked_16, marked_tree}
use Rattle.nets.specs.declared.forms.Header.{Header}
use Rattle.nets.specs.declared.forms.Net as own
use Rattle.nets.specs.Sound.{Sound}
use Rattle.nets.specs.Forms.{gates_of, header_of, net_in, table_in}
use Rattle.laws.specs.Numbers.Sizes.{kept_fits}
use Rattle.answers.specs.declared.refusal.Refusal.{Refusal}
use Rattle.marks.specs.Marking.{MarkedInto}
use Rattle.net_sheets.specs.Printer.Gates.{GatesInside}
use Rattle.net_sheets.specs.Printer.Kept.{gates_inside}
use Rattle.readback.specs.Sheets.Length.{net_length}
use Rattle.wirings.specs.declared.choice.Choice.{Choice}
use Rattle.wirings.specs.declared.choice.Choice.TheVariants.{Settled, Shallow}
use Rattle.gate_tables.specs.MadeNet.{gates_by, MarksIn, NetOf, MadeNet, marks_in}
use Rattle.accepted.specs.Taken.{Given}
use Rattle.answers.specs.AnswerMaps.{answer_of, made_of}
use Rattle.answers.specs.declared.layered.Layered.{Layered}
use Rattle.answers.specs.Layered.{layered_made_of, layered_of}
use Rattle.marks.specs.NoTreePlace.{mark_place_agree}

-- the net that a choice makes from a table
abbrev pub net_by : Choice → Table → Net
net_by Settled = settled_net
net_by Shallow = shallow_net

-- its header is the table's, and its gates are those of the choice
net_by_is : (choice : Choice) (t : Table)
    → net_by choice t ≡ record { header = t.header; gates = gates_by choice t.header.levels t.header.inputs (ink_in t.inks) }
unfolding settled_net shallow_net
net_by_is Settled t = refl
net_by_is Shallow t = refl

-- a refusal has no count of layers
refused_layers : (count number place : ℕ) (cells marks output : List ℕ)
    → with_layers count (record { answer = refused number place; cells = cells; marks = marks; output = output })
    ≡ record { answer = refused number place; cells = cells; marks = marks; output = output }
unfolding with_layers layered onward
refused_layers count number place cells marks output = refl

-- the answer to writing a sheet, with a count of layers
pub written_layers : (answer : answers.Answer shallow.Layered) (count : ℕ) (r : Result ℕ Refusal) → answer ≡ layered count (answer_of r) → (own : ℕ) → count ≡ own
    → (cells marks after : List ℕ) (made : Made) → made_of r cells marks after ≡ made
    → record { answer = answer; cells = cells; marks = marks; output = after } ≡ with_layers own made
unfolding with_layers
written_layers answer count r is own counts cells marks after made wrote =
    (λ i. record { answer = is i; cells = cells; marks = marks; output = after }) ∙ ap₂ with_layers counts wrote

-- the outcomes decided by the room alone
module _ (net_for : Table → Net) (t : Table) (cells marks output : List ℕ) where
  pub layered_refused : (number place : ℕ) → room_for t cells marks ≡ refused number place
      → record { answer = refused number place; cells = cells; marks = marks; output = output } ≡ layered_into net_for t cells marks output
  unfolding layered_into
  layered_refused number place e =
      sym (refused_layers _ _ _ cells marks output) ∙ ap (with_layers (net_layers (net_for t))) (sym (into_refused t cells marks output _ number place e))

  pub layered_marked : room_for t cells marks ≡ accepted tt
      → with_layers (net_layers (net_for t)) (after_marks net_for t cells marks output) ≡ layered_into net_for t cells marks output
  unfolding layered_into
  layered_marked e = ap (with_layers (net_layers (net_for t))) (sym (into_room t cells marks output _ e))

module _ (s : List ℕ) (h : Header) (inks : List ℕ) (given : Given s h inks) where
  pub given_size : size_fits h.levels h.inputs ≡ true
  unfolding header_of
  given_size = kept_fits (header_of s h) given.kept.header

  pub given_count : length inks ≡ h.levels ^ h.inputs
  unfolding header_of
  given_count = given.kept.count

  pub given_below : (p : ℕ) → p < h.levels ^ h.inputs → ink_in inks p < h.levels
  unfolding header_of
  given_below p l = given.full p (subst⁻¹ (λ (k : ℕ). p < k) given_count l)

  -- ---- the net of some gates

  module _ {gates : List Gate} (net : own.Net) (is : NetOf h.levels h.inputs gates net) where
    pub net_is : net_in s h net ≡ record { header = header_of s h; gates = gates }
    net_is = λ i. record { header = header_of s h; gates = is.gates i }

    made_kept : NetRules (net_in s h net)
    unfolding header_of
    made_kept = record { header = given.kept.header; gates = is.kept }

    pub made_inside : GatesInside net
    made_inside = gates_inside s h net is.levels made_kept

    pub settling_made_short : length (printed_net (net_in s h net)) ≤ most_settled
    settling_made_short = net_length (net_in s h net) made_kept

    pub made_sound : Sound net
    made_sound = record {
      size = subst₂ (λ (m n : ℕ). size_fits m n ≡ true) (sym is.levels) (sym is.inputs) given_size;
      gates = subst₂ (λ (m n : ℕ). IsNet m n (gates_of net)) (sym is.levels) (sym is.inputs) is.kept;
    }

  -- ---- the net that a choice makes from it

  module _ (choice : Choice) (net : own.Net) (is : MadeNet choice h.levels h.inputs (ink_in inks) net) where
    made_is : net_in s h net ≡ net_by choice (table_in s h inks)
    unfolding header_of
    made_is = net_is net is ∙ sym (net_by_is choice (table_in s h inks))

    -- its layers are those of that net
    made_layers_lem : layers net.inputs (gates_of net) ≡ net_layers (net_by choice (table_in s h inks))
    unfolding net_layers header_of
    made_layers_lem = ap (λ (n : ℕ). layers n (gates_of net)) is.inputs ∙ ap net_layers made_is

  -- ---- the outcomes once the cells and the marks are written

  module _ (marks all_marks_lem marks_then : List ℕ) (mark : ℕ) (did : MarkedInto h.levels h.inputs (ink_in inks) marks mark all_marks_lem marks_then) where
    pub given_two : mark ≡ 2 → mark_in (marks_of h.levels h.inputs (ink_in inks)) (whole_group h.inputs) ≡ 2
    given_two two = sym did.own.answer ∙ two

    module _ (room : 2 ^ h.inputs ≤ length all_marks_lem) where
      pub own_marks : MarksIn h.levels h.inputs (ink_in inks) all_marks_lem
      own_marks = marks_in h.levels h.inputs (ink_in inks) all_marks_lem did.own.front room

      pub given_16 : (choice : Choice) (cells cells_then output : List ℕ) → cells_then ≡ written cells inks → (mark ≡ 2 → ⊥)
          → (place : ℕ) → place ≡ no_tree_place h.inputs all_marks_lem
          → record { answer = refused 16 place; cells = cells_then; marks = marks_then; output = output }
          ≡ with_layers (net_layers (net_by choice (table_in s h inks))) (after_marks (net_by choice) (table_in s h inks) cells marks output)
      unfolding header_of
      given_16 choice cells cells_then output copied other place e =
          (λ i. record {
            answer = refused 16 ((e ∙ mark_place_agree h.inputs all_marks_lem (marks_of_table (table_in s h inks)) own_marks.same) i);
            cells = copied i;
            marks = did.buffer i;
            output = output;
          })
          ∙ sym (refused_layers _ _ _ (written cells inks) (written marks (stored_marks (marks_of_table (table_in s h inks)))) output)
          ∙ ap (with_layers (net_layers (net_by choice (table_in s h inks))))
          (sym (marked_16 (net_by choice) (table_in s h inks) cells marks output (λ two. other (did.own.answer ∙ two))))

    pub given_tree : (choice : Choice) (cells cells_then output : List ℕ) → cells_then ≡ written cells inks → mark ≡ 2
        → (net : own.Net) → MadeNet choice h.levels h.inputs (ink_in inks) net → (answer : Result Layered Refusal) (after : List ℕ)
        → layered_made_of answer cells_then marks_then after
        ≡ with_layers (layers net.inputs (gates_of net)) (written_sheet (printed_net (net_in s h net)) cells_then marks_then output)
        → layered_made_of answer cells_then marks_then after
        ≡ with_layers (net_layers (net_by choice (table_in s h inks))) (after_marks (net_by choice) (table_in s h inks) cells marks output)
    unfolding header_of
    given_tree choice cells cells_then output copied two net is answer after wrote =
        wrote
        ∙ ap₂ with_layers (made_layers_lem choice net is)
        ((λ i. written_sheet (printed_net (made_is choice net is i)) (copied i) (did.buffer i) output)
        ∙ sym (marked_tree (net_by choice) (table_in s h inks) cells marks output (given_two two)))
