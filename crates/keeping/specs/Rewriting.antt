-- A net's wiring for a full table: the cells buffer, then the gates' groups and the sheet.
-- Assumes nothing.
use Rattle.std.specs.Prelude.{◌<◌, ◌≤◌, ◌+◌, ◌^◌, ◌≡◌, Result}
use Rattle.laws.specs.Prelude.{ℕ, suc, ◌∙◌, sym, ap, ap₂, subst⁻¹, subst₂, true, false, List, arith, length, lt-ltb, le-ltb}
use Rattle.rules.specs.Sheets.Sheets as sheets
use Rattle.rules.specs.Sheets.Sheets.{Table}
use Rattle.rules.specs.Sheets.Printed.{printed_net}
use Rattle.rules.specs.Nets.Filling.{filled}
use Rattle.rules.specs.Sheets.SheetRules.{IsNet}
use Rattle.rules.specs.Calls.Answers.{ink_in, neither, written}
use Rattle.rules.specs.Calls.Settling.{written_sheet}
use Rattle.rules.specs.Calls.Keeping.{gate_links, kept_gates, kept_net, roomy_gates, roomy_before, leaves_out, changed_gates, turned_away}
use Rattle.trees.specs.Keeping.KeptLinks.{same_net}
use Rattle.trees.specs.Keeping.KeptWirings.{UsesMattering, GatesFew, leaves_out_none, all_roomy, kept_fills}
use Rattle.nets.specs.declared.forms.Header.{Header}
use Rattle.nets.specs.declared.forms.Net.{Net}
use Rattle.nets.specs.Forms.{header_of, gates_of, table_in, net_in}
use Rattle.nets.specs.Sound.{Sound, gates_length}
use Rattle.wirings.specs.declared.forms.Wiring.{Wiring}
use Rattle.wirings.specs.Links.{links_in}
use Rattle.gate_tables.specs.Sized.{Sized, sized_cells}
use Rattle.gate_tables.specs.Filled.{Filled, FilledTo}
use Rattle.gate_tables.specs.MadeNet.{NetOf}
use Rattle.answers.specs.declared.named.SheetRefusal.{SheetRefusal}
use Rattle.answers.specs.declared.refusal.Refusal.{Refusal}
use Rattle.answers.specs.AnswerMaps.{answer_of, made_of}
use Rattle.accepted.specs.Taken.{NetTaken, Given, sound}
use Rattle.settling.specs.Outcomes.{given_size, given_count, given_below}
use Rattle.keeping.specs.declared.answer.Kept.{Kept}
use Rattle.keeping.specs.KeepAnswers.{keeping_of, kept_one_of, with_changed, sheet_kept, filled_into, full_into}
use Rattle.keeping.specs.Groups.{roomy_filled, filled_whole}
use Rattle.keeping.specs.LeftOut.{leaves_out_of}

-- what `keep_filled` requires
pub record KeepingReady (s : List ℕ) (h : Header) (net : Net) (inks cells : List ℕ) : Type 0 where
  pub taken : NetTaken s h net
  pub given : Given s h inks
  pub long : length inks ≤ length cells

-- after refusal 27

module _ (net : sheets.Net) (t : Table) (cells output : List ℕ) where
  pub full_short : length cells < length t.inks
      → record { answer = turned_away neither 13 (length t.inks); cells = cells; output = output } ≡ full_into net t cells output
  unfolding full_into
  full_short short = sym (rw (lt-ltb _ _ short, full_into))

  pub full_long : length t.inks ≤ length cells → filled_into net t cells output ≡ full_into net t cells output
  unfolding full_into
  full_long long = sym (rw (le-ltb _ _ long, full_into))

-- after refusal 13, by value

module _ (s : List ℕ) (h : Header) (net : Net) (inks : List ℕ) (taken : NetTaken s h net) (given : Given s h inks) where
  -- how many gates come before the first with too many classes, in the code's numbers
  roomy_is : roomy_gates net.levels net.inputs (ink_in inks) (gates_of net) ≡ roomy_before (net_in s h net) (table_in s h inks)
  unfolding roomy_before header_of
  roomy_is = ap₂ (λ (m n : ℕ). roomy_gates m n (ink_in inks) (gates_of net)) taken.levels taken.inputs

  pub table_sized : Sized net.levels net.inputs inks
  table_sized =
      subst₂ (λ (m n : ℕ). Sized m n inks) (sym taken.levels) (sym taken.inputs)
      (sized_cells h.levels h.inputs inks (given_size s h inks given) (omega (arith, given_count s h inks given)))

  -- whether an input that matters is left out, in the code's numbers
  out_is : leaves_out_of net.levels net.inputs (ink_in inks) (gates_of net) ≡ leaves_out (net_in s h net) (table_in s h inks)
  unfolding leaves_out header_of
  out_is = ap₂ (λ (m n : ℕ). leaves_out_of m n (ink_in inks) (gates_of net)) taken.levels taken.inputs

  module _ (cells cells_then output : List ℕ) (copied : cells_then ≡ written cells inks) where
    -- refusal 23 at 0
    pub left_told : leaves_out_of net.levels net.inputs (ink_in inks) (gates_of net) ≡ true
        → record { answer = turned_away neither 23 0; cells = cells_then; output = output } ≡ filled_into (net_in s h net) (table_in s h inks) cells output
    unfolding filled_into
    left_told out = (λ i. record { answer = turned_away neither 23 0; cells = copied i; output = output }) ∙ sym (rw (sym out_is ∙ out, filled_into))

    module _ (takes : leaves_out_of net.levels net.inputs (ink_in inks) (gates_of net) ≡ false) (roomy : ℕ)
        (is : roomy ≡ roomy_gates net.levels net.inputs (ink_in inks) (gates_of net)) where
      -- refusal 23 at a gate
      pub first_told : roomy < net.gates
          → record { answer = turned_away neither 23 (roomy + 1); cells = cells_then; output = output } ≡ filled_into (net_in s h net) (table_in s h inks) cells
          output
      unfolding filled_into
      first_told some =
          let place : roomy + 1 ≡ suc (roomy_before (net_in s h net) (table_in s h inks)) = omega (arith, is, roomy_is) in
          (λ i. record { answer = turned_away neither 23 (place i); cells = copied i; output = output })
          ∙ sym (rw (
            sym out_is ∙ takes,
            lt-ltb (roomy_before (net_in s h net) (table_in s h inks)) (length (gates_of net))
                (omega (arith, is, roomy_is, gates_length net)),
            filled_into,
          ))

      -- refusal 15, or the sheet
      pub sheet_told : net.gates ≤ roomy → (r : Result Kept SheetRefusal) (after : List ℕ)
          → ((own : List ℕ) → kept_one_of r own after ≡ sheet_kept (net_in s h net) (table_in s h inks) own output)
          → kept_one_of r cells_then after ≡ filled_into (net_in s h net) (table_in s h inks) cells output
      unfolding filled_into
      sheet_told all r after told =
          told cells_then
          ∙ ap (λ (own : List ℕ). sheet_kept (net_in s h net) (table_in s h inks) own output) copied
          ∙ sym (rw (
            sym out_is ∙ takes,
            le-ltb (roomy_before (net_in s h net) (table_in s h inks)) (length (gates_of net))
                (omega (arith, is, roomy_is, gates_length net)),
            filled_into,
          ))

  -- if no input that matters is left out, and every gate has few classes

  module _ (takes : leaves_out_of net.levels net.inputs (ink_in inks) (gates_of net) ≡ false)
      (all : net.gates ≤ roomy_gates net.levels net.inputs (ink_in inks) (gates_of net)) where
    abbrev f : ℕ → ℕ
    f = ink_in inks

    own : Sound net
    own = sound s h net taken

    pos : 0 < net.levels
    pos = table_sized.some

    uses : UsesMattering net.levels net.inputs f (gates_of net)
    unfolding header_of
    uses =
        subst₂ (λ (m n : ℕ). UsesMattering m n f (gates_of net)) (sym taken.levels) (sym taken.inputs)
        ((leaves_out_none (net_in s h net) (table_in s h inks)).0 (sym out_is ∙ takes))

    few : GatesFew net.levels net.inputs f (gates_of net)
    few = (all_roomy net.levels net.inputs pos f (gates_of net) own.gates).0 (omega (arith, gates_length net))

    below : (p : ℕ) → p < net.levels ^ net.inputs → f p < net.levels
    below =
        subst₂ (λ (m n : ℕ). (p : ℕ) → p < m ^ n → f p < m) (sym taken.levels) (sym taken.inputs) (given_below s h inks given)

    module _ (w : Wiring) (links : links_in w ≡ gate_links (gates_of net)) (new : Net) (done : Filled net.levels net.inputs f w new) where
      new_gates : gates_of new ≡ kept_gates net.levels net.inputs f (gates_of net)
      unfolding kept_gates
      new_gates = done.gates ∙ ap (λ ls. filled net.levels net.inputs f ls) links

      -- filled, the wiring is the net of its gates, which keep the rules
      pub new_net : NetOf h.levels h.inputs (kept_gates net.levels net.inputs f (gates_of net)) new
      new_net =
          let fills = kept_fills net.levels net.inputs pos f (gates_of net) own.gates few uses below in
          let is_net = same_net net.levels net.inputs (gates_of net) (kept_gates net.levels net.inputs f (gates_of net)) fills.wiring own.gates
          fills.tables in
          record {
            levels = done.levels ∙ taken.levels;
            inputs = done.inputs ∙ taken.inputs;
            gates = new_gates;
            kept = subst⁻¹ (IsNet h.levels h.inputs) new_gates
                (subst₂ (λ (m n : ℕ). IsNet m n (kept_gates net.levels net.inputs f (gates_of net))) taken.levels taken.inputs is_net);
          }

      new_is : net_in s h new ≡ kept_net (net_in s h net) (table_in s h inks)
      unfolding kept_net header_of
      new_is = λ i. record {
        header = header_of s h;
        gates = (new_gates ∙ ap₂ (λ (m n : ℕ). kept_gates m n f (gates_of net)) taken.levels taken.inputs) i;
      }

      -- the sheet's answer together with the set
      pub rewrite_told : (answer : Result ℕ Refusal) (output after : List ℕ)
          → ((cells marks : List ℕ) → made_of answer cells marks after ≡ written_sheet (printed_net (net_in s h new)) cells marks output)
          → (set : ℕ) → set ≡ changed_gates (gates_of net) (gates_of new) → (r : Result Kept SheetRefusal) → keeping_of r ≡ with_changed set (answer_of answer)
          → (cells : List ℕ) → kept_one_of r cells after ≡ sheet_kept (net_in s h net) (table_in s h inks) cells output
      unfolding sheet_kept
      rewrite_told answer output after did set is r told cells =
          let made = did cells cells ∙ ap (λ (k : sheets.Net). written_sheet (printed_net k) cells cells output) new_is in
          let changed = is ∙ ap (λ (k : sheets.Net). changed_gates (gates_of net) k.gates) new_is in
          λ i. record { answer = (told ∙ ap₂ with_changed changed (ap (λ m. m.answer) made)) i; cells = cells; output = (made i).output }

-- ---- the wiring, filled up to the first gate with too many classes

module _ (s : List ℕ) (h : Header) (net : Net) (inks cells : List ℕ) (ready : KeepingReady s h net inks cells) (w : Wiring)
    (is : (w.gates ≡ net.gates) × (links_in w ≡ gate_links (gates_of net))) (new : Net) (to : FilledTo net.levels net.inputs (ink_in inks) w new) where
  pub filled_roomy : new.gates ≡ roomy_gates net.levels net.inputs (ink_in inks) (gates_of net)
  filled_roomy =
      roomy_filled net (sound s h net ready.taken) (table_sized s h net inks ready.taken ready.given).some w is.1 (ink_in inks) new is.0 to

  -- if that is every gate, the net is whole
  module _ (enough : net.gates ≤ new.gates) where
    pub filled_all : Filled net.levels net.inputs (ink_in inks) w new
    filled_all =
        filled_whole net (sound s h net ready.taken) (table_sized s h net inks ready.taken ready.given).some w is.1 (ink_in inks) new is.0 to enough

    module _ (takes : leaves_out_of net.levels net.inputs (ink_in inks) (gates_of net) ≡ false) where
      few_all : net.gates ≤ roomy_gates net.levels net.inputs (ink_in inks) (gates_of net)
      few_all = omega (arith, enough, filled_roomy)

      pub filled_net : NetOf h.levels h.inputs (kept_gates net.levels net.inputs (ink_in inks) (gates_of net)) new
      filled_net = new_net s h net inks ready.taken ready.given takes few_all w is.1 new filled_all

      pub filled_told : (cells_then output : List ℕ) → cells_then ≡ written cells inks → (answer : Result ℕ Refusal) (after : List ℕ)
          → ((cells marks : List ℕ) → made_of answer cells marks after ≡ written_sheet (printed_net (net_in s h new)) cells marks output)
          → (set : ℕ) → set ≡ changed_gates (gates_of net) (gates_of new)
          → (r : Result Kept SheetRefusal) → keeping_of r ≡ with_changed set (answer_of answer)
          → kept_one_of r cells_then after ≡ filled_into (net_in s h net) (table_in s h inks) cells output
      filled_told cells_then output copied answer after did set set_is r told =
          sheet_told s h net inks ready.taken ready.given cells cells_then output copied takes new.gates filled_roomy enough r after
          (rewrite_told s h net inks ready.taken ready.given takes few_all w is.1 new filled_all answer output after did set set_is r told)
