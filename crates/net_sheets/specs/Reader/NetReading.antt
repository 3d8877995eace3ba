-- The result of reading a net sheet, in the definitions.
-- Assumes nothing.
use Rattle.std.specs.Prelude.{◌<◌, ◌≤◌, ◌+◌, ◌-◌, ◌≡◌, Result, Ok, Err}
use Rattle.laws.specs.Prelude.{ℕ, ◌∙◌, sym, ap, subst, refl, true, false, List, [], arith, length, drop}
use Rattle.rules.specs.Text.{space, newline, text}
use Rattle.rules.specs.Sheets.Fields.{Reader, then, ◌>>=◌, give, the_word, closed}
use Rattle.rules.specs.Sheets.Sheets as sheets
use Rattle.rules.specs.Sheets.Sheets.{header_lines, gate_lines, earlier_used, all_used, net_sheet}
use Rattle.rules.specs.Sheets.Reading.{answered, read_net}
use Rattle.rules.specs.Calls.Answers.{accepted}
use Rattle.laws.specs.Numbers.Sizes.{sized}
use Rattle.nets.specs.Forms.{header_of, names_in, gates_of, net_in}
use Rattle.nets.specs.Room.{most_wires}
use Rattle.nets.specs.Sound.{gates_length}
use Rattle.nets.specs.declared.forms.Header.{Header}
use Rattle.fields.specs.Chained.{Answers, answers_back, answers_on, answers_more, answers_ended, never_both}
use Rattle.fields.specs.Header.FirstLines.{HeaderHeld, HeaderRest}
use Rattle.fields.specs.Steps.{Step, read_as, step_as, nothing, spelled}
use Rattle.answers.specs.AnswerMaps.{answer_as}
use Rattle.fields.specs.Words.{three_words, three_words_then}
use Rattle.fields.specs.declared.header.name_line.HeaderRead.{HeaderRead}
use Rattle.answers.specs.declared.refusal.Kind.TheVariants as kinds
use Rattle.answers.specs.declared.refusal.Refusal.{Refusal}
use Rattle.fields.specs.declared.steps.Field.{Field}
use Rattle.net_sheets.specs.Reader.GateLines.{NetWhole, GatesAll}
use Rattle.net_sheets.specs.Reader.References.{marked_on, earlier_marked}
use Rattle.net_sheets.specs.declared.reader.gates.GatesRead.{GatesRead}
use Rattle.net_sheets.specs.declared.reader.net.NetRead.{NetRead}

-- the properties of an accepted sheet's header and net
pub record NetHeld (s : List ℕ) (read : NetRead) : Type 0 where
  pub header : HeaderHeld s read.header
  pub whole : NetWhole read.header read.net

-- a net sheet that was read, in the definitions
abbrev pub net_of : List ℕ → NetRead → sheets.Net
net_of s read = net_in s read.header read.net

-- reading a whole net sheet
pub record NetReads (s : List ℕ) (r : Result NetRead Refusal) : Type 0 where
  pub answer : answer_as (net_of s) r ≡ read_net s
  pub held : (read : NetRead) → r ≡ Ok read → NetHeld s read

-- `reader` reads the rest of a net sheet
abbrev pub NetRest : List ℕ → ℕ → Reader sheets.Net → Result NetRead Refusal → Type 0
NetRest s at reader r = Answers s at reader (net_of s) (NetHeld s) r

-- line 4
abbrev pub heading_line : Reader (Unit {0})
heading_line = three_words (text "left") (text "right") (text "table")

-- the last checks
unfoldable pub last_judged : sheets.Header → List sheets.Gate → Reader sheets.Net
last_judged h gates = all_used h.inputs gates >>= λ _. give (record { header = h; gates = gates })

unfoldable pub from_gates : sheets.Header → Reader sheets.Net
from_gates h =
    gate_lines h.levels h.names (h.inputs - 1) [] >>= λ gates. closed >>= λ _. last_judged h gates

unfoldable pub from_heading : sheets.Header → Reader sheets.Net
from_heading h = heading_line >>= λ _. from_gates h

-- ---- at the sheet's end

module _ (s : List ℕ) (at : ℕ) (h : sheets.Header) (gates : List sheets.Gate) where
  last_used : earlier_used h.inputs gates ≡ true → (read : NetRead) → net_of s read ≡ record { header = h; gates = gates } → NetHeld s read
      → NetRest s at (last_judged h gates) (Ok read)
  unfolding last_judged all_used then answered
  last_used used read is held =
      record { answer = rw (used, all_used) (ap accepted is); held = λ other e. subst (NetHeld s) (the_read other e) held }
    where
      the_read : (other : NetRead) → ◌≡◌ {A = Result NetRead Refusal} (Ok read) (Ok other) → read ≡ other
      the_read other e = cc

  last_unused : earlier_used h.inputs gates ≡ false → NetRest s at (last_judged h gates) (Err (record { kind = kinds.UnusedGate; place = at }))
  unfolding last_judged all_used then answered
  last_unused unused = record { answer = rw (unused, all_used) refl; held = λ read e. absurd (never_both (Err _) _ read refl e) }

-- ---- several fields, then the rest of a net sheet

module _ {A R : Type 0} (value : R → A) (next : R → ℕ) (one : Reader A) (rest : A → Reader sheets.Net) (s : List ℕ) (at : ℕ) (first : Result R Refusal)
    (reads : read_as value next s first ≡ one (drop at s) at) where
  part_back : (e : Refusal) → first ≡ Err e → NetRest s at (one >>= rest) (Err e)
  unfolding then answered
  part_back e is = record { answer = rw (← reads, is) refl; held = λ read q. absurd (never_both (Err e) e read refl q) }

  part_on : (part : R) (r : Result NetRead Refusal) → first ≡ Ok part → NetRest s (next part) (rest (value part)) r → NetRest s at (one >>= rest) r
  unfolding then
  part_on part r is onward = record { answer = rw (← reads, is) onward.answer; held = onward.held }

-- ---- from the gate lines back to the whole sheet

module _ (s : List ℕ) (at : ℕ) (h : Header) (held : HeaderHeld s h) (r : Result GatesRead Refusal) (gates : GatesAll s at h r) where
  lines : Reader (List sheets.Gate)
  lines = gate_lines h.levels (names_in s h) (h.inputs - 1) []

  pub gates_back : (e : Refusal) → r ≡ Err e → NetRest s at (from_gates (header_of s h)) (Err e)
  unfolding from_gates header_of lines
  gates_back e is = part_back _ _ lines _ s at r gates.reads e is

  module _ (read : GatesRead) (e : r ≡ Ok read) where
    -- the checks after the gate lines
    after_lines_lem : (o : Result NetRead Refusal) → NetRest s read.next (closed >>= λ _. last_judged (header_of s h) (gates_of read.net)) o
        → NetRest s at (from_gates (header_of s h)) o
    unfolding from_gates header_of lines
    after_lines_lem o after = part_on _ _ lines _ s at r gates.reads read o e after

    pub gates_over : read.next < length s → NetRest s at (from_gates (header_of s h)) (Err (record { kind = kinds.Layout; place = read.next }))
    gates_over more = after_lines_lem _ (answers_more _ s read.next _ _ more)

    -- the net's inputs and gates are few
    pub gates_room : read.net.inputs + read.net.gates ≤ most_wires
    gates_room =
        let size = sized h.levels h.inputs held.fits in
        let whole = (gates.held read e).whole in
        omega (arith, size.inputs_most, whole.count, whole.inputs)

    module _ (done : length s ≤ read.next) where
      -- the net's inputs are the header's, and its gates are marked
      of_header : marked_on read.used read.net.inputs read.net.gates 0 ≡ earlier_used (header_of s h).inputs (gates_of read.net)
      unfolding header_of
      of_header =
          let told = gates.held read e in
          ap (λ k. marked_on read.used read.net.inputs k 0) (sym (gates_length read.net))
          ∙ (earlier_marked read.used read.net.inputs (gates_of read.net) told.marked (rw (gates_length read.net) gates_room)
          ∙ ap (λ n. earlier_used n (gates_of read.net)) told.whole.inputs)

      pub gates_unused : marked_on read.used read.net.inputs read.net.gates 0 ≡ false
          → NetRest s at (from_gates (header_of s h)) (Err (record { kind = kinds.UnusedGate; place = read.next }))
      gates_unused unused = after_lines_lem _ (answers_ended _ s read.next _ _ done _ (last_unused s read.next _ _ (sym of_header ∙ unused)))

      pub gates_closed : marked_on read.used read.net.inputs read.net.gates 0 ≡ true
          → NetRest s at (from_gates (header_of s h)) (Ok (record { header = h; net = read.net }))
      gates_closed used =
          after_lines_lem _
          (answers_ended _ s read.next _ _ done _
          (last_used s read.next _ _ (sym of_header ∙ used) _ refl (record { header = held; whole = (gates.held read e).whole })))

module _ (s : List ℕ) (at : ℕ) (h : Header) (step : Step) (reads : step_as nothing s step ≡ heading_line (drop at s) at) where
  pub heading_back : (e : Refusal) → step ≡ Err e → NetRest s at (from_heading (header_of s h)) (Err e)
  unfolding from_heading
  heading_back e is = answers_back nothing heading_line _ s at step reads _ _ e is

  pub heading_on : (field : Field) (r : Result NetRead Refusal) → step ≡ Ok field → NetRest s field.next (from_gates (header_of s h)) r
      → NetRest s at (from_heading (header_of s h)) r
  unfolding from_heading
  heading_on field r is onward = answers_on nothing heading_line (λ _. from_gates (header_of s h)) s at step reads _ _ field r is onward

-- the whole sheet is its header, and the rest
sheet_split : (s : List ℕ) → (header_lines newline >>= from_heading) s 0 ≡ net_sheet s 0
unfolding net_sheet from_heading from_gates last_judged spelled the_word space newline
sheet_split s = ap (then (header_lines newline s 0)) (λ i h t at. three_words_then (text "left") (text "right") (text "table") (from_gates h) t at i)

module _ (s : List ℕ) (r : Result HeaderRead Refusal) (header : HeaderRest s 0 (header_lines newline) r) where
  whole : (out : Result NetRead Refusal) → NetRest s 0 (header_lines newline >>= from_heading) out → NetReads s out
  unfolding read_net
  whole out rest = record { answer = rest.answer ∙ ap answered (sheet_split s); held = rest.held }

  pub net_sheet_back : (e : Refusal) → r ≡ Err e → NetReads s (Err e)
  net_sheet_back e is = whole (Err e) (part_back _ _ (header_lines newline) from_heading s 0 r header.reads e is)

  pub net_on : (read : HeaderRead) (out : Result NetRead Refusal) → r ≡ Ok read
      → NetRest s read.next (from_heading (header_of s read.header)) out → NetReads s out
  net_on read out is onward = whole out (part_on _ _ (header_lines newline) from_heading s 0 r header.reads read out is onward)
