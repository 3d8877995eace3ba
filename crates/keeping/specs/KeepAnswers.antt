-- What the code's answer and buffers represent in the definitions of document 02, K10.
-- Assumes nothing.
use Rattle.std.specs.Prelude.{Result, Ok, Err}
use Rattle.laws.specs.Prelude.{ℕ, suc, true, false, List, ltb, length}
use Rattle.rules.specs.Sheets.Sheets.{Net, Table}
use Rattle.rules.specs.Sheets.Printed.{printed_net}
use Rattle.rules.specs.Calls.Answers as answers
use Rattle.rules.specs.Calls.Settling.{written_sheet}
use Rattle.rules.specs.Calls.Keeping.{Keeping, rewritten, turned_away, KeptWiring, kept_net, roomy_before, leaves_out, changed_gates}
use Rattle.answers.specs.AnswerMaps.{named_of}
use Rattle.answers.specs.Kinds.{number_of}
use Rattle.answers.specs.declared.named.Named.{Named}
use Rattle.answers.specs.declared.named.SheetRefusal.{SheetRefusal}
use Rattle.keeping.specs.declared.answer.Kept.{Kept}

abbrev pub turned_by : SheetRefusal → Keeping
turned_by e = turned_away (named_of e.named) (number_of e.refusal.kind) e.refusal.place

abbrev pub keeping_of : Result Kept SheetRefusal → Keeping
keeping_of (Ok kept) = rewritten kept.length kept.changed
keeping_of (Err e) = turned_by e

-- an answer whose refusal is of any type, with the sheet that it names, by a reading of the refusal's number and place
abbrev pub keeping_by : {R : Type 0} → (R → ℕ) → (R → ℕ) → Result Kept (Named × R) → Keeping
keeping_by number place (Ok kept) = rewritten kept.length kept.changed
keeping_by number place (Err e) = turned_away (named_of e.0) (number e.1) (place e.1)

-- the answer, and the two buffers after the call
abbrev pub kept_one_of : Result Kept SheetRefusal → List ℕ → List ℕ → KeptWiring
kept_one_of r cells output = record { answer = keeping_of r; cells = cells; output = output }

-- a sheet's length with the set of the gates that changed; a refusal names neither sheet
unfoldable pub with_changed : ℕ → answers.Answer ℕ → Keeping
with_changed changed (answers.accepted length) = rewritten length changed
with_changed changed (answers.refused number place) = turned_away answers.neither number place

-- the result if every gate's group has few classes, with the cells written: refusal 15, or the sheet
unfoldable pub sheet_kept : Net → Table → List ℕ → List ℕ → KeptWiring
sheet_kept net t cells output =
    let made = written_sheet (printed_net (kept_net net t)) cells cells output in
    record { answer = with_changed (changed_gates net.gates (kept_net net t).gates) made.answer; cells = cells; output = made.output }

-- the result if refusal 13 does not apply: the inks in the cells buffer; refusal 23 at 0, refusal 23 at a gate, or the sheet
unfoldable pub filled_into : Net → Table → List ℕ → List ℕ → KeptWiring
filled_into net t cells output =
    let cells_then = answers.written cells t.inks in
    elim (leaves_out net t) [
      | true ↦ record { answer = turned_away answers.neither 23 0; cells = cells_then; output = output }
      | false ↦ elim (ltb (roomy_before net t) (length net.gates)) [
        | true ↦ record { answer = turned_away answers.neither 23 (suc (roomy_before net t)); cells = cells_then; output = output }
        | false ↦ sheet_kept net t cells_then output
      ]
    ]

-- the result if refusal 27 does not apply: refusal 13, or the result above
unfoldable pub full_into : Net → Table → List ℕ → List ℕ → KeptWiring
full_into net t cells output =
    elim (ltb (length cells) (length t.inks)) [
      | true ↦ record { answer = turned_away answers.neither 13 (length t.inks); cells = cells; output = output }
      | false ↦ filled_into net t cells output
    ]
