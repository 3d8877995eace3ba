-- What the code's answers and buffers represent in document 01's definitions.
-- Assumes nothing.
use Rattle.std.specs.Prelude.{Option, Some, None, Result, Ok, Err}
use Rattle.laws.specs.Prelude.{ℕ, List}
use Rattle.rules.specs.Calls.Answers as answers
use Rattle.rules.specs.Calls.Checking as checking
use Rattle.answers.specs.AnswerMaps.{named_of}
use Rattle.answers.specs.Kinds.{number_of}
use Rattle.answers.specs.declared.named.SheetRefusal.{SheetRefusal}
use Rattle.rules.specs.Calls.Checking.{Checked}

-- the lowest index at which the two differ, if any
abbrev pub comparison_of : Option ℕ → checking.Verdict
comparison_of None = checking.agree
comparison_of (Some index) = checking.differ index

abbrev pub Verdict : Type 0
Verdict = Result (Option ℕ) SheetRefusal

abbrev pub verdict_of : Verdict → checking.Verdict
verdict_of (Ok found) = comparison_of found
verdict_of (Err e) = checking.turned_down (named_of e.named) (number_of e.refusal.kind) e.refusal.place

-- the verdict, and the cells buffer after the call
abbrev pub checked_of : Verdict → List ℕ → Checked
checked_of r cells = record { answer = verdict_of r; cells = cells }

-- a net's table compared with a table sheet's inks, which go to the cells buffer whether they agree or not
abbrev pub compared_into : ℕ → List ℕ → List ℕ → List ℕ → Checked
compared_into m table inks cells = record { answer = checking.compared m table inks; cells = answers.written cells inks }
