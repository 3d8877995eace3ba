-- The meaning of the code's answers in the definitions.
-- Assumes nothing.
use Rattle.std.specs.Prelude.{Option, Some, None, Result, Ok, Err}
use Rattle.laws.specs.Prelude.{ℕ, Bool, cond, List, drop}
use Rattle.std.proofs.Math.Option as math
use Rattle.rules.specs.Lists.{same}
use Rattle.rules.specs.Sheets.Fields.{Read, read, turned_back, Judge, Judged, good, bad, judged, field_in, strict, loose}
use Rattle.rules.specs.Sheets.Fields as fields
use Rattle.answers.specs.Kinds.{number_of}
use Rattle.answers.specs.declared.refusal.Kind.{Kind}
use Rattle.answers.specs.declared.refusal.Refusal.{Refusal}
use Rattle.fields.specs.declared.steps.Field.{Field}
use Rattle.fields.specs.declared.steps.Layout.{Layout}
use Rattle.fields.specs.declared.steps.Layout.TheVariants.{Strict, Loose}

-- the verdict on a field's bytes: good, with a value, or bad, with the kind of the refusal
abbrev pub Verdict : Type 0
Verdict = Result ℕ Kind

-- reading continues after a field with its value, or the sheet is refused
abbrev pub Step : Type 0
Step = Result Field Refusal

abbrev pub itself : ℕ → ℕ
itself value = value

-- for a field that is only checked and has no value
abbrev pub nothing : ℕ → Unit {0}
nothing value = tt

-- The code's value is a number, and `f` gives its meaning.
abbrev pub judged_as : {A : Type 0} → (ℕ → A) → Verdict → Judged A
judged_as f (Ok value) = good (f value)
judged_as f (Err kind) = bad (number_of kind)

-- the verdict of a test
unfoldable pub tested : Bool → ℕ → Kind → Verdict
tested test value kind = cond test (Ok value) (Err kind)

abbrev pub layout_of : Layout → fields.Layout
layout_of Strict = strict
layout_of Loose = loose

-- the field at `at` in the sheet s, with the verdict v
unfoldable pub judged_field_in : fields.Layout → Verdict → ℕ → List ℕ → ℕ → Read ℕ
judged_field_in layout v due s at = field_in layout (λ _. judged_as itself v) due (drop at s) at

abbrev pub judged_field : Verdict → ℕ → List ℕ → ℕ → Read ℕ
judged_field v due s at = judged_field_in strict v due s at

-- What was read of the sheet s, by the meaning of its value and the place where reading continues.
abbrev pub read_as : {R A : Type 0} → (R → A) → (R → ℕ) → List ℕ → Result R Refusal → Read A
read_as value next s (Ok r) = read (value r) (drop (next r) s) (next r)
read_as value next s (Err e) = turned_back (number_of e.kind) e.place

-- a step in the sheet s
abbrev pub step_as : {A : Type 0} → (ℕ → A) → List ℕ → Step → Read A
step_as f s step = read_as (λ r. f r.value) (λ r. r.next) s step

abbrev pub option_of : Option ℕ → math.Option ℕ
option_of (Some i) = math.some i
option_of None = math.none

-- a fixed word, by its bytes
unfoldable pub spelled : List ℕ → Judge (Unit {0})
spelled word w = judged (same w word) tt 1
