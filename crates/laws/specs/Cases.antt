-- Proofs by cases on a computed value, with the equation that each case gives.
-- Assumes nothing.
use Rattle.std.specs.Prelude.{ℕ, ◌≡◌, refl, true, false, Bool, List}
use Rattle.rules.specs.Calls.Answers.{Answer, accepted, refused}
use Rattle.rules.specs.Sheets.Fields.{Read, read, turned_back, Judged, good, bad}

-- a test passes or fails
pub test_cases : {P : Type 0} (test : Bool) → (test ≡ true → P) → (test ≡ false → P) → P
test_cases true passes fails = passes refl
test_cases false passes fails = fails refl

-- an answer is a refusal or a result, ..
pub answer_cases : {A P : Type 0} (answer : Answer A) → ((number place : ℕ) → answer ≡ refused number place → P) → ((a : A) → answer ≡ accepted a → P) → P
answer_cases (refused number place) turned taken = turned number place refl
answer_cases (accepted a) turned taken = taken a refl

-- .. what a reader returns a value with the rest, or a refusal, ..
pub read_cases : {A P : Type 0} (result : Read A) → ((a : A) (rest : List ℕ) (place : ℕ) → result ≡ read a rest place → P)
    → ((number place : ℕ) → result ≡ turned_back number place → P) → P
read_cases (read a rest place) taken turned = taken a rest place refl
read_cases (turned_back number place) taken turned = turned number place refl

-- .. and a verdict good or bad
pub judged_cases : {A P : Type 0} (verdict : Judged A) → ((a : A) → verdict ≡ good a → P) → ((number : ℕ) → verdict ≡ bad number → P) → P
judged_cases (good a) passes fails = passes a refl
judged_cases (bad number) passes fails = fails number refl
