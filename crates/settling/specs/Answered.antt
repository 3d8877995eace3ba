-- The meaning of an answer whose refusals are of any type, by any reading of a refusal as a number and a place.
-- Assumes nothing.
use Rattle.std.specs.Prelude.{◌≡◌, Result, Ok, Err}
use Rattle.laws.specs.Prelude.{ℕ, ◌∙◌, sym, ap, refl}
use Rattle.rules.specs.Calls.Answers as answers
use Rattle.rules.specs.Calls.ShallowSettling as shallow
use Rattle.laws.specs.Calls.ShallowSettling.{plain_answer}
use Rattle.answers.specs.AnswerMaps.{answer_of}
use Rattle.answers.specs.Kinds.{number_of}
use Rattle.answers.specs.Layered.{layered_of}
use Rattle.answers.specs.declared.layered.Layered.{Layered}
use Rattle.answers.specs.declared.refusal.Refusal.{Refusal}

-- what a call returns, by the meaning of its value and the reading of its refusal
abbrev pub answer_by : {A V R : Type 0} → (V → A) → (R → ℕ) → (R → ℕ) → Result V R → answers.Answer A
answer_by value number place (Ok v) = answers.accepted (value v)
answer_by value number place (Err e) = answers.refused (number e) (place e)

-- an answer that is a number, and one with a count of layers
abbrev pub plain_by : {R : Type 0} → (R → ℕ) → (R → ℕ) → Result ℕ R → answers.Answer ℕ
plain_by number place r = answer_by (λ value. value) number place r

abbrev pub layered_by : {R : Type 0} → (R → ℕ) → (R → ℕ) → Result Layered R → answers.Answer shallow.Layered
layered_by number place r = answer_by (λ made. record { length = made.length; layers = made.layers }) number place r

-- A refusal of the calls is read by its kind's number and its place. By this reading the two are the answers of the calls.
abbrev pub kind_number : Refusal → ℕ
kind_number e = number_of e.kind

pub plain_by_kind : (r : Result ℕ Refusal) → plain_by kind_number (λ e. e.place) r ≡ answer_of r
plain_by_kind (Ok value) = refl
plain_by_kind (Err e) = refl

pub layered_by_kind : (r : Result Layered Refusal) → layered_by kind_number (λ e. e.place) r ≡ layered_of r
layered_by_kind (Ok made) = refl
layered_by_kind (Err e) = refl

-- so the contract of `length_alone`, by this reading
pub alone_by_kind : (r : Result Layered Refusal) (answer : Result ℕ Refusal)
    → ((number place : Refusal → ℕ) → plain_by number place answer ≡ plain_answer (layered_by number place r))
    → answer_of answer ≡ plain_answer (layered_of r)
alone_by_kind r answer alone = sym (plain_by_kind answer) ∙ alone kind_number (λ e. e.place) ∙ ap plain_answer (layered_by_kind r)
