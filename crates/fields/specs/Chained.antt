-- One reader after another, expressed by the steps of the code.
-- Assumes nothing.
use Rattle.std.specs.Prelude.{◌<◌, ◌≤◌, ◌≡◌, Result, Ok, Err}
use Rattle.laws.specs.Prelude.{ℕ, ◌∙◌, sym, ap, subst, refl, List, arith, length, drop, drop_of_length-le, drop-cons}
use Rattle.rules.specs.Sheets.Fields.{Read, read, turned_back, Reader, then, ◌>>=◌, give, closed}
use Rattle.rules.specs.Sheets.Reading.{answered}
use Rattle.rules.specs.Calls.Answers.{Answer, accepted, refused}
use Rattle.fields.specs.Steps.{Step, read_as, step_as, nothing}
use Rattle.answers.specs.AnswerMaps.{answer_as, refused_by}
use Rattle.answers.specs.Kinds.{number_of}
use Rattle.answers.specs.declared.refusal.Kind.TheVariants as kinds
use Rattle.answers.specs.declared.refusal.Refusal.{Refusal}
use Rattle.fields.specs.declared.steps.Field.{Field}

-- one field, then the rest of what is read, which has the result r
module _ {A B R : Type 0} (f : ℕ → A) (one : Reader A) (rest : A → Reader B) (s : List ℕ) (at : ℕ) (step : Step)
    (reads : step_as f s step ≡ one (drop at s) at) (g : R → B) (after : R → ℕ) (r : Result R Refusal) where
  pub chained_back : (e : Refusal) → step ≡ Err e → r ≡ Err e → read_as g after s r ≡ (one >>= rest) (drop at s) at
  unfolding then
  chained_back e is q = rw (← reads, is, q) refl

  pub chained_on : (field : Field) → step ≡ Ok field → read_as g after s r ≡ rest (f field.value) (drop field.next s) field.next
      → read_as g after s r ≡ (one >>= rest) (drop at s) at
  unfolding then
  chained_on field is onward = rw (← reads, is) onward

-- ---- the answer to a whole sheet

-- `reader` reads the rest of a sheet, with the result r; if the sheet is accepted, the value of the result is b, and `Held` holds of it
pub record Answers {B R : Type 0} (s : List ℕ) (at : ℕ) (reader : Reader B) (b : R → B) (Held : R → Type 0) (r : Result R Refusal) : Type 0 where
  pub answer : answer_as b r ≡ answered (reader (drop at s) at)
  pub held : (x : R) → r ≡ Ok x → Held x

-- a refusal accepts nothing
never : {A R : Type 0} (e : Refusal) (x : R) → ◌≡◌ {A = Result R Refusal} (Err e) (Ok x) → A
never e x q = let z : ◌≡◌ {A = ℕ} 0 1 = cc in absurd (omega arith)

module _ {A B R : Type 0} (f : ℕ → A) (one : Reader A) (rest : A → Reader B) (s : List ℕ) (at : ℕ) (step : Step)
    (reads : step_as f s step ≡ one (drop at s) at) (b : R → B) (Held : R → Type 0) where
  pub answers_back : (e : Refusal) → step ≡ Err e → Answers s at (one >>= rest) b Held (Err e)
  unfolding then answered
  answers_back e is = record { answer = rw (← reads, is) refl; held = λ x q. never e x q }

  pub answers_on : (field : Field) (r : Result R Refusal) → step ≡ Ok field → Answers s field.next (rest (f field.value)) b Held r
      → Answers s at (one >>= rest) b Held r
  unfolding then
  answers_on field r is onward = record { answer = rw (← reads, is) onward.answer; held = onward.held }

-- nothing may follow the last line
module _ {B R : Type 0} (rest : Unit {0} → Reader B) (s : List ℕ) (at : ℕ) (b : R → B) (Held : R → Type 0) where
  pub answers_more : at < length s → Answers s at (closed >>= rest) b Held (Err (record { kind = kinds.Layout; place = at }))
  unfolding then answered closed
  answers_more h = record { answer = rw (drop-cons s at 0) refl; held = λ x q. never _ x q }

  pub answers_ended : length s ≤ at → (r : Result R Refusal) → Answers s at (rest tt) b Held r → Answers s at (closed >>= rest) b Held r
  unfolding then closed
  answers_ended h r after = record { answer = after.answer ∙ rw (drop_of_length-le s h); held = after.held }

-- ---- the end of a sheet

-- the answer to a sheet whose last line this step read: nothing may follow that line
unfoldable pub end_of : List ℕ → Step → Answer (Unit {0})
end_of s step = answered (then (step_as nothing s step) (λ _. closed))

module _ (s : List ℕ) (step : Step) where
  pub end_back : (e : Refusal) → step ≡ Err e → refused_by e ≡ end_of s step
  unfolding end_of then answered
  end_back e is = rw is refl

  pub end_over : (field : Field) → step ≡ Ok field → field.next < length s → refused 1 field.next ≡ end_of s step
  unfolding end_of then closed answered
  end_over field is over = rw (is, drop-cons s field.next 0) refl

  pub end_closed : (field : Field) → step ≡ Ok field → length s ≤ field.next → accepted tt ≡ end_of s step
  unfolding end_of then closed answered
  end_closed field is end = rw (is, drop_of_length-le s end) refl

-- the last lines, whose value is a, and the end after them
module _ {A B R : Type 0} (lines : Reader A) (f : A → B) (s : List ℕ) (at : ℕ) (a : A) (step : Step) (reads : step_as (λ _. a) s step ≡ lines (drop at s) at)
    (b : R → B) (Held : R → Type 0) where
  abbrev whole : Reader B
  whole = lines >>= λ x. closed >>= λ _. give (f x)

  -- the end's answer, with the lines' value
  abbrev valued : Answer (Unit {0}) → Answer B
  valued (accepted _) = accepted (f a)
  valued (refused number place) = refused number place

  ending : answered (whole (drop at s) at) ≡ valued (end_of s step)
  unfolding end_of then answered
  ending = rw (← reads) (given step)
    where
      closes : (x : Read (Unit {0})) → answered (then x (λ _. give (f a))) ≡ valued (answered x)
      closes (read u rest place) = refl
      closes (turned_back number place) = refl

      given : (step : Step) → answered (then (step_as (λ _. a) s step) (λ x. closed >>= λ _. give (f x))) ≡ valued (end_of s step)
      given (Ok field) = closes (closed (drop field.next s) field.next)
      given (Err e) = refl

  pub end_refused : (e : Refusal) → refused_by e ≡ end_of s step → Answers s at whole b Held (Err e)
  end_refused e is = record { answer = ap valued is ∙ sym ending; held = λ x q. never e x q }

  pub end_accepted : (x : R) → b x ≡ f a → accepted tt ≡ end_of s step → ((field : Field) → step ≡ Ok field → Held x) → Answers s at whole b Held (Ok x)
  unfolding end_of then answered
  end_accepted x value is held = record { answer = ap accepted value ∙ (ap valued is ∙ sym ending); held = λ y e. subst Held (same e) (on step refl is) }
    where
      same : {y : R} → ◌≡◌ {A = Result R Refusal} (Ok x) (Ok y) → x ≡ y
      same e = cc

      on : (last : Step) → step ≡ last → accepted tt ≡ end_of s last → Held x
      on (Ok field) e accepts = held field e
      on (Err e) q accepts = let z : ◌≡◌ {A = ℕ} 0 1 = cc in absurd (omega arith)

-- ---- readers and steps

pub field_then_then : {A B C : Type 0} (x : Read A) (f : A → Reader B) (g : B → Reader C) → then (then x f) g ≡ then x (λ a. f a >>= g)
unfolding then
field_then_then (read a rest place) f g = refl
field_then_then (turned_back number place) f g = refl

-- a result cannot be both
pub never_both : {R : Type 0} (r : Result R Refusal) (e : Refusal) (x : R) → r ≡ Err e → r ≡ Ok x → ⊥
never_both r e x is q = let z : ◌≡◌ {A = ℕ} 0 1 = cc in omega arith
