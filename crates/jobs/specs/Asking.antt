-- What the answer for a group represents, and its outcomes.
-- Assumes nothing.
use Rattle.std.specs.Prelude.{◌<◌, ◌≤◌, ◌^◌, ◌≡◌, Option, Some, None, Result}
use Rattle.laws.specs.Prelude.{ℕ, ◌∙◌, sym, ap, List, ℕ_discrete, arith, get_or, get_or-take}
use Rattle.rules.specs.Calls.Answers as answers
use Rattle.rules.specs.Calls.Answers.{accepted, refused}
use Rattle.rules.specs.Calls.Jobs as rules
use Rattle.rules.specs.Calls.Jobs.{no_table_of, Asked, ask_job, final, not_reached}
use Rattle.laws.specs.Calls.Jobs.{ask_empty, ask_over, ask_passed, ask_ahead}
use Rattle.answers.specs.AnswerMaps.{answer_as}
use Rattle.answers.specs.declared.refusal.Refusal.{Refusal}
use Rattle.nets.specs.declared.forms.Header.{Header}
use Rattle.nets.specs.Forms.{header_of}
use Rattle.jobs.specs.Forms.{Fronted, table_from, job_in, job_front_table}

-- the mark of a group that has been passed, or that it is not reached
abbrev pub mark_as : Option ℕ → rules.Reached
mark_as (Some mark) = final mark
mark_as None = not_reached

abbrev pub reached_as : Result (Option ℕ) Refusal → answers.Answer rules.Reached
reached_as r = answer_as mark_as r

-- a job with no table
pub ask_none : (lines marks : List ℕ) (passed g : ℕ) → ((cells : List ℕ) → table_from lines cells ≡ no_table_of)
    → (cells : List ℕ) → refused 11 0 ≡ (ask_job (job_in lines cells marks passed) g).answer
unfolding job_in no_table_of
ask_none lines marks passed g none cells = go (ℕ_discrete g 0)
  where
    go : Dec (g ≡ 0) → refused 11 0 ≡ (ask_job (job_in lines cells marks passed) g).answer
    go (yes e) = sym (ap (λ (a : Asked). a.answer) (ask_empty (job_in lines cells marks passed) g e))
    go (no ne) =
        let no_inputs : (table_from lines cells).header.inputs ≡ 0 = ap (λ t. t.header.inputs) (none cells) in
        sym (ap (λ (a : Asked). a.answer) (ask_over (job_in lines cells marks passed) g (rw no_inputs (omega arith))))

module _ (lines : List ℕ) (h : Header) (is : Fronted lines h) (marks : List ℕ) (passed g : ℕ) (cells : List ℕ) where
  abbrev job : rules.Job
  job = job_in lines cells marks passed

  inputs_are : job.table.header.inputs ≡ h.inputs
  unfolding job_in header_of
  inputs_are = ap (λ t. t.header.inputs) (job_front_table lines h is cells)

  pub asked_empty : g ≡ 0 → refused 11 0 ≡ (ask_job job g).answer
  asked_empty e = sym (ap (λ (a : Asked). a.answer) (ask_empty job g e))

  pub asked_over : 2 ^ h.inputs ≤ g → refused 11 0 ≡ (ask_job job g).answer
  asked_over l = sym (ap (λ (a : Asked). a.answer) (ask_over job g (rw inputs_are l)))

  module _ (some : g ≡ 0 → ⊥) (below : g < 2 ^ h.inputs) where
    pub not_reached_answer : passed < g → accepted not_reached ≡ (ask_job job g).answer
    unfolding job_in
    not_reached_answer l = sym (ap (λ (a : Asked). a.answer) (ask_ahead job g some (rw inputs_are below) l))

    pub reached_answer : g ≤ passed → accepted (final (get_or marks g 0)) ≡ (ask_job job g).answer
    unfolding job_in
    reached_answer l =
        ap (λ (v : ℕ). accepted (final v)) (sym (get_or-take (2 ^ job.table.header.inputs) marks g 0 (rw inputs_are below)))
        ∙ sym (ap (λ (a : Asked). a.answer) (ask_passed job g some (rw inputs_are below) l))
