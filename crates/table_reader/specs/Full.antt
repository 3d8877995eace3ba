-- The result of reading a table sheet where a full table is needed (document 02, K13).
-- Assumes nothing.
use Rattle.std.specs.Prelude.{◌<◌, ◌≤◌, ◌^◌, ◌≡◌, Result, Ok, Err}
use Rattle.laws.specs.Prelude.{ℕ, suc, ◌∙◌, sym, ap, subst, refl, List, arith, length, get_or, take}
use Rattle.rules.specs.Calls.Answers as answers
use Rattle.rules.specs.Sheets.Reading.{read_table}
use Rattle.rules.specs.Calls.OpenCells.{full, full_table, read_full}
use Rattle.laws.specs.Lists.Bounds.{Below, below_at, at_below}
use Rattle.laws.specs.Calls.OpenCells.{read_refused, read_27, read_full_lem, none_open}
use Rattle.nets.specs.Forms.{table_in, header_of}
use Rattle.nets.specs.declared.forms.Header.{Header}
use Rattle.fields.specs.Header.FirstLines.{HeaderHeld}
use Rattle.fields.specs.Chained.{never_both}
use Rattle.answers.specs.AnswerMaps.{answer_as, refused_by}
use Rattle.answers.specs.Kinds.{number_of}
use Rattle.answers.specs.declared.refusal.Refusal.{Refusal}
use Rattle.table_reader.specs.TableReading.{inks_in, TableReads}

-- the properties of an accepted sheet of a full table: every ink is a level
pub record FullHeld (s cells : List ℕ) (h : Header) : Type 0 where
  pub header : HeaderHeld s h
  pub inks : Below h.levels (inks_in cells h)

-- reading a sheet of a full table, with `cells` as they are afterwards
pub record FullReads (s cells : List ℕ) (r : Result Header Refusal) : Type 0 where
  pub answer : answer_as (λ h. table_in s h (inks_in cells h)) r ≡ read_full s
  pub held : (h : Header) → r ≡ Ok h → FullHeld s cells h

module _ (s cells : List ℕ) (r : Result Header Refusal) (reads : TableReads s cells r) where
  -- refused like any table sheet
  pub full_refused : (e : Refusal) → r ≡ Err e → FullReads s cells (Err e)
  full_refused e is =
      record {
        answer = sym (read_refused s (number_of e.kind) e.place (sym reads.answer ∙ ap (answer_as _) is));
        held = λ h q. absurd (never_both (Err e) e h refl q);
      }

  -- read, and its cells are judged: they are the first `count` of their buffer
  module _ (h : Header) (is : r ≡ Ok h) (count : ℕ) (all : count ≡ h.levels ^ h.inputs) where
    read : answers.accepted (table_in s h (inks_in cells h)) ≡ read_table s
    read = ap (answer_as _) (sym is) ∙ reads.answer

    -- none is above the number of levels
    pub table_front_within : (p : ℕ) → p < length (take count cells) → get_or (take count cells) p 0 ≤ h.levels
    table_front_within p below =
        let inks : Below (suc h.levels) (take count cells) = rw all (reads.held h is).inks in
        omega (arith, below_at (suc h.levels) (take count cells) inks p below)

    pub cells_open : (e : Refusal) → refused_by e ≡ full h.levels (take count cells) → FullReads s cells (Err e)
    unfolding full_table header_of
    cells_open e some =
        record {
          answer = sym (read_27 s _ (sym read) (number_of e.kind) e.place (rw all at (sym some)));
          held = λ x q. absurd (never_both (Err e) e x refl q);
        }

    pub full_judged : answers.accepted tt ≡ full h.levels (take count cells) → FullReads s cells (Ok h)
    unfolding full_table header_of
    full_judged none =
        let closed : full h.levels (inks_in cells h) ≡ answers.accepted tt = rw all at (sym none) in
        record {
          answer = sym (read_full_lem s _ (sym read) closed);
          held = λ x q. subst (FullHeld s cells) (same x q) (full_held closed);
        }
      where
        same : (x : Header) → ◌≡◌ {A = Result Header Refusal} (Ok h) (Ok x) → h ≡ x
        same x q = cc

        full_held : full h.levels (inks_in cells h) ≡ answers.accepted tt → FullHeld s cells h
        full_held closed =
            let held = reads.held h is in
            let inks = inks_in cells h in
            record {
              header = held.header;
              inks = at_below h.levels inks (λ k below. omega (arith, below_at (suc h.levels) inks held.inks k below, none_open h.levels inks closed k below));
            }
