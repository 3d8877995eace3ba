-- A row, field by field.
-- Assumes nothing.
use Rattle.std.specs.Prelude.{◌<◌, ◌≤◌, ◌+◌, ◌≡◌, Ok, Err}
use Rattle.laws.specs.Prelude.{ℕ, ◌∙◌, sym, ap, refl, List, add-one, arith, length, get_or, drop, drop_of_length-le, drop-cons}
use Rattle.rules.specs.Text.{space, newline, space_byte, newline_byte}
use Rattle.rules.specs.Sheets.Fields.{Read, read, turned_back, Reader, then, ◌>>=◌, field}
use Rattle.rules.specs.Sheets.Sheets.{level_field, ink_field, level_fields}
use Rattle.answers.specs.declared.refusal.Refusal.{Refusal}
use Rattle.fields.specs.Steps.{Step, step_as, itself, nothing}
use Rattle.fields.specs.declared.steps.Field.{Field}
use Rattle.table_reader.specs.Inks.{ink_read}

-- a row with the input levels `ls`
unfoldable pub row_line : ℕ → List ℕ → Reader ℕ
row_line m ls = level_fields ls >>= λ _. field (ink_field m) newline

-- ---- the levels of a row

fields_more : (ls : List ℕ) (i : ℕ) (t : List ℕ) (q : ℕ) → i < length ls
    → level_fields (drop i ls) t q ≡ then (field (level_field (get_or ls i 0)) space_byte t q) (λ _. level_fields (drop (i + 1) ls))
unfolding level_fields space
fields_more ls i t q h = rw (add-one, drop-cons ls i 0, level_fields)

-- i of the levels `ls` are read, and the levels from here are the levels from the start
pub record InRow (s ls : List ℕ) (at place i : ℕ) : Type 0 where
  pub reads : level_fields ls (drop at s) at ≡ level_fields (drop i ls) (drop place s) place

module _ (s ls : List ℕ) (at place i : ℕ) (row : InRow s ls at place i) where
  module _ (more : i < length ls) (step : Step) (level : step_as nothing s step ≡ field (level_field (get_or ls i 0)) space_byte (drop place s) place) where
    onward : level_fields ls (drop at s) at ≡ then (step_as nothing s step) (λ _. level_fields (drop (i + 1) ls))
    onward = row.reads ∙ (fields_more ls i (drop place s) place more ∙ ap (λ x. then x (λ _. level_fields (drop (i + 1) ls))) (sym level))

    pub row_back : (m : ℕ) (e : Refusal) → step ≡ Err e → step_as itself s (Err e) ≡ row_line m ls (drop at s) at
    unfolding row_line then
    row_back m e is = rw (onward, is) refl

    pub table_row_next : (found : Field) → step ≡ Ok found → InRow s ls at found.next (i + 1)
    unfolding then
    table_row_next found is = record { reads = rw (onward, is) refl }

  pub row_done : (m : ℕ) (step : Step) → length ls ≤ i → step_as itself s step ≡ field (ink_field m) newline_byte (drop place s) place
      → step_as itself s step ≡ row_line m ls (drop at s) at
  unfolding row_line then level_fields newline
  row_done m step done ink = rw (row.reads, drop_of_length-le ls done) ink

-- the ink of a row that was read is a level, or m for an open cell
pub row_ink : (m : ℕ) (ls t rest : List ℕ) (q ink next : ℕ) → row_line m ls t q ≡ read ink rest next → ink ≤ m
unfolding row_line then
row_ink m ls t rest q ink next e = go (level_fields ls t q) e
  where
    go : (x : Read (Unit {0})) → then x (λ _. field (ink_field m) newline) ≡ read ink rest next → ink ≤ m
    go (read a later place) h = ink_read m newline later rest place ink next h
    go (turned_back number place) h = let z : ◌≡◌ {A = ℕ} 0 1 = cc in absurd (omega arith)
