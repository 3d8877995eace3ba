-- What making a full table of bare cells gives.
-- Assumes nothing.
use Rattle.std.specs.Prelude.{◌≡◌, Result, Ok, Err}
use Rattle.laws.specs.Prelude.{ℕ, List, subst, refl, arith}
use Rattle.rules.specs.Calls.Answers.{accepted}
use Rattle.rules.specs.Calls.OpenCells.{full_cells}
use Rattle.answers.specs.AnswerMaps.{outcome_as, refused_by}
use Rattle.answers.specs.declared.refusal.Refusal.{Refusal}
use Rattle.cells.specs.declared.table.Table.{Table}

-- the refusal of the cells, or their table
pub record FullRead (m n : ℕ) (lent : List ℕ) (r : Result Table Refusal) : Type 0 where
  pub answer : outcome_as tt r ≡ full_cells m n lent
  pub told : (t : Table) → r ≡ Ok t → (t.levels ≡ m) × (t.inputs ≡ n) × (t.cells.now ≡ lent)

pub full_read : (t : Table) → accepted tt ≡ full_cells t.levels t.inputs t.cells.now → FullRead t.levels t.inputs t.cells.now (Ok t)
full_read t accepts = record { answer = accepts; told = λ u e. subst (λ v. (v.levels ≡ t.levels) × (v.inputs ≡ t.inputs) × (v.cells.now ≡ t.cells.now)) (same u e) (refl, refl, refl) }
  where
    same : (u : Table) → ◌≡◌ {A = Result Table Refusal} (Ok t) (Ok u) → t ≡ u
    same u e = cc

pub full_refused : (m n : ℕ) (lent : List ℕ) (e : Refusal) → refused_by e ≡ full_cells m n lent → FullRead m n lent (Err e)
full_refused m n lent e refuses = record { answer = refuses; told = λ t q. never t q }
  where
    never : (t : Table) → ◌≡◌ {A = Result Table Refusal} (Err e) (Ok t) → (t.levels ≡ m) × (t.inputs ≡ n) × (t.cells.now ≡ lent)
    never t q = let z : ◌≡◌ {A = ℕ} 0 1 = cc in absurd (omega arith)
