-- Laws of answers, and of a buffer after it is written.
-- Assumes nothing.
use Rattle.std.specs.Prelude.{◌≡◌}
use Rattle.laws.specs.Prelude.{ℕ, refl, List, arith, length, take, drop, take_at}
use Rattle.rules.specs.Calls.Answers.{accepted, refused, written}

pub accepted_inj : {A : Type 0} (a b : A) → accepted a ≡ accepted b → a ≡ b
accepted_inj a b e = cc

pub not_refused : {A : Type 0} (a : A) (number place : ℕ) → accepted a ≡ refused number place → ⊥
not_refused a number place e = let z : ◌≡◌ {A = ℕ} 0 1 = cc in omega arith

-- the bytes written are at the front
pub written_front : (buffer bytes : List ℕ) → take (length bytes) (written buffer bytes) ≡ bytes
unfolding written
written_front buffer bytes = take_at bytes (drop (length bytes) buffer) (length bytes) refl
