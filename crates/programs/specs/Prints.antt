-- What a program's output function returns: the text that the program prints, followed by zeros.
-- Assumes nothing.
use Rattle.std.specs.Prelude.{◌≤◌, ◌-◌, ◌≡◌, ◌++◌}
use Rattle.laws.specs.Prelude.{ℕ, suc, zero, ◌∙◌, sym, ap, refl, subst, List, sub-zero, min-le_right, suc-sub-suc, zero-sub, arith}
use Rattle.laws.specs.Prelude.{length, take, drop, length-append, length-take, length-replicate, length-take-le}
use Rattle.rules.specs.Calls.Answers.{Answer, accepted, refused, written}
use Rattle.rules.specs.Calls.Programs.{refusal_lines, program_output, zeros}
use Rattle.net_sheets.specs.Text.Put.{PutRoom, Put, NetWrote, put_wrote}

-- The bytes are the text and then zeros, and `count` is the text's length.
pub record Prints (bytes : List ℕ) (count : ℕ) (text : List ℕ) : Type 0 where
  pub holds : bytes ≡ text ++ zeros (length bytes - length text)
  pub counts : count ≡ length text
  -- These two follow. They are stated so that the proofs of the mains find them.
  pub fits : count ≤ length bytes
  pub whole : count ≡ length (take count bytes)

prints : (bytes : List ℕ) (text : List ℕ) → bytes ≡ text ++ zeros (length bytes - length text) → Prints bytes (length text) text
prints bytes text holds =
    let fits : length text ≤ length bytes = omega (arith, simp (length-append, length-replicate) at (ap length holds)) in
    record { holds = holds; counts = refl; fits = fits; whole = sym (length-take-le (length text) bytes fits) }

drop_zeros : (k n : ℕ) → drop k (zeros n) ≡ zeros (n - k)
drop_zeros zero n = rw sub-zero
drop_zeros (suc k) zero = rw zero-sub
drop_zeros (suc k) (suc n) = rw suc-sub-suc (drop_zeros k n)

-- a text written into zeros
wrote_prints : (n : ℕ) (text after : List ℕ) (count : ℕ) → NetWrote (zeros n) text after count → Prints after count text
unfolding written
wrote_prints n text after count did =
    let tail : after ≡ text ++ zeros (n - length text) = did.text ∙ ap (λ (r : List ℕ). text ++ r) (drop_zeros (length text) n) in
    let rest : n - length text ≡ length after - length text = omega (arith, simp (length-append, length-replicate) at (ap length tail)) in
    rw did.length (prints after text (tail ∙ ap (λ (k : ℕ). text ++ zeros k) rest))

-- ---- what is printed for a call's answer and output

module _ (n : ℕ) (output : List ℕ) (answer : Answer ℕ) (k : ℕ) (is : answer ≡ accepted k) (t : List ℕ) (front : t ≡ take k output) where
  -- the front of an output fits into the array if the output is no longer than the array
  pub front_room : length output ≤ n → PutRoom (zeros n) 0 t
  front_room room = omega (arith, min-le_right k (length output), ap length front ∙ length-take k output, length-replicate {A = ℕ} n 0)

  pub sheet_prints : (after : List ℕ) (count : ℕ) → length output ≤ n → Put (zeros n) 0 t after count
      → Prints after count (program_output answer output)
  unfolding program_output
  sheet_prints after count room put =
      let fits : length t ≤ length (zeros n) = omega (arith, front_room room) in
      rw is (subst (λ u. Prints after count u) front (wrote_prints n t after count (put_wrote fits put)))

pub refusal_prints : (n : ℕ) (output : List ℕ) (answer : Answer ℕ) (number place : ℕ) → answer ≡ refused number place
    → (after : List ℕ) (count : ℕ) → NetWrote (zeros n) (refusal_lines number place) after count → Prints after count (program_output answer output)
unfolding program_output
refusal_prints n output answer number place is after count did = rw is (wrote_prints n _ after count did)
