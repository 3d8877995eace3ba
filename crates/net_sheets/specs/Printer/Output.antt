-- The meaning of the calls' answers and buffers, and the outcomes as the code computes them.
-- Assumes nothing.
use Rattle.std.specs.Prelude.{◌<◌, ◌≤◌, ◌-◌, ◌≡◌}
use Rattle.laws.specs.Prelude.{ℕ, ◌∙◌, sym, ap, subst, List, arith, length, take}
use Rattle.rules.specs.Calls.Settling.{written_sheet}
use Rattle.rules.specs.Calls.Answers.{accepted, refused, written}
use Rattle.laws.specs.Calls.Settling.{sheet_15, sheet_written}
use Rattle.radix.specs.Fronts.{front_from_0}
use Rattle.net_sheets.specs.Text.Put.{Put, NetWrote, put_wrote}
use Rattle.laws.specs.Calls.Answers.{written_front}

-- ---- a sheet printed into a buffer of its own, and the output

module _ (sheet own buffer output : List ℕ) (count : ℕ) (did : NetWrote own sheet buffer count) where
  -- the sheet is at the buffer's front
  printed_front : take (count - 0) buffer ≡ sheet
  printed_front = front_from_0 count buffer sheet ((λ i. take (did.length i) (did.text i)) ∙ written_front own sheet)

  pub sheet_short : length output < count → (cells marks : List ℕ)
      → record { answer = refused 15 count; cells = cells; marks = marks; output = output } ≡ written_sheet sheet cells marks output
  sheet_short h cells marks =
      (λ i. record { answer = refused 15 (did.length i); cells = cells; marks = marks; output = output })
      ∙ sym (sheet_15 sheet cells marks output (subst (λ (k : ℕ). length output < k) did.length h))

  pub sheet_copied : count ≤ length output → (after : List ℕ) (next : ℕ) → Put output 0 (take (count - 0) buffer) after next → (cells marks : List ℕ)
      → record { answer = accepted count; cells = cells; marks = marks; output = after } ≡ written_sheet sheet cells marks output
  sheet_copied h after next put cells marks =
      let fits : length (take (count - 0) buffer) ≤ length output = omega (arith, did.length, ap length printed_front) in
      (λ i. record {
        answer = accepted (did.length i);
        cells = cells;
        marks = marks;
        output =
            ((put_wrote fits put).text ∙ ap (written output) printed_front) i;
      })
      ∙ sym (sheet_written sheet cells marks output (subst (λ (k : ℕ). k ≤ length output) did.length h))
