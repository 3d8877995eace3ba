-- Document 01, listing: "one gate line at each turn, as the part of the sheet that holds it without its line feed", and "after the
-- last line .. none is left". On an accepted sheet there are as many turns as gates, "from 1 to n − 1" (document 02, K12): the lines given at
-- them, each with its line feed, are everything after the first four lines, and every later turn gives none.
-- Assumes nothing.
use Rattle.std.specs.Prelude.{◌<◌, ◌≤◌, ◌+◌, ◌≡◌, ◌∷◌, ◌++◌}
use Rattle.laws.specs.Prelude.{ℕ, suc, zero, ◌∙◌, sym, ap, refl, ap₂, List, [], zero-add, add-zero, suc-add, add-suc, arith}
use Rattle.laws.specs.Prelude.{length, get_or, lt-ltb, le-ltb}
use Rattle.rules.specs.Calls.Answers.{Answer, accepted, refused, onward}
use Rattle.rules.specs.Lists.{range, concat_map}
use Rattle.rules.specs.Sheets.Printed.{line, first_lines, printed_gate, printed_net}
use Rattle.rules.specs.Sheets.Reading.{read_net}
use Rattle.rules.specs.Sheets.SheetRules.{NetRules}
use Rattle.rules.specs.Sheets.Sheets.{Gate, Net}
use Rattle.rules.specs.Text.{text}
use Rattle.rules.specs.Calls.Lister.{Turn, gate_at, none_left_of, turn_of, listing}
use Rattle.laws.specs.Lists.Concat.{concat_append}
use Rattle.readback.specs.Sheets.ReadBack.{net_accepted}
use Rattle.readback.specs.Sheets.Lines.{fed, lines_up_to, lines_first, head_lines, four_lines, four_fed, four_unbroken, net_lines}
use Rattle.readback.specs.Nets.GateLines.{part_of, line_at, sheet_lines, gate_count_lem, gate_bytes_lem}

-- the line that a turn gives, with its line feed
unfoldable pub line_given : List ℕ → Answer Turn → List ℕ
line_given s (accepted (gate_at p)) = fed (part_of s p)
line_given s (accepted none_left_of) = []
line_given s (refused number place) = []

-- a list computed place by place
places : {A B : Type 0} (f : ℕ → List B) (h : A → List B) (d : A) (from : ℕ) (xs : List A)
    → ((k : ℕ) → k < length xs → f (from + k) ≡ h (get_or xs k d)) → concat_map f (range from (length xs)) ≡ concat_map h xs
unfolding range concat_map
places f h d from [] e = refl
places f h d from (x ∷ xs) e =
    ap₂ ◌++◌ (ap f (sym (add-zero from)) ∙ e zero (omega arith))
    (places f h d (suc from) xs (λ k l. ap f (suc-add from k ∙ sym (add-suc from k)) ∙ e (suc k) (omega arith)))

module _ (s : List ℕ) (net : Net) (reads : read_net s ≡ accepted net) where
  abbrev names : List (List ℕ)
  names = net.header.names

  kept : NetRules net
  kept = (net_accepted s net reads).1

  -- the turns up to the last gate's give those parts, ..
  pub turn_line : (k : ℕ) → k < length net.gates → listing s k ≡ accepted (gate_at (line_at s (4 + k)))
  unfolding listing onward turn_of line_at
  turn_line k h = rw (reads, listing, lt-ltb k (length net.gates) h, turn_of)

  -- .. and there is at least one, ..
  pub first_given : listing s 0 ≡ accepted (gate_at (line_at s 4))
  first_given = turn_line 0 (gate_count_lem s net reads).0

  -- .. and every later one gives none
  pub turn_none : (k : ℕ) → length net.gates ≤ k → listing s k ≡ accepted none_left_of
  unfolding listing onward turn_of
  turn_none k h = rw (reads, listing, le-ltb k (length net.gates) h, turn_of)

  given : (k : ℕ) (d : Gate) → k < length net.gates → line_given s (listing s k) ≡ printed_gate names (get_or net.gates k d)
  unfolding line_given
  given k d h = rw (turn_line k h) (gate_bytes_lem s net reads k d h)

  first_four : lines_up_to 4 s ≡ first_lines net.header names ++ line (text "left" ∷ text "right" ∷ text "table" ∷ [])
  unfolding net_lines four_lines head_lines
  first_four =
      rw (four_fed net.header, sheet_lines s net reads, concat_append fed (four_lines net.header))
      (lines_first (four_lines net.header) _ (four_unbroken net.header kept.header))

  -- the first four lines and all lines given, each with its line feed, are the sheet
  pub listed_whole : lines_up_to 4 s ++ concat_map (λ k. line_given s (listing s k)) (range 0 (length net.gates)) ≡ s
  unfolding printed_net
  listed_whole =
      ap₂ ◌++◌ first_four
      (places (λ k. line_given s (listing s k)) (printed_gate names) (record { left = 0; right = 0; digits = [] }) 0 net.gates
      (λ k h. ap (λ (k : ℕ). line_given s (listing s k)) (zero-add k) ∙ given k _ h))
      ∙ sym (net_accepted s net reads).0
