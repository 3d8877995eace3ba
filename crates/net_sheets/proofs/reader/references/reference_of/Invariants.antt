-- `net_sheets::reader::references::reference_of` meets its contract. The loop's invariant: the first match from `r` on is the first of all.
-- Assumes nothing.
use Rattle.std.specs.Prelude.{◌-◌, ◌≡◌}
use Rattle.laws.specs.Prelude.{ℕ, List}
use Rattle.rules.specs.Lists.{range, find, same}
use Rattle.rules.specs.Sheets.Sheets.{reference_text}
use Rattle.net_sheets.specs.Reader.Keys.{Keyed}
use Rattle.net_sheets.proofs.reader.references.reference_of.Given as goal

abbrev pub invariant-loop-r : goal.invariant-loop-r
invariant-loop-r l =
    (names : List (List ℕ)) → Keyed names l.keys l.lens l.count
    → find (λ k. same l.w (reference_text names k)) (range l.r (l.count - l.r)) ≡ find (λ k. same l.w (reference_text names k)) (range 0 l.count)
