-- The marks buffer that a call wrote: every group's mark can be read from it, whatever it held before.
-- Assumes nothing.
use Rattle.std.specs.Prelude.{◌<◌, ◌^◌, ◌*◌, ◌≡◌}
use Rattle.laws.specs.Prelude.{ℕ, ◌∙◌, sym, ap, true, List, arith, length, take}
use Rattle.rules.specs.Calls.Answers.{written}
use Rattle.rules.specs.Groups.Marks.{mark_in, marks_of, marks_length, stored_marks, mark_stored, unpacked}
use Rattle.rules.specs.Limits.{size_fits}
use Rattle.laws.specs.Calls.Answers.{written_front}
use Rattle.laws.specs.Numbers.Sizes.{sized}
use Rattle.laws.specs.Nets.StoredMarks.{InTwoBits, stored_length, four_groups, unpacked_stored, mark_written}
use Rattle.trees.specs.Groups.MarkRule.{marks_length_lem, mark_small}

module _ (m n : ℕ) (fit : size_fits m n ≡ true) (f : ℕ → ℕ) (before : List ℕ) where
  count : length (marks_of m n f) ≡ 4 * marks_length n
  count = marks_length_lem m n (omega (arith, (sized m n fit).levels_least)) f ∙ sym (four_groups n (sized m n fit).inputs_least)

  small : InTwoBits (length (marks_of m n f)) (marks_of m n f)
  small =
      let pos : 0 < m = omega (arith, (sized m n fit).levels_least) in
      λ g h. mark_small m n pos f g (omega (arith, h, marks_length_lem m n pos f))

  -- one group's mark
  pub stored_read : (g : ℕ) → g < 2 ^ n → mark_stored (written before (stored_marks (marks_of m n f))) g ≡ mark_in (marks_of m n f) g
  stored_read g g< = mark_written before (marks_of m n f) (marks_length n) count small g (omega (arith, g<, count, four_groups n (sized m n fit).inputs_least))

  -- all marks, from the bytes needed
  pub stored_back : unpacked (take (marks_length n) (written before (stored_marks (marks_of m n f)))) ≡ marks_of m n f
  stored_back =
      let need : length (stored_marks (marks_of m n f)) ≡ marks_length n = omega (arith, stored_length (marks_of m n f), count) in
      ap unpacked (ap (λ (k : ℕ). take k (written before (stored_marks (marks_of m n f)))) (sym need) ∙ written_front before (stored_marks (marks_of m n f)))
      ∙ unpacked_stored (marks_of m n f) (marks_length n) count small
