-- Room for the cells and the marks of a table, as the code checks it: by the number of inks, and the length that the marks need.
-- Assumes nothing.
use Rattle.std.specs.Prelude.{◌<◌, ◌≤◌, ◌^◌, ◌≡◌}
use Rattle.laws.specs.Prelude.{ℕ, ◌∙◌, sym, subst, subst⁻¹, List, length}
use Rattle.rules.specs.Groups.Marks.{marks_length}
use Rattle.rules.specs.Calls.Answers.{accepted, refused}
use Rattle.rules.specs.Calls.Settling.{room_for}
use Rattle.laws.specs.Calls.Settling.{room_13, room_14, room_both, room_fits}
use Rattle.nets.specs.declared.forms.Header.{Header}
use Rattle.nets.specs.Forms.{header_of, table_in}

module _ (s : List ℕ) (h : Header) (inks : List ℕ) (count : length inks ≡ h.levels ^ h.inputs) (cells marks : List ℕ) where
  pub settling_cells_short : length cells < length inks → refused 13 (length inks) ≡ room_for (table_in s h inks) cells marks
  unfolding header_of
  settling_cells_short l = (λ i. refused 13 (count i)) ∙ sym (room_13 (table_in s h inks) cells marks (subst (λ (k : ℕ). length cells < k) count l))

  module _ (room : length inks ≤ length cells) (need : ℕ) (is : need ≡ marks_length h.inputs) where
    cells_fit : h.levels ^ h.inputs ≤ length cells
    cells_fit = subst (λ (k : ℕ). k ≤ length cells) count room

    pub settling_marks_short : length marks < need → refused 14 need ≡ room_for (table_in s h inks) cells marks
    unfolding header_of
    settling_marks_short l = (λ i. refused 14 (is i)) ∙ sym (room_14 (table_in s h inks) cells marks cells_fit (subst (λ (k : ℕ). length marks < k) is l))

    pub both_fit : need ≤ length marks → accepted tt ≡ room_for (table_in s h inks) cells marks
    unfolding header_of
    both_fit l = sym (room_both (table_in s h inks) cells marks cells_fit (subst (λ (k : ℕ). k ≤ length marks) is l))

  -- what the rest of a call may assume
  pub both_long : accepted tt ≡ room_for (table_in s h inks) cells marks → (length inks ≤ length cells) × (marks_length h.inputs ≤ length marks)
  unfolding header_of
  both_long e = let fits = room_fits (table_in s h inks) cells marks (sym e) in (subst⁻¹ (λ (k : ℕ). k ≤ length cells) count fits.0, fits.1)
