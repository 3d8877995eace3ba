-- Laws of `run` and `past`, and of the spaces at the front.
-- Assumes nothing.
use Rattle.std.specs.Prelude.{◌≤◌, ◌+◌, ◌≡◌, ◌∷◌, ◌++◌}
use Rattle.laws.specs.Prelude.{ℕ, suc, ◌∙◌, sym, ap, refl, true, false, List, [], arith, eqb, length, take, drop}
use Rattle.laws.specs.Prelude.{length-append, drop-append_seam, take-append_seam, test_cases}
use Rattle.rules.specs.Sheets.Fields.{is_separator, run, past, past_spaces, spaces_in}
use Rattle.rules.specs.Text.{space}

-- the end of the field at a place: the place of the byte after it
unfoldable pub field_end : List ℕ → ℕ → ℕ
field_end s at = at + length (run (drop at s))

-- a separator in front: no field
pub at_separator : (b : ℕ) (s : List ℕ) → is_separator b ≡ true → (run (b ∷ s) ≡ []) × (past (b ∷ s) ≡ b ∷ s)
unfolding run past
at_separator b s e = rw (e, run, past) (refl, refl)

-- any other byte belongs to the field
pub at_plain : (b : ℕ) (s : List ℕ) → is_separator b ≡ false → (run (b ∷ s) ≡ b ∷ run s) × (past (b ∷ s) ≡ past s)
unfolding run past
at_plain b s e = rw (e, run, past) (refl, refl)

-- a text is its first run followed by what is past it
pub run_past : (s : List ℕ) → s ≡ run s ++ past s
unfolding run past
run_past [] = refl
run_past (b ∷ s) =
    test_cases (is_separator b) (λ e. rw (e, run, past) refl) (λ e. rw (e, run, past) (ap (λ u. b ∷ u) (run_past s)))

-- the same by place
module _ (s : List ℕ) where
  pub run_front : take (length (run s)) s ≡ run s
  run_front = ap (take (length (run s))) (run_past s) ∙ take-append_seam (run s) (past s)

  pub run_rest : drop (length (run s)) s ≡ past s
  run_rest = ap (drop (length (run s))) (run_past s) ∙ drop-append_seam (run s) (past s)

  pub run_most : length (run s) ≤ length s
  run_most = omega (arith, simp length-append at (ap length (run_past s)))

-- if a separator follows the run, more bytes after it do not change the run, ..
pub run_more : (s t : List ℕ) (b : ℕ) (rest : List ℕ) → past s ≡ b ∷ rest → (run (s ++ t) ≡ run s) × (past (s ++ t) ≡ b ∷ (rest ++ t))
unfolding run past
run_more [] t b rest e = absurd (let z : ◌≡◌ {A = ℕ} 0 1 = cc in omega arith)
run_more (c ∷ s) t b rest e = test_cases (is_separator c)
    (λ d.
    let (i, j) = at_separator c (s ++ t) d in
    let (k, l) = at_separator c s d in
    let whole : c ∷ s ≡ b ∷ rest = sym l ∙ e in
    (i ∙ sym k, j ∙ ap (λ u. u ++ t) whole))
    (λ d.
    let (i, j) = at_plain c (s ++ t) d in
    let (k, l) = at_plain c s d in
    let (x, y) = run_more s t b rest (sym l ∙ e) in
    (i ∙ ap (λ w. c ∷ w) x ∙ sym k, j ∙ y))

-- .. and if no separator follows, the run continues into them
pub run_through : (s t : List ℕ) → past s ≡ [] → run (s ++ t) ≡ s ++ run t
unfolding run past
run_through [] t e = refl
run_through (c ∷ s) t e = test_cases (is_separator c)
    (λ d. absurd (let whole : c ∷ s ≡ [] = sym (at_separator c s d).1 ∙ e in let z : ◌≡◌ {A = ℕ} 0 1 = cc in omega arith))
    (λ d. (at_plain c (s ++ t) d).0 ∙ ap (λ w. c ∷ w) (run_through s t (sym (at_plain c s d).1 ∙ e)))

-- ---- spaces at the front

-- a space in front is skipped
pub at_space : (b : ℕ) (s : List ℕ) → eqb b space ≡ true → (spaces_in (b ∷ s) ≡ suc (spaces_in s)) × (past_spaces (b ∷ s) ≡ past_spaces s)
unfolding spaces_in past_spaces
at_space b s e = rw (e, spaces_in, past_spaces) (refl, refl)

-- any other byte stays
pub at_other : (b : ℕ) (s : List ℕ) → eqb b space ≡ false → (spaces_in (b ∷ s) ≡ 0) × (past_spaces (b ∷ s) ≡ b ∷ s)
unfolding spaces_in past_spaces
at_other b s e = rw (e, spaces_in, past_spaces) (refl, refl)

-- by place
pub spaces_rest : (s : List ℕ) → drop (spaces_in s) s ≡ past_spaces s
unfolding spaces_in past_spaces
spaces_rest [] = refl
spaces_rest (b ∷ s) = test_cases (eqb b space)
    (λ e. rw ((at_space b s e).0, (at_space b s e).1) (spaces_rest s))
    (λ e. rw ((at_other b s e).0, (at_other b s e).1) refl)

pub spaces_most : (s : List ℕ) → spaces_in s ≤ length s
unfolding spaces_in
spaces_most [] = omega arith
spaces_most (b ∷ s) = test_cases (eqb b space)
    (λ e. rw (at_space b s e).0 (omega (arith, spaces_most s)))
    (λ e. rw (at_other b s e).0 (omega (arith, spaces_most s)))
