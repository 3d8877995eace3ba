-- Lines field by field: every field except the last is followed by a space.
-- Assumes nothing.
use Rattle.std.specs.Prelude.{◌<◌, ◌≤◌, ◌+◌, ◌-◌, ◌≡◌, ◌∷◌, ◌++◌}
use Rattle.laws.specs.Prelude.{ℕ, suc, ◌∙◌, sym, ap, refl, List, [], map, append_assoc, zero-add, sub-zero}
use Rattle.rules.specs.Lists.{range}
use Rattle.rules.specs.Text.{space, newline}
use Rattle.rules.specs.Sheets.Printed.{line}
use Rattle.laws.specs.Lists.Concat.{map-append}
use Rattle.laws.specs.Lists.Ranges.{range_suc, range_next, range_none}

-- fields, each followed by a space
unfoldable pub spaced : List (List ℕ) → List ℕ
spaced [] = []
spaced (w ∷ ws) = w ++ (space ∷ spaced ws)

pub line_last : (ws : List (List ℕ)) (v : List ℕ) → line (ws ++ (v ∷ [])) ≡ spaced ws ++ (v ++ (newline ∷ []))
unfolding line spaced
line_last [] v = refl
line_last (w ∷ []) v = sym (append_assoc w (space ∷ []) (v ++ (newline ∷ [])))
line_last (w ∷ u ∷ ws) v =
    ap {B = List ℕ} (λ (r : List ℕ). w ++ (space ∷ r)) (line_last (u ∷ ws) v)
    ∙ sym (append_assoc w (space ∷ spaced (u ∷ ws)) (v ++ (newline ∷ [])))

spaced_append : (vs ws : List (List ℕ)) → spaced (vs ++ ws) ≡ spaced vs ++ spaced ws
unfolding spaced
spaced_append [] ws = refl
spaced_append (v ∷ vs) ws =
    ap {B = List ℕ} (λ (r : List ℕ). v ++ (space ∷ r)) (spaced_append vs ws) ∙ sym (append_assoc v (space ∷ spaced vs) (spaced ws))

-- the fields f i, f (i + 1), .. up to f (n - 1), each followed by a space
unfoldable pub spaced_from : (ℕ → List ℕ) → ℕ → ℕ → List ℕ
spaced_from f i n = spaced (map f (range i (n - i)))

pub spaced_all : (f : ℕ → List ℕ) (n : ℕ) → spaced (map f (range 0 n)) ≡ spaced_from f 0 n
unfolding spaced_from
spaced_all f n = rw sub-zero

-- one more field at the end
pub spaced_more : (f : ℕ → List ℕ) (n : ℕ) → spaced_from f 0 (suc n) ≡ spaced_from f 0 n ++ (f n ++ (space ∷ []))
unfolding spaced
spaced_more f n =
    sym (spaced_all f (suc n))
    ∙ ap (λ (r : List ℕ). spaced (map f r)) (range_suc 0 n ∙ ap (λ (k : ℕ). range 0 n ++ (k ∷ [])) (zero-add n))
    ∙ ap spaced (map-append f (range 0 n) (n ∷ []))
    ∙ spaced_append (map f (range 0 n)) (f n ∷ [])
    ∙ ap (λ (r : List ℕ). r ++ (f n ++ (space ∷ []))) (spaced_all f n)

pub spaced_next : (f : ℕ → List ℕ) (i n : ℕ) → i < n → spaced_from f i n ≡ f i ++ (space ∷ spaced_from f (i + 1) n)
unfolding spaced_from spaced
spaced_next f i n h = ap (λ (r : List ℕ). spaced (map f r)) (range_next i n h)

pub spaced_none : (f : ℕ → List ℕ) (i n : ℕ) → n ≤ i → spaced_from f i n ≡ []
unfolding spaced_from spaced
spaced_none f i n h = rw (range_none i n h)

-- a line of the fields f 0 .. f n
pub line_from_lem : (f : ℕ → List ℕ) (n : ℕ) → line (map f (range 0 (suc n))) ≡ spaced_from f 0 n ++ (f n ++ (newline ∷ []))
line_from_lem f n = simp (range_suc, map-append, line_last, zero-add, spaced_all)

-- a line of three fields, each with its separator
pub line_three : (u v w : List ℕ) → line (u ∷ v ∷ w ∷ []) ≡ (u ++ (space ∷ [])) ++ ((v ++ (space ∷ [])) ++ (w ++ (newline ∷ [])))
unfolding line
line_three u v w = simp append_assoc
