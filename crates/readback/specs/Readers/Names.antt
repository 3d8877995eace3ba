-- Names: how a line of names is read, and that good names are distinct.
-- Assumes nothing.
use Rattle.std.specs.Prelude.{◌<◌, ◌≡◌, ◌↔◌, ◌∷◌, ◌++◌}
use Rattle.laws.specs.Prelude.{ℕ, suc, zero, refl, true, false, List, [], append-nil, arith, length, get_or}
use Rattle.rules.specs.Lists.{any, same}
use Rattle.rules.specs.Sheets.Fields.{is_separator}
use Rattle.rules.specs.Sheets.SheetRules.{GoodNames}
use Rattle.rules.specs.Sheets.Sheets.{is_name, name_fields, name_fields_in}
use Rattle.rules.specs.Text.{space}
use Rattle.laws.specs.Lists.Same.{same_refl, same_comm}
use Rattle.laws.specs.Lists.Distinct.{Unlike, unlike_differ}
use Rattle.readback.specs.Readers.Collects.{Collects, collects_none, collects_more}
use Rattle.readback.specs.Readers.Fields.{parts_space, spells_field}
use Rattle.readback.specs.Readers.Judges.{judges_name}
use Rattle.laws.specs.Lists.Fresh.{Fresh, fresh_last}

-- ---- good names

-- each of the good names is a name
pub good_name : (names : List (List ℕ)) → GoodNames names → (k : ℕ) → k < length names → is_name (get_or names k []) ≡ true
good_name [] g k h = absurd (omega arith)
good_name (w ∷ ws) g zero h = g.0
good_name (w ∷ ws) g (suc k) h = good_name ws g.2 k (omega arith)

-- good names at different places are different
pub good_different : (names : List (List ℕ)) → GoodNames names → (j k : ℕ) → j < length names → k < length names
    → get_or names j [] ≡ get_or names k [] → j ≡ k
good_different names g = unlike_differ same same_refl [] names (unlike names g)
  where
    unlike : (ws : List (List ℕ)) → GoodNames ws → Unlike same ws
    unlike [] g = tt
    unlike (w ∷ ws) g = (g.1, unlike ws g.2)

-- ---- a line of names

-- words separated by spaces, with `last` after the last one
unfoldable pub ended : ℕ → List (List ℕ) → List ℕ
ended last [] = []
ended last (w ∷ []) = w ++ last ∷ []
ended last (w ∷ v ∷ ws) = w ++ space ∷ [] ++ ended last (v ∷ ws)

-- one word, with none after it
pub ended_one : (last : ℕ) (w : List ℕ) (ws : List (List ℕ)) → length ws ≡ 0 → w ++ last ∷ [] ++ ended last ws ≡ ended last (w ∷ ws)
unfolding ended
ended_one last w [] l = append-nil (w ++ last ∷ [])
ended_one last w (v ∷ ws) l = absurd (omega arith)

-- one word, with others after it
pub ended_more : (last count : ℕ) (w : List ℕ) (ws : List (List ℕ)) → length ws ≡ suc count → w ++ space ∷ [] ++ ended last ws ≡ ended last (w ∷ ws)
unfolding ended
ended_more last count w [] l = absurd (omega arith)
ended_more last count w (v ∷ ws) l = refl

-- good names, none of them among the earlier
abbrev pub NewNames : List (List ℕ) → List (List ℕ) → Type 0
NewNames earlier ws = GoodNames ws × Fresh same earlier ws

-- one name, then the others
pub new_names : (earlier : List (List ℕ)) (w : List ℕ) (ws : List (List ℕ))
    → (((is_name w ≡ true) × (any (same w) earlier ≡ false)) × NewNames (earlier ++ (w ∷ [])) ws) ↔ NewNames earlier (w ∷ ws)
new_names earlier w ws = (
  λ ((h, e), (g, f)).
      let (i, j) = (fresh_last same same_comm earlier w ws).0 f in
      ((h, i, g), (e, j)),
  λ ((h, i, g), (e, j)). ((h, e), (g, (fresh_last same same_comm earlier w ws).1 (i, j))),
)

-- the names field by field
pub spells_names : (last : ℕ) → is_separator last ≡ true → (count : ℕ) (earlier : List (List ℕ))
    → Collects (name_fields last count earlier) earlier count (NewNames earlier) (ended last)
unfolding name_fields_in ended
spells_names last h zero earlier = collects_none earlier (NewNames earlier) (ended last) (tt, tt) refl
spells_names last h (suc zero) earlier = collects_more _ earlier zero _ _ (NewNames earlier) (λ w. w ++ last ∷ []) (ended last) (ended last)
    (spells_field last h (judges_name earlier)) (λ w. spells_names last h zero (earlier ++ (w ∷ []))) (new_names earlier) (ended_one last)
spells_names last h (suc (suc count)) earlier = collects_more _ earlier (suc count) _ _ (NewNames earlier)
    (λ w. w ++ space ∷ []) (ended last) (ended last)
    (spells_field space parts_space (judges_name earlier)) (λ w. spells_names last h (suc count) (earlier ++ (w ∷ [])))
    (new_names earlier) (ended_more last count)
