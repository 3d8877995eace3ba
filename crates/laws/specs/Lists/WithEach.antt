-- Entries that are added one by one, each computed from all before it: for two lists of items, how many there are, and which stay. Used for the wires
-- of a gate list: one law for a step over its gates.
-- Assumes nothing.
use Rattle.std.specs.Prelude.{◌<◌, ◌+◌, ◌≡◌, ◌∷◌, ◌++◌}
use Rattle.laws.specs.Prelude.{ℕ, ◌∙◌, refl, List, [], map, arith, length, get_or, get_or-append, get_or-append_seam}
use Rattle.rules.specs.Lists.{with_each}
use Rattle.rules.specs.Sheets.SheetRules.{RefersBack}
use Rattle.rules.specs.Sheets.Sheets.{Gate}
use Rattle.laws.specs.Lists.Concat.{map-append}
use Rattle.laws.specs.Lists.Places.{length_snoc}

module _ {A B : Type 0} (next : List A → B → A) where
  -- the entries of the first items, then those of the others
  pub with_each_append : (es : List A) (xs ys : List B) → with_each next es (xs ++ ys) ≡ with_each next (with_each next es xs) ys
  unfolding with_each
  with_each_append es [] ys = refl
  with_each_append es (x ∷ xs) ys = with_each_append (es ++ (next es x ∷ [])) xs ys

  -- one more item
  pub with_each_snoc : (es : List A) (xs : List B) (x : B) → with_each next es (xs ++ (x ∷ [])) ≡ with_each next es xs ++ (next (with_each next es xs) x ∷ [])
  unfolding with_each
  with_each_snoc es xs x = with_each_append es xs (x ∷ [])

  pub with_each_length : (es : List A) (xs : List B) → length (with_each next es xs) ≡ length es + length xs
  unfolding with_each
  with_each_length es [] = omega arith
  with_each_length es (x ∷ xs) = omega (arith, with_each_length (es ++ (next es x ∷ [])) xs, length_snoc es (next es x))

  -- the earlier entries stay
  pub with_each_earlier : (d : A) (es : List A) (xs : List B) (r : ℕ) → r < length es → get_or (with_each next es xs) r d ≡ get_or es r d
  unfolding with_each
  with_each_earlier d es [] r h = refl
  with_each_earlier d es (x ∷ xs) r h =
      with_each_earlier d (es ++ (next es x ∷ [])) xs r (omega (arith, length_snoc es (next es x))) ∙ get_or-append es (next es x ∷ []) d r h

  -- the last entry belongs to the last item
  pub with_each_last : (d : A) (es : List A) (xs : List B) (x : B) (k : ℕ) → k ≡ length es + length xs
      → get_or (with_each next es (xs ++ (x ∷ []))) k d ≡ next (with_each next es xs) x
  with_each_last d es xs x k e =
      rw (with_each_snoc, e, ← with_each_length es xs) (get_or-append_seam (with_each next es xs) (next (with_each next es xs) x) [] d)

-- One step over a gate list: if `f` of a gate's wire follows from `f` of the gate's two references, this holds along the whole list.
pub gates_step : {A B : Type 0} (f : A → B) (own : List A → Gate → A) (next : List B → Gate → B)
    → ((wires : List A) (g : Gate) → g.left < length wires → g.right < length wires → next (map f wires) g ≡ f (own wires g))
    → (gates : List Gate) (wires : List A) → RefersBack (length wires) gates → with_each next (map f wires) gates ≡ map f (with_each own wires gates)
unfolding with_each
gates_step f own next step [] wires back = refl
gates_step f own next step (g ∷ gates) wires back =
    rw (step wires g back.0 back.1, ← (map-append f wires (own wires g ∷ [])))
    (gates_step f own next step gates (wires ++ (own wires g ∷ [])) (rw length_snoc back.2))
