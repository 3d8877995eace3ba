-- What is recorded for each group, m places each. With few classes: their number, and assignments that cover the group. With too many: the number 0,
-- and in the first two places the inputs at which its witness columns agree, and a group inside it with few classes.
-- Assumes nothing.
use Rattle.std.specs.Prelude.{◌<◌, ◌≤◌, ◌+◌, ◌^◌, ◌*◌, ◌≡◌}
use Rattle.laws.specs.Prelude.{ℕ, ◌∙◌, sym, subst, subst⁻¹, List, mul-le-mul_right, suc-mul, le_trans, ℕ_discrete}
use Rattle.laws.specs.Prelude.{arith, length, get_or, set, get_or-set_same, get_or-set_other}
use Rattle.std.proofs.lemmas.Nat.{and_le_r}
use Rattle.rules.specs.Groups.Groups.{size, multiplicity}
use Rattle.trees.specs.Groups.Covers.{Covers, covers_same, covers_few}
use Rattle.trees.specs.Groups.Told.{Told, told_many}
use Rattle.radix.specs.Parts.{PartOf}

-- the places of a group are before those of a later one
pub places_before : (m h g : ℕ) → h < g → h * m + m ≤ g * m
places_before m h g h< = omega (arith, mul-le-mul_right m h<, suc-mul h m)

-- few classes: `count` assignments that cover the group, one for each class
pub record RepFew (m n : ℕ) (f : ℕ → ℕ) (kept : List ℕ) (h count : ℕ) : Type 0 where
  pub most : count ≤ m
  pub fits : count ≤ m ^ size n h
  pub exact : count ≤ multiplicity m n f h
  pub cover : Covers m n f h count (λ k. get_or kept (h * m + k) 0)

-- a group with few classes inside one with too many
pub record Base (m : ℕ) (counts kept : List ℕ) (h : ℕ) : Type 0 where
  pub inside : PartOf (get_or kept (h * m + 1) 0) h
  pub few : 0 < get_or counts (get_or kept (h * m + 1) 0) 0

-- what is known about group h
pub record Known (m n : ℕ) (f : ℕ → ℕ) (counts kept : List ℕ) (h : ℕ) : Type 0 where
  pub few : 0 < get_or counts h 0 → RepFew m n f kept h (get_or counts h 0)
  pub many : get_or counts h 0 ≡ 0 → Told m n f h (get_or kept (h * m) 0) (m + 1)
  pub base : get_or counts h 0 ≡ 0 → Base m counts kept h

-- what is found about group g, when the groups below it are known: the same, except that its number is not yet among the counts
pub record Found (m n : ℕ) (f : ℕ → ℕ) (counts kept : List ℕ) (g count : ℕ) : Type 0 where
  pub few : 0 < count → RepFew m n f kept g count
  pub many : count ≡ 0 → Told m n f g (get_or kept (g * m) 0) (m + 1)
  pub base : count ≡ 0 → Base m counts kept g
  pub lower : count ≡ 0 → get_or kept (g * m + 1) 0 < g

module _ {m n : ℕ} {f : ℕ → ℕ} {counts kept : List ℕ} {g count : ℕ} (found : Found m n f counts kept g count) (pos : 0 < m) (g< : g < 2 ^ n) where
  -- it has few classes exactly if the number is not 0
  pub found_few : 0 < count → multiplicity m n f g ≤ m
  found_few some = let few = found.few some in le_trans (covers_few m n pos f g count _ g< few.cover) few.most

  pub found_many : count ≡ 0 → m < multiplicity m n f g
  found_many none = omega (arith, told_many m n pos f g (get_or kept (g * m) 0) (m + 1) g< (found.many none))

-- what is known stays known when the places of later groups are written
module _ {m n : ℕ} {f : ℕ → ℕ} {counts before : List ℕ} {h : ℕ} (levels : 1 < m) (known : Known m n f counts before h) where
  pub known_same : {more after : List ℕ} → ((j : ℕ) → j < h * m + m → get_or after j 0 ≡ get_or before j 0) → ((j : ℕ) → j ≤ h → get_or more j 0 ≡ get_or counts j 0)
      → Known m n f more after h
  known_same {more} {after} same counted =
      record {
        few = λ some.
            let old : RepFew m n f before h (get_or counts h 0) = known.few (subst (λ (k : ℕ). 0 < k) (counted h (omega arith)) some) in
            subst⁻¹ (RepFew m n f after h) (counted h (omega arith))
            (record {
              most = old.most;
              fits = old.fits;
              exact = old.exact;
              cover = covers_same m n (omega arith) f h (get_or counts h 0) _ _ (λ k k<. sym (same (h * m + k) (omega (arith, old.most)))) old.cover;
            });
        many = λ none. subst⁻¹ (λ (s : ℕ). Told m n f h s (m + 1)) (same (h * m) (omega arith)) (known.many (sym (counted h (omega arith)) ∙ none));
        base = λ none.
            let old : Base m counts before h = known.base (sym (counted h (omega arith)) ∙ none) in
            let b_same : get_or after (h * m + 1) 0 ≡ get_or before (h * m + 1) 0 = same (h * m + 1) (omega arith) in
            record {
              inside = subst⁻¹ (λ (b : ℕ). PartOf b h) b_same old.inside;
              few = subst⁻¹ (λ (b : ℕ). 0 < get_or more b 0) b_same
                  (subst⁻¹ (λ (k : ℕ). 0 < k) (counted (get_or before (h * m + 1) 0) (omega (arith, old.inside, and_le_r (get_or before (h * m + 1) 0) h)))
                  old.few);
            };
      }

-- once its number is recorded, the group is known, and so is each group below it that was
pub known_next : {m n : ℕ} {f : ℕ → ℕ} {counts before after : List ℕ} {g count : ℕ} → 1 < m → g < length counts
    → ((j : ℕ) → j < g * m → get_or after j 0 ≡ get_or before j 0) → Found m n f counts after g count
    → (h : ℕ) → h < g + 1 → (h < g → Known m n f counts before h) → Known m n f (set counts g count) after h
known_next {m} {n} {f} {counts} {before} {after} {g} {count} levels room same found h h< known = at (ℕ_discrete h g)
  where
    here : get_or (set counts g count) g 0 ≡ count
    here = get_or-set_same counts g count 0 room

    at : Dec (h ≡ g) → Known m n f (set counts g count) after h
    at (yes e) =
        subst⁻¹ (Known m n f (set counts g count) after) e
        (record {
          few = λ some. subst⁻¹ (RepFew m n f after g) here (found.few (subst (λ (k : ℕ). 0 < k) here some));
          many = λ none. found.many (sym here ∙ none);
          base = λ none.
              let old : Base m counts after g = found.base (sym here ∙ none) in
              record {
                inside = old.inside;
                few = subst⁻¹ (λ (k : ℕ). 0 < k)
                    (get_or-set_other counts g (get_or after (g * m + 1) 0) count 0 (λ e. omega (arith, found.lower (sym here ∙ none)))) old.few;
              };
        })
    at (no ne) =
        known_same levels (known (omega arith)) (λ j j<. same j (omega (arith, places_before m h g (omega arith))))
        (λ j j≤. get_or-set_other counts g j count 0 (λ e. omega arith))
