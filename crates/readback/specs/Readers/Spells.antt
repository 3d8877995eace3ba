-- A reader and the texts that it reads. Reading is inverted once, reader by reader: a reader spells some values in some
-- texts if it reads each of those texts back and accepts nothing else. The laws here combine such readers.
-- Assumes nothing.
use Rattle.std.specs.Prelude.{◌≡◌, ◌++◌}
use Rattle.laws.specs.Prelude.{ℕ, ◌∙◌, sym, ap, refl, List, [], append_assoc, arith, read_cases}
use Rattle.rules.specs.Sheets.Fields.{Read, read, turned_back, Reader, then, ◌>>=◌, give}

-- `r` reads the texts `print x`, with value `value x`, if what follows such a text satisfies `Before`; it reads no others, and what it leaves
-- satisfies `After`
pub record SpellsBetween (Before After : List ℕ → Type 0) {A : Type 0} (r : Reader A) (X : Type 0) (value : X → A) (print : X → List ℕ) : Type 0 where
  pub back : (x : X) (rest : List ℕ) (at : ℕ) → Before rest → (place : ℕ) × (r (print x ++ rest) at ≡ read (value x) rest place)
  pub only : (s : List ℕ) (at : ℕ) (a : A) (rest : List ℕ) (place : ℕ) → r s at ≡ read a rest place
      → (x : X) × (a ≡ value x) × (s ≡ print x ++ rest) × After rest

-- the same condition for both
abbrev pub SpellsTo : (List ℕ → Type 0) → {A : Type 0} → Reader A → (X : Type 0) → (X → A) → (X → List ℕ) → Type 0
SpellsTo After r X value print = SpellsBetween After After r X value print

-- whatever follows the text
abbrev pub Any : List ℕ → Type 0
Any rest = Unit {0}

abbrev pub Spells : {A : Type 0} → Reader A → (X : Type 0) → (X → A) → (X → List ℕ) → Type 0
Spells r X value print = SpellsTo Any r X value print

-- what is refused is not read
pub not_read : {A : Type 0} (number turned : ℕ) (a : A) (rest : List ℕ) (place : ℕ)
    → ◌≡◌ {A = Read A} (turned_back number turned) (read a rest place) → ⊥
not_read number turned a rest place e =
    let z : ◌≡◌ {A = ℕ} 0 1 = cc in
    omega arith

-- a value given without reading
pub spells_give : {A : Type 0} (a : A) → Spells (give a) (Unit {0}) (λ _. a) (λ _. [])
spells_give a = record { back = λ x rest at h. (at, refl); only = λ s at b rest place e. (tt, (cc), (cc), tt) }

-- what is read whatever follows is also read if a condition holds there
pub spells_before : {A : Type 0} {Before After : List ℕ → Type 0} {r : Reader A} {X : Type 0} {f : X → A} {p : X → List ℕ}
    → SpellsBetween Any After r X f p → SpellsBetween Before After r X f p
spells_before spells = record { back = λ x rest at h. spells.back x rest at tt; only = spells.only }

-- One reader after another. What follows the first one's text satisfies `Middle`, as the second one's texts do.
module _ {A B : Type 0} {Middle Before After : List ℕ → Type 0} {r : Reader A} (k : A → Reader B) {X : Type 0} {Y : X → Type 0}
    {f : X → A} {g : (x : X) → Y x → B} {p : X → List ℕ} {q : (x : X) → Y x → List ℕ}
    (first : SpellsBetween Middle Any r X f p) (next : (x : X) → SpellsBetween Before After (k (f x)) (Y x) (g x) (q x))
    (meets : (x : X) (y : Y x) (rest : List ℕ) → Before rest → Middle (q x y ++ rest)) where
  -- both texts, one after the other, are read back
  then_back : (x : X) (y : Y x) (rest : List ℕ) (at : ℕ) → Before rest → (place : ℕ) × ((r >>= k) (p x ++ q x y ++ rest) at ≡ read (g x y) rest place)
  unfolding then
  then_back x y rest at h =
      let (middle, e) = first.back x (q x y ++ rest) at (meets x y rest h) in
      let (place, d) = (next x).back y rest middle h in
      (place, rw (append_assoc (p x) (q x y) rest, e) d)

  -- the first reader's text, then the second's
  Split : List ℕ → B → List ℕ → Type 0
  Split s b rest = (z : (x : X) × Y x) × (b ≡ g z.0 z.1) × (s ≡ p z.0 ++ q z.0 z.1 ++ rest) × After rest

  -- two texts joined
  join : (x : X) (y : Y x) (s t rest : List ℕ) (b : B) → s ≡ p x ++ t → b ≡ g x y → t ≡ q x y ++ rest → After rest → Split s b rest
  unfolding Split
  join x y s t rest b d e f h = ((x, y), e, d ∙ ap (λ u. p x ++ u) f ∙ sym (append_assoc (p x) (q x y) rest), h)

  -- and nothing else is accepted
  then_only : (s : List ℕ) (at : ℕ) (b : B) (rest : List ℕ) (place : ℕ) → (r >>= k) s at ≡ read b rest place → Split s b rest
  unfolding then
  then_only s at b rest place e = read_cases (r s at)
      (λ a t middle d.
      let (x, c, f, h) = first.only s at a t middle d in
      let (y, v, g, i) = (next x).only t middle b rest place (rw c at (rw d at e)) in
      join x y s t rest b f v g i)
      (λ number turned d. absurd (not_read number turned b rest place (rw d at e)))

  pub spells_onto : SpellsBetween Before After (r >>= k) ((x : X) × Y x) (λ z. g z.0 z.1) (λ z. p z.0 ++ q z.0 z.1)
  unfolding Split
  spells_onto = record { back = λ z. then_back z.0 z.1; only = then_only }

-- the same if anything may follow the first one's text
pub spells_then : {A B : Type 0} {Before After : List ℕ → Type 0} {r : Reader A} (k : A → Reader B) {X : Type 0} {Y : X → Type 0}
    {f : X → A} {g : (x : X) → Y x → B} {p : X → List ℕ} {q : (x : X) → Y x → List ℕ}
    → Spells r X f p → ((x : X) → SpellsBetween Before After (k (f x)) (Y x) (g x) (q x))
    → SpellsBetween Before After (r >>= k) ((x : X) × Y x) (λ z. g z.0 z.1) (λ z. p z.0 ++ q z.0 z.1)
spells_then k first next = spells_onto k first next (λ x y rest h. tt)

-- the same texts and values, listed another way
pub spells_as : {A : Type 0} {Before After : List ℕ → Type 0} {r : Reader A} {X Y : Type 0} {f : X → A} {p : X → List ℕ} {g : Y → A} {q : Y → List ℕ}
    → SpellsBetween Before After r X f p → ((x : X) → (y : Y) × (f x ≡ g y) × (p x ≡ q y)) → ((y : Y) → (x : X) × (g y ≡ f x) × (q y ≡ p x))
    → SpellsBetween Before After r Y g q
spells_as spells to from = record {
  back = λ y rest at h. rw ((from y).1, (from y).2) (spells.back (from y).0 rest at h);
  only = λ s at a rest place e.
      let (x, d, c, h) = spells.only s at a rest place e in
      let (y, i, j) = to x in
      (y, d ∙ i, c ∙ ap (λ t. t ++ rest) j, h);
}
