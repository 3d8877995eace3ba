-- The loop of `fewest_of` over plain numbers: the parts of g that hold its first-listed input are done up to the part `part` of the others.
-- It ends at a least that is at most a floor of all splits.
-- Assumes nothing.
use Rattle.std.specs.Prelude.{◌<◌, ◌≤◌, ◌+◌, ◌-◌, ◌^◌, ◌≡◌, ◌⊎◌}
use Rattle.laws.specs.Prelude.{ℕ, ◌∙◌, sym, refl, ⊎_elim, inl, inr, true, and-eq-true_iff, List, ℕ_discrete, arith}
use Rattle.laws.specs.Prelude.{ne_cases}
use lib.Bits.{and_self}
use Rattle.rules.specs.Groups.Marks.{parts_at}
use Rattle.rules.specs.Nets.Wirings.{first_input}
use Rattle.rules.specs.Nets.Shallow.{split_layers, fewest_of}
use Rattle.radix.specs.Parts.{PartOf, Next}
use Rattle.marks.specs.FirstParts.{both_two, settled_looked, is_part_of, part_at}
use Rattle.wirings.specs.FewestLayers.{Attains, WiringFewer, least_by_first}
use Rattle.wirings.specs.Fast.Floors.{Under}

-- the part of g that is the first-listed input and the part s of the others
abbrev at : ℕ → ℕ → ℕ → ℕ
at g rest s = (g - rest) + s

-- such a part, if it and the rest have mark 2, has r layers
pub record Reaches (marks layers : List ℕ) (g rest r : ℕ) : Type 0 where
  s : ℕ
  less : s < rest
  is_part : PartOf s rest
  two : both_two marks g (at g rest s) ≡ true
  layers_by_lem : split_layers layers g (at g rest s) ≡ r

-- `least` is the least over the parts passed, or 0 if none had mark 2
pub record Scanned (marks layers : List ℕ) (g rest part least : ℕ) : Type 0 where
  pub low : part ≤ rest
  pub is_part : PartOf part rest
  bounds : (s : ℕ) → s < part → PartOf s rest → both_two marks g (at g rest s) ≡ true → (0 < least) × (least ≤ split_layers layers g (at g rest s))
  attained : (least ≡ 0) ⊎ Reaches marks layers g rest least

module _ (marks layers : List ℕ) (g rest : ℕ) where
  pub scanned_none : Scanned marks layers g rest 0 0
  scanned_none = record { low = omega arith; is_part = refl; bounds = λ s none. absurd (omega arith); attained = inl refl }

  -- the least with one more part is attained by some part
  pub reached : (part least : ℕ) → Scanned marks layers g rest part least → part < rest → (r : ℕ) → WiringFewer marks layers g (at g rest part) least r
      → (r ≡ 0) ⊎ Reaches marks layers g rest r
  reached part least so_far more r fewer =
      ⊎_elim (λ same. ⊎_elim (λ none. inl (same ∙ none)) (λ (was : Reaches marks layers g rest least). inr (moved was (sym same))) so_far.attained)
      (λ here. inr (record { s = part; less = more; is_part = so_far.is_part; two = here.0; layers_by_lem = here.1 }))
      fewer.is
    where
      moved : Reaches marks layers g rest least → least ≡ r → Reaches marks layers g rest r
      moved was e = record { s = was.s; less = was.less; is_part = was.is_part; two = was.two; layers_by_lem = was.layers_by_lem ∙ e }

  -- one more part
  pub scanned_next : (part least : ℕ) → Scanned marks layers g rest part least → part < rest → (r : ℕ) → WiringFewer marks layers g (at g rest part) least r
      → (next : ℕ) → Next rest part next → Scanned marks layers g rest next r
  scanned_next part least so_far more r fewer next after =
      record {
        low = after.least rest more (and_self rest);
        is_part = after.part;
        bounds = λ s s< is two. below s is two s< (ℕ_discrete s part);
        attained = reached part least so_far more r fewer;
      }
    where
      below : (s : ℕ) → PartOf s rest → both_two marks g (at g rest s) ≡ true → s < next → Dec (s ≡ part)
          → (0 < r) × (r ≤ split_layers layers g (at g rest s))
      below s is two s< (yes e) = rw e (fewer.by_part (rw e at two))
      below s is two s< (no other) =
          let earlier : s < part = ne_cases s part (s < part) other (λ l. l) (λ l. absurd (omega (arith, after.least s l is))) in
          let was = so_far.bounds s earlier is two in
          let now = fewer.as_before was.0 in
          (now.0, omega arith)

  module _ (some : 0 < g) (is_rest : (n : ℕ) → g < 2 ^ n → rest ≡ g - 2 ^ first_input n g) (n : ℕ) (g< : g < 2 ^ n) where
    -- such a part may be A
    attains : (r : ℕ) → (r ≡ 0) ⊎ Reaches marks layers g rest r → (r ≡ 0) ⊎ Attains n marks layers g g< r
    attains r found =
        ⊎_elim inl (λ (at_s : Reaches marks layers g rest r).
        let here = part_at g rest some is_rest n g< at_s.s at_s.less at_s.is_part in
        inr (record {
          a = at g rest at_s.s;
          some = here.0;
          less = here.1;
          may = (settled_looked marks g).at_part n (at g rest at_s.s) here.2 here.3 ∙ at_s.two;
          layers_by_lem = at_s.layers_by_lem;
        }))
        found

    -- all parts
    pub scanned_all : (part least : ℕ) → Scanned marks layers g rest part least → rest ≤ part → least ≡ fewest_of n marks layers g
    scanned_all part least so_far end =
        least_by_first n marks layers g g< least
        (record {
          bounds = λ a some_a less may.
              let looked = settled_looked marks g in
              let in_g = looked.within n a may in
              let of_rest = is_part_of g rest some is_rest n g< a less in_g.0 in_g.1 in
              let back : at g rest (a - (g - rest)) ≡ a = omega (arith, of_rest) in
              let two : both_two marks g a ≡ true = sym (looked.at_part n a in_g.0 in_g.1) ∙ may in
              rw back at (so_far.bounds (a - (g - rest)) (omega (arith, of_rest, is_rest n g<)) of_rest.1 (rw back two));
          attained = attains least so_far.attained;
        })

    -- a part at the floor: no other has fewer layers
    pub scanned_floor : (r floor : ℕ) → (r ≡ 0) ⊎ Reaches marks layers g rest r → Under marks layers g floor → r ≡ floor
        → r ≡ fewest_of n marks layers g
    scanned_floor r floor found under same =
        least_by_first n marks layers g g< r
        (record {
          bounds = λ a some_a less may.
              let low = under n a g< some_a less ((and-eq-true_iff (parts_at n marks g a) _).0 may).0 in
              (omega (arith, low.0), omega (arith, low.1));
          attained = attains r found;
        })
