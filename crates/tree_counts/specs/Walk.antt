-- The splits of a group in the order of the code: by the parts of its other members, each with the first-listed input. Which splits remain, the sum
-- of their counts, and which of them a number falls in.
-- Assumes nothing.
use Rattle.std.specs.Prelude.{◌<◌, ◌≤◌, ◌+◌, ◌-◌, ◌^◌, ◌≡◌, ◌∷◌}
use Rattle.laws.specs.Prelude.{ℕ, ◌∙◌, sym, ap, refl, true, false, Bool, cond, List, [], map, zero-add, sub-zero, arith}
use Rattle.laws.specs.Prelude.{pow_pos}
use Rattle.std.specs.Int.Bits.{and_self}
use Rattle.rules.specs.Lists.{range, those, total}
use Rattle.rules.specs.Nets.Wirings.{first_input}
use Rattle.rules.specs.Nets.Family.{splits_of, Numbered, numbered_at}
use Rattle.laws.specs.Lists.Ranges.{range_next, range_none}
use Rattle.laws.specs.Lists.Totals.{those_cons, those_past, numbered_here, numbered_later}
use Rattle.trees.specs.Trees.MarkTwo.{is_a}
use Rattle.trees.specs.Families.FamilyCounts.{split_counted}
use Rattle.radix.specs.Parts.{PartOf, Next, without_first}
use Rattle.marks.specs.FirstParts.{both_two, settled_test, settled_looked, first, here, none_below, none_between}
use Rattle.tree_counts.specs.Counts.{split_none}

-- the splits from part a on
abbrev pub splits_from : ℕ → List ℕ → ℕ → ℕ → List ℕ
splits_from n marks g a = those (is_a n marks g) (range a (g - a))

-- the sum of the counts of some splits
abbrev pub counts_for : ℕ → List ℕ → ℕ → List ℕ → ℕ
counts_for n marks g splits = total (map (split_counted n marks g) splits)

-- which of some splits a number falls in
abbrev pub falls : ℕ → List ℕ → ℕ → List ℕ → ℕ → Numbered
falls n marks g splits r = numbered_at (split_counted n marks g) splits r

module _ (marks : List ℕ) (g rest : ℕ) (some : 0 < g) (is_rest : (n : ℕ) → g < 2 ^ n → rest ≡ g - 2 ^ first_input n g) (n : ℕ) (g< : g < 2 ^ n) where
  -- the part of g that is the first-listed input and a part of the others
  abbrev at : ℕ → ℕ
  at part = (g - rest) + part

  -- all of them
  pub splits_all : splits_from n marks g (at 0) ≡ splits_of n marks g
  unfolding splits_of
  splits_all =
      sym (those_past (is_a n marks g) 1 (at 0) g (omega (arith, first g rest some is_rest n g<, pow_pos (first_input n g))) (omega arith)
      (λ u low high. none_below g rest some is_rest (settled_test marks g) (both_two marks g) (settled_looked marks g) n g< u (omega arith)))

  -- none
  pub splits_none : (part : ℕ) → rest ≤ part → splits_from n marks g (at part) ≡ []
  unfolding those
  splits_none part end =
      ap (those (is_a n marks g)) (range_none (at part) g (omega (arith, first g rest some is_rest n g<, is_rest n g<, (without_first n g some g<).0)))

  -- one, if its two parts have mark 2, and those after it
  module _ (part next : ℕ) (more : part < rest) (is_part : PartOf part rest) (after : Next rest part next) where
    splits_next : splits_from n marks g (at part) ≡ cond (both_two marks g (at part)) (at part ∷ splits_from n marks g (at next)) (splits_from n marks g (at next))
    splits_next =
        let is = here g rest some is_rest (settled_test marks g) (both_two marks g) (settled_looked marks g) n g< part more is_part in
        let later : those (is_a n marks g) (range (at part + 1) (g - (at part + 1))) ≡ splits_from n marks g (at next) =
        those_past (is_a n marks g) (at part + 1) (at next) g (omega (arith, after.above)) (omega (arith, after.least rest more (and_self rest), is_rest n g<))
        (λ u low high. none_between g rest some is_rest (settled_test marks g) (both_two marks g) (settled_looked marks g) n g< part next more after u
        (omega arith) high) in
        ap (those (is_a n marks g)) (range_next (at part) g is.1)
        ∙ those_cons (is_a n marks g) (at part) (range (at part + 1) (g - (at part + 1)))
        ∙ (λ i. cond (is.2 i) (at part ∷ later i) (later i))

    abbrev later : List ℕ
    later = splits_from n marks g (at next)

    -- if a part does not have mark 2, the count is 0
    no_count : both_two marks g (at part) ≡ false → split_counted n marks g (at part) ≡ 0
    no_count =
        let is = here g rest some is_rest (settled_test marks g) (both_two marks g) (settled_looked marks g) n g< part more is_part in
        split_none n marks g (at part) g< is.0 is.1

    -- so the code needs no test for it: its count is added, ..
    pub counts_next : counts_for n marks g (splits_from n marks g (at part))
        ≡ split_counted n marks g (at part) + counts_for n marks g (splits_from n marks g (at next))
    counts_next = ap (counts_for n marks g) splits_next ∙ go (both_two marks g (at part)) refl
      where
        go : (b : Bool) → both_two marks g (at part) ≡ b → counts_for n marks g (cond b (at part ∷ later) later) ≡ split_counted n marks g
            (at part) + counts_for n marks g later
        go true e = unfold total in refl
        go false e = rw (no_count e) (sym (zero-add _))

    -- .. a number below the count falls there, ..
    pub falls_here : (r : ℕ) → r < split_counted n marks g (at part) → falls n marks g (splits_from n marks g (at part)) r ≡ record { part = at part; number = r }
    falls_here r below = ap (λ (splits : List ℕ). falls n marks g splits r) splits_next ∙ go (both_two marks g (at part)) refl
      where
        go : (b : Bool) → both_two marks g (at part) ≡ b → falls n marks g (cond b (at part ∷ later) later) r ≡ record { part = at part; number = r }
        go true e = numbered_here (split_counted n marks g) (at part) later r below
        go false e = absurd (omega (arith, no_count e))

    -- .. and any other number falls later
    pub falls_later : (r : ℕ) → split_counted n marks g (at part) ≤ r
        → falls n marks g (splits_from n marks g (at part)) r ≡ falls n marks g (splits_from n marks g (at next)) (r - split_counted n marks g (at part))
    falls_later r past = ap (λ (splits : List ℕ). falls n marks g splits r) splits_next ∙ go (both_two marks g (at part)) refl
      where
        go : (b : Bool) → both_two marks g (at part) ≡ b
            → falls n marks g (cond b (at part ∷ later) later) r ≡ falls n marks g later (r - split_counted n marks g (at part))
        go true e = numbered_later (split_counted n marks g) (at part) later r past
        go false e = rw (no_count e, sub-zero r)
