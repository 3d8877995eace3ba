-- The loop of a search for A over plain numbers: it continues from the first-listed input and the part `part` of the others.
-- Assumes nothing.
use Rattle.std.specs.Prelude.{◌<◌, ◌≤◌, ◌+◌, ◌-◌, ◌^◌, ◌≡◌}
use Rattle.laws.specs.Prelude.{ℕ, ◌∙◌, sym, ap, refl, true, false, Bool, add-zero, ℕ_discrete, arith, pow_pos}
use Rattle.std.specs.Int.Bits.{and_self}
use Rattle.rules.specs.Lists.{range, first_place}
use Rattle.rules.specs.Nets.Wirings.{first_input}
use Rattle.radix.specs.Parts.{PartOf, Next, without_first}
use Rattle.marks.specs.Splits.{skip_to}
use Rattle.marks.specs.FirstParts.{Looked, first, none_below, none_between}
use Rattle.marks.specs.FirstParts as parts
use Rattle.laws.specs.Lists.FirstPlaces.{stop_at}

-- the search that starts at A equals the whole search, where A is the first-listed input and the part `part` of the others
pub record Sought (test : ℕ → ℕ → Bool) (g rest part : ℕ) : Type 0 where
  pub low : part ≤ rest
  pub is_part : PartOf part rest
  pub left : (n : ℕ) → g < 2 ^ n →
      let a = (g - rest) + part in
      a + first_place (test n) (range a (g - a)) ≡ 1 + first_place (test n) (range 1 (g - 1))

module _ (test : ℕ → ℕ → Bool) (look : ℕ → Bool) (g rest : ℕ) (looked : Looked g test look) (some : 0 < g)
    (is_rest : (n : ℕ) → g < 2 ^ n → rest ≡ g - 2 ^ first_input n g) where
  pub sought_none : Sought test g rest 0
  sought_none =
      record {
        low = omega arith;
        is_part = refl;
        left = λ n g<.
            sym (skip_to (test n) 1 ((g - rest) + 0) g (omega (arith, first g rest some is_rest n g<, pow_pos (first_input n g))) (omega arith)
            (λ u low high. none_below g rest some is_rest test look looked n g< u (omega arith)));
      }

  pub sought_all : (part : ℕ) → Sought test g rest part → rest ≤ part → (n : ℕ) → g < 2 ^ n → g ≡ 1 + first_place (test n) (range 1 (g - 1))
  unfolding first_place range
  sought_all part s end n g< =
      let a : ℕ = (g - rest) + part in
      let none : g - a ≡ 0 = omega (arith, s.low, end) in
      let all : a ≡ g = omega (arith, s.low, end, first g rest some is_rest n g<, (without_first n g some g<).0, is_rest n g<) in
      sym all ∙ sym (add-zero a) ∙ ap (λ (k : ℕ). a + first_place (test n) (range a k)) (sym none) ∙ s.left n g<

  module _ (part : ℕ) (s : Sought test g rest part) (more : part < rest) where
    -- the part of g that is tested
    pub part_looked_at : (n : ℕ) → g < 2 ^ n → (0 < (g - rest) + part) × ((g - rest) + part < g) × (test n ((g - rest) + part) ≡ look ((g - rest) + part))
    part_looked_at n g< = parts.here g rest some is_rest test look looked n g< part more s.is_part

    pub sought_found : look ((g - rest) + part) ≡ true → (n : ℕ) → g < 2 ^ n → (g - rest) + part ≡ 1 + first_place (test n) (range 1 (g - 1))
    sought_found found n g< =
        let is = part_looked_at n g< in
        sym (stop_at (test n) ((g - rest) + part) g is.1 (is.2 ∙ found)) ∙ s.left n g<

    pub sought_next : look ((g - rest) + part) ≡ false → (next : ℕ) → Next rest part next → Sought test g rest next
    sought_next missed next after =
        let in_rest = after.least rest more (and_self rest) in
        record {
          low = in_rest;
          is_part = after.part;
          left = λ n g<.
              sym (skip_to (test n) ((g - rest) + part) ((g - rest) + next) g (omega (arith, after.above)) (omega (arith, in_rest, is_rest n g<))
              (λ u low high. none n g< u low high (ℕ_discrete u ((g - rest) + part))))
              ∙ s.left n g<;
        }
      where
        -- nothing between the two passes
        none : (n : ℕ) → g < 2 ^ n → (u : ℕ) → (g - rest) + part ≤ u → u < (g - rest) + next → Dec (u ≡ (g - rest) + part) → test n u ≡ false
        none n g< u low high (yes e) = ap (test n) e ∙ (part_looked_at n g<).2 ∙ missed
        none n g< u low high (no ne) = none_between g rest some is_rest test look looked n g< part next more after u (omega arith) high
