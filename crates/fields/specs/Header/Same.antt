-- Two headers compared, name by name.
-- Assumes nothing.
use Rattle.std.specs.Prelude.{◌<◌, ◌≤◌, ◌+◌, ◌-◌, ◌≡◌}
use Rattle.laws.specs.Prelude.{ℕ, ap, true, false, Bool, and-false, List, map, eq-eqb, ne_eqb}
use Rattle.rules.specs.Lists.{range, same}
use Rattle.rules.specs.Calls.Checking.{same_names_of, same_header}
use Rattle.laws.specs.Lists.Ranges.{range_next, range_none}
use Rattle.nets.specs.declared.forms.Header.{Header}
use Rattle.nets.specs.Forms.{name_in, header_of}

-- whether f and g give the same names from input i on, up to `end`
abbrev pub same_from : (ℕ → List ℕ) → (ℕ → List ℕ) → ℕ → ℕ → Bool
same_from f g i end = same_names_of (map f (range i (end - i))) (map g (range i (end - i)))

module _ (f g : ℕ → List ℕ) (i end : ℕ) where
  pub names_same_next : i < end → same (f i) (g i) ≡ true → same_from f g i end ≡ same_from f g (i + 1) end
  unfolding same_names_of
  names_same_next h e = rw (range_next i end h, e)

  pub names_differ : i < end → same (f i) (g i) ≡ false → same_from f g i end ≡ false
  unfolding same_names_of
  names_differ h e = rw (range_next i end h, e)

  pub names_end : end ≤ i → same_from f g i end ≡ true
  unfolding same_names_of
  names_end h = rw (range_none i end h)

module _ (s : List ℕ) (h : Header) (t : List ℕ) (k : Header) where
  pub levels_differ : (h.levels ≡ k.levels → ⊥) → false ≡ same_header (header_of s h) (header_of t k)
  unfolding same_header header_of
  levels_differ e = simp (ne_eqb h.levels k.levels e)

  module _ (levels : h.levels ≡ k.levels) where
    pub inputs_differ : (h.inputs ≡ k.inputs → ⊥) → false ≡ same_header (header_of s h) (header_of t k)
    unfolding same_header header_of
    inputs_differ e = simp (ne_eqb h.inputs k.inputs e, and-false)

    -- the names decide
    pub by_names : h.inputs ≡ k.inputs
        → same_names_of (map (name_in s h) (range 0 h.inputs)) (map (name_in t k) (range 0 h.inputs)) ≡ same_header (header_of s h) (header_of t k)
    unfolding same_header header_of
    by_names e =
        rw (eq-eqb h.levels k.levels levels, eq-eqb h.inputs k.inputs e)
        (ap (λ (n : ℕ). same_names_of (map (name_in s h) (range 0 h.inputs)) (map (name_in t k) (range 0 n))) e)
