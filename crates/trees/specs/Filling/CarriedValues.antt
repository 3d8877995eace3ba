-- In a wiring filled by the class rule, the value of every reference before the last gate is what its wire carries: an input's level, or the class of
-- a gate's group.
-- Assumes nothing.
use Rattle.std.specs.Prelude.{◌<◌, ◌+◌, ◌≡◌, ◌∷◌, ◌++◌}
use Rattle.laws.specs.Prelude.{ℕ, ◌∙◌, sym, ap, false, Bool, List, [], zero-add, dec_lt, arith, eqb-suc-zero, length, get_or}
use Rattle.laws.specs.Prelude.{get_or-append, get_or-append_seam}
use Rattle.rules.specs.Nets.Filling.{carried, given, gate_digits, input_groups, filled_from}
use Rattle.rules.specs.Nets.Value.{gate_value}
use Rattle.rules.specs.Nets.Wirings.{Link}
use Rattle.rules.specs.Sheets.Sheets.{Gate, level, levels_at}
use Rattle.laws.specs.Lists.Places.{length_snoc}
use Rattle.laws.specs.Lists.Ranges.{map_range_length, map_range_at}
use Rattle.trees.specs.Filling.Carried.{carried_several, carried_input}
use Rattle.trees.specs.Filling.DigitRule.{Parts, join_several, gate_digit}
use Rattle.trees.specs.Filling.Fillings.{link_group, inputs_grouped}

-- the gate of a line, which joins the groups of its two references
abbrev pub line_gate : ℕ → ℕ → (ℕ → ℕ) → Bool → List ℕ → Link → Gate
line_gate m n f last groups l =
    record { left = l.left; right = l.right; digits = gate_digits m n f last (get_or groups l.left 0) (get_or groups l.right 0) }

-- a gate that is not the last
pub more_left : (m n : ℕ) (f : ℕ → ℕ) (groups : List ℕ) (l k : Link) (links : List Link)
    → filled_from m n f groups (l ∷ k ∷ links) ≡ line_gate m n f false groups l ∷ filled_from m n f (groups ++ (link_group groups l ∷ [])) (k ∷ links)
unfolding filled_from
more_left m n f groups l k links =
    ap (λ (last : Bool). line_gate m n f last groups l ∷ filled_from m n f (groups ++ (link_group groups l ∷ [])) (k ∷ links)) (eqb-suc-zero (length links))

module _ (m n : ℕ) (pos : 0 < m) (f : ℕ → ℕ) (p : ℕ) where
  -- the value at each reference is what its wire carries
  pub record Carries (groups values : List ℕ) : Type 0 where
    pub count : length values ≡ length groups
    pub each : (r : ℕ) → r < length groups → get_or values r 0 ≡ carried m n f (get_or groups r 0) p

  -- before the first gate, these are the inputs' levels
  pub inputs_carry : Carries (input_groups n) (levels_at m n p)
  unfolding levels_at
  inputs_carry =
      let long : length (input_groups n) ≡ n = (inputs_grouped n).0 ∙ (let z : n + 0 ≡ n = omega arith in z) in
      record {
        count = map_range_length _ 0 n ∙ sym long;
        each = λ r h. let r< : r < n = omega arith in
            map_range_at (level m n p) 0 n r 0 r< ∙ ap (level m n p) (zero-add r) ∙ sym (rw ((inputs_grouped n).1 r r<) (carried_input m n f r r< p));
      }

  -- the gate of a line has the value that it must give
  pub line_value : (groups values : List ℕ) (l : Link) (last : Bool) → Carries groups values → l.left < length groups → l.right < length groups
      → Parts m n f (get_or groups l.left 0) (get_or groups l.right 0)
      → gate_value m values (line_gate m n f last groups l) ≡ given m n f last (link_group groups l) p
  unfolding gate_value
  line_value groups values l last carries l< r< parts =
      rw (carries.each l.left l<, carries.each l.right r<)
      (gate_digit m n pos f (get_or groups l.left 0) (get_or groups l.right 0) parts last p)

  -- a gate below the last gives what its wire carries
  gate_carries : (a b : ℕ) → Parts m n f a b → given m n f false (a + b) p ≡ carried m n f (a + b) p
  unfolding given
  gate_carries a b parts = sym (carried_several m n f (a + b) (join_several m n pos f a b parts) p)

  -- one more reference
  carries_snoc : (groups values : List ℕ) (g v : ℕ) → Carries groups values → v ≡ carried m n f g p → Carries (groups ++ (g ∷ [])) (values ++ (v ∷ []))
  carries_snoc groups values g v carries is = record {
    count = omega (arith, length_snoc groups g, length_snoc values v, carries.count);
    each = λ r h. go r h (dec_lt r (length groups));
  }
    where
      go : (r : ℕ) → r < length (groups ++ (g ∷ [])) → Dec (r < length groups) → get_or (values ++ (v ∷ [])) r 0 ≡ carried m n f (get_or (groups ++ (g ∷ [])) r 0) p
      go r h (yes k) =
          get_or-append values (v ∷ []) 0 r (omega (arith, carries.count)) ∙ carries.each r k
          ∙ ap (λ (x : ℕ). carried m n f x p) (sym (get_or-append groups (g ∷ []) 0 r k))
      go r h (no k) =
          let last : r ≡ length groups = omega (arith, length_snoc groups g) in
          let same : r ≡ length values = last ∙ sym carries.count in
          ap (λ (i : ℕ). get_or (values ++ (v ∷ [])) i 0) same ∙ get_or-append_seam values v [] 0 ∙ is
          ∙ ap (λ (x : ℕ). carried m n f x p) (sym (ap (λ (i : ℕ). get_or (groups ++ (g ∷ [])) i 0) last ∙ get_or-append_seam groups g [] 0))

  -- one more gate, below the last
  pub line_carries : (groups values : List ℕ) (l : Link) → Carries groups values → l.left < length groups → l.right < length groups
      → Parts m n f (get_or groups l.left 0) (get_or groups l.right 0)
      → Carries (groups ++ (link_group groups l ∷ [])) (values ++ (gate_value m values (line_gate m n f false groups l) ∷ []))
  line_carries groups values l carries l< r< parts =
      carries_snoc groups values (link_group groups l) _ carries
      (line_value groups values l false carries l< r< parts ∙ gate_carries (get_or groups l.left 0) (get_or groups l.right 0) parts)
