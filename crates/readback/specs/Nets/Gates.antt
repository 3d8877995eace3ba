-- Gate lines: each refers back, to references that no earlier line uses.
-- Assumes nothing.
use Rattle.std.specs.Prelude.{◌<◌, ◌≤◌, ◌+◌, ◌≡◌, ◌↔◌, ◌⊎◌, ◌∷◌, ◌++◌}
use Rattle.laws.specs.Prelude.{ℕ, suc, zero, ◌∙◌, sym, ap, refl, ⊎_elim, inl, inr, false, List, [], map}
use Rattle.laws.specs.Prelude.{append_assoc, append-nil, arith, eqb, length, length-append, append_snoc}
use Rattle.rules.specs.Lists.{any, concat_map}
use Rattle.rules.specs.Sheets.Fields.{read, Reader, give}
use Rattle.rules.specs.Sheets.Printed.{line, printed_gate}
use Rattle.rules.specs.Sheets.SheetRules.{GoodNames, GateTable, Tables, RefersBack, Distinct}
use Rattle.rules.specs.Sheets.Sheets.{Gate, reference_text, used_by, gate_line, or_end, gate_lines}
use Rattle.rules.specs.Text.{space, newline, digit_byte}
use Rattle.laws.specs.Lists.Tests.{none_iff}
use Rattle.laws.specs.Lists.Same.{eqb_comm}
use Rattle.readback.specs.Readers.Spells.{SpellsBetween, Any, Spells, spells_give, spells_then, spells_as}
use Rattle.readback.specs.Readers.Fields.{parts_space, parts_newline, spells_field, Ended}
use Rattle.readback.specs.Readers.Ends.{spells_or_end}
use Rattle.readback.specs.Readers.Judges.{judges_digits}
use Rattle.laws.specs.Lists.Fresh.{Fresh, fresh_last}
use Rattle.readback.specs.Nets.References.{judges_reference}

-- ---- the rules for a gate line and for all that follow it

-- a gate's line after `k` references, where those in `used` are already used
record GateAfter (m k : ℕ) (used : List ℕ) (g : Gate) : Type 0 where
  left : g.left < k
  right : g.right < k
  left_new : any (eqb g.left) used ≡ false
  right_new : any (eqb g.right) (g.left ∷ used) ≡ false
  table : GateTable m g.digits

-- the same for several gate lines
pub record GatesAfter (m k : ℕ) (used : List ℕ) (gates : List Gate) : Type 0 where
  pub back : RefersBack k gates
  pub once : Distinct (used_by gates)
  pub fresh : Fresh eqb used (used_by gates)
  pub tables : Tables m gates

module _ (m k : ℕ) (used : List ℕ) (g : Gate) (gates : List Gate) where
  -- fresh after one more gate: it uses none of the later references
  fresh_two : Fresh eqb (used ++ (g.left ∷ []) ++ (g.right ∷ [])) (used_by gates)
      ↔ ((any (eqb g.left) (used_by gates) ≡ false) × (any (eqb g.right) (used_by gates) ≡ false) × Fresh eqb used (used_by gates))
  fresh_two = (
    λ h.
        let (r, i) = (fresh_last eqb eqb_comm (used ++ (g.left ∷ [])) g.right (used_by gates)).0 h in
        let (l, j) = (fresh_last eqb eqb_comm used g.left (used_by gates)).0 i in
        (l, r, j),
    λ (l, r, j).
        (fresh_last eqb eqb_comm (used ++ (g.left ∷ [])) g.right (used_by gates)).1
        (r, (fresh_last eqb eqb_comm used g.left (used_by gates)).1 (l, j)),
  )

  -- one gate and then the others follow the rules together
  gates_to : GateAfter m k used g → GatesAfter m (suc k) (used ++ (g.left ∷ []) ++ (g.right ∷ [])) gates → GatesAfter m k used (g ∷ gates)
  unfolding used_by
  gates_to a b =
      let (l, r, j) = fresh_two.0 b.fresh in
      let (d, e) = (none_iff (eqb g.right) g.left used).0 a.right_new in
      record {
        back = (a.left, a.right, b.back);
        once = ((none_iff (eqb g.left) g.right (used_by gates)).1 (eqb_comm g.left g.right ∙ d, l), (r, b.once));
        fresh = (a.left_new, (e, j));
        tables = (a.table, b.tables);
      }

  -- and conversely
  gates_from : GatesAfter m k used (g ∷ gates) → GateAfter m k used g × GatesAfter m (suc k) (used ++ (g.left ∷ []) ++ (g.right ∷ [])) gates
  unfolding used_by
  gates_from b =
      let (d, l) = (none_iff (eqb g.left) g.right (used_by gates)).0 b.once.0 in (
        record {
          left = b.back.0;
          right = b.back.1;
          left_new = b.fresh.0;
          right_new = (none_iff (eqb g.right) g.left used).1 (eqb_comm g.right g.left ∙ d, b.fresh.1.0);
          table = b.tables.0;
        },
        record {
          back = b.back.2;
          once = b.once.1.1;
          fresh = fresh_two.1 (l, b.once.1.0, b.fresh.1.1);
          tables = b.tables.1;
        },
      )

-- ---- reading gate lines

-- the references that one more gate uses
used_last : (earlier : List Gate) (g : Gate) → used_by (earlier ++ (g ∷ [])) ≡ used_by earlier ++ (g.left ∷ []) ++ (g.right ∷ [])
unfolding used_by
used_last [] g = refl
used_last (h ∷ earlier) g = ap (λ us. h.left ∷ h.right ∷ us) (used_last earlier g)

-- a line of three words, field by field
gate_text : (a b c : List ℕ) → a ++ space ∷ [] ++ (b ++ space ∷ [] ++ (c ++ newline ∷ [] ++ [])) ≡ line (a ∷ b ∷ c ∷ [])
unfolding line
gate_text a b c = simp (append_assoc, append-nil)

module _ (m : ℕ) (positive : 0 < m) (names : List (List ℕ)) (good_names : GoodNames names) where
  -- one gate after the earlier ones
  abbrev One : List Gate → Gate → Type 0
  One earlier g = GateAfter m (length names + length earlier) (used_by earlier) g

  -- several gates after the earlier ones
  abbrev Gates : List Gate → List Gate → Type 0
  Gates earlier gates = GatesAfter m (length names + length earlier) (used_by earlier) gates

  spells_gate : (earlier : List Gate) → Spells (gate_line m names earlier) ((g : Gate) × One earlier g) (λ x. x.0) (λ x. printed_gate names x.0)
  unfolding gate_line printed_gate
  spells_gate earlier = spells_as
      (spells_then _ (spells_field space parts_space (judges_reference names good_names (length earlier) (used_by earlier))) (λ l.
      spells_then _ (spells_field space parts_space (judges_reference names good_names (length earlier) (l.0 ∷ used_by earlier))) (λ r.
      spells_then _ (spells_field newline parts_newline (judges_digits m positive)) (λ ds.
      spells_give (record { left = l.0; right = r.0; digits = ds.0 })))))
      (λ ((l, h, e), ((r, k, f), ((ds, t), _))). (
        (record { left = l; right = r; digits = ds }, record { left = h; right = k; left_new = e; right_new = f; table = t }),
        refl,
        gate_text (reference_text names l) (reference_text names r) (map digit_byte ds),
      ))
      (λ (g, a). (
        ((g.left, a.left, a.left_new), ((g.right, a.right, a.right_new), ((g.digits, a.table), tt))),
        refl,
        sym (gate_text (reference_text names g.left) (reference_text names g.right) (map digit_byte g.digits)),
      ))

  -- there is one more reference
  refs_last : (earlier : List Gate) (g : Gate) → length names + length (earlier ++ (g ∷ [])) ≡ suc (length names + length earlier)
  refs_last earlier g = rw length-append (omega arith)

  -- one gate, then the others
  one_gate : (earlier : List Gate) (g : Gate) (gates : List Gate) → (One earlier g × Gates (earlier ++ (g ∷ [])) gates) ↔ Gates earlier (g ∷ gates)
  one_gate earlier g gates = rw (refs_last earlier g, used_last earlier g)
      (λ (a, b). gates_to m _ (used_by earlier) g gates a b, gates_from m (length names + length earlier) (used_by earlier) g gates)

  -- a printed gate is not empty
  gate_some : (g : Gate) (gates : List Gate) → 0 < length (concat_map (printed_gate names) (g ∷ gates))
  unfolding concat_map printed_gate line
  gate_some g gates = simp length-append (omega arith)

  -- Gate lines from here to the sheet's end: what `r` reads is printed as the gates of `X`
  abbrev ReadsGates : Reader (List Gate) → List Gate → (List Gate → Type 0) → Type 0
  ReadsGates r earlier Rule = SpellsBetween Ended Any r ((gates : List Gate) × Rule gates) (λ x. earlier ++ x.0) (λ x. concat_map (printed_gate names) x.0)

  -- up to `count` gates after the earlier ones
  abbrev Rest : ℕ → List Gate → List Gate → Type 0
  Rest count earlier gates = (length gates ≤ count) × Gates earlier gates

  -- the same, but at least one
  abbrev More : ℕ → List Gate → List Gate → Type 0
  More count earlier gates = (0 < length gates) × Rest count earlier gates

  -- one gate, then the sheet's end or further gates
  spells_more : (count : ℕ) → ((earlier : List Gate) → ReadsGates (or_end earlier (gate_lines m names count earlier)) earlier (Rest count earlier))
      → (earlier : List Gate) → ReadsGates (gate_lines m names (suc count) earlier) earlier (More (suc count) earlier)
  unfolding gate_lines concat_map
  spells_more count later earlier = spells_as (spells_then _ (spells_gate earlier) (λ (g, _). later (earlier ++ (g ∷ []))))
      (λ ((g, a), (gates, (few, b))). ((g ∷ gates, (omega arith, (omega arith, (one_gate earlier g gates).0 (a, b)))), append_snoc earlier g gates, refl))
      from
    where
      from : (y : (gates : List Gate) × More (suc count) earlier gates)
          → (x : (x : (g : Gate) × One earlier g) × ((gates : List Gate) × Rest count (earlier ++ (x.0 ∷ [])) gates))
          × (earlier ++ y.0 ≡ earlier ++ (x.0.0 ∷ []) ++ x.1.0)
          × (concat_map (printed_gate names) y.0 ≡ printed_gate names x.0.0 ++ concat_map (printed_gate names) x.1.0)
      from ([], (some, (few, b))) = absurd (omega arith)
      from (g ∷ gates, (some, (few, b))) =
          let (a, c) = (one_gate earlier g gates).1 b in
          (((g, a), (gates, (omega arith, c))), sym (append_snoc earlier g gates), refl)

  -- no gates follow the rules
  no_gates_lem : (earlier : List Gate) → Gates earlier []
  unfolding used_by
  no_gates_lem earlier = record { back = tt; once = tt; fresh = tt; tables = tt }

  -- the sheet's end, or further gates
  spells_rest : (count : ℕ) (earlier : List Gate) → ReadsGates (or_end earlier (gate_lines m names count earlier)) earlier (Rest count earlier)
  unfolding gate_lines or_end concat_map
  spells_rest zero earlier = record { back = back; only = only }
    where
      back : (y : (gates : List Gate) × Rest 0 earlier gates) (rest : List ℕ) (at : ℕ) → Ended rest
          → (place : ℕ) × (or_end earlier (give earlier) (concat_map (printed_gate names) y.0 ++ rest) at ≡ read (earlier ++ y.0) rest place)
      back ([], (few, b)) rest at h = (at, rw (h, append-nil))
      back (g ∷ gates, (few, b)) rest at h = absurd (omega arith)

      only : (s : List ℕ) (at : ℕ) (a : List Gate) (rest : List ℕ) (place : ℕ) → or_end earlier (give earlier) s at ≡ read a rest place
          → (y : (gates : List Gate) × Rest 0 earlier gates) × (a ≡ earlier ++ y.0) × (s ≡ concat_map (printed_gate names) y.0 ++ rest) × Any rest
      only [] at a rest place e = (([], (omega arith, no_gates_lem earlier)), (cc (append-nil earlier)), (cc), tt)
      only (b ∷ s) at a rest place e = (([], (omega arith, no_gates_lem earlier)), (cc (append-nil earlier)), (cc), tt)
  spells_rest (suc count) earlier = spells_as (spells_or_end earlier _ (spells_more count (spells_rest count) earlier) some) to from
    where
      some : (x : (gates : List Gate) × More (suc count) earlier gates) → 0 < length (concat_map (printed_gate names) x.0)
      some ([], (h, k)) = absurd (omega arith)
      some (g ∷ gates, (h, k)) = gate_some g gates

      to : (x : Unit {0} ⊎ ((gates : List Gate) × More (suc count) earlier gates))
          → (y : (gates : List Gate) × Rest (suc count) earlier gates)
          × (⊎_elim (λ _. earlier) (λ x. earlier ++ x.0) x ≡ earlier ++ y.0)
          × (⊎_elim (λ _. []) (λ x. concat_map (printed_gate names) x.0) x ≡ concat_map (printed_gate names) y.0)
      to (inl _) = (([], (omega arith, no_gates_lem earlier)), sym (append-nil earlier), refl)
      to (inr (gates, (h, k))) = ((gates, k), refl, refl)

      from : (y : (gates : List Gate) × Rest (suc count) earlier gates)
          → (x : Unit {0} ⊎ ((gates : List Gate) × More (suc count) earlier gates))
          × (earlier ++ y.0 ≡ ⊎_elim (λ _. earlier) (λ x. earlier ++ x.0) x)
          × (concat_map (printed_gate names) y.0 ≡ ⊎_elim (λ _. []) (λ x. concat_map (printed_gate names) x.0) x)
      from ([], k) = (inl tt, append-nil earlier, refl)
      from (g ∷ gates, k) = (inr (g ∷ gates, (omega arith, k)), refl, refl)

  -- from 1 to `count` gate lines
  pub spells_gates : (count : ℕ) → 0 < count → ReadsGates (gate_lines m names count []) [] (More count [])
  spells_gates zero some = absurd (omega arith)
  spells_gates (suc count) some = spells_more count (spells_rest count) []
