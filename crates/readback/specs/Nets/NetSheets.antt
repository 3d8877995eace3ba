-- Net sheets: what the reader of a net sheet spells. It reads to the sheet's end, then checks that earlier gates are used.
-- Assumes nothing.
use Rattle.std.specs.Prelude.{◌<◌, ◌+◌, ◌-◌, ◌≡◌, ◌∷◌, ◌++◌}
use Rattle.laws.specs.Prelude.{ℕ, ◌∙◌, sym, ap, refl, fun_ext, List, [], append_assoc, append-nil, add-zero, arith, eqb}
use Rattle.laws.specs.Prelude.{length, read_cases}
use Rattle.rules.specs.Lists.{all, concat_map}
use Rattle.rules.specs.Sheets.Fields.{Read, read, turned_back, Reader, then, ◌>>=◌, give, is_separator, field, the_word, closed}
use Rattle.rules.specs.Sheets.Printed.{line, first_lines, printed_gate, printed_net}
use Rattle.rules.specs.Sheets.SheetRules.{HeaderRules, GateRules, EarlierUsed, NetRules}
use Rattle.rules.specs.Sheets.Sheets.{Header, Gate, Net, used_by, header_lines, gate_lines, all_used, net_sheet}
use Rattle.rules.specs.Text.{space, newline, text}
use Rattle.laws.specs.Nets.UsedGates.{earlier_used_lem, used_earlier}
use Rattle.laws.specs.Lists.Fresh.{fresh_first}
use Rattle.laws.specs.Numbers.Sizes.{kept_size}
use Rattle.readback.specs.Readers.Spells.{SpellsTo, not_read, spells_onto, spells_then, spells_as}
use Rattle.readback.specs.Readers.Fields.{plain, is_word, spells_field, judges_word, Ended, spells_end}
use Rattle.readback.specs.Readers.Ends.{used_read}
use Rattle.readback.specs.Readers.Names.{ended}
use Rattle.readback.specs.Sheets.Header.{head_text, spells_header}
use Rattle.readback.specs.Nets.Gates.{GatesAfter, spells_gates}

-- a line is its words, ended by a line feed
pub line_ended : (ws : List (List ℕ)) → 0 < length ws → line ws ≡ ended newline ws
unfolding line ended
line_ended [] h = absurd (omega arith)
line_ended (w ∷ []) h = refl
line_ended (w ∷ v ∷ ws) h = ap (λ t. w ++ space ∷ t) (line_ended (v ∷ ws) (omega arith)) ∙ sym (append_assoc w (space ∷ []) (ended newline (v ∷ ws)))

-- the print of a net, field by field
net_text : (h : Header) (gs : List Gate) → HeaderRules h
    → head_text newline h
    ++ (text "left" ++ space ∷ [] ++ (text "right" ++ space ∷ [] ++ (text "table" ++ newline ∷ [] ++ (concat_map (printed_gate h.names) gs ++ []))))
    ≡ printed_net (record { header = h; gates = gs })
unfolding head_text printed_net first_lines line
net_text h gs k =
    let z = kept_size h k in
    rw (line_ended h.names (omega (arith, k.count))) (simp (append_assoc, append-nil))

-- what a net sheet satisfies before the check at its end: every rule except that earlier gates are used
pub record RuledNet (net : Net) : Type 0 where
  pub header : HeaderRules net.header
  pub some : 0 < length net.gates
  pub count : length net.gates < net.header.inputs
  pub rules : GateRules net.header.levels net.header.inputs net.gates

pub kept_ruled : (net : Net) → NetRules net → RuledNet net
kept_ruled net kept = record { header = kept.header; some = kept.gates.some; count = kept.gates.count; rules = kept.gates.rules }

pub ruled_kept : (net : Net) → RuledNet net → EarlierUsed net.header.inputs net.gates → NetRules net
ruled_kept net ruled used = record {
  header = ruled.header;
  gates = record { some = ruled.some; count = ruled.count; rules = ruled.rules; used = used };
}

-- gate lines after none, counted by the names or by the inputs
gates_to : (h : Header) (gs : List Gate) → HeaderRules h → GatesAfter h.levels (length h.names + 0) (used_by []) gs → GateRules h.levels h.inputs gs
gates_to h gs k b = record { back = rw (add-zero (length h.names), k.count) at b.back; once = b.once; tables = b.tables }

-- and conversely
gates_from : (h : Header) (gs : List Gate) → HeaderRules h → GateRules h.levels h.inputs gs
    → GatesAfter h.levels (length h.names + 0) (used_by []) gs
unfolding used_by
gates_from h gs k rules = record {
  back = rw (add-zero (length h.names), k.count) rules.back;
  once = rules.once;
  fresh = fresh_first eqb (used_by gs);
  tables = rules.tables;
}

-- ---- to the sheet's end, and the check there

-- a net sheet read to its end
unfoldable pub net_to_end : Reader Net
net_to_end = do
  h ← header_lines newline
  _ ← field (the_word "left") space
  _ ← field (the_word "right") space
  _ ← field (the_word "table") newline
  gates ← gate_lines h.levels h.names (h.inputs - 1) []
  _ ← closed
  give (record { header = h; gates = gates })

-- the check there
unfoldable pub judged_last : Net → Reader Net
judged_last net = all_used net.header.inputs net.gates >>= λ _. give net

-- one reader after another, and then the last check
then_last : {A B C : Type 0} (r : Reader A) (k : A → Reader B) (l : B → Reader C) (whole : A → Reader C)
    → ((a : A) (s : List ℕ) (at : ℕ) → whole a s at ≡ then (k a s at) l) → (s : List ℕ) (at : ℕ) → (r >>= whole) s at ≡ then ((r >>= k) s at) l
unfolding then
then_last {A} r k l whole each s at = elim (r s at) as (λ u. then u whole ≡ then (then u k) l) [
  | read a rest place ↦ each a rest place
  | turned_back number place ↦ refl
]

-- for a given net
last_given : (net : Net) (s : List ℕ) (at : ℕ) → judged_last net s at ≡ then (give net s at) judged_last
unfolding then
last_given net s at = refl

-- a net sheet is read to its end, then checked
pub net_last : (s : List ℕ) (at : ℕ) → net_sheet s at ≡ (net_to_end >>= judged_last) s at
unfolding net_sheet net_to_end judged_last
net_last =
    then_last _ _ judged_last _ (λ h.
    then_last _ _ judged_last _ (λ _.
    then_last _ _ judged_last _ (λ _.
    then_last _ _ judged_last _ (λ _.
    then_last _ _ judged_last _ (λ gates.
    then_last _ (λ _. give (record { header = h; gates = gates })) judged_last (λ _. judged_last (record { header = h; gates = gates })) (λ _. last_given _))))))

pub net_whole : net_sheet ≡ (net_to_end >>= judged_last)
net_whole = fun_ext (λ s. fun_ext (λ at. net_last s at))

-- the reader of the lines spells the nets that follow their rules
pub spells_to_end : SpellsTo Ended net_to_end ((net : Net) × RuledNet net) (λ x. x.0) (λ x. printed_net x.0)
unfolding net_to_end plain is_word all text is_separator space newline
spells_to_end = spells_as
    (spells_then _ (spells_header newline refl) (λ (h, k).
    spells_then _ (spells_field space refl (judges_word "left" refl)) (λ _.
    spells_then _ (spells_field space refl (judges_word "right" refl)) (λ _.
    spells_then _ (spells_field newline refl (judges_word "table" refl)) (λ _.
    spells_onto _ (spells_gates h.levels (omega (arith, kept_size h k)) h.names k.names (h.inputs - 1) (omega (arith, kept_size h k)))
    (λ gs. spells_end (record { header = h; gates = gs.0 })) (λ _ _ rest h. h))))))
    (λ ((h, k), (_, (_, (_, ((gs, (some, (few, b))), _))))). (
      (record { header = h; gates = gs }, record { header = k; some = some; count = omega (arith, kept_size h k); rules = gates_to h gs k b }),
      refl,
      net_text h gs k,
    ))
    (λ (net, k).
    let h = net.header in (
      ((h, k.header), (tt, (tt, (tt, ((net.gates, (k.some, (omega (arith, k.count), gates_from h net.gates k.header k.rules))), tt))))),
      refl,
      sym (net_text h net.gates k.header),
    ))

-- the last check reads nothing, and passes a net whose earlier gates are used, ..
last_back : (net : Net) → EarlierUsed net.header.inputs net.gates → (rest : List ℕ) (at : ℕ) → judged_last net rest at ≡ read net rest at
unfolding judged_last all_used then
last_back net used rest at = rw (used_earlier net.header.inputs net.gates used, all_used)

-- .. and no other
last_only : (net : Net) (s : List ℕ) (at : ℕ) (a : Net) (rest : List ℕ) (place : ℕ) → judged_last net s at ≡ read a rest place
    → (a ≡ net) × (rest ≡ s) × EarlierUsed net.header.inputs net.gates
unfolding judged_last then
last_only net s at a rest place e = go (all_used net.header.inputs net.gates s at) refl e
  where
    go : (u : Read (Unit {0})) → all_used net.header.inputs net.gates s at ≡ u → then u (λ _. give net) ≡ read a rest place
        → (a ≡ net) × (rest ≡ s) × EarlierUsed net.header.inputs net.gates
    go (read v r p) d e =
        let (used, all, _) = used_read net.header.inputs net.gates s at v r p d in
        ((cc), (cc), earlier_used_lem net.header.inputs net.gates used)
    go (turned_back number p) d e = absurd (not_read number p a rest place e)

-- the reader of net sheets spells the nets that follow the rules
pub spells_net : SpellsTo Ended net_sheet ((net : Net) × NetRules net) (λ x. x.0) (λ x. printed_net x.0)
unfolding then
spells_net = record { back = back; only = only }
  where
    back : (x : (net : Net) × NetRules net) (rest : List ℕ) (at : ℕ) → Ended rest
        → (place : ℕ) × (net_sheet (printed_net x.0 ++ rest) at ≡ read x.0 rest place)
    back (net, kept) rest at h =
        let (place, e) = spells_to_end.back (net, kept_ruled net kept) rest at h in
        (place, net_last (printed_net net ++ rest) at ∙ rw e (last_back net kept.gates.used rest place))

    only : (s : List ℕ) (at : ℕ) (a : Net) (rest : List ℕ) (place : ℕ) → net_sheet s at ≡ read a rest place
        → (x : (net : Net) × NetRules net) × (a ≡ x.0) × (s ≡ printed_net x.0 ++ rest) × Ended rest
    only s at a rest place e = read_cases (net_to_end s at)
        (λ b r p d.
        let ((net, ruled), is, text, end) = spells_to_end.only s at b r p d in
        let (same, all, used) = last_only b r p a rest place (rw d at (sym (net_last s at) ∙ e)) in
        ((net, ruled_kept net ruled (rw is at used)), same ∙ is, text ∙ ap (λ t. printed_net net ++ t) (sym all), all ∙ end))
        (λ number p d. absurd (not_read number p a rest place (rw d at (sym (net_last s at) ∙ e))))
