-- "26, an earlier gate is never used, place the sheet's length, judged last in the net sheet" (document 02, K12): a net sheet is refused with 26
-- exactly if it follows every other rule and some earlier gate is never used; the place is its length.
-- Assumes nothing.
use Rattle.std.specs.Prelude.{◌≡◌, ◌↔◌, ◌∷◌, ◌++◌}
use Rattle.laws.specs.Prelude.{ℕ, ◌∙◌, sym, ap, refl, subst, true, false, Bool, List, [], append-nil, arith, length}
use Rattle.rules.specs.Calls.Answers.{refused}
use Rattle.rules.specs.Lists.{any}
use Rattle.rules.specs.Sheets.Fields.{Read, read, turned_back, then, give}
use Rattle.rules.specs.Sheets.Printed.{printed_net}
use Rattle.rules.specs.Sheets.Reading.{answered, read_net}
use Rattle.rules.specs.Sheets.Sheets.{Net, earlier_used, all_used}
use Rattle.readback.specs.Readers.Spells.{not_read}
use Rattle.readback.specs.Readers.Ends.{used_turned}
use Rattle.readback.specs.Nets.NetSheets.{RuledNet, net_to_end, judged_last, net_last, spells_to_end}
use Rattle.readback.specs.Readers.Fronts.{read_place}
use Rattle.readback.specs.Readers.Numbers.{among_to_end}
use Rattle.readback.specs.Readers.Refused.{front_to_end, front_net, refusal_turned}

-- some earlier gate of the net is never used
abbrev pub Unused : Net → Type 0
Unused net = earlier_used net.header.inputs net.gates ≡ false

-- the last check refuses with 26 where the sheet ends, ..
last_unused : (net : Net) → Unused net → (s : List ℕ) (at : ℕ) → judged_last net s at ≡ turned_back 26 at
unfolding judged_last all_used then
last_unused net unused s at = rw (unused, all_used)

-- .. and nowhere else
last_turned : (net : Net) (s : List ℕ) (at number place : ℕ) → judged_last net s at ≡ turned_back number place → Unused net × (place ≡ at)
unfolding judged_last then
last_turned net s at number place e = go (all_used net.header.inputs net.gates s at) refl e
  where
    go : (u : Read (Unit {0})) → all_used net.header.inputs net.gates s at ≡ u → then u (λ _. give net) ≡ turned_back number place
        → Unused net × (place ≡ at)
    go (read v r p) d e = absurd (not_read number place net r p (sym e))
    go (turned_back k p) d e =
        let (unused, _, here) = used_turned net.header.inputs net.gates s at k p d in
        (unused, let z : place ≡ p = cc in z ∙ here)

-- no other rule gives 26
not_before : (s : List ℕ) (place : ℕ) → net_to_end s 0 ≡ turned_back 26 place → ⊥
unfolding any
not_before s place e =
    let z : ◌≡◌ {A = Bool} false true = among_to_end (1 ∷ 2 ∷ 3 ∷ 4 ∷ 6 ∷ 7 ∷ 8 ∷ []) refl refl refl refl refl refl refl s 0 26 place e in
    let y : ◌≡◌ {A = ℕ} 0 1 = cc in
    omega arith

-- such a sheet is refused with 26, ..
pub unused_refused : (net : Net) → RuledNet net → Unused net → read_net (printed_net net) ≡ refused 26 (length (printed_net net))
unfolding read_net answered then
unused_refused net ruled unused =
    let s = printed_net net in
    let (place, e) = spells_to_end.back (net, ruled) [] 0 refl in
    let d : net_to_end s 0 ≡ read net [] place = ap (λ t. net_to_end t 0) (sym (append-nil s)) ∙ e in
    let here : place ≡ length s = omega (arith, read_place front_to_end s 0 net [] place d) in
    rw (net_last s 0, d, last_unused net unused [] place) (ap (refused 26) here)

-- .. and no other
pub refused_unused : (s : List ℕ) (place : ℕ) → read_net s ≡ refused 26 place
    → (net : Net) × RuledNet net × Unused net × (s ≡ printed_net net) × (place ≡ length s)
unfolding read_net then
refused_unused s place e = go (net_to_end s 0) refl (sym (net_last s 0) ∙ refusal_turned front_net s 26 place e)
  where
    go : (u : Read Net) → net_to_end s 0 ≡ u → then u judged_last ≡ turned_back 26 place
        → (net : Net) × RuledNet net × Unused net × (s ≡ printed_net net) × (place ≡ length s)
    go (read b r p) d e =
        let ((net, ruled), is, text, end) = spells_to_end.only s 0 b r p d in
        let (unused, here) = last_turned b r p 26 place e in (
          net,
          ruled,
          subst Unused is unused,
          text ∙ ap (λ t. printed_net net ++ t) end ∙ append-nil (printed_net net),
          omega (arith, here, read_place front_to_end s 0 b r p d, ap length end),
        )
    go (turned_back k p) d e = absurd (not_before s place (d ∙ let z : ◌≡◌ {A = Read Net} (turned_back k p) (turned_back 26 place) = cc in z))

pub net_26 : (s : List ℕ) (place : ℕ) → (read_net s ≡ refused 26 place) ↔ ((net : Net) × RuledNet net × Unused net × (s ≡ printed_net net) × (place ≡ length s))
net_26 s place = (
  refused_unused s place,
  λ (net, ruled, unused, text, here). rw (here, text) (unused_refused net ruled unused),
)
