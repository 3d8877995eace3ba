-- The two laws of sheets, for net sheets and for table sheets: reading what was printed gives it back, and what was accepted is
-- exactly what would be printed and follows every rule.
-- Assumes nothing.
use Rattle.std.specs.Prelude.{◌≡◌, ◌↔◌, ◌++◌}
use Rattle.laws.specs.Prelude.{ℕ, ◌∙◌, ap, refl, List, [], append-nil, arith}
use Rattle.rules.specs.Calls.Answers.{Answer, accepted, refused}
use Rattle.rules.specs.Sheets.Fields.{Read, read, turned_back, Reader}
use Rattle.rules.specs.Sheets.Printed.{printed_net, printed_table}
use Rattle.rules.specs.Sheets.Reading.{answered, read_net, read_table}
use Rattle.rules.specs.Sheets.SheetRules.{NetRules, TableRules}
use Rattle.rules.specs.Sheets.Sheets.{Net, Table}
use Rattle.readback.specs.Readers.Spells.{SpellsTo}
use Rattle.readback.specs.Readers.Fields.{Ended}
use Rattle.readback.specs.Nets.NetSheets.{spells_net}
use Rattle.readback.specs.Tables.TableSheets.{spells_table}

-- what is refused is not accepted
not_accepted : {A : Type 0} (number place : ℕ) (a : A) → ◌≡◌ {A = Answer A} (refused number place) (accepted a) → ⊥
not_accepted number place a e =
    let z : ◌≡◌ {A = ℕ} 0 1 = cc in
    omega arith

-- a whole sheet that a reader spells
module _ {A : Type 0} {r : Reader A} {X : Type 0} {f : X → A} {p : X → List ℕ} (spells : SpellsTo Ended r X f p) where
  -- each of the texts is accepted as its value
  pub whole_back : (x : X) → answered (r (p x) 0) ≡ accepted (f x)
  unfolding answered
  whole_back x = rw (← append-nil (p x), (spells.back x [] 0 refl).1) refl

  -- what is accepted is one of the texts
  pub whole_only : (s : List ℕ) (a : A) → answered (r s 0) ≡ accepted a → (x : X) × (a ≡ f x) × (s ≡ p x)
  unfolding answered
  whole_only s a e = go (r s 0) refl e
    where
      go : (u : Read A) → r s 0 ≡ u → answered u ≡ accepted a → (x : X) × (a ≡ f x) × (s ≡ p x)
      go (turned_back number place) d e = absurd (not_accepted number place a e)
      go (read b rest place) d e =
          let (x, i, j, h) = spells.only s 0 b rest place d in
          (x, (cc), j ∙ ap (λ t. p x ++ t) h ∙ append-nil (p x))

-- .. and that has every value that follows the rules
module _ {A : Type 0} {r : Reader A} {Rules : A → Type 0} (p : A → List ℕ) (spells : SpellsTo Ended r ((a : A) × Rules a) (λ x. x.0) (λ x. p x.0)) where
  -- what is accepted is the print of its value, which follows the rules
  pub whole_kept : (s : List ℕ) (a : A) → answered (r s 0) ≡ accepted a → (s ≡ p a) × Rules a
  whole_kept s a e =
      let ((b, k), q, d) = whole_only spells s a e in
      rw q (d, k)

  -- "A sheet that keeps every rule of this section, with nothing after its last line, is accepted.", stated without the reader
  pub whole_sheets : (s : List ℕ) → ((a : A) × (answered (r s 0) ≡ accepted a)) ↔ ((a : A) × Rules a × (s ≡ p a))
  whole_sheets s = (λ (a, e). let (d, k) = whole_kept s a e in (a, k, d), λ (a, k, d). (a, rw d (whole_back spells (a, k))))

-- net sheets
pub net_read_back : (net : Net) → NetRules net → read_net (printed_net net) ≡ accepted net
unfolding read_net
net_read_back net kept = whole_back spells_net (net, kept)

pub net_accepted : (s : List ℕ) (net : Net) → read_net s ≡ accepted net → (s ≡ printed_net net) × NetRules net
unfolding read_net
net_accepted = whole_kept printed_net spells_net

pub net_sheets_lem : (s : List ℕ) → ((net : Net) × (read_net s ≡ accepted net)) ↔ ((net : Net) × NetRules net × (s ≡ printed_net net))
unfolding read_net
net_sheets_lem = whole_sheets printed_net spells_net

-- table sheets
pub table_read_back : (t : Table) → TableRules t → read_table (printed_table t) ≡ accepted t
unfolding read_table
table_read_back t kept = whole_back spells_table (t, kept)

pub table_accepted : (s : List ℕ) (t : Table) → read_table s ≡ accepted t → (s ≡ printed_table t) × TableRules t
unfolding read_table
table_accepted = whole_kept printed_table spells_table

pub table_sheets : (s : List ℕ) → ((t : Table) × (read_table s ≡ accepted t)) ↔ ((t : Table) × TableRules t × (s ≡ printed_table t))
unfolding read_table
table_sheets = whole_sheets printed_table spells_table
