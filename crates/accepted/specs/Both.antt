-- The two sheets of a call, a net sheet and a table sheet: which one is refused and why, or the net and the table under one header.
-- Assumes nothing.
use Rattle.std.specs.Prelude.{◌≤◌, ◌-◌, ◌^◌, ◌≡◌, Result, Ok, Err}
use Rattle.laws.specs.Prelude.{ℕ, ◌∙◌, sym, ap, subst, refl, true, false, Bool, not, List, arith, length, take, length-take, not-true, not-false}
use Rattle.rules.specs.Sheets.Sheets as sheets
use Rattle.rules.specs.Sheets.Sheets.{Table}
use Rattle.rules.specs.Sheets.SheetRules.{TableRules}
use Rattle.rules.specs.Sheets.Reading.{read_net, read_table}
use Rattle.rules.specs.Calls.Answers as answers
use Rattle.rules.specs.Calls.Answers.{Answer, accepted, refused, net_named, table_named, neither}
use Rattle.rules.specs.Calls.Checking.{same_header}
use Rattle.laws.specs.Calls.Checking.{header_same}
use Rattle.nets.specs.declared.forms.Header.{Header}
use Rattle.nets.specs.declared.forms.Net.{Net}
use Rattle.nets.specs.Forms.{header_of, table_in, net_in}
use Rattle.answers.specs.AnswerMaps.{named_of, refused_by}
use Rattle.answers.specs.Kinds.{number_of}
use Rattle.answers.specs.declared.named.Named.{Named}
use Rattle.answers.specs.declared.named.Named.TheVariants as named
use Rattle.answers.specs.declared.named.SheetRefusal.{SheetRefusal}
use Rattle.answers.specs.declared.refusal.Kind.TheVariants as kinds
use Rattle.answers.specs.declared.refusal.Refusal.{Refusal}
use Rattle.net_sheets.specs.declared.reader.net.NetRead.{NetRead}
use Rattle.table_reader.specs.TableReading.{inks_in}
use Rattle.accepted.specs.Taken.{NetTaken, TableTaken, inks_kept}

pub data Pair : Type 0 where
  pair : sheets.Net → Table → Pair
  turned_back : answers.Named → ℕ → ℕ → Pair

-- "A call that refuses either of two sheets judges the net first, and names the sheet it refuses" (document 01). 12: the sheets differ in m, n or
-- names; it names neither.
unfoldable pub read_both : List ℕ → List ℕ → Pair
read_both net_sheet_lem table_sheet_lem =
    elim (read_net net_sheet_lem) [
      | refused number place ↦ turned_back net_named number place
      | accepted net ↦ elim (read_table table_sheet_lem) [
        | refused number place ↦ turned_back table_named number place
        | accepted t ↦ elim (same_header net.header t.header) [ false ↦ turned_back neither 12 0 | true ↦ pair net t ]
      ]
    ]

-- ---- the result of reading both

abbrev pub turned_by : SheetRefusal → Pair
turned_by e = turned_back (named_of e.named) (number_of e.refusal.kind) e.refusal.place

abbrev pub pairing_as : (NetRead → Pair) → Result NetRead SheetRefusal → Pair
pairing_as both (Ok read) = both read
pairing_as both (Err e) = turned_by e

-- the header of two accepted sheets and the net; the table's inks are at the front of `inks`
pub record BothTaken (s t : List ℕ) (h : Header) (net : Net) (inks : List ℕ) : Type 0 where
  pub own : NetTaken s h net
  pub table : read_table t ≡ accepted (table_in s h (inks_in inks h))

-- the net sheet s and the table sheet with the same header, in the definitions
abbrev pub pair_of : List ℕ → List ℕ → NetRead → Pair
pair_of s inks read = pair (net_in s read.header read.net) (table_in s read.header (inks_in inks read.header))

pub record BothReads (s t inks : List ℕ) (r : Result NetRead SheetRefusal) : Type 0 where
  pub answer : pairing_as (pair_of s inks) r ≡ read_both s t
  pub held : (read : NetRead) → r ≡ Ok read → BothTaken s t read.header read.net inks

module _ (s t inks : List ℕ) where
  turned : (e : SheetRefusal) → read_both s t ≡ turned_by e → BothReads s t inks (Err e)
  turned e is = record { answer = sym is; held = λ read q. never read q }
    where
      never : (read : NetRead) → ◌≡◌ {A = Result NetRead SheetRefusal} (Err e) (Ok read) → BothTaken s t read.header read.net inks
      never read q = let z : ◌≡◌ {A = ℕ} 0 1 = cc in absurd (omega arith)

  pub both_net_refused : (e : Refusal) → read_net s ≡ refused_by e → BothReads s t inks (Err (record { named = named.Net; refusal = e }))
  unfolding read_both
  both_net_refused e is = turned _ (rw (is, read_both))

  module _ (h : Header) (net : Net) (taken : NetTaken s h net) where
    pub both_table_refused : (e : Refusal) → read_table t ≡ refused_by e → BothReads s t inks (Err (record { named = named.Table; refusal = e }))
    unfolding read_both
    both_table_refused e is = turned _ (rw (taken.reads, is, read_both))

    -- the comparison of the headers
    module _ (k : Header) (other : TableTaken t k inks) (same : Bool) (told : same ≡ same_header (header_of s h) (header_of t k)) where
      pub both_differ : not same ≡ true
          → BothReads s t inks (Err (record { named = named.Neither; refusal = record { kind = kinds.HeadersDiffer; place = 0 } }))
      unfolding read_both
      both_differ e =
          let apart : same_header (header_of s h) (header_of t k) ≡ false = sym told ∙ not-true same e in
          turned _ (rw (taken.reads, other.reads, apart, read_both))

      pub both_accepted : not same ≡ false → BothReads s t inks (Ok (record { header = h; net = net }))
      unfolding read_both header_of
      both_accepted e =
          let alike : same_header (header_of s h) (header_of t k) ≡ true = sym told ∙ not-false same e in
          let one : header_of t k ≡ header_of s h = sym (header_same (header_of s h) (header_of t k) alike) in
          let table : table_in t k (inks_in inks k) ≡ table_in s h (inks_in inks h) =
          λ i. record { header = one i; inks = take ((one i).levels ^ (one i).inputs) inks } in
          let reads : read_both s t ≡ pair (net_in s h net) (table_in t k (inks_in inks k)) = rw (taken.reads, other.reads, alike, read_both) in
          let both : BothTaken s t h net inks = record { own = taken; table = other.reads ∙ ap accepted table } in
          record {
            answer = ap (pair (net_in s h net)) (sym table) ∙ sym reads;
            held = λ read q. subst (λ (x : NetRead). BothTaken s t x.header x.net inks) (the_read read q) both;
          }
        where
          the_read : (read : NetRead) → ◌≡◌ {A = Result NetRead SheetRefusal} (Ok (record { header = h; net = net })) (Ok read)
              → record { header = h; net = net } ≡ read
          the_read read q = cc

-- ---- a call on two sheets

-- the result of a call that continues with both sheets, or refuses as reading them does
unfoldable pub on_both : {A : Type 0} → (answers.Named → ℕ → ℕ → A) → (sheets.Net → Table → A) → Pair → A
on_both refusal onward (pair net t) = onward net t
on_both refusal onward (turned_back who number place) = refusal who number place

-- its laws
pub record Judges {A : Type 0} (s t : List ℕ) (refusal : answers.Named → ℕ → ℕ → A) (onward : sheets.Net → Table → A) (call : A) : Type 0 where
  pub net_back_lem : (number place : ℕ) → read_net s ≡ refused number place → call ≡ refusal net_named number place
  pub table_back : (net : sheets.Net) → read_net s ≡ accepted net → (number place : ℕ) → read_table t ≡ refused number place
      → call ≡ refusal table_named number place
  pub goes_on : (net : sheets.Net) → read_net s ≡ accepted net → (table : Table) → read_table t ≡ accepted table → call ≡ onward net table
  pub differ : (net : sheets.Net) (table : Table) → same_header net.header table.header ≡ false → onward net table ≡ refusal neither 12 0

module _ {A : Type 0} (s t : List ℕ) (refusal : answers.Named → ℕ → ℕ → A) (onward : sheets.Net → Table → A) (call : A)
    (judges : Judges s t refusal onward call) where
  by_both : on_both refusal onward (read_both s t) ≡ call
  unfolding read_both on_both
  by_both = go (read_net s) refl (read_table t) refl
    where
      go : (a : Answer sheets.Net) → read_net s ≡ a → (b : Answer Table) → read_table t ≡ b → on_both refusal onward (read_both s t) ≡ call
      go (refused number place) d b e = rw (d, read_both) (sym (judges.net_back_lem number place d))
      go (accepted net) d (refused number place) e = rw (d, e, read_both) (sym (judges.table_back net d number place e))
      go (accepted net) d (accepted table) e = headers (same_header net.header table.header) refl
        where
          headers : (same : Bool) → same_header net.header table.header ≡ same → on_both refusal onward (read_both s t) ≡ call
          headers true h = rw (d, e, h, read_both) (sym (judges.goes_on net d table e))
          headers false h = rw (d, e, h, read_both) (sym (judges.goes_on net d table e ∙ judges.differ net table h))

  module _ (inks : List ℕ) (r : Result NetRead SheetRefusal) (reads : BothReads s t inks r) where
    pub both_turned : (e : SheetRefusal) → r ≡ Err e → refusal (named_of e.named) (number_of e.refusal.kind) e.refusal.place ≡ call
    unfolding on_both
    both_turned e is = ap (on_both refusal onward) (ap (pairing_as _) (sym is) ∙ reads.answer) ∙ by_both

    pub both_onward : (read : NetRead) → r ≡ Ok read
        → onward (net_in s read.header read.net) (table_in s read.header (inks_in inks read.header)) ≡ call
    unfolding on_both
    both_onward read is = ap (on_both refusal onward) (ap (pairing_as _) (sym is) ∙ reads.answer) ∙ by_both

-- ---- the inks of two accepted sheets

module _ (s t : List ℕ) (h : Header) (net : Net) (inks : List ℕ) (taken : BothTaken s t h net inks) (count : ℕ) (is : count ≡ h.levels ^ h.inputs) where
  pub both_kept : TableRules (table_in s h (take (count - 0) inks))
  both_kept = inks_kept s h inks count is t taken.table

  pub both_length : length (take (count - 0) inks) ≡ count
  unfolding header_of
  both_length = both_kept.count ∙ sym is

  -- the buffer holds all inks
  pub both_long : count ≤ length inks
  both_long = omega (arith, both_length, length-take (count - 0) inks)
