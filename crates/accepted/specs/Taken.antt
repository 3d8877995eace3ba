-- A sheet that was read, by value: its refusal, or its parts and what the calls on them require.
-- Assumes nothing.
use Rattle.std.specs.Prelude.{◌<◌, ◌≤◌, ◌-◌, ◌^◌, ◌≡◌, Result, Ok, Err}
use Rattle.laws.specs.Prelude.{ℕ, ◌∙◌, sym, ap, ap₂, subst⁻¹, List, sub-zero, one-le-pow, arith, length, take}
use Rattle.rules.specs.Limits.{most_cells}
use Rattle.rules.specs.Sheets.Sheets.{Gate}
use Rattle.rules.specs.Sheets.SheetRules.{NetRules, TableRules, FullTable, IsNet}
use Rattle.rules.specs.Nets.Value.{table_of}
use Rattle.rules.specs.Calls.Answers.{accepted, refused}
use Rattle.rules.specs.Sheets.Reading.{read_net, read_table, table_of_net}
use Rattle.rules.specs.Calls.OpenCells.{read_full}
use Rattle.laws.specs.Calls.OpenCells.{read_accepted, table_full}
use Rattle.laws.specs.Numbers.Sizes.{Size, sized}
use Rattle.trees.specs.Trees.Uniqueness.{net_table_length}
use Rattle.nets.specs.declared.forms.Header.{Header}
use Rattle.nets.specs.declared.forms.Net.{Net}
use Rattle.nets.specs.Forms.{header_of, gates_of, net_in, table_in}
use Rattle.nets.specs.Sound.{Sound}
use Rattle.nets.specs.Evaluating.{Tabled}
use Rattle.fields.specs.Header.FirstLines.{HeaderHeld}
use Rattle.answers.specs.AnswerMaps.{answer_as, refused_by}
use Rattle.answers.specs.declared.refusal.Refusal.{Refusal}
use Rattle.net_sheets.specs.Reader.NetReading.{NetReads}
use Rattle.net_sheets.specs.declared.reader.net.NetRead.{NetRead}
use Rattle.table_reader.specs.TableReading.{TableReads, inks_in}
use Rattle.table_reader.specs.Full.{FullReads}
use Rattle.net_sheets.specs.Text.Names.{NamesInside}
use Rattle.readback.specs.Sheets.ReadBack.{net_accepted, table_accepted}
use Rattle.trees.specs.Trees.NetTables.{kept_table, net_full}

-- the header and the net of an accepted net sheet
pub record NetTaken (s : List ℕ) (h : Header) (net : Net) : Type 0 where
  pub reads : read_net s ≡ accepted (net_in s h net)
  pub header : HeaderHeld s h
  pub levels : net.levels ≡ h.levels
  pub inputs : net.inputs ≡ h.inputs

-- the header of an accepted table sheet, whose inks are at the front of `cells`
pub record TableTaken (s : List ℕ) (h : Header) (cells : List ℕ) : Type 0 where
  pub reads : read_table s ≡ accepted (table_in s h (inks_in cells h))
  pub header : HeaderHeld s h

-- the same for a sheet of a full table
pub record FullTaken (s : List ℕ) (h : Header) (cells : List ℕ) : Type 0 where
  pub reads : read_full s ≡ accepted (table_in s h (inks_in cells h))
  pub header : HeaderHeld s h

-- the table made of the header's names in the sheet s and the inks keeps the rules and is full, and the names are in the sheet
pub record Given (s : List ℕ) (h : Header) (inks : List ℕ) : Type 0 where
  pub names : NamesInside s h
  pub kept : TableRules (table_in s h inks)
  pub full : FullTable (table_in s h inks)

-- ---- the results of reading

module _ (s : List ℕ) (r : Result NetRead Refusal) (reads : NetReads s r) where
  pub net_taken : (read : NetRead) → r ≡ Ok read → NetTaken s read.header read.net
  net_taken read e =
      let held = reads.held read e in
      record {
        reads = sym reads.answer ∙ ap (answer_as _) e;
        header = held.header;
        levels = held.whole.levels;
        inputs = held.whole.inputs;
      }

  pub net_refused_lem : (e : Refusal) → r ≡ Err e → read_net s ≡ refused_by e
  net_refused_lem e is = sym reads.answer ∙ ap (answer_as _) is

module _ (s cells : List ℕ) (r : Result Header Refusal) (reads : TableReads s cells r) where
  pub table_taken : (h : Header) → r ≡ Ok h → TableTaken s h cells
  table_taken h e = record { reads = sym reads.answer ∙ ap (answer_as _) e; header = (reads.held h e).header }

  pub read_table_refused : (e : Refusal) → r ≡ Err e → read_table s ≡ refused_by e
  read_table_refused e is = sym reads.answer ∙ ap (answer_as _) is

module _ (s cells : List ℕ) (r : Result Header Refusal) (reads : FullReads s cells r) where
  pub full_taken : (h : Header) → r ≡ Ok h → FullTaken s h cells
  full_taken h e = record { reads = sym reads.answer ∙ ap (answer_as _) e; header = (reads.held h e).header }

  pub read_full_refused : (e : Refusal) → r ≡ Err e → read_full s ≡ refused_by e
  read_full_refused e is = sym reads.answer ∙ ap (answer_as _) is

-- ---- what the calls require

module _ (s : List ℕ) (h : Header) (held : HeaderHeld s h) where
  pub held_size : Size h.levels h.inputs
  held_size = sized h.levels h.inputs held.fits

  pub names_inside : NamesInside s h
  names_inside = record { some = omega (arith, held_size.inputs_least); count = held_size.inputs_most; inside = held.names }

  pub cells_some : 0 < h.levels ^ h.inputs
  cells_some = one-le-pow _ _ (omega (arith, held_size.levels_least))

is_net : {m m' n n' : ℕ} {gates : List Gate} → m ≡ m' → n ≡ n' → IsNet m' n' gates → IsNet m n gates
is_net e q h = rw (e, q) h

-- a net
module _ (s : List ℕ) (h : Header) (net : Net) (taken : NetTaken s h net) where
  kept : NetRules (net_in s h net)
  kept = (net_accepted s (net_in s h net) taken.reads).1

  pub sound : Sound net
  unfolding header_of
  sound = record { size = rw (taken.levels, taken.inputs) taken.header.fits; gates = is_net taken.levels taken.inputs kept.gates }

  pub own_cells : net.levels ^ net.inputs ≡ h.levels ^ h.inputs
  own_cells = ap₂ ◌^◌ taken.levels taken.inputs

  pub own_most : net.levels ^ net.inputs ≤ most_cells
  own_most = rw own_cells (held_size s h taken.header).cells_most

  own_inks : table_of net.levels net.inputs (gates_of net) ≡ (table_of_net (net_in s h net)).inks
  unfolding table_of_net header_of
  own_inks = λ i. table_of (taken.levels i) (taken.inputs i) (gates_of net)

  pub own_length : length (table_of_net (net_in s h net)).inks ≡ h.levels ^ h.inputs
  unfolding table_of_net header_of
  own_length = net_table_length h.levels h.inputs (gates_of net)

  -- its table, written to the front of a buffer
  module _ (before after : List ℕ) (all count : ℕ) (did : Tabled net before after all) (is : count ≡ h.levels ^ h.inputs) where
    pub front : take (count - 0) after ≡ (table_of_net (net_in s h net)).inks
    front = ap (λ (k : ℕ). take k after) (sub-zero count ∙ is ∙ sym own_cells ∙ sym did.result) ∙ did.front ∙ own_inks

    pub front_length : length (take (count - 0) after) ≡ count
    front_length = ap length front ∙ own_length ∙ sym is

    pub front_table : table_in s h (take (count - 0) after) ≡ table_of_net (net_in s h net)
    unfolding table_of_net
    front_table = ap (table_in s h) front

    pub front_given : Given s h (take (count - 0) after)
    front_given =
        record {
          names = names_inside s h taken.header;
          kept = subst⁻¹ TableRules front_table (kept_table (net_in s h net) kept);
          full = subst⁻¹ FullTable front_table (net_full (net_in s h net) kept);
        }

-- a table, at the front of its buffer
module _ (s : List ℕ) (h : Header) (cells : List ℕ) (count : ℕ) (is : count ≡ h.levels ^ h.inputs) where
  pub inks_front : take (count - 0) cells ≡ inks_in cells h
  inks_front = ap (λ (k : ℕ). take k cells) (sub-zero count ∙ is)

  pub inks_table : table_in s h (take (count - 0) cells) ≡ table_in s h (inks_in cells h)
  inks_table = ap (table_in s h) inks_front

  -- the names may be those of another sheet with the same header
  module _ (sheet : List ℕ) where
    pub inks_kept : read_table sheet ≡ accepted (table_in s h (inks_in cells h)) → TableRules (table_in s h (take (count - 0) cells))
    inks_kept reads = subst⁻¹ TableRules inks_table (table_accepted sheet (table_in s h (inks_in cells h)) reads).1

    pub inks_full : read_full sheet ≡ accepted (table_in s h (inks_in cells h)) → HeaderHeld s h → Given s h (take (count - 0) cells)
    inks_full full_reads held =
        let t = table_in s h (inks_in cells h) in
        let (reads, on) = read_accepted sheet t full_reads in
        let keeps = (table_accepted sheet t reads).1 in
        record { names = names_inside s h held; kept = inks_kept reads; full = subst⁻¹ FullTable inks_table (table_full t keeps on) }

  pub inks_given : FullTaken s h cells → Given s h (take (count - 0) cells)
  inks_given taken = inks_full s taken.reads taken.header
