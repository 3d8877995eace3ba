-- The examples of docs/REFUSALS.md as one theorem, `refusals_hold` (in proofs/Cases/Refusals): every refusal, 1 to 27, by calls that give it,
-- with its number, its place, and what each buffer lent to the call holds afterwards. They compute, so even a reader who trusts nothing can watch each number
-- come out. The document's examples are exactly these (rust/sitgurp/tests/refusals.rs).
-- Assumes nothing.
use Rattle.std.specs.Prelude.{ℕ, ◌≡◌, true, false, List, [], ◌∷◌, replicate, eqb, ℤ}
use Prim.Native.String.{String}
use Rattle.rules.specs.Text.{text}
use Rattle.rules.specs.Sheets.Sheets.{Net}
use Rattle.rules.specs.Calls.Answers.{Named, accepted, refused, onward, net_named, table_named, neither}
use Rattle.rules.specs.Sheets.Reading.{read_net, read_table}
use Rattle.rules.specs.Calls.OpenCells.{read_full}
use Rattle.rules.specs.Calls.Multiplicity.{multiplicity_call}
use Rattle.rules.specs.Calls.Marking.{marking_call}
use Rattle.rules.specs.Calls.Settling.{settle_call, make_call}
use Rattle.rules.specs.Calls.ShallowSettling.{settle_shallow_call, make_shallow_call}
use Rattle.rules.specs.Calls.FamilyCalls.{family_count_call, family_tree_call}
use Rattle.rules.specs.Calls.Checking.{turned_down, check_call}
use Rattle.rules.specs.Calls.Keeping.{turned_away, keep_call}
use Rattle.rules.specs.Calls.TableWriting.{write_table_call}
use Rattle.rules.specs.Calls.Lister.{listing}
use Rattle.rules.specs.Sheets.ArrivalSheet.{read_arrivals}
use Rattle.rules.specs.Nets.Arrivals.{arrivals_call, arrivals_refused, net_refused}
use Rattle.rules.specs.Sheets.LooseSheet.{read_loose}
use Rattle.rules.specs.Calls.Tidying.{tidy_call}
use Rattle.rules.specs.Calls.Jobs.{Job, empty_job, open_job, step_job, ask_job, finish_job, step, after_moves}
use Rattle.rules.specs.Calls.Glyphs.{glyph_call}
use Rattle.rules.specs.Cases.Written.{paper, digits, letter_names, nines}
use Rattle.rules.specs.Cases.GlyphCases.{signed}

-- ---- what an example says

-- A net sheet that is refused: each call that takes one gives that refusal and changes no buffer, whatever else is lent to it. (Except the shallower
-- of two sheets, which gives no number: `Shallower`.)
pub record NetBack (sheet : List ℕ) (number place : ℕ) : Type 0 where
  pub settling : (cells marks output : List ℕ)
      → settle_call sheet cells marks output ≡ record { answer = refused number place; cells = cells; marks = marks; output = output }
  pub settling_shallow : (cells marks output : List ℕ)
      → settle_shallow_call sheet cells marks output ≡ record { answer = refused number place; cells = cells; marks = marks; output = output }
  pub checking : (table_sheet_lem cells : List ℕ)
      → check_call sheet table_sheet_lem cells ≡ record { answer = turned_down net_named number place; cells = cells }
  pub writing : (output : List ℕ) → write_table_call sheet output ≡ record { answer = refused number place; output = output }
  pub turn : (k : ℕ) → listing sheet k ≡ refused number place
  pub arriving : (arrival_sheet_lem : List ℕ) (delay : ℕ) → arrivals_call sheet arrival_sheet_lem delay ≡ net_refused number place
  pub keeping : (table_sheet_lem cells output : List ℕ)
      → keep_call sheet table_sheet_lem cells output ≡ record { answer = turned_away net_named number place; cells = cells; output = output }
  pub printing : (width height : ℕ) (picture : List ℕ) (offsets : List ℤ) (output : List ℕ)
      → glyph_call sheet width height picture offsets output ≡ record { answer = refused number place; output = output }

-- A table sheet that is refused: the same, and also in a check and in keeping after every accepted net sheet.
pub record TableBack (sheet : List ℕ) (number place : ℕ) : Type 0 where
  pub making : (cells marks output : List ℕ)
      → make_call sheet cells marks output ≡ record { answer = refused number place; cells = cells; marks = marks; output = output }
  pub making_shallow : (cells marks output : List ℕ)
      → make_shallow_call sheet cells marks output ≡ record { answer = refused number place; cells = cells; marks = marks; output = output }
  pub counting : (cells marks : List ℕ) → family_count_call sheet cells marks ≡ record { answer = refused number place; cells = cells; marks = marks }
  pub numbering : (order : ℕ) (cells marks output : List ℕ)
      → family_tree_call sheet order cells marks output ≡ record { answer = refused number place; cells = cells; marks = marks; output = output }
  pub checking : (net_sheet_lem cells : List ℕ) (net : Net) → read_net net_sheet_lem ≡ accepted net
      → check_call net_sheet_lem sheet cells ≡ record { answer = turned_down table_named number place; cells = cells }
  pub opening : open_job sheet ≡ record { job = empty_job; answer = refused number place }
  pub keeping : (net_sheet_lem cells output : List ℕ) (net : Net) → read_net net_sheet_lem ≡ accepted net
      → keep_call net_sheet_lem sheet cells output ≡ record { answer = turned_away table_named number place; cells = cells; output = output }

-- An arrival sheet, for inputs with these names, that is refused: the same after every accepted net sheet with these names, for every delay.
pub record ArrivalsBack (names : List (List ℕ)) (sheet : List ℕ) (number place : ℕ) : Type 0 where
  pub arriving : (net_sheet_lem : List ℕ) (net : Net) (delay : ℕ) → read_net net_sheet_lem ≡ accepted net → net.header.names ≡ names
      → arrivals_call net_sheet_lem sheet delay ≡ arrivals_refused number place

-- A loose table sheet that is refused, whatever else is lent to tidying.
pub record LooseBack (sheet : List ℕ) (number place : ℕ) : Type 0 where
  pub tidying : (cells output : List ℕ) → tidy_call sheet cells output ≡ record { answer = refused number place; cells = cells; output = output }

-- Bare cells that are refused: the same for every group and every marks buffer.
pub record CellsBack (m n : ℕ) (cells : List ℕ) (number place : ℕ) : Type 0 where
  pub counting : (g : ℕ) → multiplicity_call m n cells g ≡ refused number place
  pub marking : (marks : List ℕ) → marking_call m n cells marks ≡ record { answer = refused number place; marks = marks }

-- What is read decides all of these.
pub net_back_lem : {sheet : List ℕ} {number place : ℕ} → read_net sheet ≡ refused number place → NetBack sheet number place
unfolding settle_call settle_shallow_call check_call write_table_call listing onward arrivals_call keep_call glyph_call
net_back_lem e =
    record {
      settling = λ cells marks output. rw (e, settle_call);
      settling_shallow = λ cells marks output. rw (e, settle_shallow_call);
      checking = λ table_sheet_lem cells. rw (e, check_call);
      writing = λ output. rw (e, write_table_call);
      turn = λ k. rw (e, listing);
      arriving = λ arrival_sheet_lem delay. rw (e, arrivals_call);
      keeping = λ table_sheet_lem cells output. rw (e, keep_call);
      printing = λ width height picture offsets output. rw (e, glyph_call);
    }

pub table_back : {sheet : List ℕ} {number place : ℕ} → read_table sheet ≡ refused number place → TableBack sheet number place
unfolding make_call make_shallow_call family_count_call family_tree_call check_call open_job keep_call read_full onward
table_back e =
    record {
      making = λ cells marks output. rw (e, read_full, make_call);
      making_shallow = λ cells marks output. rw (e, read_full, make_shallow_call);
      counting = λ cells marks. rw (e, read_full, family_count_call);
      numbering = λ order cells marks output. rw (e, read_full, family_tree_call);
      checking = λ net_sheet_lem cells net a. rw (a, e, check_call);
      opening = rw (e, read_full, open_job);
      keeping = λ net_sheet_lem cells output net a. rw (a, e, keep_call);
    }

pub arrivals_back_lem : {names : List (List ℕ)} {sheet : List ℕ} {number place : ℕ} → read_arrivals names sheet ≡ refused number place
    → ArrivalsBack names sheet number place
unfolding arrivals_call
arrivals_back_lem e = record { arriving = λ net_sheet_lem net delay a is. rw (a, is, e, arrivals_call) }

pub loose_back : {sheet : List ℕ} {number place : ℕ} → read_loose sheet ≡ refused number place → LooseBack sheet number place
unfolding tidy_call
loose_back e = record { tidying = λ cells output. rw (e, tidy_call) }

-- If two sheets are given, 27 names the table sheet; 12, 13, 15 and 23 name neither.
unfoldable pub named_by : ℕ → Named
named_by number = elim (eqb number 27) [ true ↦ table_named | false ↦ neither ]

-- The job on a sheet after a number of steps.
unfoldable pub job_stepped : String → ℕ → Job
job_stepped sheet steps = after_moves (replicate steps step) (open_job (paper sheet)).job

-- An example, by the call or sheet that it tests. Buffers are given by their lengths, and cells and buffers afterwards by their digits.
pub data Example : Type 0 where
  net : (sheet : String) (number place : ℕ) → Example
  table : (sheet : String) (number place : ℕ) → Example
  bare : (m n : ℕ) (cells : String) (number place : ℕ) → Example
  group : (m n : ℕ) (cells : String) (g number place : ℕ) → Example
  marking : (m n : ℕ) (cells : String) (marks number place : ℕ) → Example
  check : (net_sheet_lem table_sheet_lem : String) (cells number place : ℕ) → Example
  settle : (sheet : String) (cells marks output number place : ℕ) (cells_then : String) (marks_then : List ℕ) → Example
  make : (sheet : String) (cells marks output number place : ℕ) (cells_then : String) (marks_then : List ℕ) → Example
  write : (sheet : String) (output number place : ℕ) → Example
  count : (sheet : String) (cells marks number place : ℕ) (cells_then : String) (marks_then : List ℕ) → Example
  tree : (sheet : String) (order cells marks output number place : ℕ) (cells_then : String) (marks_then : List ℕ) → Example
  arrival : (sheet : String) (number place : ℕ) → Example
  loose : (sheet : String) (number place : ℕ) → Example
  tidy : (sheet : String) (cells output number place : ℕ) (cells_then : String) → Example
  further : (sheet : String) (steps number place : ℕ) → Example
  ask : (sheet : String) (steps g number place : ℕ) → Example
  finish : (sheet : String) (steps cells marks output number place : ℕ) (cells_then : String) (marks_then : List ℕ) → Example
  keep : (net_sheet_lem table_sheet_lem : String) (cells output number place : ℕ) (cells_then : String) → Example
  glyph : (sheet picture offsets : String) (width height output number place : ℕ) → Example

-- The common statement: a call's whole result, its answer and every buffer lent to it.
abbrev pub Comes : Example → Type 0
-- a sheet or bare cells, refused by every call that takes them
Comes (net sheet number place) = NetBack (paper sheet) number place
Comes (table sheet number place) = TableBack (paper sheet) number place
Comes (bare m n inks number place) = CellsBack m n (digits (text inks)) number place
-- multiplicity of a group, which has no buffer; marking
Comes (group m n inks g number place) = multiplicity_call m n (digits (text inks)) g ≡ refused number place
Comes (marking m n inks marks number place) =
    marking_call m n (digits (text inks)) (nines marks) ≡ record { answer = refused number place; marks = nines marks }
-- a check of two accepted sheets, which names neither
Comes (check net_sheet_lem table_sheet_lem cells number place) =
    check_call (paper net_sheet_lem) (paper table_sheet_lem) (nines cells)
    ≡ record { answer = turned_down neither number place; cells = nines cells }
-- settling and making: cells and marks as stated, the output unchanged
Comes (settle sheet cells marks output number place cells_then marks_then) =
    settle_call (paper sheet) (nines cells) (nines marks) (nines output)
    ≡ record {
      answer = refused number place;
      cells = digits (text cells_then);
      marks = marks_then;
      output = nines output;
    }
Comes (make sheet cells marks output number place cells_then marks_then) =
    make_call (paper sheet) (nines cells) (nines marks) (nines output)
    ≡ record {
      answer = refused number place;
      cells = digits (text cells_then);
      marks = marks_then;
      output = nines output;
    }
-- table writing
Comes (write sheet output number place) =
    write_table_call (paper sheet) (nines output) ≡ record { answer = refused number place; output = nines output }
-- the count of the trees, which has no output; the tree of an order number
Comes (count sheet cells marks number place cells_then marks_then) =
    family_count_call (paper sheet) (nines cells) (nines marks)
    ≡ record { answer = refused number place; cells = digits (text cells_then); marks = marks_then }
Comes (tree sheet order cells marks output number place cells_then marks_then) =
    family_tree_call (paper sheet) order (nines cells) (nines marks) (nines output)
    ≡ record {
      answer = refused number place;
      cells = digits (text cells_then);
      marks = marks_then;
      output = nines output;
    }
-- an arrival sheet for the inputs a and b, refused by the one call that takes one
Comes (arrival sheet number place) = ArrivalsBack (letter_names "ab") (paper sheet) number place
-- a loose table sheet, refused by the one call that takes one; tidying, with the cells as stated and the output unchanged
Comes (loose sheet number place) = LooseBack (paper sheet) number place
Comes (tidy sheet cells output number place cells_then) =
    tidy_call (paper sheet) (nines cells) (nines output)
    ≡ record { answer = refused number place; cells = digits (text cells_then); output = nines output }
-- a job after a number of steps: one step further, the mark of a group, finishing; the job comes back unchanged
Comes (further sheet steps number place) =
    step_job (job_stepped sheet steps) ≡ record { job = job_stepped sheet steps; answer = refused number place }
Comes (ask sheet steps g number place) =
    ask_job (job_stepped sheet steps) g ≡ record { job = job_stepped sheet steps; answer = refused number place }
Comes (finish sheet steps cells marks output number place cells_then marks_then) =
    finish_job (job_stepped sheet steps) (nines cells) (nines marks) (nines output)
    ≡ record {
      job = job_stepped sheet steps;
      made = record {
        answer = refused number place;
        cells = digits (text cells_then);
        marks = marks_then;
        output = nines output;
      };
    }
-- a wiring of an accepted net sheet kept for an accepted table sheet: the sheet that is named, cells as stated, the output unchanged
Comes (keep net_sheet_lem table_sheet_lem cells output number place cells_then) =
    keep_call (paper net_sheet_lem) (paper table_sheet_lem) (nines cells) (nines output)
    ≡ record { answer = turned_away (named_by number) number place; cells = digits (text cells_then); output = nines output }
-- a glyph: the output unchanged
Comes (glyph sheet picture offsets width height output number place) =
    glyph_call (paper sheet) width height (digits (text picture)) (signed offsets) (nines output)
    ≡ record { answer = refused number place; output = nines output }

-- every example of a list
infixr 5 ◌and◌
pub data AllCome : List Example → Type 0 where
  none : AllCome []
  ◌and◌ : {e : Example} {examples : List Example} → Comes e → AllCome examples → AllCome (e ∷ examples)

-- ---- the examples of docs/REFUSALS.md, in its order

abbrev pub refusals : List Example
refusals =
    -- 1: a fixed word; an empty field; a separator; a missing end; bytes after the last line
    net "levels input/" 1 7
    ∷ net "levels inputs\r/2 2\r/" 1 7
    ∷ table "levels inputs/2 2/a b c ink/" 1 22
    ∷ net "levels inputs/2  2/" 1 16
    ∷ net "levels inputs/2 2/a/" 1 19
    ∷ net "levels inputs/2 2/a b c/" 1 21
    ∷ net "" 1 0
    ∷ net "levels inputs/2 2/" 1 18
    ∷ net "levels inputs/2 2/a b/left right table/" 1 39
    ∷ net "levels inputs/2 2/a b/left right table/a b 0001" 1 47
    ∷ net "levels inputs/2 2/a b/left right table/a b 0001/a b 0001/" 1 48
    ∷ table "levels inputs/2 2/a b ink/0 0 0/0 1 0/1 0 0/1 1 1/1 1 1/" 1 50
    -- .. and in a loose sheet: a space that starts a line; after the spaces passed, a missing field and a missing line feed; too few rows; a row
    -- beyond the last
    ∷ loose "levels inputs/2 2/ a b ink/" 1 18
    ∷ loose "levels inputs/2 2/a b ink/0 0   /" 1 32
    ∷ loose "levels inputs  2 2/" 1 15
    ∷ loose "levels inputs/2 2/a b ink/1 1 1/0 0 0/" 1 38
    ∷ loose "levels inputs/2 2/a b ink/1 1 1/1 0 0/0 1 0/0 0 0/0 0 0/" 1 50
    -- 2: levels
    ∷ net "levels inputs/1 2/" 2 14
    -- 3: inputs; the number of cells
    ∷ net "levels inputs/2 1/" 3 16
    ∷ net "levels inputs/2 13/" 3 16
    ∷ table "levels inputs/3 8/" 3 16
    -- 4: a name that is malformed; repeated; `ink`
    ∷ net "levels inputs/2 2/a B/" 4 20
    ∷ net "levels inputs/2 2/a a/" 4 20
    ∷ table "levels inputs/2 2/a ink/" 4 20
    -- 5: a row's input level
    ∷ table "levels inputs/2 2/a b ink/0 0 1/1 0 0/" 5 32
    ∷ loose "levels inputs/2 2/a b ink/1 2 0/" 5 28
    -- 6: an ink; a gate's table
    ∷ table "levels inputs/2 2/a b ink/0 0 2/" 6 30
    ∷ table "levels inputs/2 2/a b ink/0 0 --/" 6 30
    ∷ net "levels inputs/2 2/a b/left right table/a b 000/" 6 43
    ∷ net "levels inputs/2 2/a b/left right table/a b 0002/" 6 43
    -- 7: a gate that is not earlier; no input
    ∷ net "levels inputs/2 2/a b/left right table/1 a 0001/" 7 39
    ∷ net "levels inputs/2 2/a b/left right table/a c 0001/" 7 41
    -- 8: an input used before; a gate used before
    ∷ net "levels inputs/2 2/a b/left right table/a a 0001/" 8 41
    ∷ net "levels inputs/2 3/a b c/left right table/a b 0001/1 1 0001/" 8 52
    -- 9: the number of cells; levels; inputs
    ∷ bare 2 2 "011" 9 0
    ∷ bare 1 2 "0" 9 0
    ∷ bare 2 1 "01" 9 0
    ∷ bare 2 13 "01" 9 0
    ∷ finish "levels inputs/2 2/a b b ink/" 0 4 4 48 9 0 "9999" (nines 4)
    -- 10: a cell above m
    ∷ bare 2 2 "0113" 10 3
    -- 11: the group
    ∷ group 2 2 "0111" 4 11 0
    ∷ group 2 2 "0111" 0 11 0
    ∷ ask "levels inputs/2 2/a b ink/0 0 0/0 1 0/1 0 0/1 1 1/" 1 4 11 0
    -- 12: names, inputs, levels that differ
    ∷ check "levels inputs/2 2/a b/left right table/a b 0001/" "levels inputs/2 2/b a ink/0 0 0/0 1 0/1 0 0/1 1 1/" 4 12 0
    ∷ check "levels inputs/2 3/a b c/left right table/a b 0001/1 c 0001/" "levels inputs/2 2/a b ink/0 0 0/0 1 0/1 0 0/1 1 1/" 4 12 0
    ∷ check "levels inputs/3 2/a b/left right table/a b 000011012/" "levels inputs/2 2/a b ink/0 0 0/0 1 0/1 0 0/1 1 1/" 0 12 0
    ∷ keep "levels inputs/2 2/a b/left right table/a b 0001/" "levels inputs/2 2/b a ink/0 0 0/0 1 0/1 0 0/1 1 1/" 4 48 12 0 "9999"
    -- 13: the cells buffer
    ∷ settle "levels inputs/2 2/a b/left right table/a b 0001/" 3 1 48 13 4 "999" (nines 1)
    ∷ make "levels inputs/2 2/a b ink/0 0 0/0 1 0/1 0 0/1 1 1/" 3 0 0 13 4 "999" []
    ∷ check "levels inputs/2 2/a b/left right table/a b 0001/" "levels inputs/2 2/a b ink/0 0 0/0 1 0/1 0 0/1 1 1/" 3 13 4
    ∷ count "levels inputs/2 2/a b ink/0 0 0/0 1 0/1 0 0/1 1 1/" 3 0 13 4 "999" []
    ∷ tidy "levels inputs/2 2/a b ink/1 1 1/1 0 0/0 1 0/0 0 0/" 3 50 13 4 "999"
    ∷ keep "levels inputs/2 3/a b c/left right table/a b 0001/1 c 0111/"
    "levels inputs/2 3/a b c ink/0 0 0 0/0 0 1 0/0 1 0 0/0 1 1 1/1 0 0 0/1 0 1 1/1 1 0 1/1 1 1 1/" 7 60 13 8 "9999999"
    -- 14: the marks buffer
    ∷ settle "levels inputs/2 2/a b/left right table/a b 0001/" 4 0 48 14 1 "9999" []
    ∷ tree "levels inputs/2 2/a b ink/0 0 0/0 1 0/1 0 0/1 1 1/" 1 4 0 0 14 1 "9999" []
    ∷ marking 2 4 "0101011001101010" 3 14 4
    -- 15: the output
    ∷ settle "levels inputs/2 2/a b/left right table/a b 0001/" 5 3 47 15 48 "00019" (0xa8 ∷ 9 ∷ 9 ∷ [])
    ∷ write "levels inputs/2 2/a b/left right table/a b 0001/" 49 15 50
    ∷ tree "levels inputs/2 2/a b ink/0 0 0/0 1 0/1 0 0/1 1 1/" 0 4 1 47 15 48 "0001" (0xa8 ∷ [])
    ∷ tidy "levels inputs/2 2/a b ink/1 1 1/1 0 0/0 1 0/0 0 0/" 5 49 15 50 "00019"
    ∷ keep "levels inputs/2 2/a b/left right table/a b 0001/" "levels inputs/2 2/a b ink/0 0 0/0 1 1/1 0 1/1 1 1/" 5 47 15 48 "01119"
    ∷ glyph "levels inputs/2 2/a b/left right table/a b 0110/" "01 11" "0 0 -1 0" 2 2 3 15 4
    -- 16: no tree, whatever the output; the whole group has mark 1 too, but more members. (`Accepted` has a place where fewest members and lowest
    -- number differ.)
    ∷ make "levels inputs/2 3/a b c ink/0 0 0 0/0 0 1 0/0 1 0 0/0 1 1 1/1 0 0 0/1 0 1 1/1 1 0 1/1 1 1 1/" 9 3 0 16 7 "000101119" (0x28 ∷ 0x42 ∷ 9 ∷ [])
    ∷ make
    "levels inputs/2 4/a b c d ink/0 0 0 0 0/0 0 0 1 1/0 0 1 0 0/0 0 1 1 1/0 1 0 0 0/0 1 0 1 1/0 1 1 0 1/0 1 1 1 0/1 0 0 0 0/1 0 0 1 1/1 0 1 0 1/1 0 1 1 0/1 1 0 0 1/1 1 0 1 0/1 1 1 0 1/1 1 1 1 0/"
    16 4 70 16 7 "0101011001101010" (0x28 ∷ 0x42 ∷ 0x02 ∷ 0x40 ∷ [])
    -- 17: three trees, 0 to 2; a number past them, whatever the output; no tree, so not even number 0
    ∷ tree "levels inputs/2 3/a b c ink/0 0 0 0/0 0 1 1/0 1 0 1/0 1 1 0/1 0 0 1/1 0 1 0/1 1 0 0/1 1 1 1/" 3 8 3 60 17 3 "01101001" (0xa8 ∷ 0xaa ∷ 9 ∷ [])
    ∷ tree "levels inputs/2 3/a b c ink/0 0 0 0/0 0 1 1/0 1 0 1/0 1 1 0/1 0 0 1/1 0 1 0/1 1 0 0/1 1 1 1/" 1000000007 9 2 0 17 1000000007 "011010019"
    (0xa8 ∷ 0xaa ∷ [])
    ∷ tree "levels inputs/2 3/a b c ink/0 0 0 0/0 0 1 0/0 1 0 0/0 1 1 1/1 0 0 0/1 0 1 1/1 1 0 1/1 1 1 1/" 0 8 2 0 17 0 "00010111" (0x28 ∷ 0x42 ∷ [])
    -- 18: a name that is not the next input's
    ∷ arrival "name from to/b 0 0/" 18 13
    ∷ arrival "name from to/a 0 0/a 0 0/" 18 19
    -- 19: a needless zero; no number; above 65,535; a `to` below its `from`
    ∷ arrival "name from to/a 07 8/" 19 15
    ∷ arrival "name from to/a 1.5 2/" 19 15
    ∷ arrival "name from to/a 0 65536/" 19 17
    ∷ arrival "name from to/a 8 7/" 19 17
    -- 20: an assignment of an earlier row, whatever the ink; with no ink
    ∷ loose "levels inputs/2 2/a b ink/1 1 1/0 0 0/1 1 1/" 20 38
    ∷ loose "levels inputs/2 2/a b ink/1 1 1/1 1  /" 20 32
    -- 21: a job that is done; the empty job, returned with a refusal, is done from the start
    ∷ further "levels inputs/2 2/a b ink/0 0 0/0 1 0/1 0 0/1 1 1/" 3 21 0
    ∷ further "levels inputs/2 2/a b b ink/" 0 21 0
    -- 22: a job that is not done, whatever the buffers
    ∷ finish "levels inputs/2 2/a b ink/0 0 0/0 1 0/1 0 0/1 1 1/" 0 4 4 48 22 3 "9999" (nines 4)
    ∷ finish "levels inputs/2 2/a b ink/0 0 0/0 1 0/1 0 0/1 1 1/" 2 0 0 0 22 1 "" []
    -- 23: three classes of a and b, whatever the output; of a, b and c, at the second gate
    ∷ keep "levels inputs/2 3/a b c/left right table/a b 0001/1 c 0111/"
    "levels inputs/2 3/a b c ink/0 0 0 0/0 0 1 0/0 1 0 0/0 1 1 1/1 0 0 0/1 0 1 1/1 1 0 1/1 1 1 1/" 9 0 23 1 "000101119"
    ∷ keep "levels inputs/2 4/a b c d/left right table/a b 0110/c 1 0001/2 d 0001/"
    "levels inputs/2 4/a b c d ink/0 0 0 0 0/0 0 0 1 0/0 0 1 0 0/0 0 1 1 1/0 1 0 0 0/0 1 0 1 1/0 1 1 0 1/0 1 1 1 1/1 0 0 0 0/1 0 0 1 1/1 0 1 0 1/1 0 1 1 1/1 1 0 0 0/1 1 0 1 0/1 1 1 0 0/1 1 1 1 1/" 16 80 23 2 "0001011101110001"
    -- .. and an input that matters but is left out, at place 0, before the gates
    ∷ keep "levels inputs/2 3/a b c/left right table/a b 0001/"
    "levels inputs/2 3/a b c ink/0 0 0 0/0 0 1 0/0 1 0 0/0 1 1 1/1 0 0 0/1 0 1 1/1 1 0 1/1 1 1 1/" 9 50 23 0 "000101119"
    -- 24: a side of 0; of 65; the number of cells; a cell's level
    ∷ glyph "levels inputs/2 2/a b/left right table/a b 0110/" "" "0 0 -1 0" 0 2 4 24 0
    ∷ glyph "levels inputs/2 2/a b/left right table/a b 0110/" "00000000000000000000000000000000000000000000000000000000000000000" "0 0 -1 0" 65 1 65 24 0
    ∷ glyph "levels inputs/2 2/a b/left right table/a b 0110/" "01 1" "0 0 -1 0" 2 2 4 24 0
    ∷ glyph "levels inputs/2 2/a b/left right table/a b 0110/" "01 12" "0 0 -1 0" 2 2 4 24 0
    -- 25: one missing; one too many; one too far
    ∷ glyph "levels inputs/2 2/a b/left right table/a b 0110/" "01 11" "0 0 -1" 2 2 4 25 0
    ∷ glyph "levels inputs/2 2/a b/left right table/a b 0110/" "01 11" "0 0 -1 0 0" 2 2 4 25 0
    ∷ glyph "levels inputs/2 2/a b/left right table/a b 0110/" "01 11" "0 0 -3 0" 2 2 4 25 0
    ∷ glyph "levels inputs/2 2/a b/left right table/a b 0110/" "01 11" "0 0 0 3" 2 2 4 25 0
    -- 26: an earlier gate that is never used; the first of three gates; judged last, so a reference used before comes first
    ∷ net "levels inputs/2 4/a b c d/left right table/a b 0001/c d 0001/" 26 61
    ∷ net "levels inputs/2 5/a b c d e/left right table/a b 0001/c d 0001/2 e 0001/" 26 72
    ∷ net "levels inputs/2 5/a b c d e/left right table/a b 0001/c d 0001/e a 0001/" 8 65
    -- 27: an open cell, among bare cells after 10; in a sheet before any buffer; in keeping after 12; a job refused with 27 is the empty one
    ∷ bare 2 2 "0122" 27 2
    ∷ bare 2 2 "2223" 10 3
    ∷ make "levels inputs/2 2/a b ink/0 0 0/0 1 -/1 0 -/1 1 1/" 4 1 48 27 1 "9999" (nines 1)
    ∷ count "levels inputs/2 2/a b ink/0 0 -/0 1 0/1 0 0/1 1 1/" 0 0 27 0 "" []
    ∷ tree "levels inputs/2 2/a b ink/0 0 0/0 1 0/1 0 0/1 1 -/" 9 0 0 0 27 3 "" []
    ∷ keep "levels inputs/2 2/a b/left right table/a b 0001/" "levels inputs/2 2/a b ink/0 0 0/0 1 -/1 0 0/1 1 1/" 0 0 27 1 ""
    ∷ finish "levels inputs/2 2/a b ink/0 0 0/0 1 -/1 0 0/1 1 1/" 0 4 4 48 9 0 "9999" (nines 4)
    ∷ []
