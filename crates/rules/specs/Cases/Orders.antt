-- Documents 01 and 02: what is judged first. Inputs with several faults at once, and the one refusal that each gets.
-- Assumes nothing.
use Rattle.std.specs.Prelude.{ℕ, ◌≡◌, refl, [], ◌∷◌, ◌++◌}
use Rattle.rules.specs.Text.{newline, text}
use Rattle.rules.specs.Sheets.Sheets.{Net, Table}
use Rattle.rules.specs.Sheets.Printed.{printed_net, printed_table}
use Rattle.rules.specs.Calls.Answers.{refused, net_named, table_named, neither}
use Rattle.rules.specs.Sheets.Reading.{read_net}
use Rattle.rules.specs.Calls.Multiplicity.{multiplicity_call}
use Rattle.rules.specs.Calls.Settling.{settle_call, make_call}
use Rattle.rules.specs.Calls.FamilyCalls.{family_count_call, family_tree_call}
use Rattle.rules.specs.Calls.Checking.{turned_down, check_call}
use Rattle.rules.specs.Calls.Keeping.{turned_away, keep_call}
use Rattle.rules.specs.Nets.Arrivals.{net_refused, arrivals_refused, arrivals_call}
use Rattle.rules.specs.Calls.Tidying.{tidy_call}
use Rattle.rules.specs.Calls.Glyphs.{glyph_call}
use Rattle.rules.specs.Cases.Written.{nines, writing}
use Rattle.rules.specs.Evaluation.{computing}

-- ---- a sheet

-- "Otherwise the field is judged, then the byte after it.": a malformed name, with a line feed where a space is due
pub field_before_byte : read_net (text "levels inputs" ++ newline ∷ (text "2 2" ++ newline ∷ (text "A" ++ newline ∷ []))) ≡ refused 4 18
unfolding computing
field_before_byte = refl

-- ---- bare cells

-- 9 before 10 and 11: one cell where four are due, above m, and group 0
pub length_before_cell : multiplicity_call 2 2 (3 ∷ []) 0 ≡ refused 9 0
unfolding computing
length_before_cell = refl

-- 10 before 11: a cell above m, and group 0
pub cell_before_group : multiplicity_call 2 2 (0 ∷ 3 ∷ 0 ∷ 0 ∷ []) 0 ≡ refused 10 1
unfolding computing
cell_before_group = refl

-- 27 "for bare cells between 10 and 11": an open cell before one above m; an open cell, and group 0
pub above_before_open : multiplicity_call 2 2 (2 ∷ 0 ∷ 3 ∷ 0 ∷ []) 1 ≡ refused 10 2
unfolding computing
above_before_open = refl

pub open_before_group : multiplicity_call 2 2 (0 ∷ 2 ∷ 0 ∷ 2 ∷ []) 0 ≡ refused 27 1
unfolding computing
open_before_group = refl

-- ---- settling and making: "Judged in this order after the input": 13, 14, 16, 15

-- the ink is 1 when at least two of a, b and c are 1: no tree
unfoldable pub no_tree : Table
no_tree =
    record { header = record { levels = 2; inputs = 3; names = text "a" ∷ text "b" ∷ text "c" ∷ [] }; inks = 0 ∷ 0 ∷ 0 ∷ 1 ∷ 0 ∷ 1 ∷ 1 ∷ 1 ∷ [] }

-- one gate
unfoldable pub one_gate_net : Net
one_gate_net =
    record {
      header = record { levels = 2; inputs = 2; names = text "a" ∷ text "b" ∷ [] };
      gates =
          record { left = 0; right = 1; digits = 0 ∷ 0 ∷ 0 ∷ 1 ∷ [] } ∷ [];
    }

-- all three buffers empty, and no tree
pub cells_before_marks : make_call (printed_table no_tree) [] [] [] ≡ record { answer = refused 13 8; cells = []; marks = []; output = [] }
unfolding computing no_tree
cells_before_marks = refl

-- marks and output empty, and no tree
pub marks_before_tree : make_call (printed_table no_tree) (nines 8) [] [] ≡ record { answer = refused 14 2; cells = nines 8; marks = []; output = [] }
unfolding computing writing no_tree
marks_before_tree = refl

-- the output empty, and no tree
pub tree_before_output : make_call (printed_table no_tree) (nines 8) (nines 2) []
    ≡ record { answer = refused 16 7; cells = no_tree.inks; marks = 0x28 ∷ 0x42 ∷ []; output = [] }
unfolding computing writing no_tree
tree_before_output = refl

-- marks and output empty, with a tree
pub marks_before_output : settle_call (printed_net one_gate_net) (nines 4) [] [] ≡ record { answer = refused 14 1; cells = nines 4; marks = []; output = [] }
unfolding computing writing one_gate_net
marks_before_output = refl

-- ---- the family of trees: 13, 14, 17, 15, and in the count 13, 14

-- both buffers empty, and no tree
pub counting_cells_before_marks : family_count_call (printed_table no_tree) [] [] ≡ record { answer = refused 13 8; cells = []; marks = [] }
unfolding computing no_tree
counting_cells_before_marks = refl

-- marks and output empty, and no tree with that number
pub marks_before_number : family_tree_call (printed_table no_tree) 0 (nines 8) [] [] ≡ record { answer = refused 14 2; cells = nines 8; marks = []; output = [] }
unfolding computing writing no_tree
marks_before_number = refl

-- the output empty, and no tree with that number; "it takes the place of 16 .. and leaves what 16 leaves"
pub number_before_output : family_tree_call (printed_table no_tree) 0 (nines 8) (nines 2) []
    ≡ record { answer = refused 17 0; cells = no_tree.inks; marks = 0x28 ∷ 0x42 ∷ []; output = [] }
unfolding computing writing no_tree
number_before_output = refl

-- ---- checking

-- "judges the net first": neither sheet has a byte
pub net_before_table : check_call [] [] [] ≡ record { answer = turned_down net_named 1 0; cells = [] }
unfolding computing
net_before_table = refl

-- the table sheet before 12 and 13
pub table_before_headers : check_call (printed_net one_gate_net) [] [] ≡ record { answer = turned_down table_named 1 0; cells = [] }
unfolding computing one_gate_net
table_before_headers = refl

-- 12 before 13: two headers, and no cells
pub headers_before_cells : check_call (printed_net one_gate_net) (printed_table no_tree) [] ≡ record { answer = turned_down neither 12 0; cells = [] }
unfolding computing one_gate_net no_tree
headers_before_cells = refl

-- ---- keeping a wiring: document 02, K10 and K13: both sheets, then 12, 27, 13, 23, 15 (27 by the cases of `OpenCases`)

-- the net of a, b and c that has `no_tree`'s header
unfoldable pub two_gates : Net
two_gates =
    record {
      header = no_tree.header;
      gates = record { left = 0; right = 1; digits = 0 ∷ 0 ∷ 0 ∷ 1 ∷ [] } ∷ record { left = 3; right = 2; digits = 0 ∷ 1 ∷ 1 ∷ 1 ∷ [] } ∷ [];
    }

-- the net sheet first: neither sheet has a byte; then the table sheet
pub keeping_net_first : keep_call [] [] [] [] ≡ record { answer = turned_away net_named 1 0; cells = []; output = [] }
unfolding computing
keeping_net_first = refl

pub keeping_table_next : keep_call (printed_net one_gate_net) [] [] [] ≡ record { answer = turned_away table_named 1 0; cells = []; output = [] }
unfolding computing one_gate_net
keeping_table_next = refl

-- 12 before 13: two headers, and no cells
pub keeping_headers_before_cells : keep_call (printed_net one_gate_net) (printed_table no_tree) [] []
    ≡ record { answer = turned_away neither 12 0; cells = []; output = [] }
unfolding computing one_gate_net no_tree
keeping_headers_before_cells = refl

-- 13 before 23: no tree, so no filling, and no cells
pub keeping_cells_before_filling : keep_call (printed_net two_gates) (printed_table no_tree) [] []
    ≡ record { answer = turned_away neither 13 8; cells = []; output = [] }
unfolding computing two_gates no_tree
keeping_cells_before_filling = refl

-- 23 before 15: the output empty, and no filling
pub keeping_filling_before_output : keep_call (printed_net two_gates) (printed_table no_tree) (nines 8) []
    ≡ record { answer = turned_away neither 23 1; cells = no_tree.inks; output = [] }
unfolding computing writing two_gates no_tree
keeping_filling_before_output = refl

-- ---- arrival times: document 02, K5

-- "The net sheet is judged first, then this one.": neither sheet has a byte
pub net_before_arrivals : (delay : ℕ) → arrivals_call [] [] delay ≡ net_refused 1 0
unfolding computing
net_before_arrivals delay = refl

-- a wrong name before the time after it, which is malformed
pub name_before_time : (delay : ℕ) → arrivals_call (printed_net one_gate_net) (text "name from to" ++ newline ∷ (text "b 00 0" ++ newline ∷ [])) delay
    ≡ arrivals_refused 18 13
unfolding computing one_gate_net
name_before_time delay = refl

-- ---- tidying: document 02, K8

-- 20 is "judged just before its ink field": the ink is no digit, and both buffers are empty
pub row_before_ink : tidy_call
    (text "levels inputs" ++ newline ∷ (text "2 2" ++ newline ∷ (text "a b ink" ++ newline ∷ (text "1 1 1" ++ newline ∷ (text "1 1 x" ++ newline ∷ []))))) [] []
    ≡ record { answer = refused 20 32; cells = []; output = [] }
unfolding computing
row_before_ink = refl

-- "13 and 15 follow it": both buffers short
pub tidying_cells_before_output : tidy_call (printed_table no_tree) [] [] ≡ record { answer = refused 13 8; cells = []; output = [] }
unfolding computing no_tree
tidying_cells_before_output = refl

-- the output short, with the cells written
pub tidying_output_last : tidy_call (printed_table no_tree) (nines 9) [] ≡ record { answer = refused 15 92; cells = no_tree.inks ++ (9 ∷ []); output = [] }
unfolding computing writing no_tree
tidying_output_last = refl

-- ---- glyphs: document 02, K11: "judged in that order after the net sheet and before 15"

-- no net sheet, no picture, no offsets and no output
pub net_before_picture : (width height : ℕ) → glyph_call [] width height [] [] [] ≡ record { answer = refused 1 0; output = [] }
unfolding computing
net_before_picture width height = refl

-- no picture, no offsets and no output
pub picture_before_offsets : glyph_call (printed_net one_gate_net) 1 1 [] [] [] ≡ record { answer = refused 24 0; output = [] }
unfolding computing one_gate_net
picture_before_offsets = refl

-- no offsets and no output
pub offsets_before_output : glyph_call (printed_net one_gate_net) 1 1 (0 ∷ []) [] [] ≡ record { answer = refused 25 0; output = [] }
unfolding computing one_gate_net
offsets_before_output = refl
