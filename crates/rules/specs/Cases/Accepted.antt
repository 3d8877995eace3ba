-- Accepted answers of every call, and both sides of every limit, as one theorem, `accepted_hold`. Each buffer is longer than needed, so a case shows
-- which bytes a call writes and which it keeps. Nothing here cites a definition for what a buffer holds: the bytes are written out. `Refusals` has
-- the refused answers.
-- Assumes nothing.
use Rattle.std.specs.Prelude.{ℕ, ◌+◌, ◌≡◌, refl, List, [], ◌∷◌, ◌++◌, drop, length}
use Prim.Native.String.{String}
use Rattle.std.specs.Float.Ieee.{to_bits}
use Rattle.rules.specs.Text.{text}
use Rattle.rules.specs.Limits.{most_read, most_settled, most_time}
use Rattle.rules.specs.Groups.Marks.{no_tree_place}
use Rattle.rules.specs.Sheets.Reading.{read_net}
use Rattle.rules.specs.Sheets.ArrivalSheet.{read_arrivals}
use Rattle.rules.specs.Nets.Arrivals.{arrivals_call}
use Rattle.rules.specs.Calls.Answers.{accepted, refused}
use Rattle.rules.specs.Calls.Multiplicity.{multiplicity_call}
use Rattle.rules.specs.Calls.Marking.{marking_call}
use Rattle.rules.specs.Calls.Settling.{settle_call, make_call}
use Rattle.rules.specs.Calls.ShallowSettling.{settle_shallow_call, make_shallow_call}
use Rattle.rules.specs.Calls.FamilyCalls.{family_count_call, family_tree_call}
use Rattle.rules.specs.Calls.Checking.{Verdict, agree, differ, check_call}
use Rattle.rules.specs.Calls.TableWriting.{write_table_call}
use Rattle.rules.specs.Calls.Tidying.{tidy_call}
use Rattle.rules.specs.Calls.Lister.{Turn, gate_at, none_left_of, listing}
use Rattle.rules.specs.Calls.Shallower.{shallower_call}
use Rattle.rules.specs.Calls.Jobs.{Reached, final, not_reached, ask_job, step_job, finish_job}
use Rattle.rules.specs.Calls.Keeping.{rewritten, keep_call}
use Rattle.rules.specs.Calls.Glyphs.{glyph_call}
use Rattle.rules.specs.Calls.Programs.{settle_program, make_program}
use Rattle.rules.specs.Cases.Cases.{gate_count}
use Rattle.rules.specs.Cases.ArrivalCases.{bits_in}
use Rattle.rules.specs.Cases.GlyphCases.{signed_from, signed}
use Rattle.rules.specs.Cases.Refusals.{job_stepped}
use Rattle.rules.specs.Cases.Written.{AllHold, paper, digits, nines, letter_names, writing}
use Rattle.rules.specs.Evaluation.{computing}

-- ---- what a case says

-- a buffer three bytes longer than what will be written to it, and what it holds afterwards
unfoldable pub lent : List ℕ → List ℕ
lent bytes = nines (length bytes + 3)

unfoldable pub held : List ℕ → List ℕ
held bytes = bytes ++ nines 3

-- A case, by the call that it tests. Inks and other cells are written as digits.
pub data Accepts : Type 0 where
  multiplicity : (m n : ℕ) (inks : String) (g count : ℕ) → Accepts
  marking : (m n : ℕ) (inks : String) (mark : ℕ) (marks : List ℕ) → Accepts
  place16 : (n : ℕ) (marks : String) (place : ℕ) → Accepts
  settling : (sheet settled inks : String) (marks : List ℕ) → Accepts
  making : (sheet made inks : String) (marks : List ℕ) → Accepts
  shallow_settling : (sheet settled inks : String) (marks : List ℕ) (layers : ℕ) → Accepts
  shallow_making : (sheet made inks : String) (marks : List ℕ) (layers : ℕ) → Accepts
  counting : (sheet inks : String) (marks : List ℕ) (count : ℕ) → Accepts
  numbering : (sheet : String) (number : ℕ) (made inks : String) (marks : List ℕ) → Accepts
  checking : (net_sheet_lem table_sheet_lem inks : String) (verdict : Verdict) → Accepts
  table_writing : (sheet table : String) → Accepts
  tidying : (sheet tidied inks : String) → Accepts
  line : (sheet : String) (k : ℕ) (turn : Turn) → Accepts
  shallower : (first second handed : String) → Accepts
  timing : (net_sheet_lem arrival_sheet_lem : String) (delay earliest latest : ℕ) → Accepts
  arrivals_back : (sheet : String) (number place : ℕ) → Accepts
  stepping : (sheet : String) (steps : ℕ) → Accepts
  asking : (sheet : String) (steps g : ℕ) (reached : Reached) → Accepts
  finishing : (sheet : String) (steps : ℕ) (made inks : String) (marks : List ℕ) → Accepts
  keeping : (net_sheet_lem table_sheet_lem new inks : String) (changed : ℕ) → Accepts
  glyph : (sheet : String) (width height : ℕ) (picture offsets new : String) → Accepts
  settling_program : (sheet output : String) → Accepts
  making_program : (sheet output : String) → Accepts
  gates : (sheet : String) (count : ℕ) → Accepts
  net_back : (sheet : String) (number place : ℕ) → Accepts
  limit : (is due : ℕ) → Accepts

-- The common statement: a call's whole result, its answer and every buffer lent to it.
abbrev pub AnswersAs : Accepts → Type 0
AnswersAs (multiplicity m n inks g count) = multiplicity_call m n (digits (text inks)) g ≡ accepted count
AnswersAs (marking m n inks mark marks) = marking_call m n (digits (text inks)) (lent marks) ≡ record { answer = accepted mark; marks = held marks }
-- 16's place in a list of all marks
AnswersAs (place16 n marks place) = no_tree_place n (digits (text marks)) ≡ place
AnswersAs (settling sheet settled inks marks) =
    settle_call (paper sheet) (lent (digits (text inks))) (lent marks) (lent (paper settled))
    ≡ record { answer = accepted (length (paper settled)); cells = held (digits (text inks)); marks = held marks; output = held (paper settled) }
AnswersAs (making sheet made inks marks) =
    make_call (paper sheet) (lent (digits (text inks))) (lent marks) (lent (paper made))
    ≡ record { answer = accepted (length (paper made)); cells = held (digits (text inks)); marks = held marks; output = held (paper made) }
AnswersAs (shallow_settling sheet settled inks marks layers) =
    settle_shallow_call (paper sheet) (lent (digits (text inks))) (lent marks) (lent (paper settled))
    ≡ record {
      answer = accepted (record { length = length (paper settled); layers = layers });
      cells = held (digits (text inks));
      marks = held marks;
      output = held (paper settled);
    }
AnswersAs (shallow_making sheet made inks marks layers) =
    make_shallow_call (paper sheet) (lent (digits (text inks))) (lent marks) (lent (paper made))
    ≡ record {
      answer = accepted (record { length = length (paper made); layers = layers });
      cells = held (digits (text inks));
      marks = held marks;
      output = held (paper made);
    }
AnswersAs (counting sheet inks marks count) =
    family_count_call (paper sheet) (lent (digits (text inks))) (lent marks)
    ≡ record { answer = accepted count; cells = held (digits (text inks)); marks = held marks }
AnswersAs (numbering sheet number made inks marks) =
    family_tree_call (paper sheet) number (lent (digits (text inks))) (lent marks) (lent (paper made))
    ≡ record { answer = accepted (length (paper made)); cells = held (digits (text inks)); marks = held marks; output = held (paper made) }
AnswersAs (checking net_sheet_lem table_sheet_lem inks verdict) =
    check_call (paper net_sheet_lem) (paper table_sheet_lem) (lent (digits (text inks))) ≡ record { answer = verdict; cells = held (digits (text inks)) }
AnswersAs (table_writing sheet table) =
    write_table_call (paper sheet) (lent (paper table)) ≡ record { answer = accepted (length (paper table)); output = held (paper table) }
AnswersAs (tidying sheet tidied inks) =
    tidy_call (paper sheet) (lent (digits (text inks))) (lent (paper tidied))
    ≡ record { answer = accepted (length (paper tidied)); cells = held (digits (text inks)); output = held (paper tidied) }
AnswersAs (line sheet k turn) = listing (paper sheet) k ≡ accepted turn
AnswersAs (shallower first second handed) = shallower_call (paper first) (paper second) ≡ paper handed
-- the two doubles by their bits
AnswersAs (timing net_sheet_lem arrival_sheet_lem delay earliest latest) =
    bits_in (arrivals_call (paper net_sheet_lem) (paper arrival_sheet_lem) delay) ≡ earliest ∷ latest ∷ []
AnswersAs (arrivals_back sheet number place) = read_arrivals (letter_names "ab") (paper sheet) ≡ refused number place
-- one more step after a number of steps, and the mark of a group after a number of steps
AnswersAs (stepping sheet steps) = step_job (job_stepped sheet steps) ≡ record { job = job_stepped sheet (steps + 1); answer = accepted tt }
AnswersAs (asking sheet steps g reached) = ask_job (job_stepped sheet steps) g ≡ record { job = job_stepped sheet steps; answer = accepted reached }
AnswersAs (finishing sheet steps made inks marks) =
    finish_job (job_stepped sheet steps) (lent (digits (text inks))) (lent marks) (lent (paper made))
    ≡ record {
      job = job_stepped sheet steps;
      made = record { answer = accepted (length (paper made)); cells = held (digits (text inks)); marks = held marks; output = held (paper made) };
    }
AnswersAs (keeping net_sheet_lem table_sheet_lem new inks changed) =
    keep_call (paper net_sheet_lem) (paper table_sheet_lem) (lent (digits (text inks))) (lent (paper new))
    ≡ record { answer = rewritten (length (paper new)) changed; cells = held (digits (text inks)); output = held (paper new) }
AnswersAs (glyph sheet width height picture offsets new) =
    glyph_call (paper sheet) width height (digits (text picture)) (signed offsets) (lent (digits (text new)))
    ≡ record { answer = accepted (length (digits (text new))); output = held (digits (text new)) }
AnswersAs (settling_program sheet output) = settle_program (paper sheet) ≡ paper output
AnswersAs (making_program sheet output) = make_program (paper sheet) ≡ paper output
-- an accepted net sheet has this number of gates; a net sheet is refused
AnswersAs (gates sheet count) = gate_count (read_net (paper sheet)) ≡ accepted count
AnswersAs (net_back sheet number place) = gate_count (read_net (paper sheet)) ≡ refused number place
-- a number that the documents fix
AnswersAs (limit is due) = is ≡ due

-- ---- sheets

-- a and b; exclusive or of three inputs, as a chain and as its table
abbrev pub both : String
both = "levels inputs/2 2/a b/left right table/a b 0001/"

abbrev pub both_table : String
both_table = "levels inputs/2 2/a b ink/0 0 0/0 1 0/1 0 0/1 1 1/"

abbrev pub chain : String
chain = "levels inputs/2 3/a b c/left right table/a b 0110/1 c 0110/"

abbrev pub settled_chain : String
settled_chain = "levels inputs/2 3/a b c/left right table/b c 0110/a 1 0110/"

abbrev pub odd_sheet : String
odd_sheet = "levels inputs/2 3/a b c ink/0 0 0 0/0 0 1 1/0 1 0 1/0 1 1 0/1 0 0 1/1 0 1 0/1 1 0 0/1 1 1 1/"

-- ---- the cases

abbrev pub accepted_cases : List Accepts
accepted_cases =
    -- more classes than m + 1: all four assignments of a and b, since c and d must equal them
    multiplicity 2 4 "1000010000100001" 3 4
    ∷ multiplicity 2 3 "00010111" 7 2
    -- at least two of three: mark 1, which is not the first byte written
    ∷ marking 2 3 "00010111" 1 (0x28 ∷ 0x42 ∷ [])
    ∷ marking 2 2 "0001" 2 (0xa8 ∷ [])
    -- mark 1 at 15, of four members, and at 28, of three
    ∷ place16 5 "00000000000000010000000000001000" 28
    ∷ settling chain settled_chain "01101001" (0xa8 ∷ 0xaa ∷ [])
    ∷ making odd_sheet settled_chain "01101001" (0xa8 ∷ 0xaa ∷ [])
    ∷ shallow_settling chain settled_chain "01101001" (0xa8 ∷ 0xaa ∷ []) 2
    ∷ shallow_making odd_sheet settled_chain "01101001" (0xa8 ∷ 0xaa ∷ []) 2
    ∷ counting odd_sheet "01101001" (0xa8 ∷ 0xaa ∷ []) 3
    ∷ numbering odd_sheet 0 settled_chain "01101001" (0xa8 ∷ 0xaa ∷ [])
    ∷ numbering odd_sheet 2 "levels inputs/2 3/a b c/left right table/a c 0110/1 b 0110/" "01101001" (0xa8 ∷ 0xaa ∷ [])
    -- the lowest of two indices that differ; agreement
    ∷ checking both "levels inputs/2 2/a b ink/0 0 0/0 1 1/1 0 0/1 1 0/" "0100" (differ 1)
    ∷ checking both both_table "0001" agree
    ∷ table_writing both both_table
    ∷ tidying "levels inputs/2  2/a b ink/1 1 1/0 1 0 /0 0  0/1 0 0/" both_table "0001"
    -- a line without its line feed; no line left after the last
    ∷ line chain 0 (gate_at (record { start = 41; count = 8 }))
    ∷ line chain 1 (gate_at (record { start = 50; count = 8 }))
    ∷ line chain 2 none_left_of
    ∷ shallower "" chain chain
    -- a at 0, b from 4 to 8 quarters, a delay of 2: 1.5 and 2.5 microseconds
    ∷ timing both "name from to/a 0 0/b 4 8/" 2 0x3ff8000000000000 0x4004000000000000
    -- 65,535 quarters, the latest time: 16,383.75 microseconds; above it, at `from` and at `to`
    ∷ timing both "name from to/a 65535 65535/b 0 0/" 0 0x40cfffe000000000 0x40cfffe000000000
    ∷ arrivals_back "name from to/a 65536 65536/" 19 15
    ∷ arrivals_back "name from to/a 0 65536/" 19 17
    ∷ stepping both_table 0
    ∷ stepping both_table 2
    ∷ asking both_table 2 2 (final 2)
    ∷ asking both_table 2 3 not_reached
    ∷ finishing odd_sheet 7 settled_chain "01101001" (0xa8 ∷ 0xaa ∷ [])
    ∷ keeping "levels inputs/2 3/a b c/left right table/a b 0001/1 c 0110/" odd_sheet chain "01101001" 2
    -- offsets of two cells, the most, both ways; a picture with a side of 64
    ∷ glyph "levels inputs/2 2/a b/left right table/a b 0110/" 3 1 "110" "0 0 2 0" "110"
    ∷ glyph "levels inputs/2 2/a b/left right table/a b 0110/" 3 1 "110" "0 0 -2 0" "111"
    ∷ glyph "levels inputs/2 2/a b/left right table/a b 0110/" 1 3 "110" "0 0 0 -2" "111"
    ∷ glyph "levels inputs/2 2/a b/left right table/a b 0110/" 64 1 "1000000000000000000000000000000000000000000000000000000000000000" "0 0 -1 0"
    "1100000000000000000000000000000000000000000000000000000000000000"
    ∷ settling_program chain settled_chain
    ∷ making_program odd_sheet settled_chain
    -- names of eight bytes and of nine; a digit first; `z`, and the byte after it, `{`; `a`, and the byte before it
    ∷ gates "levels inputs/2 2/abcdefg8 z9/left right table/abcdefg8 z9 0001/" 1
    ∷ net_back "levels inputs/2 2/abcdefgh9 b/left right table/" 4 18
    ∷ net_back "levels inputs/2 2/1a b/left right table/" 4 18
    ∷ net_back "levels inputs/2 2/a{ b/left right table/" 4 18
    ∷ net_back "levels inputs/2 2/a` b/left right table/" 4 18
    -- levels and inputs: two bytes, a needless zero, outside their bounds
    ∷ net_back "levels inputs/10 2/" 2 14
    ∷ net_back "levels inputs/02 2/" 2 14
    ∷ net_back "levels inputs/2 02/" 3 16
    ∷ net_back "levels inputs/2 1/" 3 16
    -- "never over 512"; "at most its first 65,536 bytes"; "0 to 65,535"
    ∷ limit most_settled 512
    ∷ limit most_read 65_536
    ∷ limit most_time 65_535
    ∷ []

pub accepted_hold : AllHold AnswersAs accepted_cases
unfolding computing writing to_bits lent held gate_count bits_in signed_from signed job_stepped
accepted_hold =
    (refl, (refl, (refl, (refl, (refl, (refl, (refl, (refl, (refl, (refl, (refl, (refl, (refl, (refl, (refl, (refl, (refl, second)))))))))))))))))
  where
    third : AllHold AnswersAs (drop 34 accepted_cases)
    third = (refl, (refl, (refl, (refl, (refl, (refl, (refl, (refl, (refl, (refl, (refl, (refl, (refl, (refl, tt))))))))))))))

    second : AllHold AnswersAs (drop 17 accepted_cases)
    second = (refl, (refl, (refl, (refl, (refl, (refl, (refl, (refl, (refl, (refl, (refl, (refl, (refl, (refl, (refl, (refl, (refl, third)))))))))))))))))
