-- Document 02, K13, by small cases: how the sign of an open cell is read, what a check skips, and what needs a full table. Sheets are written as in
-- `Cases`, with `/` for the line feed.
-- Assumes nothing.
use Rattle.std.specs.Prelude.{ℕ, ◌≡◌, refl, List, [], ◌∷◌, length}
use Rattle.rules.specs.Calls.Answers.{accepted, neither, onward, refused, table_named, written}
use Rattle.rules.specs.Sheets.Reading.{read_table}
use Rattle.rules.specs.Calls.Multiplicity.{multiplicity_call}
use Rattle.rules.specs.Calls.Marking.{marking_call}
use Rattle.rules.specs.Calls.Settling.{make_call}
use Rattle.rules.specs.Calls.ShallowSettling.{make_shallow_call}
use Rattle.rules.specs.Calls.FamilyCalls.{family_count_call, family_tree_call}
use Rattle.rules.specs.Calls.Checking.{agree, check_call, differ}
use Rattle.rules.specs.Calls.Keeping.{keep_call, turned_away}
use Rattle.rules.specs.Calls.Tidying.{tidy_call}
use Rattle.rules.specs.Calls.Jobs.{empty_job, open_job}
use Rattle.rules.specs.Cases.Written.{paper, nines, writing}
use Rattle.rules.specs.Evaluation.{computing}

-- a net sheet, and a table sheet that it computes except at the assignments 1 and 2, which are open
unfoldable pub both_on : List ℕ
both_on = paper "levels inputs/2 2/a b/left right table/a b 0001/"

unfoldable pub left_open_of : List ℕ
left_open_of = paper "levels inputs/2 2/a b ink/0 0 0/0 1 -/1 0 -/1 1 1/"

-- "a cell holds m for it"
pub sign_read : onward (read_table left_open_of) (λ t. accepted t.inks) ≡ accepted (0 ∷ 2 ∷ 2 ∷ 1 ∷ [])
unfolding computing writing left_open_of
sign_read = refl

-- the sign is not a level: 5 there
pub no_level : read_table (paper "levels inputs/2 2/a b ink/- 0 0/") ≡ refused 5 26
unfolding computing writing
no_level = refl

-- ---- checking

-- "A check passes over open assignments, for its agreement ..": the net has 0 at both
pub passed_over : check_call both_on left_open_of (nines 5) ≡ record { answer = agree; cells = 0 ∷ 2 ∷ 2 ∷ 1 ∷ 9 ∷ [] }
unfolding computing writing both_on left_open_of
passed_over = refl

-- ".. and for the lowest index that differs": index 1 is open, and 3 differs
pub lowest_not_open : check_call both_on (paper "levels inputs/2 2/a b ink/0 0 0/0 1 -/1 0 0/1 1 0/") (nines 4)
    ≡ record { answer = differ 3; cells = 0 ∷ 2 ∷ 0 ∷ 0 ∷ [] }
unfolding computing writing both_on
lowest_not_open = refl

-- ---- "Tidying carries the sign."

pub tidied_sign : tidy_call (paper "levels inputs/2 2/a  b ink/1 1 1/0 1 - /1 0  -/0 0 0/") (nines 5) (nines 60)
    ≡ record { answer = accepted (length left_open_of); cells = 0 ∷ 2 ∷ 2 ∷ 1 ∷ 9 ∷ []; output = written (nines 60) left_open_of }
unfolding computing writing left_open_of
tidied_sign = refl

-- ---- 27, "place the lowest such index", "judged .. before 13": all buffers are short, and none is changed

pub making_27 : make_call left_open_of [] [] [] ≡ record { answer = refused 27 1; cells = []; marks = []; output = [] }
unfolding computing writing left_open_of
making_27 = refl

-- a buffer that is long enough is not changed either
pub making_untouched : make_call left_open_of (nines 4) (nines 1) (nines 60) ≡ record { answer = refused 27 1; cells = nines 4; marks = nines 1; output = nines 60 }
unfolding computing writing left_open_of
making_untouched = refl

pub shallow_27 : make_shallow_call left_open_of [] [] [] ≡ record { answer = refused 27 1; cells = []; marks = []; output = [] }
unfolding computing writing left_open_of
shallow_27 = refl

pub counting_27 : family_count_call left_open_of [] [] ≡ record { answer = refused 27 1; cells = []; marks = [] }
unfolding computing writing left_open_of
counting_27 = refl

pub numbering_27 : family_tree_call left_open_of 9 [] [] [] ≡ record { answer = refused 27 1; cells = []; marks = []; output = [] }
unfolding computing writing left_open_of
numbering_27 = refl

-- "a job at its opening"
pub opening_27 : open_job left_open_of ≡ record { job = empty_job; answer = refused 27 1 }
unfolding computing writing left_open_of
opening_27 = refl

-- it names the table sheet, ..
pub keeping_27 : keep_call both_on left_open_of [] [] ≡ record { answer = turned_away table_named 27 1; cells = []; output = [] }
unfolding computing writing both_on left_open_of
keeping_27 = refl

-- .. "after 12"
pub keeping_12_first : keep_call (paper "levels inputs/2 2/b a/left right table/a b 0001/") left_open_of [] []
    ≡ record { answer = turned_away neither 12 0; cells = []; output = [] }
unfolding computing writing left_open_of
keeping_12_first = refl

-- a table sheet that ends too early is refused with 1 first
pub ended_first : make_call (paper "levels inputs/2 2/a b ink/0 0 -/") [] [] [] ≡ record { answer = refused 1 32; cells = []; marks = []; output = [] }
unfolding computing writing
ended_first = refl

-- for bare cells
pub multiplicity_27_case : multiplicity_call 2 2 (0 ∷ 1 ∷ 1 ∷ 2 ∷ []) 1 ≡ refused 27 3
unfolding computing
multiplicity_27_case = refl

pub marking_27_case : marking_call 2 2 (2 ∷ 1 ∷ 2 ∷ 0 ∷ []) [] ≡ record { answer = refused 27 0; marks = [] }
unfolding computing
marking_27_case = refl
