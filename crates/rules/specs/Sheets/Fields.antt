-- How a sheet is judged: document 01, first lines of the section 'Sheets' and of 'Turned back because of the input'.
-- A reader takes the bytes that are left and their place in the sheet. It gives a value, the bytes then left and their place,
-- or the number and the place of the refusal.
-- Assumes nothing.
use Rattle.std.specs.Prelude.{ℕ, suc, ◌+◌, Bool, true, false, cond, ◌||◌, List, [], ◌∷◌, length, eqb}
use Prim.Native.String.{String}
use Rattle.rules.specs.Lists.{same}
use Rattle.rules.specs.Text.{space, newline, text}

-- the result of a reader
pub data Read (A : Type 0) : Type 0 where
  read : A → List ℕ → ℕ → Read A
  turned_back : ℕ → ℕ → Read A

-- takes the bytes that are left, and their place
abbrev pub Reader : Type 0 → Type 0
Reader A = List ℕ → ℕ → Read A

-- one reader after another: the first fault decides
unfoldable pub then : {A B : Type 0} → Read A → (A → Reader B) → Read B
then (read a rest place) next = next a rest place
then (turned_back number place) next = turned_back number place

-- the same for readers
infixl 20 ◌>>=◌
abbrev pub ◌>>=◌ : {A B : Type 0} → Reader A → (A → Reader B) → Reader B
(reader >>= next) s at = then (reader s at) next

-- reads nothing
abbrev pub give : {A : Type 0} → A → Reader A
give a s at = read a s at

-- The verdict on a field's bytes: a value, or the number of the refusal.
pub data Judged (A : Type 0) : Type 0 where
  good : A → Judged A
  bad : ℕ → Judged A

-- takes a field's bytes
abbrev pub Judge : Type 0 → Type 0
Judge A = List ℕ → Judged A

-- a test's verdict: the value, or the number
abbrev pub judged : {A : Type 0} → Bool → A → ℕ → Judged A
judged test a number = cond test (good a) (bad number)

-- "A field is a longest run of bytes other than space (32) and line feed."
unfoldable pub is_separator : ℕ → Bool
is_separator b = eqb b space || eqb b newline

-- that run at the front
unfoldable pub run : List ℕ → List ℕ
run [] = []
run (b ∷ s) = elim (is_separator b) [ true ↦ [] | false ↦ b ∷ run s ]

-- what follows that run
unfoldable pub past : List ℕ → List ℕ
past [] = []
past (b ∷ s) = elim (is_separator b) [ true ↦ b ∷ s | false ↦ past s ]

-- The byte after a field, at `place`, must be the separator that is due. "fixed word, separator, missing end": 1
unfoldable pub separator : {A : Type 0} → A → ℕ → List ℕ → ℕ → Read A
separator a due [] place = turned_back 1 place
separator a due (b ∷ s) place = elim (eqb b due) [ true ↦ read a s (suc place) | false ↦ turned_back 1 place ]

-- the bytes past the spaces at the front
unfoldable pub past_spaces : List ℕ → List ℕ
past_spaces [] = []
past_spaces (b ∷ s) = elim (eqb b space) [ true ↦ past_spaces s | false ↦ b ∷ s ]

-- how many spaces are at the front
unfoldable pub spaces_in : List ℕ → ℕ
spaces_in [] = 0
spaces_in (b ∷ s) = elim (eqb b space) [ true ↦ suc (spaces_in s) | false ↦ 0 ]

-- skips any number of spaces, including none
unfoldable pub spaces : {A : Type 0} → A → Reader A
spaces a s at = read a (past_spaces s) (at + spaces_in s)

-- How fields are separated. Strictly: "Fields are parted by exactly one space", and the line feed follows a line's last field directly. Loosely
-- (document 02, K8): "one or more spaces between fields, spaces before a line feed".
pub data Layout : Type 0 where
  strict : Layout
  loose : Layout

-- Loosely: if a space is due, one must be there and any more are skipped; if a line feed is due, any spaces are skipped and it must follow. So
-- "elsewhere 1 is placed after any spaces passed".
unfoldable pub loose_separator : {A : Type 0} → A → ℕ → Reader A
loose_separator a due s at =
    elim (eqb due space) [ true ↦ then (separator a due s at) spaces | false ↦ then (spaces a s at) (λ a. separator a due) ]

-- in either layout
abbrev pub separator_in : Layout → {A : Type 0} → A → ℕ → Reader A
separator_in strict a due s at = separator a due s at
separator_in loose a due s at = loose_separator a due s at

-- A judged field that starts at `at` and ends before `end`.
unfoldable pub after_field_in : Layout → {A : Type 0} → Judged A → ℕ → List ℕ → ℕ → ℕ → Read A
after_field_in layout (bad number) due rest at end = turned_back number at
after_field_in layout (good a) due rest at end = separator_in layout a due rest end

-- "An empty field is 1. Otherwise the field is judged, then the byte after it. The place is the field's first byte, or the
-- byte where the separator should stand". So "a space that starts a line is 1 there" (document 02, K8).
unfoldable pub field_of_in : Layout → {A : Type 0} → Judge A → ℕ → List ℕ → List ℕ → ℕ → Read A
field_of_in layout judge due [] rest at = turned_back 1 at
field_of_in layout judge due (b ∷ w) rest at = after_field_in layout (judge (b ∷ w)) due rest at (at + suc (length w))

-- the field at the front, with the separator that is due after it
unfoldable pub field_in : Layout → {A : Type 0} → Judge A → ℕ → Reader A
field_in layout judge due s at = field_of_in layout judge due (run s) (past s) at

-- the three functions for a strict sheet
abbrev pub after_field : {A : Type 0} → Judged A → ℕ → List ℕ → ℕ → ℕ → Read A
after_field verdict due rest at end = after_field_in strict verdict due rest at end

abbrev pub field_of : {A : Type 0} → Judge A → ℕ → List ℕ → List ℕ → ℕ → Read A
field_of judge due w rest at = field_of_in strict judge due w rest at

abbrev pub field : {A : Type 0} → Judge A → ℕ → Reader A
field judge due s at = field_in strict judge due s at

-- a fixed word
unfoldable pub the_word : String → Judge (Unit {0})
the_word word w = judged (same w (text word)) tt 1

-- "bytes after the last line": 1 at "the first byte after the last line"
unfoldable pub closed : Reader (Unit {0})
closed [] at = read tt [] at
closed (b ∷ s) at = turned_back 1 at

-- all of this file computes
unfoldable pub computing : Unit {0}
unfolding then is_separator run past separator past_spaces spaces_in spaces loose_separator after_field_in field_of_in field_in the_word closed
computing = tt
