-- How marks are stored affects nothing else that a call returns or writes. Document 02, K7: "Settled nets, refusal 16 and its place must come out the
-- same bytes as before." Each call that writes marks is stated for any way to store them; the calls of `rules` use one way and document 01 used
-- another. For two ways, with a marks buffer that is long enough for each, the answer, the cells and the output are the same. If the buffer is short,
-- each refuses with 14, at the length that its own way needs.
-- Assumes nothing.
use Rattle.std.specs.Prelude.{◌<◌, ◌≤◌, ◌^◌, ◌≡◌}
use Rattle.laws.specs.Prelude.{ℕ, ◌∙◌, sym, ap, refl, subst⁻¹, subst₂, true, false, Bool, List, [], lt_of_not-le, dec_le, eqb, ltb, length}
use Rattle.laws.specs.Prelude.{lt-ltb, le-ltb, answer_cases, by_cases}
use Rattle.rules.specs.Calls.Answers.{Answer, accepted, ink_in, onward, refused, written}
use Rattle.rules.specs.Calls.FamilyCalls.{Counted, count_of_table, family_net, counted_into, family_count_call, after_count, family_tree_call}
use Rattle.rules.specs.Calls.OpenCells.{full_cells, read_full}
use Rattle.rules.specs.Calls.Settling.{Made, settled_net, written_sheet, after_marks, in_room, made_into, settle_call, make_call}
use Rattle.rules.specs.Calls.ShallowSettling.{LayeredMade, layered, layered_into, net_layers, shallow_net, with_layers, settle_shallow_call, make_shallow_call}
use Rattle.rules.specs.Groups.Groups.{whole_group}
use Rattle.rules.specs.Groups.Marks.{mark_in, marks_of, marks_length, stored_marks, no_tree_place}
use Rattle.rules.specs.Sheets.Printed.{printed_net}
use Rattle.rules.specs.Sheets.Reading.{read_net, table_of_net}
use Rattle.rules.specs.Sheets.Sheets.{Net, Table}
use Rattle.rules.specs.Calls.Marking.{Marked, marking_call}
use Rattle.laws.specs.Calls.Settling.{marks_of_table, into_13, into_14, into_marked, settle_refused, settle_accepted}
use Rattle.laws.specs.Calls.Settling.{make_refused, make_accepted}
use Rattle.laws.specs.Calls.ShallowSettling.{settle_shallow_refused, settle_shallow_accepted, make_shallow_refused}
use Rattle.laws.specs.Calls.ShallowSettling.{make_shallow_accepted}
use Rattle.laws.specs.Calls.FamilyCalls.{counted_13, counted_14, counted_marked, family_count_refused, family_count_accepted}
use Rattle.laws.specs.Calls.FamilyCalls.{family_tree_refused, family_tree_accepted}

-- ---- ways to store marks

-- the length that n inputs need, and the bytes of all marks
pub record Store : Type 0 where
  pub need : ℕ → ℕ
  pub bytes : List ℕ → List ℕ

-- document 02, K7: "packed four to a byte"
abbrev pub four_to_byte : Store
four_to_byte = record { need = marks_length; bytes = stored_marks }

-- document 01: "one byte, at its number"
abbrev pub byte_each : Store
byte_each = record { need = λ n. 2 ^ n; bytes = λ marks. marks }

-- ---- a call with any of them

-- what a call does with a table once there is room: from the cells and the marks written
abbrev pub Rest : Type 0
Rest = Table → List ℕ → List ℕ → List ℕ → Made

-- making: 16, 15 or the sheet
unfoldable pub makes_any_store : (Table → Net) → Rest
makes_any_store net_for t cells marks output =
    let n = t.header.inputs in
    elim (eqb (mark_in (marks_of_table t) (whole_group n)) 2) [
      | false ↦ record { answer = refused 16 (no_tree_place n (marks_of_table t)); cells = cells; marks = marks; output = output }
      | true ↦ written_sheet (printed_net (net_for t)) cells marks output
    ]

-- the tree of a number: 17, 15 or the sheet
unfoldable pub numbers : ℕ → Rest
numbers number t cells marks output = elim (ltb number (count_of_table t)) [
  | false ↦ record { answer = refused 17 number; cells = cells; marks = marks; output = output }
  | true ↦ written_sheet (printed_net (family_net number t)) cells marks output
]

-- the count
unfoldable pub counts : Rest
counts t cells marks output = record { answer = accepted (count_of_table t); cells = cells; marks = marks; output = output }

module _ (s : Store) (rest : Rest) where
  -- 13, 14, and then the rest
  unfoldable pub into_by : Table → List ℕ → List ℕ → List ℕ → Made
  into_by t cells marks output =
      let need = t.header.levels ^ t.header.inputs in
      let marks_need = s.need t.header.inputs in
      elim (ltb (length cells) need) [
        | true ↦ record { answer = refused 13 need; cells = cells; marks = marks; output = output }
        | false ↦ elim (ltb (length marks) marks_need) [
          | true ↦ record { answer = refused 14 marks_need; cells = cells; marks = marks; output = output }
          | false ↦ rest t (written cells t.inks) (written marks (s.bytes (marks_of_table t))) output
        ]
      ]

  -- from the result of reading a sheet
  unfoldable pub call_by : Answer Table → List ℕ → List ℕ → List ℕ → Made
  call_by (refused number place) cells marks output = record { answer = refused number place; cells = cells; marks = marks; output = output }
  call_by (accepted t) cells marks output = into_by t cells marks output

  module _ (t : Table) (cells marks output : List ℕ) where
    pub by_13 : length cells < t.header.levels ^ t.header.inputs
        → into_by t cells marks output ≡ record { answer = refused 13 (t.header.levels ^ t.header.inputs); cells = cells; marks = marks; output = output }
    unfolding into_by
    by_13 h = rw (lt-ltb _ _ h, into_by)

    -- 14 has as its place the length that this way needs
    pub by_14 : t.header.levels ^ t.header.inputs ≤ length cells → length marks < s.need t.header.inputs
        → into_by t cells marks output ≡ record { answer = refused 14 (s.need t.header.inputs); cells = cells; marks = marks; output = output }
    unfolding into_by
    by_14 h k = rw (le-ltb _ _ h, lt-ltb _ _ k, into_by)

    pub by_rest : t.header.levels ^ t.header.inputs ≤ length cells → s.need t.header.inputs ≤ length marks
        → into_by t cells marks output ≡ rest t (written cells t.inks) (written marks (s.bytes (marks_of_table t))) output
    unfolding into_by
    by_rest h k = rw (le-ltb _ _ h, le-ltb _ _ k, into_by)

-- the table of a net sheet
abbrev pub read_as_table : List ℕ → Answer Table
read_as_table sheet = onward (read_net sheet) (λ net. accepted (table_of_net net))

-- adds the layers of the shallow net of the table that was read
unfoldable pub with_shallow : Answer Table → Made → LayeredMade
with_shallow (refused number place) made = with_layers 0 made
with_shallow (accepted t) made = with_layers (net_layers (shallow_net t)) made

-- without the output
unfoldable pub without_output : Made → Counted
without_output made = record { answer = made.answer; cells = made.cells; marks = made.marks }

-- ---- two ways

-- the same in all but the marks buffer
pub record SameOutcome (a b : Made) : Type 0 where
  pub answer : a.answer ≡ b.answer
  pub cells : a.cells ≡ b.cells
  pub output : a.output ≡ b.output

test_alike : (b : Bool) (x y x' y' : Made) → SameOutcome x x' → SameOutcome y y'
    → SameOutcome (elim b as (λ _. Made) [ true ↦ x | false ↦ y ]) (elim b as (λ _. Made) [ true ↦ x' | false ↦ y' ])
test_alike true x y x' y' p q = p
test_alike false x y x' y' p q = q

-- what follows the marks does not read the marks buffer
abbrev pub MarksUnread : Rest → Type 0
MarksUnread rest = (t : Table) (cells marks other output : List ℕ) → SameOutcome (rest t cells marks output) (rest t cells other output)

sheet_alike : (sheet cells marks other output : List ℕ) → SameOutcome (written_sheet sheet cells marks output) (written_sheet sheet cells other output)
unfolding written_sheet
sheet_alike sheet cells marks other output =
    test_alike (ltb (length output) (length sheet)) _ _ _ _ (record { answer = refl; cells = refl; output = refl })
    (record { answer = refl; cells = refl; output = refl })

pub make_any_store : (net_for : Table → Net) → MarksUnread (makes_any_store net_for)
unfolding makes_any_store
make_any_store net_for t cells marks other output =
    test_alike (eqb (mark_in (marks_of_table t) (whole_group t.header.inputs)) 2) _ _ _ _ (sheet_alike (printed_net (net_for t)) cells marks other output)
    (record { answer = refl; cells = refl; output = refl })

pub number_any_store : (number : ℕ) → MarksUnread (numbers number)
unfolding numbers
number_any_store number t cells marks other output =
    test_alike (ltb number (count_of_table t)) _ _ _ _ (sheet_alike (printed_net (family_net number t)) cells marks other output)
    (record { answer = refl; cells = refl; output = refl })

pub count_any_store : MarksUnread counts
unfolding counts
count_any_store t cells marks other output = record { answer = refl; cells = refl; output = refl }

-- both marks buffers are long enough, each for its own way, if reading gives a table
pub record BothLong (s s' : Store) (read : Answer Table) (marks other : List ℕ) : Type 0 where
  pub first : (t : Table) → read ≡ accepted t → s.need t.header.inputs ≤ length marks
  pub second : (t : Table) → read ≡ accepted t → s'.need t.header.inputs ≤ length other

-- the theorem: the answer, with a refusal's number and place, the cells and the output are the same
pub stores_alike : (s s' : Store) (rest : Rest) → MarksUnread rest → (read : Answer Table) (cells marks other output : List ℕ)
    → BothLong s s' read marks other → SameOutcome (call_by s rest read cells marks output) (call_by s' rest read cells other output)
unfolding call_by
stores_alike s s' rest unread (refused number place) cells marks other output long = record { answer = refl; cells = refl; output = refl }
stores_alike s s' rest unread (accepted t) cells marks other output long = elim (dec_le (t.header.levels ^ t.header.inputs) (length cells)) [
  | no h ↦ subst₂ SameOutcome (sym (by_13 s rest t cells marks output (lt_of_not-le h)))
      (sym (by_13 s' rest t cells other output (lt_of_not-le h))) (record { answer = refl; cells = refl; output = refl })
  | yes h ↦
      subst₂ SameOutcome (sym (by_rest s rest t cells marks output h (long.first t refl)))
      (sym (by_rest s' rest t cells other output h (long.second t refl)))
      (unread t _ _ _ output)
]

-- ---- the calls are of this kind

module _ (t : Table) (cells marks output : List ℕ) where
  -- a call that first asks for the room
  room_is : (rest : Rest)
      → in_room t cells marks output (rest t (written cells t.inks) (written marks (stored_marks (marks_of_table t))) output)
      ≡ into_by four_to_byte rest t cells marks output
  room_is rest = by_cases (dec_le (t.header.levels ^ t.header.inputs) (length cells))
      (λ h. by_cases (dec_le (marks_length t.header.inputs) (length marks))
      (λ k. into_marked t cells marks output _ h k ∙ sym (by_rest four_to_byte rest t cells marks output h k))
      (λ k. into_14 t cells marks output _ h (lt_of_not-le k) ∙ sym (by_14 four_to_byte rest t cells marks output h (lt_of_not-le k))))
      (λ h. into_13 t cells marks output _ (lt_of_not-le h) ∙ sym (by_13 four_to_byte rest t cells marks output (lt_of_not-le h)))

  pub into_is : (net_for : Table → Net) → made_into net_for t cells marks output ≡ into_by four_to_byte (makes_any_store net_for) t cells marks output
  unfolding after_marks makes_any_store
  into_is net_for = room_is (makes_any_store net_for)

module _ (sheet cells marks output : List ℕ) where
  pub make_is : make_call sheet cells marks output ≡ call_by four_to_byte (makes_any_store settled_net) (read_full sheet) cells marks output
  unfolding call_by
  make_is = answer_cases (read_full sheet)
      (λ number place e. rw e (make_refused sheet cells marks output number place e))
      (λ t e. rw e (make_accepted sheet cells marks output t e ∙ into_is t cells marks output settled_net))

  pub settle_is : settle_call sheet cells marks output ≡ call_by four_to_byte (makes_any_store settled_net) (read_as_table sheet) cells marks output
  unfolding call_by onward
  settle_is = answer_cases (read_net sheet)
      (λ number place e. rw e (settle_refused sheet cells marks output number place e))
      (λ net e. rw e (settle_accepted sheet cells marks output net e ∙ into_is (table_of_net net) cells marks output settled_net))

  -- the shallow calls also return the layers of the net, which do not depend on the marks buffer
  pub make_shallow_is : make_shallow_call sheet cells marks output
      ≡ with_shallow (read_full sheet) (call_by four_to_byte (makes_any_store shallow_net) (read_full sheet) cells marks output)
  unfolding call_by with_shallow with_layers layered onward layered_into
  make_shallow_is = answer_cases (read_full sheet)
      (λ number place e. rw e (make_shallow_refused sheet cells marks output number place e))
      (λ t e. rw e (make_shallow_accepted sheet cells marks output t e ∙ ap (with_layers _) (into_is t cells marks output shallow_net)))

  pub settle_shallow_is : settle_shallow_call sheet cells marks output
      ≡ with_shallow (read_as_table sheet) (call_by four_to_byte (makes_any_store shallow_net) (read_as_table sheet) cells marks output)
  unfolding call_by with_shallow with_layers layered onward layered_into
  settle_shallow_is = answer_cases (read_net sheet)
      (λ number place e. rw e (settle_shallow_refused sheet cells marks output number place e))
      (λ net e. rw e
      (settle_shallow_accepted sheet cells marks output net e ∙ ap (with_layers _) (into_is (table_of_net net) cells marks output shallow_net)))

  -- the calls of the family
  pub family_tree_is : (number : ℕ) → family_tree_call sheet number cells marks output ≡ call_by four_to_byte (numbers number) (read_full sheet) cells marks output
  unfolding call_by after_count numbers
  family_tree_is number = answer_cases (read_full sheet)
      (λ refusal place e. rw e (family_tree_refused sheet number cells marks output refusal place e))
      (λ t e. rw e (family_tree_accepted sheet number cells marks output t e ∙ room_is t cells marks output (numbers number)))

-- the count call has no output
module _ (sheet cells marks : List ℕ) where
  pub family_count_is : family_count_call sheet cells marks ≡ without_output (call_by four_to_byte counts (read_full sheet) cells marks [])
  unfolding call_by without_output counts
  family_count_is = answer_cases (read_full sheet)
      (λ number place e. rw e (family_count_refused sheet cells marks number place e))
      (λ t e. rw e (family_count_accepted sheet cells marks t e ∙ into t (dec_le _ _) (dec_le _ _)))
    where
      into : (t : Table) → Dec (t.header.levels ^ t.header.inputs ≤ length cells) → Dec (marks_length t.header.inputs ≤ length marks)
          → counted_into t cells marks ≡ without_output (into_by four_to_byte counts t cells marks [])
      into t (no h) _ = counted_13 t cells marks (lt_of_not-le h) ∙ ap without_output (sym (by_13 four_to_byte counts t cells marks [] (lt_of_not-le h)))
      into t (yes h) (no k) = counted_14 t cells marks h (lt_of_not-le k) ∙ ap without_output (sym (by_14 four_to_byte counts t cells marks [] h (lt_of_not-le k)))
      into t (yes h) (yes k) = counted_marked t cells marks h k ∙ ap without_output (sym (by_rest four_to_byte counts t cells marks [] h k))

-- ---- as before: packed, and one byte each

module _ (sheet cells marks other output : List ℕ) where
  pub make_as_before : BothLong four_to_byte byte_each (read_full sheet) marks other
      → SameOutcome (make_call sheet cells marks output) (call_by byte_each (makes_any_store settled_net) (read_full sheet) cells other output)
  make_as_before long =
      subst⁻¹ (λ (made : Made). SameOutcome made (call_by byte_each (makes_any_store settled_net) (read_full sheet) cells other output))
      (make_is sheet cells marks output)
      (stores_alike four_to_byte byte_each (makes_any_store settled_net) (make_any_store settled_net) (read_full sheet) cells marks other output long)

  pub settle_as_before : BothLong four_to_byte byte_each (read_as_table sheet) marks other
      → SameOutcome (settle_call sheet cells marks output) (call_by byte_each (makes_any_store settled_net) (read_as_table sheet) cells other output)
  settle_as_before long =
      subst⁻¹ (λ (made : Made). SameOutcome made (call_by byte_each (makes_any_store settled_net) (read_as_table sheet) cells other output))
      (settle_is sheet cells marks output)
      (stores_alike four_to_byte byte_each (makes_any_store settled_net) (make_any_store settled_net) (read_as_table sheet) cells marks other output long)

-- ---- marking, which takes bare cells

-- "writes the marks buffer and answers the whole group's mark", for any way to store
unfoldable pub marking_by : Store → ℕ → ℕ → List ℕ → List ℕ → Marked
marking_by s m n cells buffer = elim (full_cells m n cells) [
  | refused number place ↦ record { answer = refused number place; marks = buffer }
  | accepted _ ↦ elim (ltb (length buffer) (s.need n)) [
    | true ↦ record { answer = refused 14 (s.need n); marks = buffer }
    | false ↦
        let marks = marks_of m n (ink_in cells) in
        record { answer = accepted (mark_in marks (whole_group n)); marks = written buffer (s.bytes marks) }
  ]
]

module _ (m n : ℕ) (cells buffer : List ℕ) where
  pub marking_is : marking_call m n cells buffer ≡ marking_by four_to_byte m n cells buffer
  unfolding marking_call marking_by
  marking_is = refl

-- its result, for any way and for the packed one
module _ (s : Store) (m n : ℕ) (cells buffer : List ℕ) where
  by_bare : (number place : ℕ) → full_cells m n cells ≡ refused number place
      → marking_by s m n cells buffer ≡ record { answer = refused number place; marks = buffer }
  unfolding marking_by
  by_bare number place e = rw (e, marking_by)

  pub by_marks : full_cells m n cells ≡ accepted tt → s.need n ≤ length buffer
      → marking_by s m n cells buffer
      ≡ record { answer = accepted (mark_in (marks_of m n (ink_in cells)) (whole_group n)); marks = written buffer (s.bytes (marks_of m n (ink_in cells))) }
  unfolding marking_by
  by_marks e h = rw (e, le-ltb _ _ h, marking_by)

pub marking_bare : (m n : ℕ) (cells buffer : List ℕ) (number place : ℕ) → full_cells m n cells ≡ refused number place
    → marking_call m n cells buffer ≡ record { answer = refused number place; marks = buffer }
marking_bare m n cells buffer number place e = marking_is m n cells buffer ∙ by_bare four_to_byte m n cells buffer number place e

-- its answer is the same for any two ways
pub marking_alike : (s s' : Store) (m n : ℕ) (cells buffer other : List ℕ) → s.need n ≤ length buffer → s'.need n ≤ length other
    → (marking_by s m n cells buffer).answer ≡ (marking_by s' m n cells other).answer
marking_alike s s' m n cells buffer other h k = answer_cases (full_cells m n cells)
    (λ number place e. answered (by_bare s m n cells buffer number place e) ∙ sym (answered (by_bare s' m n cells other number place e)))
    (λ _ e. answered (by_marks s m n cells buffer e h) ∙ sym (answered (by_marks s' m n cells other e k)))
  where
    answered : {a b : Marked} → a ≡ b → a.answer ≡ b.answer
    answered e i = (e i).answer
