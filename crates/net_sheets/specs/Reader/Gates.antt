-- Gate lines, one after the other.
-- Assumes nothing.
use Rattle.std.specs.Prelude.{◌<◌, ◌≤◌, ◌+◌, ◌*◌, ◌≡◌, ◌∷◌, ◌++◌, Result, Ok, Err}
use Rattle.laws.specs.Prelude.{ℕ, ◌∙◌, sym, ap, refl, Bool, List, [], arith, length, drop, length-set, paste}
use Rattle.laws.specs.Prelude.{length-paste}
use Rattle.rules.specs.Text.{space, newline, newline_byte}
use Rattle.rules.specs.Sheets.Fields.{Read, read, turned_back, Reader, then, ◌>>=◌, give, field}
use Rattle.rules.specs.Sheets.Sheets as sheets
use Rattle.rules.specs.Sheets.Sheets.{reference_field, digits_field, used_by, gate_line}
use Rattle.answers.specs.Kinds.{number_of}
use Rattle.answers.specs.declared.refusal.Refusal.{Refusal}
use Rattle.fields.specs.Chained.{never_both}
use Rattle.fields.specs.Steps.{Step, read_as, step_as, itself}
use Rattle.fields.specs.declared.steps.Field.{Field}
use Rattle.nets.specs.Forms.{gates_of}
use Rattle.nets.specs.Growing.{grown, gates_grown}
use Rattle.nets.specs.declared.forms.Net.{Net}
use Rattle.net_sheets.specs.Reader.Digits.{are_digits, digits_at, DigitsRead}
use Rattle.net_sheets.specs.Reader.Keys.{Keyed}
use Rattle.net_sheets.specs.Reader.References.{Marked, ReferenceRead}
use Rattle.nets.specs.Room.{most_gates, most_wires, most_digits}
use Rattle.net_sheets.specs.declared.reader.gates.Line.{Line}

-- a net with room for the largest size
pub record NetForm (net : Net) : Type 0 where
  pub lefts : length net.left ≡ most_gates
  pub rights : length net.right ≡ most_gates
  pub digits : length net.digits ≡ most_digits

-- the net with one more gate
pub record NetGrown (net : Net) (gate : sheets.Gate) (r : Net) : Type 0 where
  pub form : NetForm r
  pub levels : r.levels ≡ net.levels
  pub inputs : r.inputs ≡ net.inputs
  pub count : r.gates ≡ net.gates + 1
  pub gates : gates_of r ≡ gates_of net ++ (gate ∷ [])

-- one more gate
pub form_grown : (net : Net) (left right : ℕ) (v digits : List ℕ) → NetForm net → net.gates < most_gates
    → (net.gates + 1) * (net.levels * net.levels) ≤ most_digits → length v ≡ net.levels * net.levels
    → digits ≡ paste net.digits (net.gates * (net.levels * net.levels)) v (net.levels * net.levels)
    → NetGrown net (record { left = left; right = right; digits = v }) (grown net left right digits)
form_grown net left right v digits form few room long pasted =
    let size = net.levels * net.levels in
    record {
      form =
          record {
            lefts = length-set net.left net.gates left ∙ form.lefts;
            rights = length-set net.right net.gates right ∙ form.rights;
            digits = ap length pasted
                ∙ length-paste net.digits (net.gates * size) v size (omega (arith, form.digits)) (omega arith)
                ∙ form.digits;
          };
      levels = refl;
      inputs = refl;
      count = refl;
      gates = gates_grown net left right v digits (rw form.lefts few) (rw form.rights few) (rw form.digits room) long pasted;
    }

-- ---- a gate line, field by field

-- a line in the sheet s with m levels
abbrev pub line_as : ℕ → List ℕ → Result Line Refusal → Read sheets.Gate
line_as m s r =
    read_as (λ line. record { left = line.left; right = line.right; digits = digits_at s line.digits (m * m) }) (λ line. line.next) s r

-- document 01's gate line from its table field on, and from its right field on
unfoldable pub digits_only : ℕ → ℕ → ℕ → Reader sheets.Gate
digits_only m left right = field (digits_field m) newline >>= λ digits. give (record { left = left; right = right; digits = digits })

unfoldable pub right_only : ℕ → List (List ℕ) → List sheets.Gate → ℕ → Reader sheets.Gate
right_only m names earlier left = field (reference_field names (length earlier) (left ∷ used_by earlier)) space >>= digits_only m left

-- the digits of a line that was read
pub record LineDigits (s : List ℕ) (m place : ℕ) : Type 0 where
  pub within : place + m * m ≤ length s
  pub digits : are_digits s place (m * m)

-- reading the rest of a gate line from its table field on
pub record DigitsLine (s : List ℕ) (at m left right : ℕ) (r : Result Line Refusal) : Type 0 where
  pub reads : line_as m s r ≡ digits_only m left right (drop at s) at
  pub held : (line : Line) → r ≡ Ok line → (line.left ≡ left) × (line.right ≡ right) × LineDigits s m line.digits

-- a line that was read after these gates: its references are small, and they are marked too
pub record LineHeld (s : List ℕ) (m : ℕ) (gates : List sheets.Gate) (after : List Bool) (a b place : ℕ) : Type 0 where
  pub left : a < most_wires
  pub right : b < most_wires
  pub digits : LineDigits s m place
  pub marked : Marked after (b ∷ a ∷ used_by gates)

pub record LineRead (s : List ℕ) (at m : ℕ) (reader : Reader sheets.Gate) (gates : List sheets.Gate) (after : List Bool)
    (r : Result Line Refusal) : Type 0 where
  pub reads : line_as m s r ≡ reader (drop at s) at
  pub held : (line : Line) → r ≡ Ok line → LineHeld s m gates after line.left line.right line.digits

-- from the right field on
abbrev pub RightLine : List ℕ → ℕ → ℕ → List ℕ → List ℕ → ℕ → ℕ → List Bool → List Bool → Result Line Refusal → Type 0
RightLine s at m keys lens count left used after r =
    (names : List (List ℕ)) → Keyed names keys lens count → (gates : List sheets.Gate) → length names + length gates ≡ count → Marked used (left ∷ used_by gates)
    → LineRead s at m (right_only m names gates left) gates after r

-- the whole line
abbrev pub WholeLine : List ℕ → ℕ → ℕ → List ℕ → List ℕ → ℕ → List Bool → List Bool → Result Line Refusal → Type 0
WholeLine s at m keys lens count used after r =
    (names : List (List ℕ)) → Keyed names keys lens count → (gates : List sheets.Gate) → length names + length gates ≡ count → Marked used (used_by gates)
    → LineRead s at m (gate_line m names gates) gates after r

-- one field, then the rest
module _ {A B : Type 0} (f : ℕ → A) (one : Reader A) (rest : A → Reader B) (s : List ℕ) (at : ℕ) (step : Step)
    (reads : step_as f s step ≡ one (drop at s) at) where
  field_back : (e : Refusal) → step ≡ Err e → turned_back (number_of e.kind) e.place ≡ (one >>= rest) (drop at s) at
  unfolding then
  field_back e is = rw (← reads, is) refl

  field_next : (field : Field) (x : Read B) → step ≡ Ok field → x ≡ rest (f field.value) (drop field.next s) field.next → x ≡ (one >>= rest) (drop at s) at
  unfolding then
  field_next field x is onward = rw (← reads, is) onward

module _ (s : List ℕ) (at m left right : ℕ) (step : Step) (digits : DigitsRead s at m step) where
  pub digits_back : (e : Refusal) → step ≡ Err e → DigitsLine s at m left right (Err e)
  unfolding digits_only newline
  digits_back e is =
      record {
        reads = field_back (λ count. digits_at s at count) (field (digits_field m) newline_byte) _ s at step digits.reads e is;
        held = λ line q. absurd (never_both (Err e) e line refl q);
      }

  pub digits_on : (field : Field) → step ≡ Ok field
      → DigitsLine s at m left right (Ok (record { left = left; right = right; digits = at; next = field.next }))
  unfolding digits_only newline
  digits_on table is =
      record {
        reads =
            field_next (λ count. digits_at s at count) (field (digits_field m) newline_byte) _ s at step digits.reads table _ is
            (ap (λ k. read (record { left = left; right = right; digits = digits_at s at k }) (drop table.next s) table.next) (sym (digits.count table is)));
        held = λ line q. (
          (cc),
          (cc),
          let here : at ≡ line.digits = cc in
              rw (← here) (record { within = digits.within table is; digits = digits.digits table is }),
        );
      }

module _ (s : List ℕ) (at m : ℕ) (keys lens : List ℕ) (count : ℕ) (used after : List Bool) (step : Step)
    (reference : ReferenceRead s at keys lens count used after step) where
  module _ (names : List (List ℕ)) (keyed : Keyed names keys lens count) (gates : List sheets.Gate)
      (all : length names + length gates ≡ count) (list : List ℕ) (marked : Marked used list) (rest : ℕ → Reader sheets.Gate) where
    one : Reader ℕ
    one = field (reference_field names (length gates) list) space

    one_reads : step_as itself s step ≡ one (drop at s) at
    unfolding one space
    one_reads = reference.reads names (length gates) list all keyed marked

    reference_back : (last : List Bool) (e : Refusal) → step ≡ Err e → LineRead s at m (one >>= rest) gates last (Err e)
    reference_back last e is =
        record {
          reads = field_back itself one rest s at step one_reads e is;
          held = λ line q. absurd (never_both (Err e) e line refl q);
        }

    reference_on : (field : Field) (r : Result Line Refusal) → step ≡ Ok field → line_as m s r ≡ rest field.value (drop field.next s) field.next
        → line_as m s r ≡ (one >>= rest) (drop at s) at
    reference_on field r is onward = field_next itself one rest s at step one_reads field (line_as m s r) is onward

  pub right_back : (left : ℕ) (e : Refusal) → step ≡ Err e → RightLine s at m keys lens count left used after (Err e)
  unfolding right_only one
  right_back left e is names keyed gates all marked =
      reference_back names keyed gates all (left ∷ used_by gates) marked (digits_only m left) after e is

  pub right_on : (left : ℕ) (field : Field) (r : Result Line Refusal) → left < most_wires → step ≡ Ok field → DigitsLine s field.next m left field.value r
      → RightLine s at m keys lens count left used after r
  unfolding right_only one
  right_on left field r small is rest names keyed gates all marked =
      record {
        reads = reference_on names keyed gates all (left ∷ used_by gates) marked (digits_only m left) field r is rest.reads;
        held = λ line q.
            let (same_left, same_right, digits) = rest.held line q in
            rw (same_left, same_right)
            (record {
              left = small;
              right = reference.below field is;
              digits = digits;
              marked = reference.marks (left ∷ used_by gates) field marked is;
            });
      }

  pub left_back : (e : Refusal) → step ≡ Err e → WholeLine s at m keys lens count used after (Err e)
  unfolding gate_line right_only digits_only one
  left_back e is names keyed gates all marked =
      reference_back names keyed gates all (used_by gates) marked (right_only m names gates) after e is

  pub left_on : (last : List Bool) (field : Field) (r : Result Line Refusal) → step ≡ Ok field
      → RightLine s field.next m keys lens count field.value after last r → WholeLine s at m keys lens count used last r
  unfolding gate_line right_only digits_only one
  left_on last field r is line names keyed gates all marked =
      let rest = line names keyed gates all (reference.marks (used_by gates) field marked is) in
      record {
        reads = reference_on names keyed gates all (used_by gates) marked (right_only m names gates) field r is rest.reads;
        held = rest.held;
      }
