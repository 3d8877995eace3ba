-- A gate's digits.
-- Assumes nothing.
use Rattle.std.specs.Prelude.{◌<◌, ◌≤◌, ◌+◌, ◌-◌, ◌*◌, ◌≡◌, ◌&&◌, Ok}
use Rattle.laws.specs.Prelude.{ℕ, ◌∙◌, sym, ap, refl, true, false, Bool, and-eq-true_iff, List, map}
use Rattle.laws.specs.Prelude.{add-one, arith, eqb, ltb, leb, length, get_or, take, drop, set, length-map, length-drop, get_or-map, length-take-le}
use Rattle.laws.specs.Prelude.{get_or-take, get_or-drop, paste, paste-suc, eq-eqb, eqb-true, ne_eqb, leb-true}
use Rattle.rules.specs.Lists.{all}
use Rattle.rules.specs.Text.{is_digit, zero_byte, newline_byte}
use Rattle.rules.specs.Sheets.Fields.{good, field, run}
use Rattle.rules.specs.Sheets.Sheets.{digits_field}
use Rattle.laws.specs.Lists.Places.{mem_get_or}
use Rattle.laws.specs.Lists.Runs.{run_front}
use Rattle.laws.specs.Lists.Tests.{all_mem}
use Rattle.fields.specs.Judging.{field_tested}
use Rattle.answers.specs.declared.refusal.Kind.TheVariants as kinds
use Rattle.fields.specs.Steps.{Step, Verdict, tested, judged_as, judged_field, judged_field_in, step_as, itself}
use Rattle.fields.specs.Taken.{Taken, field_on}
use Rattle.fields.specs.declared.steps.Field.{Field}

-- the `count` digits at `at` in the sheet, as numbers
abbrev pub digits_at : List ℕ → ℕ → ℕ → List ℕ
digits_at s at count = map (λ b. b - zero_byte) (take count (drop at s))

-- and as bytes that are digits
abbrev pub are_digits : List ℕ → ℕ → ℕ → Type 0
are_digits s at count = (i : ℕ) → i < count → zero_byte ≤ get_or s (at + i) 0

-- the test that the table field makes
unfoldable pub is_table : ℕ → List ℕ → Bool
is_table m w = eqb (length w) (m * m) && all (is_digit m) w

-- reading a gate's digits at `at`
pub record DigitsRead (s : List ℕ) (at m : ℕ) (r : Step) : Type 0 where
  pub reads : step_as (λ count. digits_at s at count) s r ≡ field (digits_field m) newline_byte (drop at s) at
  pub count : (field : Field) → r ≡ Ok field → field.value ≡ m * m
  pub within : (field : Field) → r ≡ Ok field → at + m * m ≤ length s
  pub digits : (field : Field) → r ≡ Ok field → are_digits s at (m * m)

-- ---- the field

pub table_long : (m : ℕ) (w : List ℕ) → (length w ≡ m * m → ⊥) → false ≡ is_table m w
unfolding is_table
table_long m w e = rw (ne_eqb (length w) (m * m) e)

pub table_digits : (m : ℕ) (w : List ℕ) → length w ≡ m * m → all (is_digit m) w ≡ is_table m w
unfolding is_table
table_digits m w e = rw (eq-eqb (length w) (m * m) e)

digit_least : (m b : ℕ) → is_digit m b ≡ true → zero_byte ≤ b
unfolding is_digit
digit_least m b e = leb-true zero_byte b ((and-eq-true_iff (leb zero_byte b) (ltb b (zero_byte + m))).0 e).0

pub digits_read : (s : List ℕ) (at m : ℕ) (w : List ℕ) (test : Bool) (v : Verdict) (r : Step) → w ≡ run (drop at s)
    → test ≡ is_table m w → v ≡ tested test (length w) kinds.Digits → step_as itself s r ≡ judged_field v newline_byte s at → DigitsRead s at m r
unfolding tested judged_field_in digits_field is_table
digits_read s at m w test v r is table e after =
    record {
      reads =
          field_tested (λ count. digits_at s at count) (digits_field m) newline_byte s at w test (length w) kinds.Digits v r is e
          (rw (front, table) refl) after;
      count = λ field q. (told field q).0;
      within = λ field q. (told field q).1;
      digits = λ field q. (told field q).2;
    }
  where
    front : take (length w) (drop at s) ≡ w
    front = rw is (run_front (drop at s))

    go : (t : Bool) → t ≡ is_table m w → (count next : ℕ) → judged_as itself (tested t (length w) kinds.Digits) ≡ good count
        → Taken (λ _. judged_as itself v) count s at next
        → (count ≡ m * m) × (at + m * m ≤ length s) × are_digits s at (m * m)
    go false other count next good_count taken = let z : ◌≡◌ {A = ℕ} 0 1 = cc in absurd (omega arith)
    go true same count next good_count taken =
        let (sized, digits) = (and-eq-true_iff (eqb (length w) (m * m)) (all (is_digit m) w)).0 (sym same) in
        let long : length w ≡ m * m = eqb-true (length w) (m * m) sized in
        let whole : length w ≡ count = cc in (
          sym whole ∙ long,
          omega (arith, taken.ends, taken.within, ap length is, long),
          λ i h.
              digit_least m (get_or s (at + i) 0)
              (rw (← get_or-drop at s i 0, ← get_or-take (length w) (drop at s) i 0 (rw long h), front) (all_mem (is_digit m) (mem_get_or w i 0 (rw long h)) digits)),
        )

    told : (field : Field) → r ≡ Ok field → (field.value ≡ m * m) × (at + m * m ≤ length s) × are_digits s at (m * m)
    told field q =
        let taken = field_on s r at field q itself (λ _. judged_as itself v) newline_byte after in
        go test table field.value field.next (ap (judged_as itself) (sym e) ∙ taken.judged) taken

-- ---- copying the digits

pub net_digits_count : (s : List ℕ) (at count : ℕ) → at + count ≤ length s → length (digits_at s at count) ≡ count
net_digits_count s at count h = length-map (take count (drop at s)) (λ b. b - zero_byte) ∙ length-take-le count (drop at s) (rw length-drop (omega arith))

digit_at : (s : List ℕ) (at count i : ℕ) → i < count → get_or (digits_at s at count) i 0 ≡ get_or s (at + i) 0 - zero_byte
digit_at s at count i h =
    get_or-map (λ b. b - zero_byte) (take count (drop at s)) i 0
    ∙ ap (λ b. b - zero_byte) (get_or-take count (drop at s) i 0 h ∙ get_or-drop at s i 0)

pub digits_copied : (s : List ℕ) (at count : ℕ) (digits : List ℕ) (from i : ℕ) → at + count ≤ length s → from + count ≤ length digits → i < count
    → set (paste digits from (digits_at s at count) i) (from + i) (get_or s (at + i) 0 - zero_byte) ≡ paste digits from (digits_at s at count) (i + 1)
digits_copied s at count digits from i h k l =
    ap (λ b. set (paste digits from (digits_at s at count) i) (from + i) b) (sym (digit_at s at count i l))
    ∙ (paste-suc digits from (digits_at s at count) i 0 (omega arith) (rw (net_digits_count s at count h) l)
    ∙ ap (paste digits from (digits_at s at count)) (sym (add-one i)))
