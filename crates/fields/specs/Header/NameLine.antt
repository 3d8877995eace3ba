-- Line 3, name by name; the first three lines.
-- Assumes nothing.
use Rattle.std.specs.Prelude.{◌<◌, ◌≤◌, ◌+◌, ◌-◌, ◌≡◌, ◌∷◌, ◌++◌, Result, Ok, Err}
use Rattle.laws.specs.Prelude.{ℕ, suc, zero, ◌∙◌, sym, ap, subst, refl, true, false, Bool, List, [], map, zero-add, sub-zero}
use Rattle.laws.specs.Prelude.{add-one, arith, eqb, length, get_or, take, drop, set, length-set, get_or-set_same, get_or-set_other, eqb-true, eqb-false}
use Rattle.laws.specs.Lists.Concat.{map-append}
use Rattle.laws.specs.Lists.Ranges.{range_suc, map_range_same}
use Rattle.laws.specs.Lists.Runs.{run_front}
use Rattle.rules.specs.Lists.{range}
use Rattle.rules.specs.Text.{space, space_byte}
use Rattle.rules.specs.Sheets.Sheets as sheets
use Rattle.rules.specs.Sheets.Fields.{Read, good, then, give, field_in, run, Layout}
use Rattle.rules.specs.Sheets.Sheets.{name_field, name_fields_in}
use Rattle.rules.specs.Limits.{most_inputs, most_name_bytes}
use Rattle.nets.specs.Forms.{no_names_of, name_in, header_of, NamesHeld}
use Rattle.nets.specs.declared.forms.Header.{Header}
use Rattle.fields.specs.Chained.{never_both}
use Rattle.fields.specs.Judging.{field_tested_in}
use Rattle.answers.specs.declared.refusal.Kind.TheVariants as kinds
use Rattle.answers.specs.declared.refusal.Refusal.{Refusal}
use Rattle.fields.specs.Steps.{Step, Verdict, tested, judged_as, judged_field_in, read_as, step_as, itself}
use Rattle.fields.specs.declared.steps.Field.{Field}
use Rattle.fields.specs.Taken.{TakenIn, field_on_in}
use Rattle.fields.specs.Header.Names.{is_new, new_short}
use Rattle.fields.specs.declared.header.name_line.HeaderRead.{HeaderRead}

-- reading a name at `at`
pub record NameRead (layout : Layout) (s : List ℕ) (at due : ℕ) (earlier : List (List ℕ)) (r : Step) : Type 0 where
  pub reads : step_as (λ len. take len (drop at s)) s r ≡ field_in layout (name_field earlier) due (drop at s) at
  pub held : (field : Field) → r ≡ Ok field → (field.value ≤ most_name_bytes) × (at + field.value ≤ length s)

-- the separator required after a name, by the number of names left
unfoldable pub due_before : ℕ → ℕ → ℕ
due_before zero last = last
due_before (suc left) last = space

pub due_last : (i n last : ℕ) → i + 1 ≡ n → last ≡ due_before (n - (i + 1)) last
unfolding due_before
due_last i n last e = sym (ap (λ k. due_before k last) none_left)
  where
    none_left : n - (i + 1) ≡ 0
    none_left = omega arith

pub due_space : (i n last : ℕ) → i < n → (i + 1 ≡ n → ⊥) → space_byte ≡ due_before (n - (i + 1)) last
unfolding due_before space
due_space i n last h e = sym (ap (λ k. due_before k last) some_left)
  where
    some_left : n - (i + 1) ≡ suc (n - (i + 2))
    some_left = omega arith

-- the first `count` names are short
abbrev pub NamesShort : Header → ℕ → Type 0
NamesShort h count = (i : ℕ) → i < count → get_or h.lens i 0 ≤ most_name_bytes

-- a header that was read, in the definitions
abbrev pub header_as : List ℕ → Result HeaderRead Refusal → Read sheets.Header
header_as s r = read_as (λ read. header_of s read.header) (λ read. read.next) s r

-- the properties of a header with n names under m levels
pub record NamesTold (s : List ℕ) (m n : ℕ) (h : Header) : Type 0 where
  pub levels : h.levels ≡ m
  pub inputs : h.inputs ≡ n
  pub held : NamesHeld s h n
  pub short : NamesShort h n

-- reading n names from `at` on, under m levels
pub record NamesRead (layout : Layout) (s : List ℕ) (at m n last : ℕ) (r : Result HeaderRead Refusal) : Type 0 where
  pub reads : header_as s r ≡ then (name_fields_in layout last n [] (drop at s) at) (λ names. give (record { levels = m; inputs = n; names = names }))
  pub told : (read : HeaderRead) → r ≡ Ok read → NamesTold s m n read.header

-- ---- a name

pub name_read : (layout : Layout) (s : List ℕ) (at due : ℕ) (earlier : List (List ℕ)) (w : List ℕ) (test : Bool) (v : Verdict) (r : Step) → w ≡ run (drop at s)
    → test ≡ is_new earlier w → v ≡ tested test (length w) kinds.Name → step_as itself s r ≡ judged_field_in layout v due s at → NameRead layout s at due earlier r
unfolding tested judged_field_in name_field
name_read layout s at due earlier w test v r is new e after =
    record {
      reads = field_tested_in (λ len. take len (drop at s)) layout (name_field earlier) due s at w test (length w) kinds.Name v r is e (rw (front, new) refl) after;
      held = λ field q.
          let told = field_on_in s r at field q layout itself (λ _. judged_as itself v) due after in
          go test new field.value field.next (ap (judged_as itself) (sym e) ∙ told.judged) told;
    }
  where
    front : take (length w) (drop at s) ≡ w
    front = rw is (run_front (drop at s))

    go : (t : Bool) → t ≡ is_new earlier w → (len next : ℕ) → judged_as itself (tested t (length w) kinds.Name) ≡ good len → TakenIn (λ _. judged_as itself v) len s at next
        → (len ≤ most_name_bytes) × (at + len ≤ length s)
    go true is_new_lem len next good_len told =
        let long : length w ≡ len = cc in
        (omega (arith, new_short earlier w (sym is_new_lem)), omega (arith, told.beyond, told.within, ap length is))
    go false is_old len next good_len told = let z : ◌≡◌ {A = ℕ} 0 1 = cc in absurd (omega arith)

-- ---- one more name

names_more : (layout : Layout) (last left : ℕ) (earlier : List (List ℕ)) (t : List ℕ) (p : ℕ)
    → name_fields_in layout last (suc left) earlier t p
    ≡ then (field_in layout (name_field earlier) (due_before left last) t p) (λ w. name_fields_in layout last left (earlier ++ (w ∷ [])))
unfolding name_fields_in due_before
names_more layout last zero earlier t p = refl
names_more layout last (suc left) earlier t p = refl

counted : (i n : ℕ) → i < n → n - i ≡ suc (n - (i + 1))
counted i n h = omega arith

-- the names that were read, in a sheet's header
abbrev names_to : List ℕ → Header → ℕ → List (List ℕ)
names_to s h i = map (name_in s h) (range 0 i)

-- the loop's state: i names are read, and the names from here are the names from the start
pub record Reading (layout : Layout) (s : List ℕ) (at m n last : ℕ) (h : Header) (place i : ℕ) : Type 0 where
  pub levels : h.levels ≡ m
  pub inputs : h.inputs ≡ n
  pub starts : length h.starts ≡ most_inputs
  pub lens : length h.lens ≡ most_inputs
  pub most : i ≤ n
  pub held : NamesHeld s h i
  pub short : NamesShort h i
  pub reads : name_fields_in layout last n [] (drop at s) at ≡ name_fields_in layout last (n - i) (names_to s h i) (drop place s) place

pub names_start : (layout : Layout) (s : List ℕ) (at m n last : ℕ) → Reading layout s at m n last (no_names_of m n) at 0
unfolding range no_names_of
names_start layout s at m n last =
    record {
      levels = refl;
      inputs = refl;
      starts = refl;
      lens = refl;
      most = omega arith;
      held = λ i h. absurd (omega arith);
      short = λ i h. absurd (omega arith);
      reads = rw (sub-zero n) refl;
    }

-- the header with one more name
abbrev pub named : Header → ℕ → ℕ → ℕ → Header
named h i start len =
    record { levels = h.levels; inputs = h.inputs; starts = set h.starts i start; lens = set h.lens i len }

-- the names before a stored one stay the same, and it comes after them
names_stay : (s : List ℕ) (h : Header) (i start len : ℕ) → i < length h.starts → i < length h.lens
    → names_to s (named h i start len) (i + 1) ≡ names_to s h i ++ (take len (drop start s) ∷ [])
unfolding name_in
names_stay s h i start len hs hl =
    ap (λ k. names_to s (named h i start len) k) (add-one i)
    ∙ (ap (map (name_in s (named h i start len))) (range_suc 0 i)
    ∙ (map-append (name_in s (named h i start len)) (range 0 i) ((0 + i) ∷ [])
    ∙ (λ j. earlier_names j ++ (last_name j ∷ []))))
  where
    earlier_names : names_to s (named h i start len) i ≡ names_to s h i
    earlier_names = map_range_same (name_in s (named h i start len)) (name_in s h) 0 i
        (λ k _ below. λ j. take (get_or-set_other h.lens i k len 0 (λ q. omega (arith, q)) j)
        (drop (get_or-set_other h.starts i k start 0 (λ q. omega (arith, q)) j) s))

    last_name : name_in s (named h i start len) (0 + i) ≡ take len (drop start s)
    last_name = rw (zero-add i, get_or-set_same h.lens i len 0 hl, get_or-set_same h.starts i start 0 hs) refl

names_held : (s : List ℕ) (h : Header) (i start len : ℕ) → i < length h.starts → i < length h.lens
    → NamesHeld s h i → start + len ≤ length s → NamesHeld s (named h i start len) (i + 1)
names_held s h i start len hs hl held fits k below = go (eqb k i) refl
  where
    go : (t : Bool) → eqb k i ≡ t → get_or (set h.starts i start) k 0 + get_or (set h.lens i len) k 0 ≤ length s
    go true q = rw (eqb-true k i q, get_or-set_same h.starts i start 0 hs, get_or-set_same h.lens i len 0 hl) fits
    go false q =
        let other = eqb-false k i q in
        rw (get_or-set_other h.starts i k start 0 other, get_or-set_other h.lens i k len 0 other) (held k (omega arith))

names_short : (h : Header) (i start len : ℕ) → i < length h.lens → NamesShort h i → len ≤ most_name_bytes → NamesShort (named h i start len) (i + 1)
names_short h i start len hl short fits k below = go (eqb k i) refl
  where
    go : (t : Bool) → eqb k i ≡ t → get_or (set h.lens i len) k 0 ≤ most_name_bytes
    go true q = rw (eqb-true k i q, get_or-set_same h.lens i len 0 hl) fits
    go false q = rw (get_or-set_other h.lens i k len 0 (eqb-false k i q)) (short k (omega (arith, eqb-false k i q)))

module _ (layout : Layout) (s : List ℕ) (at m n last : ℕ) (h : Header) (place i : ℕ) (reading : Reading layout s at m n last h place i) where
  pub names_done : n ≤ i → NamesRead layout s at m n last (Ok (record { header = h; next = place }))
  unfolding name_fields_in then header_of
  names_done done =
      record {
        reads = rw (reading.reads, none_left, reading.levels, reading.inputs, all_read) refl;
        told = λ read e. subst (NamesTold s m n) (the_header read e) here;
      }
    where
      none_left : n - i ≡ 0
      none_left = omega arith

      all_read : n ≡ i
      all_read = omega (arith, reading.most)

      the_header : (read : HeaderRead) → ◌≡◌ {A = Result HeaderRead Refusal} (Ok (record { header = h; next = place })) (Ok read) → h ≡ read.header
      the_header read e = cc

      here : NamesTold s m n h
      here =
          record {
            levels = reading.levels;
            inputs = reading.inputs;
            held = λ k below. reading.held k (omega (arith, below));
            short = λ k below. reading.short k (omega (arith, below));
          }

  module _ (r : Step) (due : ℕ) (more : i < n) (is_due : due ≡ due_before (n - (i + 1)) last) (name : NameRead layout s place due (names_to s h i) r) where
    onward : name_fields_in layout last n [] (drop at s) at
        ≡ then (step_as (λ len. take len (drop place s)) s r) (λ w. name_fields_in layout last (n - (i + 1)) (names_to s h i ++ (w ∷ [])))
    onward =
        reading.reads
        ∙ (ap (λ k. name_fields_in layout last k (names_to s h i) (drop place s) place) (counted i n more)
        ∙ (names_more layout last (n - (i + 1)) (names_to s h i) (drop place s) place
        ∙ ap (λ x. then x (λ w. name_fields_in layout last (n - (i + 1)) (names_to s h i ++ (w ∷ []))))
        (ap (λ d. field_in layout (name_field (names_to s h i)) d (drop place s) place) (sym is_due) ∙ sym name.reads)))

    pub names_back : (e : Refusal) → r ≡ Err e → NamesRead layout s at m n last (Err e)
    unfolding then
    names_back e is = record { reads = rw (onward, is) refl; told = λ read q. absurd (never_both (Err e) e read refl q) }

    pub names_next : (field : Field) → n ≤ most_inputs → r ≡ Ok field → Reading layout s at m n last (named h i place field.value) field.next (i + 1)
    unfolding then
    names_next field few e =
        record {
          levels = reading.levels;
          inputs = reading.inputs;
          starts = length-set h.starts i place ∙ reading.starts;
          lens = length-set h.lens i field.value ∙ reading.lens;
          most = omega arith;
          held =
              names_held s h i place field.value (omega (arith, reading.starts)) (omega (arith, reading.lens)) reading.held
              (name.held field e).1;
          short = names_short h i place field.value (omega (arith, reading.lens)) reading.short (name.held field e).0;
          reads = rw (onward, e, names_stay s h i place field.value (omega (arith, reading.starts)) (omega (arith, reading.lens))) refl;
        }
