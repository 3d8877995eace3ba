-- A row's levels four at a time: four levels, each with the space after it, as one number, and its eight bytes.
-- Assumes nothing.
use Rattle.std.specs.Prelude.{◌<◌, ◌≤◌, ◌+◌, ◌-◌, ◌*◌, ◌%◌, ◌/◌, ◌≡◌, ◌∷◌, ◌++◌}
use Rattle.laws.specs.Prelude.{ℕ, suc, zero, ◌∙◌, sym, ap, refl, List, [], map}
use Rattle.laws.specs.Prelude.{arith, length, get_or, take, drop, set, length-append, length-drop, length-take-le, drop-cons, sets, length-sets, take-add}
use Rattle.laws.specs.Prelude.{set_comm, set-set, digits_mod}
use Rattle.rules.specs.Limits.{most_inputs}
use Rattle.rules.specs.Text.{space, newline, digit_byte, zero_byte, space_byte}
use Rattle.laws.specs.Lists.Bounds.{Below, below_more}
use Rattle.laws.specs.Lists.Pastes.{sets_append}
use Rattle.net_sheets.specs.Text.Lines.{spaced}
use Rattle.net_sheets.specs.Text.Put.{NetLeft, parts_left, put_left}
use Rattle.table_reader.specs.declared.fast.words.Words.{Words}
use Rattle.table_reader.specs.Fast.Words.{due_pair, due_word}
use Rattle.table_printer.specs.Rows.Rows.{one_digit, row_text, row_from_input, row_all, row_text_length}

-- ---- the text of some levels

-- each level followed by a space
unfoldable pub levels_text : List ℕ → List ℕ
levels_text [] = []
levels_text (l ∷ ls) = digit_byte l ∷ space ∷ levels_text ls

text_append : (ls ks : List ℕ) → levels_text (ls ++ ks) ≡ levels_text ls ++ levels_text ks
unfolding levels_text
text_append [] ks = refl
text_append (l ∷ ls) ks = ap {B = List ℕ} (λ (r : List ℕ). digit_byte l ∷ space ∷ r) (text_append ls ks)

text_length : (ls : List ℕ) → length (levels_text ls) ≡ 2 * length ls
unfolding levels_text
text_length [] = refl
text_length (l ∷ ls) = omega (arith, text_length ls)

front_length : (levels : List ℕ) (k : ℕ) → k ≤ length levels → length (levels_text (take k levels)) ≡ 2 * k
front_length levels k h = text_length (take k levels) ∙ ap (λ (j : ℕ). 2 * j) (length-take-le k levels h)

text_parts : (levels : List ℕ) (k j : ℕ) → levels_text (take (k + j) levels) ≡ levels_text (take k levels) ++ levels_text (take j (drop k levels))
text_parts levels k j = ap levels_text (take-add k j levels) ∙ text_append (take k levels) (take j (drop k levels))

spaced_text : (ls : List ℕ) → spaced (map one_digit ls) ≡ levels_text ls
unfolding spaced levels_text
spaced_text [] = refl
spaced_text (l ∷ ls) = ap {B = List ℕ} (λ (r : List ℕ). digit_byte l ∷ space ∷ r) (spaced_text ls)

-- a row is the text of its levels, and the ink
row_is : (ls : List ℕ) (b : ℕ) → row_text ls b ≡ levels_text ls ++ (b ∷ newline ∷ [])
unfolding row_from_input
row_is ls b = row_all ls b ∙ ap (λ (t : List ℕ). t ++ (b ∷ newline ∷ [])) (spaced_text ls)

-- ---- a word

-- the bytes of a number, two for each of k levels, the lowest first
abbrev pub bytes_of : ℕ → ℕ → List ℕ
bytes_of zero w = []
bytes_of (suc k) w = w % 256 ∷ w / 256 % 256 ∷ bytes_of k (w / 65536)

-- eight bytes
abbrev pub word_bytes : ℕ → List ℕ
word_bytes = bytes_of 4

-- levels as one number, the first the lowest
abbrev pub levels_word : List ℕ → ℕ
levels_word [] = 0
levels_word (l ∷ ls) = due_pair l + 65536 * levels_word ls

levels_bytes : (ls : List ℕ) → Below 10 ls → bytes_of (length ls) (levels_word ls) ≡ levels_text ls
unfolding levels_text digit_byte space
levels_bytes [] h = refl
levels_bytes (l ∷ ls) h =
    let low : levels_word (l ∷ ls) % 256 ≡ zero_byte + l = omega (arith, h.0) in
    let most : levels_word (l ∷ ls) / 256 ≡ levels_word ls * 256 + space_byte = omega (arith, h.0) in
    let high : levels_word (l ∷ ls) / 256 % 256 ≡ space_byte = ap (λ (k : ℕ). k % 256) most ∙ digits_mod (levels_word ls) (omega arith) in
    let rest : levels_word (l ∷ ls) / 65536 ≡ levels_word ls = omega (arith, h.0) in
    λ i. low i ∷ high i ∷ (ap (bytes_of (length ls)) rest ∙ levels_bytes ls h.1) i

four_text : (ls : List ℕ) → length ls ≡ 4 → Below 10 ls → word_bytes (levels_word ls) ≡ levels_text ls
four_text ls four h = ap (λ (k : ℕ). bytes_of k (levels_word ls)) (sym four) ∙ levels_bytes ls h

-- four levels of a list
pub four_levels : (levels : List ℕ) (i : ℕ) → i + 4 ≤ length levels
    → take 4 (drop i levels) ≡ get_or levels i 0 ∷ get_or levels (i + 1) 0 ∷ get_or levels (i + 2) 0 ∷ get_or levels (i + 2 + 1) 0 ∷ []
four_levels levels i h =
    let one : i + 1 ≡ suc i = omega arith in
    let two : i + 2 ≡ suc (suc i) = omega arith in
    let three : i + 2 + 1 ≡ suc (suc (suc i)) = omega arith in
    rw (
      three,
      two,
      one,
      drop-cons levels i 0 (omega arith),
      drop-cons levels (suc i) 0 (omega arith),
      drop-cons levels (suc (suc i)) 0 (omega arith),
      drop-cons levels (suc (suc (suc i))) 0 (omega arith),
    )

pub below_take : (k : ℕ) (ls : List ℕ) → Below 10 ls → Below 10 (take k ls)
below_take zero ls h = tt
below_take (suc k) [] h = tt
below_take (suc k) (l ∷ ls) h = (h.0, below_take k ls h.1)

pub below_drop : (k : ℕ) (ls : List ℕ) → Below 10 ls → Below 10 (drop k ls)
below_drop zero ls h = h
below_drop (suc k) [] h = tt
below_drop (suc k) (l ∷ ls) h = below_drop k ls h.1

-- their word has their text
word_text : (levels : List ℕ) (i : ℕ) → i + 4 ≤ length levels → Below 10 levels → word_bytes (due_word levels i) ≡ levels_text (take 4 (drop i levels))
word_text levels i h digits =
    let is : due_word levels i ≡ levels_word (take 4 (drop i levels)) = rw (four_levels levels i h) (omega arith) in
    ap word_bytes is
    ∙ four_text (take 4 (drop i levels)) (length-take-le 4 (drop i levels) (rw length-drop (omega arith)))
    (below_take 4 (drop i levels) (below_drop i levels digits))

-- ---- a text written over another

set_under : (v l : List ℕ) (p q a : ℕ) → p < q → set (sets l q v) p a ≡ sets (set l p a) q v
set_under [] l p q a h = refl
set_under (b ∷ v) l p q a h =
    set_under v (set l q b) p (suc q) a (omega arith) ∙ ap (λ (x : List ℕ). sets x (suc q) v) (set_comm l q p b a (λ e. omega (arith, e)))

written_over : (v w l : List ℕ) (p : ℕ) → length v ≤ length w → sets (sets l p v) p w ≡ sets l p w
written_over [] w l p h = refl
written_over (a ∷ v) [] l p h = absurd (omega arith)
written_over (a ∷ v) (b ∷ w) l p h =
    ap (λ (x : List ℕ). sets x (suc p) w)
    (set_under v (set l p a) p (suc p) b (omega arith) ∙ ap (λ (x : List ℕ). sets x (suc p) v) (set-set l p a b))
    ∙ written_over v w (set l p b) (suc p) (omega arith)

-- after u
over : (u v w l : List ℕ) (at : ℕ) → length v ≤ length w → sets (sets l at (u ++ v)) (at + length u) w ≡ sets l at (u ++ w)
over u v w l at h =
    ap (λ (x : List ℕ). sets x (at + length u) w) (sets_append u v l at)
    ∙ (written_over v w (sets l at u) (at + length u) h ∙ sym (sets_append u w l at))

-- ---- a row

-- `words` has the first eight of `levels`, which are digits
pub record PrintedFront (levels : List ℕ) (words : Words) : Type 0 where
  pub long : 8 ≤ length levels
  pub digits : Below 10 levels
  pub first : words.first ≡ due_word levels 0
  pub middle : words.middle ≡ due_word levels 4

-- the n levels `ls` of a row: those before the last four, and these
pub record PrintedSpells (m n : ℕ) (words : Words) (levels ls : List ℕ) : Type 0 where
  pub front : PrintedFront levels words
  pub four : List ℕ
  pub count : length four ≡ 4
  pub below : Below m four
  pub last : words.last ≡ levels_word four
  pub is : ls ≡ take (n - 4) levels ++ four

-- r levels are written, and those before the last four are among them
pub record FrontPut (words : Words) (n : ℕ) (before : List ℕ) (at : ℕ) (after : List ℕ) (r : ℕ) : Type 0 where
  pub least : n - 4 ≤ r
  pub most : r ≤ n
  pub few : r ≤ 8
  pub kept : length after ≡ length before
  pub text : (levels : List ℕ) → PrintedFront levels words → after ≡ sets before at (levels_text (take r levels))

module _ (words : Words) (n : ℕ) (before : List ℕ) (at : ℕ) (wide : 4 ≤ n) where
  first_text : (levels : List ℕ) → PrintedFront levels words → (after : List ℕ) → after ≡ sets before at (word_bytes words.first)
      → after ≡ sets before at (levels_text (take 4 levels))
  first_text levels front after e =
      e ∙ ap (λ (t : List ℕ). sets before at t) (ap word_bytes front.first ∙ word_text levels 0 (omega (arith, front.long)) front.digits)

  pub four_put : (after : List ℕ) → n ≤ 8 → after ≡ sets before at (word_bytes words.first) → FrontPut words n before at after 4
  four_put after few e = record {
    least = omega arith;
    most = wide;
    few = omega arith;
    kept =
        ap length e ∙ length-sets before at (word_bytes words.first);
    text = λ levels front. first_text levels front after e;
  }

  pub eight_put : (after later : List ℕ) → 8 ≤ n → n ≤ most_inputs → after ≡ sets before at (word_bytes words.first)
      → later ≡ sets after (at + 8) (word_bytes words.middle) → FrontPut words n before at later 8
  eight_put after later eight most e f =
      record {
        least = omega arith;
        most = eight;
        few = omega arith;
        kept = ap length f ∙ (length-sets after (at + 8) (word_bytes words.middle) ∙ (ap length e ∙ length-sets before at (word_bytes words.first)));
        text = λ levels front.
            let long : 8 ≡ length (levels_text (take 4 levels)) = sym (front_length levels 4 (omega (arith, front.long))) in
            let middle : word_bytes words.middle ≡ levels_text (take 4 (drop 4 levels)) =
            ap word_bytes front.middle ∙ word_text levels 4 front.long front.digits in
            f
            ∙ ((λ i. sets (first_text levels front after e i) (at + long i) (middle i))
            ∙ (sym (sets_append (levels_text (take 4 levels)) (levels_text (take 4 (drop 4 levels))) before at)
            ∙ ap (λ (t : List ℕ). sets before at t) (sym (text_parts levels 4 4))));
      }

-- the last four after those before them, and the ink
module _ (m n : ℕ) (words : Words) (levels ls : List ℕ) (row : PrintedSpells m n words levels ls) (few : m ≤ 10) (wide : 4 ≤ n) (most : n ≤ most_inputs) where
  levels_text_lem : levels_text ls ≡ levels_text (take (n - 4) levels) ++ levels_text row.four
  levels_text_lem = ap levels_text row.is ∙ text_append (take (n - 4) levels) row.four

  spelled_length : length ls ≡ n
  spelled_length =
      omega (arith, simp length-append at (ap length row.is), length-take-le (n - 4) levels (omega (arith, row.front.long)), row.count)

  pub row_bytes_lem : (ink : ℕ) → length (row_text ls ink) ≡ 2 * n + 2
  row_bytes_lem ink = row_text_length ls ink ∙ ap (λ (k : ℕ). 2 * k + 2) spelled_length

  levels_put : (before after later : List ℕ) (at r : ℕ) → FrontPut words n before at after r
      → later ≡ sets after (at + 2 * (n - 4)) (word_bytes words.last) → later ≡ sets before at (levels_text ls)
  levels_put before after later at r first e =
      let u = levels_text (take (n - 4) levels) in
      let v = levels_text (take (r - (n - 4)) (drop (n - 4) levels)) in
      let w = levels_text row.four in
      let start : (n - 4) + (r - (n - 4)) ≡ r = omega (arith, first.least) in
      let written : levels_text (take r levels) ≡ u ++ v = ap (λ (i : ℕ). levels_text (take i levels)) (sym start) ∙ text_parts levels (n - 4) (r - (n - 4)) in
      let long : 2 * (n - 4) ≡ length u = sym (front_length levels (n - 4) (omega (arith, row.front.long))) in
      let last : word_bytes words.last ≡ w =
      ap word_bytes row.last ∙ four_text row.four row.count (below_more m 10 few row.four row.below) in
      let inside : r - (n - 4) ≤ length (drop (n - 4) levels) = rw length-drop (omega (arith, first.few, row.front.long)) in
      let short : length v ≤ length w =
      omega (arith, front_length (drop (n - 4) levels) (r - (n - 4)) inside, text_length row.four, row.count, first.most) in
      e
      ∙ ((λ i. sets ((first.text levels row.front ∙ ap (λ (t : List ℕ). sets before at t) written) i) (at + long i) (last i))
      ∙ (over u v w before at short
      ∙ ap (λ (t : List ℕ). sets before at t) (sym levels_text_lem)))

  -- the ink is left to write
  pub ink_left : (ink : ℕ) (before after later : List ℕ) (at r : ℕ) → at + (2 * n + 2) ≤ length before → FrontPut words n before at after r
      → later ≡ sets after (at + 2 * (n - 4)) (word_bytes words.last) → NetLeft later (at + 2 * n) (ink ∷ newline ∷ []) before at (row_text ls ink)
  ink_left ink before after later at r room first e =
      put_left {u = levels_text ls} (parts_left (row_is ls ink) (omega (arith, room, row_bytes_lem ink)))
      (record { text = levels_put before after later at r first e; end = omega (arith, text_length ls, spelled_length) })
