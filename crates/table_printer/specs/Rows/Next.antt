-- From a row's levels to the next row's: the last four as a number, and those before them if the four become zeros.
-- Assumes nothing.
use Rattle.std.specs.Prelude.{◌<◌, ◌≤◌, ◌+◌, ◌-◌, ◌*◌, ◌%◌, ◌/◌, ◌≡◌, ◌&&◌, ◌∷◌, ◌++◌}
use Rattle.laws.specs.Prelude.{ℕ, suc, zero, ◌∙◌, sym, ap, refl, true, false, Bool, cond, false≢true}
use Rattle.laws.specs.Prelude.{and-false, List, [], arith, leb, length, get_or, take, drop, replicate, get_or-replicate, length-take-le, take_at}
use Rattle.laws.specs.Prelude.{take-add, length_front, le-leb, lt-leb, leb-false}
use Rattle.rules.specs.Limits.{most_levels, most_inputs}
use Rattle.rules.specs.Sheets.Sheets.{levels_at}
use Rattle.laws.specs.Lists.Bounds.{Below, below_append}
use Rattle.laws.specs.Numbers.Levels.{all_top, next_levels, next_length, zeros_front}
use Rattle.table_reader.specs.declared.fast.words.Words.{Words}
use Rattle.table_reader.specs.Fast.Words.{due_pair, WordsOf, middle_of}
use Rattle.table_printer.specs.Rows.Words.{levels_word, four_levels, below_take, below_drop, PrintedSpells}

-- ---- four levels

abbrev pub four_word : ℕ → ℕ → ℕ → ℕ → ℕ
four_word a b c d = levels_word (a ∷ b ∷ c ∷ d ∷ [])

-- the four after becoming zeros
abbrev pub turned : ℕ
turned = four_word 0 0 0 0

-- r is the word of the levels after ls; it is that of zeros exactly if all of ls are the highest
pub record FourNext (m : ℕ) (ls : List ℕ) (r : ℕ) : Type 0 where
  pub word : r ≡ levels_word (next_levels m ls)
  pub all : all_top m ls ≡ true → r ≡ turned
  pub some : all_top m ls ≡ false → r ≡ turned → ⊥

-- some level was incremented
moved : {m : ℕ} {ls : List ℕ} {r : ℕ} (next : List ℕ) → next_levels m ls ≡ next → all_top m ls ≡ false → r ≡ levels_word next → (r ≡ turned → ⊥) → FourNext m ls r
moved next is some word other = record { word = word ∙ ap levels_word (sym is); all = λ e. absurd (false≢true (sym some ∙ e)); some = λ _. other }

-- a law of any four levels holds for any list of four
pub for_four : (m word r : ℕ) → ((a b c d : ℕ) → a < m → b < m → c < m → d < m → word ≡ four_word a b c d → FourNext m (a ∷ b ∷ c ∷ d ∷ []) r)
    → (ls : List ℕ) → length ls ≡ 4 → Below m ls → word ≡ levels_word ls → FourNext m ls r
for_four m word r next [] count h is = absurd (omega arith)
for_four m word r next (a ∷ []) count h is = absurd (omega arith)
for_four m word r next (a ∷ b ∷ []) count h is = absurd (omega arith)
for_four m word r next (a ∷ b ∷ c ∷ []) count h is = absurd (omega arith)
for_four m word r next (a ∷ b ∷ c ∷ d ∷ []) count h is = next a b c d h.0 h.1.0 h.1.1.0 h.1.1.1.0 is
for_four m word r next (a ∷ b ∷ c ∷ d ∷ e ∷ ls) count h is = absurd (omega arith)

-- ---- their number

-- the level 0 followed by a space
abbrev pub zero_level : ℕ
zero_level = due_pair 0

-- each level of a word
module _ (a b c d : ℕ) (a< : a < 10) (b< : b < 10) (c< : c < 10) (d< : d < 10) where
  lane_a : four_word a b c d % 65536 ≡ zero_level + a
  lane_a = omega arith

  lane_b : four_word a b c d / 65536 % 65536 ≡ zero_level + b
  lane_b = omega arith

  lane_c : four_word a b c d / 4294967296 % 65536 ≡ zero_level + c
  lane_c = omega arith

  lane_d : four_word a b c d / 281474976710656 ≡ zero_level + d
  lane_d = omega arith

-- a highest level becomes 0
clear_d : (m a b c d : ℕ) → d + 1 ≡ m → four_word a b c d - 281474976710656 * (m - 1) ≡ four_word a b c 0
clear_d m a b c d e = let top : m - 1 ≡ d = omega arith in rw top (omega arith)

clear_c : (m a b c : ℕ) → c + 1 ≡ m → four_word a b c 0 - 4294967296 * (m - 1) ≡ four_word a b 0 0
clear_c m a b c e = let top : m - 1 ≡ c = omega arith in rw top (omega arith)

clear_b : (m a b : ℕ) → b + 1 ≡ m → four_word a b 0 0 - 65536 * (m - 1) ≡ four_word a 0 0 0
clear_b m a b e = let top : m - 1 ≡ b = omega arith in rw top (omega arith)

clear_a : (m a : ℕ) → a + 1 ≡ m → four_word a 0 0 0 - (m - 1) ≡ turned
clear_a m a e = let top : m - 1 ≡ a = omega arith in rw top (omega arith)

-- a level is incremented, or is the highest
lane_up : (x l m : ℕ) → x ≡ zero_level + l → x < zero_level + (m - 1) → l + 1 < m
lane_up x l m e h = omega arith

lane_top : (x l m : ℕ) → x ≡ zero_level + l → zero_level + (m - 1) ≤ x → l < m → l + 1 ≡ m
lane_top x l m e h below = omega arith

highest : (m l : ℕ) → l + 1 ≡ m → leb m (l + 1) ≡ true
highest m l e = le-leb m (l + 1) (omega arith)

module _ (m a b c d word : ℕ) (few : m ≤ most_levels) (a< : a < m) (b< : b < m) (c< : c < m) (d< : d < m) (is : word ≡ four_word a b c d) where
  last_lane : word / 281474976710656 ≡ zero_level + d
  last_lane = ap (λ (w : ℕ). w / 281474976710656) is ∙ lane_d a b c d (omega arith) (omega arith) (omega arith) (omega arith)

  pub last_moves : word / 281474976710656 < zero_level + (m - 1) → FourNext m (a ∷ b ∷ c ∷ d ∷ []) (word + 281474976710656)
  unfolding next_levels all_top
  last_moves h =
      let up = lt-leb m (d + 1) (lane_up _ d m last_lane h) in
      moved (a ∷ b ∷ c ∷ (d + 1) ∷ []) (simp (up, and-false)) (simp (up, and-false)) (omega (arith, is)) (λ z. omega (arith, is, z))

  pub last_top : zero_level + (m - 1) ≤ word / 281474976710656 → d + 1 ≡ m
  last_top h = lane_top _ d m last_lane h d<

  module _ (third : ℕ) (top_d : d + 1 ≡ m) (third_is : third ≡ word - 281474976710656 * (m - 1)) where
    third_word : third ≡ four_word a b c 0
    third_word = third_is ∙ (ap (λ (w : ℕ). w - 281474976710656 * (m - 1)) is ∙ clear_d m a b c d top_d)

    third_lane : third / 4294967296 % 65536 ≡ zero_level + c
    third_lane = ap (λ (w : ℕ). w / 4294967296 % 65536) third_word ∙ lane_c a b c 0 (omega arith) (omega arith) (omega arith) (omega arith)

    pub third_moves : third / 4294967296 % 65536 < zero_level + (m - 1) → FourNext m (a ∷ b ∷ c ∷ d ∷ []) (third + 4294967296)
    unfolding next_levels all_top
    third_moves h =
        let up = lt-leb m (c + 1) (lane_up _ c m third_lane h) in
        moved (a ∷ b ∷ (c + 1) ∷ 0 ∷ []) (simp (highest m d top_d, up, and-false)) (simp (highest m d top_d, up, and-false))
        (omega (arith, third_word)) (λ z. omega (arith, third_word, z))

    pub third_top : zero_level + (m - 1) ≤ third / 4294967296 % 65536 → c + 1 ≡ m
    third_top h = lane_top _ c m third_lane h c<

    module _ (second : ℕ) (top_c : c + 1 ≡ m) (second_is : second ≡ third - 4294967296 * (m - 1)) where
      second_word : second ≡ four_word a b 0 0
      second_word = second_is ∙ (ap (λ (w : ℕ). w - 4294967296 * (m - 1)) third_word ∙ clear_c m a b c top_c)

      second_lane : second / 65536 % 65536 ≡ zero_level + b
      second_lane = ap (λ (w : ℕ). w / 65536 % 65536) second_word ∙ lane_b a b 0 0 (omega arith) (omega arith) (omega arith) (omega arith)

      pub second_moves : second / 65536 % 65536 < zero_level + (m - 1) → FourNext m (a ∷ b ∷ c ∷ d ∷ []) (second + 65536)
      unfolding next_levels all_top
      second_moves h =
          let up = lt-leb m (b + 1) (lane_up _ b m second_lane h) in
          moved (a ∷ (b + 1) ∷ 0 ∷ 0 ∷ []) (simp (highest m d top_d, highest m c top_c, up)) (simp (highest m d top_d, highest m c top_c, up, and-false))
          (omega (arith, second_word)) (λ z. omega (arith, second_word, z))

      pub second_top : zero_level + (m - 1) ≤ second / 65536 % 65536 → b + 1 ≡ m
      second_top h = lane_top _ b m second_lane h b<

      module _ (first : ℕ) (top_b : b + 1 ≡ m) (first_is : first ≡ second - 65536 * (m - 1)) where
        first_word : first ≡ four_word a 0 0 0
        first_word = first_is ∙ (ap (λ (w : ℕ). w - 65536 * (m - 1)) second_word ∙ clear_b m a b top_b)

        first_lane : first % 65536 ≡ zero_level + a
        first_lane = ap (λ (w : ℕ). w % 65536) first_word ∙ lane_a a 0 0 0 (omega arith) (omega arith) (omega arith) (omega arith)

        pub first_moves : first % 65536 < zero_level + (m - 1) → FourNext m (a ∷ b ∷ c ∷ d ∷ []) (first + 1)
        unfolding next_levels all_top
        first_moves h =
            let up = lt-leb m (a + 1) (lane_up _ a m first_lane h) in
            moved ((a + 1) ∷ 0 ∷ 0 ∷ 0 ∷ []) (simp (highest m d top_d, highest m c top_c, highest m b top_b, up))
            (simp (highest m d top_d, highest m c top_c, highest m b top_b, up))
            (omega (arith, first_word)) (λ z. omega (arith, first_word, z))

        pub none_moves : zero_level + (m - 1) ≤ first % 65536 → FourNext m (a ∷ b ∷ c ∷ d ∷ []) (first - (m - 1))
        unfolding next_levels all_top
        none_moves h =
            let top_a : a + 1 ≡ m = lane_top _ a m first_lane h a< in
            let is_turned : first - (m - 1) ≡ turned = ap (λ (w : ℕ). w - (m - 1)) first_word ∙ clear_a m a top_a in
            record {
              word = is_turned ∙ simp (highest m d top_d, highest m c top_c, highest m b top_b, highest m a top_a);
              all = λ _. is_turned;
              some = λ e. absurd (false≢true (sym e ∙ simp (highest m d top_d, highest m c top_c, highest m b top_b, highest m a top_a)));
            }

-- ---- all levels

-- levels after others: if all are the highest, the others change too, ..
top_both : (m : ℕ) (xs ls : List ℕ) → all_top m ls ≡ true → all_top m (xs ++ ls) ≡ all_top m xs
unfolding all_top
top_both m [] ls h = h
top_both m (x ∷ xs) ls h = ap (λ (t : Bool). leb m (x + 1) && t) (top_both m xs ls h)

next_both : (m : ℕ) (xs ls : List ℕ) → all_top m ls ≡ true → next_levels m (xs ++ ls) ≡ next_levels m xs ++ next_levels m ls
unfolding next_levels
next_both m [] ls h = refl
next_both m (x ∷ xs) ls h = λ i. cond (top_both m xs ls h i) (cond (leb m (x + 1)) 0 (x + 1)) x ∷ next_both m xs ls h i

-- .. and if one is not, the others stay
top_some : (m : ℕ) (xs ls : List ℕ) → all_top m ls ≡ false → all_top m (xs ++ ls) ≡ false
unfolding all_top
top_some m [] ls h = h
top_some m (x ∷ xs) ls h = ap (λ (t : Bool). leb m (x + 1) && t) (top_some m xs ls h) ∙ and-false (leb m (x + 1))

next_some : (m : ℕ) (xs ls : List ℕ) → all_top m ls ≡ false → next_levels m (xs ++ ls) ≡ xs ++ next_levels m ls
unfolding next_levels
next_some m [] ls h = refl
next_some m (x ∷ xs) ls h = λ i. cond (top_some m xs ls h i) (cond (leb m (x + 1)) 0 (x + 1)) x ∷ next_some m xs ls h i

next_below : (m k : ℕ) → m ≤ k → (ls : List ℕ) → Below k ls → Below k (next_levels m ls)
unfolding next_levels
next_below m k few [] h = tt
next_below m k few (l ∷ ls) h = (go (all_top m ls) (leb m (l + 1)) refl, next_below m k few ls h.1)
  where
    go : (t u : Bool) → leb m (l + 1) ≡ u → cond t (cond u 0 (l + 1)) l < k
    go true true e = omega (arith, h.0)
    go true false e = omega (arith, leb-false m (l + 1) e)
    go false u e = h.0

-- the same levels, with the last four as `last`
abbrev pub with_last : Words → ℕ → Words
with_last words last = record { first = words.first; middle = words.middle; last = last }

module _ (m n : ℕ) (words : Words) (levels ls : List ℕ) (row : PrintedSpells m n words levels ls) (last : ℕ) (four : FourNext m row.four last) where
  next_count : length (next_levels m row.four) ≡ 4
  next_count = next_length m row.four ∙ row.count

  pub row_stays : (last ≡ turned → ⊥) → PrintedSpells m n (with_last words last) levels (next_levels m ls)
  row_stays other =
      record {
        front = record { long = row.front.long; digits = row.front.digits; first = row.front.first; middle = row.front.middle };
        four = next_levels m row.four;
        count = next_count;
        below = next_below m m (omega arith) row.four row.below;
        last = four.word;
        is = ap (next_levels m) row.is ∙ next_some m (take (n - 4) levels) row.four (not_all (all_top m row.four) refl);
      }
    where
      not_all : (t : Bool) → all_top m row.four ≡ t → all_top m row.four ≡ false
      not_all true e = absurd (other (four.all e))
      not_all false e = e

  pub row_turns : m ≤ 10 → n ≤ most_inputs → last ≡ turned → (after : List ℕ) → after ≡ next_levels m (take (n - 4) levels) ++ drop (n - 4) levels
      → (front : Words) → WordsOf after 8 front → PrintedSpells m n (with_last front last) after (next_levels m ls)
  unfolding middle_of
  row_turns few most zeros after e front words_are =
      let fits : length (take (n - 4) levels) ≡ n - 4 = length-take-le (n - 4) levels (omega (arith, row.front.long)) in
      let stepped : length (next_levels m (take (n - 4) levels)) ≡ n - 4 = next_length m (take (n - 4) levels) ∙ fits in
      let kept : length after ≡ length levels = ap length e ∙ length_front levels (next_levels m (take (n - 4) levels)) (n - 4)
      (next_length m (take (n - 4) levels)) in
      let wide = words_are (omega arith) in
      let digits : Below 10 after = rw e (below_append 10 (next_levels m (take (n - 4) levels)) (drop (n - 4) levels)
      (next_below m 10 few (take (n - 4) levels) (below_take (n - 4) levels row.front.digits)) (below_drop (n - 4) levels row.front.digits)) in
      let now : take (n - 4) after ≡ next_levels m (take (n - 4) levels) =
      ap (take (n - 4)) e ∙ take_at (next_levels m (take (n - 4) levels)) (drop (n - 4) levels) (n - 4) stepped in
      record {
        front = record { long = omega (arith, kept, row.front.long); digits = digits; first = wide.first; middle = wide.middle };
        four = next_levels m row.four;
        count = next_count;
        below = next_below m m (omega arith) row.four row.below;
        last = four.word;
        is = ap (next_levels m) row.is ∙ (next_both m (take (n - 4) levels) row.four (all (all_top m row.four) refl)
            ∙ ap (λ (l : List ℕ). l ++ next_levels m row.four) (sym now));
      }
    where
      all : (t : Bool) → all_top m row.four ≡ t → all_top m row.four ≡ true
      all true e = e
      all false e = absurd (four.some e zeros)

-- ---- the first row

zeros_below : (k : ℕ) → Below 10 (replicate k 0)
zeros_below zero = tt
zeros_below (suc k) = (omega arith, zeros_below k)

zeros_four : (k : ℕ) → k ≤ 8 → take 4 (drop k (replicate {A = ℕ} most_inputs 0)) ≡ 0 ∷ 0 ∷ 0 ∷ 0 ∷ []
zeros_four k h =
    four_levels (replicate {A = ℕ} most_inputs 0) k (omega arith)
    ∙ (λ i. none_yet k (omega arith) i ∷ none_yet (k + 1) (omega arith) i ∷ none_yet (k + 2) (omega arith) i ∷ none_yet (k + 2 + 1) (omega arith) i ∷ [])
  where
    none_yet : (j : ℕ) → j < most_inputs → get_or (replicate {A = ℕ} most_inputs 0) j 0 ≡ 0
    none_yet j l = get_or-replicate most_inputs j 0 0 l

pub zeros_spell : (m n : ℕ) → 0 < m → 4 ≤ n → n ≤ most_inputs
    → PrintedSpells m n (record { first = turned; middle = turned; last = turned }) (replicate most_inputs 0) (levels_at m n 0)
zeros_spell m n pos wide most =
    let all : n ≡ n - 4 + 4 = omega arith in
    record {
      front = record { long = omega arith; digits = zeros_below most_inputs; first = refl; middle = refl };
      four = 0 ∷ 0 ∷ 0 ∷ 0 ∷ [];
      count = refl;
      below = (pos, (pos, (pos, (pos, tt))));
      last = refl;
      is =
          sym (zeros_front m n most_inputs most)
          ∙ (ap (λ (k : ℕ). take k (replicate {A = ℕ} most_inputs 0)) all
          ∙ (take-add (n - 4) 4 (replicate most_inputs 0)
          ∙ ap (λ (l : List ℕ). take (n - 4) (replicate most_inputs 0) ++ l) (zeros_four (n - 4) (omega arith))));
    }
