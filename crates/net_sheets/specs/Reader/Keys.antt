-- The keys and lengths of the texts that refer to inputs and gates.
-- Assumes nothing.
use Rattle.std.specs.Prelude.{◌<◌, ◌≤◌, ◌+◌, ◌*◌, ◌%◌, ◌/◌, ◌≡◌, ◌∷◌}
use Rattle.laws.specs.Prelude.{ℕ, ◌∙◌, ap, refl, true, false, Bool, List, [], zero-add, arith, eqb, length, get_or}
use Rattle.laws.specs.Prelude.{drop, set, length-set, length-drop, get_or-set_same, get_or-set_other, length-take-le, eqb-true, lt-ltb, le-ltb, eqb-false}
use Rattle.rules.specs.Limits.{most_name_bytes}
use Rattle.rules.specs.Text.{decimal}
use Rattle.rules.specs.Sheets.Sheets.{reference_text}
use Rattle.laws.specs.Lists.Ranges.{map_range_at}
use Rattle.fields.specs.Decimals.{field_decimal_one, decimal_two}
use Rattle.fields.specs.Header.FirstLines.{HeaderHeld}
use Rattle.fields.specs.Header.Keys.{IsKey, no_key, one_more}
use Rattle.nets.specs.Forms.{name_in, names_in, names_count, header_of}
use Rattle.nets.specs.Room.{most_wires}
use Rattle.nets.specs.declared.forms.Header.{Header}

-- the key and the length of a text
pub record TextKey (w : List ℕ) (key len : ℕ) : Type 0 where
  pub is : IsKey w key
  pub long : length w ≡ len
  pub short : length w ≤ most_name_bytes

-- the keys and lengths of the texts that refer to the first `count` inputs and gates
pub record Keyed (names : List (List ℕ)) (keys lens : List ℕ) (count : ℕ) : Type 0 where
  pub keys_room : length keys ≡ most_wires
  pub lens_room : length lens ≡ most_wires
  pub each : (r : ℕ) → r < count → TextKey (reference_text names r) (get_or keys r 0) (get_or lens r 0)

pub none_keyed : (names : List (List ℕ)) (keys lens : List ℕ) → length keys ≡ most_wires → length lens ≡ most_wires → Keyed names keys lens 0
none_keyed names keys lens k l = record { keys_room = k; lens_room = l; each = λ r below. absurd (omega arith) }

-- one more
more_keyed : (names : List (List ℕ)) (keys lens : List ℕ) (count key len : ℕ) → count < most_wires → TextKey (reference_text names count) key len
    → Keyed names keys lens count → Keyed names (set keys count key) (set lens count len) (count + 1)
more_keyed names keys lens count key len few here keyed =
    record {
      keys_room = length-set keys count key ∙ keyed.keys_room;
      lens_room = length-set lens count len ∙ keyed.lens_room;
      each = λ r below. go r below (eqb r count) refl;
    }
  where
    go : (r : ℕ) → r < count + 1 → (t : Bool) → eqb r count ≡ t
        → TextKey (reference_text names r) (get_or (set keys count key) r 0) (get_or (set lens count len) r 0)
    go r below true q =
        rw (eqb-true r count q, get_or-set_same keys count key 0 (rw keyed.keys_room few), get_or-set_same lens count len 0 (rw keyed.lens_room few)) here
    go r below false q =
        let other = eqb-false r count q in
        rw (get_or-set_other keys count r key 0 other, get_or-set_other lens count r len 0 other) (keyed.each r (omega arith))

-- a name
module _ (s : List ℕ) (h : Header) (held : HeaderHeld s h) (i : ℕ) (below : i < h.inputs) where
  pub name_length : length (name_in s h i) ≡ get_or h.lens i 0
  unfolding name_in
  name_length = length-take-le (get_or h.lens i 0) (drop (get_or h.starts i 0) s) (rw length-drop (omega (arith, held.names i below)))

  pub name_keyed : (keys lens : List ℕ) (key : ℕ) → i < most_wires → IsKey (name_in s h i) key → Keyed (names_in s h) keys lens i
      → Keyed (names_in s h) (set keys i key) (set lens i (get_or h.lens i 0)) (i + 1)
  unfolding reference_text header_of
  name_keyed keys lens key few is = more_keyed (names_in s h) keys lens i key (get_or h.lens i 0) few (rw text (record {
    is = is;
    long = name_length;
    short = rw name_length (held.short i below);
  }))
    where
      text : reference_text (names_in s h) i ≡ name_in s h i
      text =
          rw (names_count s h, lt-ltb i h.inputs below, reference_text)
          (map_range_at (name_in s h) 0 h.inputs i [] below ∙ ap (name_in s h) (zero-add i))

-- a number: the next gate's
unfoldable pub NumberKeyed : ℕ → ℕ → List ℕ → List ℕ → List ℕ → List ℕ → Type 0
NumberKeyed inputs gates keys lens more_keys more_lens =
    (names : List (List ℕ)) → length names ≡ inputs → Keyed names keys lens (inputs + gates) → Keyed names more_keys more_lens (inputs + gates + 1)

module _ (inputs gates : ℕ) (keys lens : List ℕ) (few : inputs + gates < most_wires) where
  number_keyed : (key len : ℕ) → TextKey (decimal (gates + 1)) key len
      → NumberKeyed inputs gates keys lens (set keys (inputs + gates) key) (set lens (inputs + gates) len)
  unfolding NumberKeyed reference_text
  number_keyed key len here names count keyed = more_keyed names keys lens (inputs + gates) key len few (rw text here) keyed
    where
      text : reference_text names (inputs + gates) ≡ decimal (gates + 1)
      text =
          rw (le-ltb (inputs + gates) (length names) (omega arith), reference_text)
          (ap decimal (omega arith))

  one_byte : (b : ℕ) → b < 256 → IsKey (b ∷ []) b
  one_byte b small = rw zero-add at (one_more b 0 [] small no_key)

  pub one_digit_keyed : gates + 1 < 10
      → NumberKeyed inputs gates keys lens (set keys (inputs + gates) (48 + (gates + 1) % 10)) (set lens (inputs + gates) 1)
  one_digit_keyed small =
      number_keyed _ 1
      (rw (field_decimal_one (gates + 1) small)
      (record { is = one_byte _ (omega arith); long = refl; short = omega arith }))

  pub two_digits_keyed : 10 ≤ gates + 1 → gates + 1 < 100
      → NumberKeyed inputs gates keys lens (set keys (inputs + gates) ((48 + (gates + 1) % 10) * 256 + (48 + (gates + 1) / 10))) (set lens (inputs + gates) 2)
  two_digits_keyed least most =
      number_keyed _ 2
      (rw (decimal_two (gates + 1) least most)
      (record {
        is = one_more (48 + (gates + 1) / 10) (48 + (gates + 1) % 10) _ (omega arith) (one_byte _ (omega arith));
        long = refl;
        short = omega arith;
      }))
