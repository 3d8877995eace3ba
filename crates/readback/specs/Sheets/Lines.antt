-- A sheet as lines: its text is each line's bytes, then a line feed, and no line contains a line feed. This holds for a printed net, since its
-- fields are words.
-- Assumes nothing.
use Rattle.std.specs.Prelude.{◌<◌, ◌≡◌, ◌||◌, ◌∷◌, ◌++◌}
use Rattle.laws.specs.Prelude.{ℕ, suc, zero, ◌∙◌, sym, ap, refl, true, false, Bool, not, false≢true, List, [], map, append_assoc}
use Rattle.laws.specs.Prelude.{append-nil, arith, eqb, length, append_snoc, not-true}
use Rattle.rules.specs.Lists.{all, concat_map}
use Rattle.rules.specs.Sheets.Fields.{is_separator}
use Rattle.rules.specs.Sheets.Printed.{line, first_lines, printed_gate, printed_net}
use Rattle.rules.specs.Sheets.SheetRules.{GoodNames, Tables, HeaderRules, NetRules}
use Rattle.rules.specs.Sheets.Sheets.{Header, Gate, Net, reference_text}
use Rattle.rules.specs.Text.{space, newline, text, digit_byte, decimal}
use Rattle.laws.specs.Lists.Concat.{concat_append, concat_map_lem, concat_same}
use Rattle.laws.specs.Numbers.Sizes.{levels_fit_lem}
use Rattle.laws.specs.Lists.Tests.{all_iff}
use Rattle.readback.specs.Readers.Fields.{plain, is_word}
use Rattle.readback.specs.Readers.Decimals.{decimal_word}
use Rattle.readback.specs.Readers.Judges.{name_word, judges_digits}
use Rattle.readback.specs.Nets.References.{reference_word}

-- ---- lines and their line feeds

-- a line's bytes with its line feed
unfoldable pub fed : List ℕ → List ℕ
fed w = w ++ (newline ∷ [])

-- a byte that may occur in a line
unfoldable pub in_line : ℕ → Bool
in_line b = not (eqb b newline)

-- none of these contains a line feed
abbrev pub Unbroken : List (List ℕ) → Type 0
Unbroken [] = Unit {0}
Unbroken (w ∷ ws) = (all in_line w ≡ true) × Unbroken ws

-- the bytes up to and including the k-th line feed
unfoldable pub lines_up_to : ℕ → List ℕ → List ℕ
lines_up_to zero s = []
lines_up_to (suc k) [] = []
lines_up_to (suc k) (b ∷ s) = elim (eqb b newline) [ true ↦ b ∷ lines_up_to k s | false ↦ b ∷ lines_up_to (suc k) s ]

-- one line is skipped
lines_one : (k : ℕ) (w rest : List ℕ) → all in_line w ≡ true → lines_up_to (suc k) (w ++ newline ∷ rest) ≡ w ++ newline ∷ lines_up_to k rest
unfolding lines_up_to in_line newline
lines_one k [] rest h = refl
lines_one k (b ∷ w) rest h =
    let (first, more) = (all_iff in_line b w).0 h in
    rw (not-true (eqb b 10) first, lines_up_to, lines_one k w rest more)

-- the first lines of a sheet, whatever follows
pub lines_first : (ws : List (List ℕ)) (rest : List ℕ) → Unbroken ws → lines_up_to (length ws) (concat_map fed ws ++ rest) ≡ concat_map fed ws
unfolding lines_up_to concat_map fed
lines_first [] rest h = refl
lines_first (w ∷ ws) rest h =
    ap (lines_up_to (suc (length ws))) (append_assoc (fed w) (concat_map fed ws) rest ∙ append_snoc w newline (concat_map fed ws ++ rest))
    ∙ lines_one (length ws) w (concat_map fed ws ++ rest) h.0
    ∙ ap (λ (t : List ℕ). w ++ newline ∷ t) (lines_first ws rest h.1)
    ∙ sym (append_snoc w newline (concat_map fed ws))

unbroken_append : (vs ws : List (List ℕ)) → Unbroken vs → Unbroken ws → Unbroken (vs ++ ws)
unbroken_append [] ws h k = k
unbroken_append (v ∷ vs) ws h k = (h.0, unbroken_append vs ws h.1 k)

-- ---- a line of words

-- a printed line without its line feed
unfoldable pub body : List (List ℕ) → List ℕ
body [] = []
body (w ∷ []) = w
body (w ∷ v ∷ ws) = w ++ space ∷ body (v ∷ ws)

pub line_fed : (ws : List (List ℕ)) → line ws ≡ fed (body ws)
unfolding line body fed
line_fed [] = refl
line_fed (w ∷ []) = refl
line_fed (w ∷ v ∷ ws) = ap (λ (t : List ℕ). w ++ space ∷ t) (line_fed (v ∷ ws)) ∙ sym (append_assoc w (space ∷ body (v ∷ ws)) (newline ∷ []))

abbrev pub Words : List (List ℕ) → Type 0
Words [] = Unit {0}
Words (w ∷ ws) = (is_word w ≡ true) × Words ws

-- a byte that is no separator may occur in a line
plain_byte : (b : ℕ) → plain b ≡ true → in_line b ≡ true
unfolding plain is_separator in_line
plain_byte b h = go (eqb b space) (eqb b newline) h
  where
    go : (x y : Bool) → not (x || y) ≡ true → not y ≡ true
    go true y h = absurd (false≢true h)
    go false y h = h

plain_bytes : (w : List ℕ) → all plain w ≡ true → all in_line w ≡ true
unfolding all
plain_bytes [] h = refl
plain_bytes (b ∷ w) h =
    let (first, more) = (all_iff plain b w).0 h in
    (all_iff in_line b w).1 (plain_byte b first, plain_bytes w more)

word_unbroken : (w : List ℕ) → is_word w ≡ true → all in_line w ≡ true
unfolding is_word
word_unbroken [] h = absurd (false≢true h)
word_unbroken (b ∷ w) h = plain_bytes (b ∷ w) h

all_join : (xs ys : List ℕ) → all in_line xs ≡ true → all in_line ys ≡ true → all in_line (xs ++ ys) ≡ true
all_join [] ys h k = k
all_join (x ∷ xs) ys h k =
    let (first, more) = (all_iff in_line x xs).0 h in
    (all_iff in_line x (xs ++ ys)).1 (first, all_join xs ys more k)

body_unbroken : (ws : List (List ℕ)) → Words ws → all in_line (body ws) ≡ true
unfolding body all in_line space newline
body_unbroken [] h = refl
body_unbroken (w ∷ []) h = word_unbroken w h.0
body_unbroken (w ∷ v ∷ ws) h = all_join w (space ∷ body (v ∷ ws)) (word_unbroken w h.0) (body_unbroken (v ∷ ws) h.1)

-- ---- the lines of a net sheet

-- the first three lines
unfoldable pub head_lines : Header → List (List ℕ)
head_lines h = body (text "levels" ∷ text "inputs" ∷ []) ∷ body (decimal h.levels ∷ decimal h.inputs ∷ []) ∷ body h.names ∷ []

-- the first four lines
unfoldable pub four_lines : Header → List (List ℕ)
four_lines h = head_lines h ++ (body (text "left" ∷ text "right" ∷ text "table" ∷ []) ∷ [])

-- a gate line
unfoldable pub gate_body : List (List ℕ) → Gate → List ℕ
gate_body names g = body (reference_text names g.left ∷ reference_text names g.right ∷ map digit_byte g.digits ∷ [])

-- all lines
unfoldable pub net_lines : Net → List (List ℕ)
net_lines net = four_lines net.header ++ map (gate_body net.header.names) net.gates

pub head_fed : (h : Header) → first_lines h h.names ≡ concat_map fed (head_lines h)
unfolding first_lines head_lines concat_map
head_fed h = simp (line_fed, append_assoc, append-nil)

pub four_fed : (h : Header) → first_lines h h.names ++ line (text "left" ∷ text "right" ∷ text "table" ∷ []) ≡ concat_map fed (four_lines h)
unfolding four_lines concat_map
four_fed h = rw (concat_append, head_fed h, line_fed, append-nil)

pub gate_fed : (names : List (List ℕ)) (g : Gate) → printed_gate names g ≡ fed (gate_body names g)
unfolding printed_gate gate_body
gate_fed names g = line_fed _

pub net_fed : (net : Net) → printed_net net ≡ concat_map fed (net_lines net)
unfolding printed_net net_lines
net_fed net =
    let names = net.header.names in
    rw (concat_append, four_fed net.header, concat_map_lem (gate_body names) fed, concat_same (printed_gate names) (λ g. fed (gate_body names g)) (gate_fed names))

-- ---- no line of a net sheet contains a line feed

good_words : (ws : List (List ℕ)) → GoodNames ws → Words ws
good_words [] g = tt
good_words (w ∷ ws) g = (name_word w g.0, good_words ws g.2)

pub head_unbroken : (h : Header) → HeaderRules h → Unbroken (head_lines h)
unfolding head_lines is_word text all plain is_separator space newline
head_unbroken h kept = (
  body_unbroken (text "levels" ∷ text "inputs" ∷ []) (refl, (refl, tt)),
  (
    body_unbroken (decimal h.levels ∷ decimal h.inputs ∷ []) (decimal_word h.levels, (decimal_word h.inputs, tt)),
    (body_unbroken h.names (good_words h.names kept.names), tt),
  ),
)

pub four_unbroken : (h : Header) → HeaderRules h → Unbroken (four_lines h)
unfolding four_lines is_word text all plain is_separator space newline
four_unbroken h kept =
    unbroken_append (head_lines h) (body (text "left" ∷ text "right" ∷ text "table" ∷ []) ∷ []) (head_unbroken h kept)
    (body_unbroken (text "left" ∷ text "right" ∷ text "table" ∷ []) (refl, (refl, (refl, tt))), tt)

gates_unbroken : (names : List (List ℕ)) → GoodNames names → (m : ℕ) → 0 < m → (gates : List Gate) → Tables m gates → Unbroken (map (gate_body names) gates)
unfolding gate_body
gates_unbroken names good m pos [] t = tt
gates_unbroken names good m pos (g ∷ gates) t = (
  body_unbroken (reference_text names g.left ∷ reference_text names g.right ∷ map digit_byte g.digits ∷ [])
      (reference_word names good g.left, (reference_word names good g.right, ((judges_digits m pos).word (g.digits, t.0), tt))),
  gates_unbroken names good m pos gates t.1,
)

pub net_unbroken : (net : Net) → NetRules net → Unbroken (net_lines net)
unfolding net_lines
net_unbroken net kept =
    unbroken_append (four_lines net.header) (map (gate_body net.header.names) net.gates) (four_unbroken net.header kept.header)
    (gates_unbroken net.header.names kept.header.names net.header.levels
    (omega (arith, ((levels_fit_lem net.header.levels).0 kept.header.levels).0)) net.gates
    kept.gates.rules.tables)
