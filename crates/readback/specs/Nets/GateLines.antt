-- The lines of a sheet as document 01's lister counts them: where line k starts and how long it is. In an accepted net sheet the gate lines
-- are the lines after the first four, each within the sheet with its line feed, and the sheet ends after the last.
-- Assumes nothing.
use Rattle.std.specs.Prelude.{◌<◌, ◌≤◌, ◌+◌, ◌-◌, ◌≡◌, ◌∷◌, ◌++◌}
use Rattle.laws.specs.Prelude.{ℕ, suc, zero, ◌∙◌, sym, ap, refl, ap₂, subst⁻¹, true, List, [], append_assoc, append-nil}
use Rattle.laws.specs.Prelude.{arith, eqb, length, get_or, take, drop, length-append, length-map, length-take-le, take_at, append_snoc, drop_at, drop-drop}
use Rattle.laws.specs.Prelude.{split_at, not-true}
use Rattle.rules.specs.Calls.Answers.{accepted, refused, onward}
use Rattle.rules.specs.Lists.{all, concat_map}
use Rattle.rules.specs.Sheets.Printed.{printed_gate}
use Rattle.rules.specs.Sheets.Reading.{read_net}
use Rattle.rules.specs.Sheets.SheetRules.{NetRules}
use Rattle.rules.specs.Sheets.Sheets.{Gate, Net}
use Rattle.rules.specs.Text.{newline}
use Rattle.rules.specs.Calls.Lister.{Part, line_length, after_lines, listing}
use Rattle.laws.specs.Lists.Concat.{concat_append}
use Rattle.laws.specs.Lists.Places.{map_at}
use Rattle.laws.specs.Lists.Tests.{all_iff}
use Rattle.readback.specs.Sheets.ReadBack.{net_accepted}
use Rattle.readback.specs.Sheets.Lines.{fed, in_line, Unbroken, head_lines, four_lines, gate_body, gate_fed, net_lines, net_fed, net_unbroken}

-- ---- the lines of any sheet

length_one : (w rest : List ℕ) → all in_line w ≡ true → line_length (w ++ newline ∷ rest) ≡ length w
unfolding line_length in_line newline
length_one [] rest h = refl
length_one (b ∷ w) rest h =
    let (first, more) = (all_iff in_line b w).0 h in
    rw (not-true (eqb b 10) first, line_length, length_one w rest more)

-- the place after the lines, by the first of them
after_front : (s : List ℕ) (k : ℕ) → after_lines s (suc k) ≡ line_length s + 1 + after_lines (drop (line_length s + 1) s) k
unfolding after_lines
after_front s zero = omega arith
after_front s (suc k) =
    rw (after_front s k, ← drop-drop (after_lines (drop (line_length s + 1) s) k) (line_length s + 1) s) (omega arith)

-- past a line and its line feed
past_one : (w rest : List ℕ) → drop (length w + 1) (w ++ newline ∷ rest) ≡ rest
past_one w rest = rw (← append_snoc w newline rest) (drop_at (w ++ (newline ∷ [])) rest (length w + 1) (length-append w (newline ∷ [])))

-- the first line of several
first_of : (w : List ℕ) (ws : List (List ℕ)) (rest : List ℕ) → concat_map fed (w ∷ ws) ++ rest ≡ w ++ newline ∷ (concat_map fed ws ++ rest)
unfolding concat_map fed
first_of w ws rest = append_assoc (w ++ (newline ∷ [])) (concat_map fed ws) rest ∙ append_snoc w newline (concat_map fed ws ++ rest)

-- the place after the first lines, whatever follows, is their length
after_first : (ws : List (List ℕ)) (rest : List ℕ) → Unbroken ws → after_lines (concat_map fed ws ++ rest) (length ws) ≡ length (concat_map fed ws)
unfolding after_lines concat_map fed
after_first [] rest h = refl
after_first (w ∷ ws) rest h =
    let more = concat_map fed ws ++ rest in
    ap (λ (t : List ℕ). after_lines t (suc (length ws))) (first_of w ws rest) ∙ after_front (w ++ newline ∷ more) (length ws)
    ∙ rw (length_one w more h.0, past_one w more, after_first ws rest h.1) (simp length-append (omega arith))

unbroken_take : (k : ℕ) (ws : List (List ℕ)) → Unbroken ws → Unbroken (take k ws)
unbroken_take zero ws h = tt
unbroken_take (suc k) [] h = tt
unbroken_take (suc k) (w ∷ ws) h = (h.0, unbroken_take k ws h.1)

unbroken_at : (k : ℕ) (ws : List (List ℕ)) → Unbroken ws → k < length ws → all in_line (get_or ws k []) ≡ true
unbroken_at k [] h l = absurd (omega arith)
unbroken_at zero (w ∷ ws) h l = h.0
unbroken_at (suc k) (w ∷ ws) h l = unbroken_at k ws h.1 (omega arith)

-- the bytes of a part
unfoldable pub part_of : List ℕ → Part → List ℕ
part_of s p = take p.count (drop p.start s)

-- line number k, from 0
unfoldable pub line_at : List ℕ → ℕ → Part
line_at s k = let at = after_lines s k in record { start = at; count = line_length (drop at s) }

module _ (s : List ℕ) (ws : List (List ℕ)) (lines : s ≡ concat_map fed ws) (unbroken : Unbroken ws) where
  -- the sheet ends after its last line
  after_last : after_lines s (length ws) ≡ length s
  after_last = rw lines (ap (λ (t : List ℕ). after_lines t (length ws)) (sym (append-nil (concat_map fed ws))) ∙ after_first ws [] unbroken)

  module _ (k : ℕ) (inside : k < length ws) where
    -- everything before the line
    before : List ℕ
    before = concat_map fed (take k ws)

    -- everything after it
    after : List ℕ
    after = concat_map fed (drop (suc k) ws)

    split : s ≡ before ++ (get_or ws k [] ++ newline ∷ after)
    unfolding before after concat_map fed
    split =
        lines ∙ ap (concat_map fed) (split_at ws k [] inside) ∙ concat_append fed (take k ws) (get_or ws k [] ∷ drop (suc k) ws)
        ∙ ap (λ (t : List ℕ). before ++ t) (append_snoc (get_or ws k []) newline after)

    there : after_lines s k ≡ length before
    unfolding before
    there =
        ap₂ after_lines split (sym (length-take-le k ws (omega arith)))
        ∙ after_first (take k ws) (get_or ws k [] ++ newline ∷ after) (unbroken_take k ws unbroken)

    rest : drop (after_lines s k) s ≡ get_or ws k [] ++ newline ∷ after
    rest = ap (λ (t : List ℕ). drop (after_lines s k) t) split ∙ drop_at before _ (after_lines s k) (sym there)

    long : line_length (drop (after_lines s k) s) ≡ length (get_or ws k [])
    long = ap line_length rest ∙ length_one (get_or ws k []) after (unbroken_at k ws unbroken inside)

    -- the part of the line is within the sheet, with its line feed, ..
    line_inside : (line_at s k).start + (line_at s k).count < length s
    unfolding line_at
    line_inside =
        rw (long, there)
        (subst⁻¹ (λ (t : List ℕ). length before + length (get_or ws k []) < length t) split (simp length-append (omega arith)))

    -- .. and its bytes are the line's
    line_bytes : part_of s (line_at s k) ≡ get_or ws k []
    unfolding part_of line_at
    line_bytes = rw (long, rest) (take_at (get_or ws k []) (newline ∷ after) (length (get_or ws k [])) refl)

-- ---- the lines of an accepted sheet

four_more : (k : ℕ) → 4 + k ≡ suc (suc (suc (suc k)))
four_more k = omega arith

module _ (s : List ℕ) (net : Net) (reads : read_net s ≡ accepted net) where
  abbrev names : List (List ℕ)
  names = net.header.names

  kept : NetRules net
  kept = (net_accepted s net reads).1

  pub sheet_lines : s ≡ concat_map fed (net_lines net)
  sheet_lines = (net_accepted s net reads).0 ∙ net_fed net

  -- four lines, then the gate lines
  net_length : length (net_lines net) ≡ 4 + length net.gates
  unfolding net_lines four_lines head_lines
  net_length = omega (arith, length-map net.gates (gate_body net.header.names))

  net_at : (k : ℕ) (d : Gate) → k < length net.gates → get_or (net_lines net) (4 + k) [] ≡ gate_body names (get_or net.gates k d)
  unfolding net_lines four_lines head_lines
  net_at k d h = rw (four_more k) (map_at (gate_body net.header.names) net.gates k d [] h)

  -- "from 1 to n − 1 gate lines" (document 02, K12)
  pub gate_count_lem : (0 < length net.gates) × (length net.gates ≤ net.header.inputs - 1)
  gate_count_lem = (kept.gates.some, omega (arith, kept.gates.count))

  -- the part that a turn gives is within the sheet, with its line feed, ..
  pub gate_inside : (k : ℕ) → k < length net.gates → (line_at s (4 + k)).start + (line_at s (4 + k)).count < length s
  gate_inside k h = line_inside s (net_lines net) sheet_lines (net_unbroken net kept) (4 + k) (omega (arith, net_length))

  -- .. and the sheet ends after the last
  pub gates_end : after_lines s (4 + length net.gates) ≡ length s
  gates_end = ap (after_lines s) (sym net_length) ∙ after_last s (net_lines net) sheet_lines (net_unbroken net kept)

  -- the part, with its line feed, is the printed gate line
  pub gate_bytes_lem : (k : ℕ) (d : Gate) → k < length net.gates → fed (part_of s (line_at s (4 + k))) ≡ printed_gate names (get_or net.gates k d)
  gate_bytes_lem k d h =
      ap fed (line_bytes s (net_lines net) sheet_lines (net_unbroken net kept) (4 + k) (omega (arith, net_length)) ∙ net_at k d h)
      ∙ sym (gate_fed names (get_or net.gates k d))

-- ---- a turn on any other sheet

-- "gives the refusal of any other"
pub turn_refused : (s : List ℕ) (number place k : ℕ) → read_net s ≡ refused number place → listing s k ≡ refused number place
unfolding listing onward
turn_refused s number place k e = rw (e, listing)
