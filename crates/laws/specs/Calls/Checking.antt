-- The result of checking, one law for each outcome, and how a comparison of two lists of inks ends.
-- Assumes nothing.
use Rattle.std.specs.Prelude.{◌<◌, ◌≤◌, ◌≡◌, ◌&&◌, ◌∷◌}
use Rattle.laws.specs.Prelude.{ℕ, ◌∙◌, refl, subst, ap₂, subst⁻¹, true, false, Bool, not, and-eq-true_iff, false≢true, List, []}
use Rattle.laws.specs.Prelude.{zero-add, dec_lt, arith, eqb, length, get_or, eq-eqb, eqb-true, lt-ltb, le-ltb, eqb-false, not-true, not-false}
use Rattle.laws.specs.Prelude.{by_cases}
use Rattle.rules.specs.Calls.Answers.{accepted, refused, written, net_named, table_named, neither}
use Rattle.rules.specs.Calls.Checking.{turned_down, check_call, same_names_of, same_header, compared, checked_into, agree, differ}
use Rattle.rules.specs.Calls.OpenCells.{is_open_of}
use Rattle.rules.specs.Lists.{range, first_place, same}
use Rattle.rules.specs.Sheets.Reading.{read_net, read_table, table_of_net}
use Rattle.rules.specs.Sheets.Sheets.{Header, Net, Table}
use Rattle.laws.specs.Calls.OpenCells.{not_open, shut_ink}
use Rattle.laws.specs.Lists.FirstPlaces.{before_first, at_first}
use Rattle.laws.specs.Lists.Ranges.{range_length, range_at}
use Rattle.laws.specs.Lists.Same.{same_refl, same_true}
use Rattle.laws.specs.Lists.Tests.{both_eqb}

-- ---- the same header

same_names : (ws : List (List ℕ)) → same_names_of ws ws ≡ true
unfolding same_names_of
same_names [] = refl
same_names (w ∷ ws) = rw (same_refl w, same_names ws)

pub same_header_lem : (h k : Header) → h ≡ k → same_header h k ≡ true
unfolding same_header
same_header_lem h k e =
    subst (λ (l : Header). same_header h l ≡ true) e (rw (eq-eqb h.levels h.levels refl, eq-eqb h.inputs h.inputs refl, same_names h.names))

names_same : (vs ws : List (List ℕ)) → same_names_of vs ws ≡ true → vs ≡ ws
unfolding same_names_of
names_same [] [] e = refl
names_same [] (w ∷ ws) e = absurd (false≢true e)
names_same (v ∷ vs) [] e = absurd (false≢true e)
names_same (v ∷ vs) (w ∷ ws) e =
    let (first, others) = (and-eq-true_iff (same v w) (same_names_of vs ws)).0 e in
    ap₂ ◌∷◌ (same_true v w first) (names_same vs ws others)

pub header_same : (h k : Header) → same_header h k ≡ true → h ≡ k
unfolding same_header
header_same h k e =
    let (sizes, names) = (and-eq-true_iff (eqb h.levels k.levels && eqb h.inputs k.inputs) (same_names_of h.names k.names)).0 e in
    let (levels, inputs) = (both_eqb h.levels k.levels h.inputs k.inputs).0 sizes in
    let same_names = names_same h.names k.names names in
    λ i. record { levels = levels i; inputs = inputs i; names = same_names i }

-- ---- the outcomes

module _ (s r cells : List ℕ) where
  pub check_net_refused : (number place : ℕ) → read_net s ≡ refused number place
      → check_call s r cells ≡ record { answer = turned_down net_named number place; cells = cells }
  unfolding check_call
  check_net_refused number place e = rw (e, check_call)

  pub check_table_refused : (net : Net) → read_net s ≡ accepted net → (number place : ℕ) → read_table r ≡ refused number place
      → check_call s r cells ≡ record { answer = turned_down table_named number place; cells = cells }
  unfolding check_call
  check_table_refused net d number place e = rw (d, e, check_call)

  pub check_accepted : (net : Net) → read_net s ≡ accepted net → (t : Table) → read_table r ≡ accepted t → check_call s r cells ≡ checked_into net t cells
  unfolding check_call
  check_accepted net d t e = rw (d, e, check_call)

module _ (net : Net) (t : Table) (cells : List ℕ) where
  pub check_12 : same_header net.header t.header ≡ false → checked_into net t cells ≡ record { answer = turned_down neither 12 0; cells = cells }
  unfolding checked_into
  check_12 e = rw (e, checked_into)

  pub check_13 : same_header net.header t.header ≡ true → length cells < length t.inks
      → checked_into net t cells ≡ record { answer = turned_down neither 13 (length t.inks); cells = cells }
  unfolding checked_into
  check_13 e h = rw (e, lt-ltb _ _ h, checked_into)

  pub check_compared : same_header net.header t.header ≡ true → length t.inks ≤ length cells
      → checked_into net t cells ≡ record { answer = compared t.header.levels (table_of_net net).inks t.inks; cells = written cells t.inks }
  unfolding checked_into
  check_compared e h = rw (e, le-ltb _ _ h, checked_into)

-- at a place before the end, the table's cell is not open and the two differ
differs : ℕ → List ℕ → List ℕ → ℕ → Bool
differs m xs ys p = not (is_open_of m (get_or ys p 0)) && not (eqb (get_or xs p 0) (get_or ys p 0))

-- the first place at which they differ, or the length
first_difference : ℕ → List ℕ → List ℕ → ℕ
first_difference m xs ys = first_place (differs m xs ys) (range 0 (length xs))

-- they agree at a place, or the table's cell there is open
abbrev pub AgreeAt : ℕ → List ℕ → List ℕ → ℕ → Type 0
AgreeAt m xs ys p = (get_or ys p 0 ≡ m → ⊥) → get_or xs p 0 ≡ get_or ys p 0

-- a comparison ends in one of two ways
pub data Compared (m : ℕ) (xs ys : List ℕ) : Type 0 where
  all_agree : compared m xs ys ≡ agree → ((p : ℕ) → p < length xs → AgreeAt m xs ys p) → Compared m xs ys
  first_differs : (k : ℕ) → compared m xs ys ≡ differ k → k < length xs → (get_or ys k 0 ≡ m → ⊥) → (get_or xs k 0 ≡ get_or ys k 0 → ⊥)
      → ((p : ℕ) → p < k → AgreeAt m xs ys p) → Compared m xs ys

same_at : (m : ℕ) (xs ys : List ℕ) (p : ℕ) → differs m xs ys p ≡ false → AgreeAt m xs ys p
unfolding differs
same_at m xs ys p e shut = eqb-true _ _ (not-false _ (rw (not_open m (get_or ys p 0) shut) at e))

apart_at : (m : ℕ) (xs ys : List ℕ) (p : ℕ) → differs m xs ys p ≡ true → (get_or ys p 0 ≡ m → ⊥) × (get_or xs p 0 ≡ get_or ys p 0 → ⊥)
unfolding differs
apart_at m xs ys p e =
    let (shut, ne) = (and-eq-true_iff _ _).0 e in
    (shut_ink m (get_or ys p 0) (not-true _ shut), eqb-false _ _ (not-true _ ne))

module _ (m : ℕ) (xs ys : List ℕ) where
  place : ℕ
  place = first_difference m xs ys

  before : (p : ℕ) → p < place → p < length xs → AgreeAt m xs ys p
  unfolding place first_difference
  before p h l =
      same_at m xs ys p
      (subst (λ (q : ℕ). differs m xs ys q ≡ false) (range_at 0 (length xs) p 0 l ∙ zero-add p) (before_first (differs m xs ys) 0 (range 0 (length xs)) p h))

  there : place < length xs → (get_or ys place 0 ≡ m → ⊥) × (get_or xs place 0 ≡ get_or ys place 0 → ⊥)
  unfolding place first_difference
  there h =
      apart_at m xs ys place
      (subst (λ (q : ℕ). differs m xs ys q ≡ true) (range_at 0 (length xs) place 0 h ∙ zero-add place)
      (at_first (differs m xs ys) 0 (range 0 (length xs)) (subst⁻¹ (λ (l : ℕ). place < l) (range_length 0 (length xs)) h)))

  pub comparison : Compared m xs ys
  unfolding compared place first_difference differs
  comparison = by_cases (dec_lt place (length xs))
      (λ h. let (shut, ne) = there h in first_differs place (rw (lt-ltb place (length xs) h, compared)) h shut ne (λ p l. before p l (omega arith)))
      (λ h. all_agree (rw (le-ltb place (length xs) (omega arith), compared)) (λ p l. before p (omega arith) l))
