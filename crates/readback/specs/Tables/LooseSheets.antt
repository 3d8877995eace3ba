-- Loose table sheets: what the reader of a loose sheet spells.
-- Assumes nothing.
use Rattle.std.specs.Prelude.{◌<◌, ◌≤◌, ◌+◌, ◌^◌, ◌*◌, ◌≡◌, ◌↔◌, ◌∷◌, ◌++◌}
use Rattle.laws.specs.Prelude.{ℕ, suc, zero, ◌∙◌, sym, ap, refl, subst, subst⁻¹, true, false, Bool, List, []}
use Rattle.laws.specs.Prelude.{map, append_assoc, append-nil, arith, eqb, length, append_snoc}
use Rattle.rules.specs.Calls.Answers.{accepted}
use Rattle.rules.specs.Lists.{all, any, same}
use Rattle.rules.specs.Sheets.Fields.{Read, Reader, read, turned_back, ◌>>=◌, give, is_separator, loose, field_in}
use Rattle.rules.specs.Sheets.SheetRules.{GoodNames, Distinct, HeaderRules}
use Rattle.rules.specs.Sheets.Sheets.{Header, is_name, name_field, name_fields_in, header_lines_in, ink_byte, levels_at}
use Rattle.rules.specs.Text.{space, newline, text, digit_byte, decimal}
use Rattle.rules.specs.Sheets.LooseSheet.{Row, LooseTable, index_fields, is_of, not_given, row_from, loose_rows, loose_sheet, blanks, LooseLine}
use Rattle.rules.specs.Sheets.LooseSheet.{LooseLines, row_fields, loose_fields, EachRow, IsLoose}
use Rattle.rules.specs.Sheets.LooseSheet.{read_loose}
use Rattle.readback.specs.Sheets.ReadBack.{whole_back, whole_only}
use Rattle.laws.specs.Lists.Fresh.{Fresh, fresh_first, fresh_last}
use Rattle.laws.specs.Lists.Same.{eqb_comm}
use Rattle.laws.specs.Lists.Tests.{any_same, any_map}
use Rattle.laws.specs.Lists.Distinct.{Unlike}
use Rattle.laws.specs.Numbers.Sizes.{levels_fit_lem}
use Rattle.laws.specs.Lists.Bounds.{Below, below_at, at_below}
use Rattle.laws.specs.Numbers.Assignments.{Assignment, index_from, index_of, index_levels, index_of_below, levels_index, levels_given}
use Rattle.readback.specs.Readers.Spells.{SpellsBetween, SpellsTo, Spells, Any, spells_give, spells_before, spells_onto, spells_then, spells_as, not_read}
use Rattle.readback.specs.Readers.Fields.{plain, is_word, judges_word, Ended, spells_end}
use Rattle.readback.specs.Readers.Judges.{judges_levels, judges_inputs, judges_name, judges_ink, judges_any_level, name_word, digit_word, ink_word_lem}
use Rattle.readback.specs.Readers.Decimals.{decimal_word}
use Rattle.readback.specs.Readers.Names.{NewNames, new_names}
use Rattle.readback.specs.Tables.LooseFields.{NoSpace, word_first, spells_parted, spells_last}

-- ---- fields with spaces after each

abbrev pub Parted : List (List ℕ) → List ℕ → Type 0
Parted [] s = s ≡ []
Parted (w ∷ ws) s = (count : ℕ) × (rest : List ℕ) × (s ≡ w ++ (blanks (suc count) ++ rest)) × Parted ws rest

-- words, each followed by spaces
abbrev Words : List (List ℕ) → Type 0
Words [] = Unit {0}
Words (w ∷ ws) = (is_word w ≡ true) × Words ws

-- they do not start with a space, if what follows does not
parted_first : (ws : List (List ℕ)) (s rest : List ℕ) → Words ws → Parted ws s → NoSpace rest → NoSpace (s ++ rest)
parted_first [] s rest h e k = rw e k
parted_first (w ∷ ws) s rest h (count, t, e, p) k = rw (e, append_assoc) (word_first w ((blanks (suc count) ++ t) ++ rest) h.0)

-- a line is fields with spaces after each, and the last
module _ (v : List ℕ) where
  abbrev Last : List (List ℕ) → List ℕ → Type 0
  Last ws s = (t : List ℕ) × (count : ℕ) × Parted ws t × (s ≡ t ++ (v ++ (blanks count ++ newline ∷ [])))

  line_more : (w : List ℕ) (ws : List (List ℕ)) (s : List ℕ)
      → LooseLine (w ∷ (ws ++ (v ∷ []))) s ↔ ((count : ℕ) × (rest : List ℕ) × (s ≡ w ++ (blanks (suc count) ++ rest)) × LooseLine (ws ++ (v ∷ [])) rest)
  line_more w [] s = (λ h. h, λ h. h)
  line_more w (x ∷ ws) s = (λ h. h, λ h. h)

  pub loose_line_last : (ws : List (List ℕ)) (s : List ℕ) → LooseLine (ws ++ (v ∷ [])) s → Last ws s
  loose_line_last [] s (count, e) = ([], count, refl, e)
  loose_line_last (w ∷ ws) s h =
      let (count, rest, e, k) = (line_more w ws s).0 h in
      let (t, more, p, d) = loose_line_last ws rest k in
      (w ++ (blanks (suc count) ++ t), more, (count, t, refl, p), e ∙ ap (λ (u : List ℕ). w ++ (blanks (suc count) ++ u)) d ∙ simp append_assoc)

  pub last_line : (ws : List (List ℕ)) (s : List ℕ) → Last ws s → LooseLine (ws ++ (v ∷ [])) s
  last_line [] s (t, count, p, d) = (count, d ∙ ap (λ (u : List ℕ). u ++ (v ++ (blanks count ++ newline ∷ []))) p)
  last_line (w ∷ ws) s (t, count, (more, rest, e, p), d) =
      (line_more w ws s).1 (
        more,
        rest ++ (v ++ (blanks count ++ newline ∷ [])),
        d ∙ ap (λ (u : List ℕ). u ++ (v ++ (blanks count ++ newline ∷ []))) e ∙ simp append_assoc,
        last_line ws (rest ++ (v ++ (blanks count ++ newline ∷ []))) (rest, count, p, refl),
      )

-- ---- names

abbrev NamesIn : List (List ℕ) → ℕ → Type 0
NamesIn earlier count = (ws : List (List ℕ)) × (s : List ℕ) × (length ws ≡ count) × NewNames earlier ws × Parted ws s

names_words : (ws : List (List ℕ)) → GoodNames ws → Words ws
names_words [] g = tt
names_words (w ∷ ws) g = (name_word w g.0, names_words ws g.2)

-- one name, then the others
name_more : (earlier : List (List ℕ)) (count : ℕ) (k : List ℕ → Reader (List (List ℕ)))
    → ((w : List ℕ) → SpellsBetween NoSpace Any (k w) (NamesIn (earlier ++ (w ∷ [])) count) (λ x. earlier ++ (w ∷ []) ++ x.0) (λ x. x.1))
    → SpellsBetween NoSpace Any (field_in loose (name_field earlier) space >>= k) (NamesIn earlier (suc count)) (λ x. earlier ++ x.0) (λ x. x.1)
name_more earlier count k next = spells_as
    (spells_onto k (spells_parted (judges_name earlier)) (λ z. next z.0.0)
    (λ z (ws, s, l, g, p) rest h. parted_first ws s rest (names_words ws g.0) p h))
    (λ (((w, h), c), (ws, s, l, g, p)). (
      (w ∷ ws, w ++ blanks (suc c) ++ s, ap suc l, (new_names earlier w ws).0 (h, g), (c, s, append_assoc w (blanks (suc c)) s, p)),
      append_snoc earlier w ws,
      refl,
    ))
    from
  where
    from : (y : NamesIn earlier (suc count))
        → (x : (z : ((w : List ℕ) × ((is_name w ≡ true) × (any (same w) earlier ≡ false))) × ℕ) × NamesIn (earlier ++ (z.0.0 ∷ [])) count)
        × (earlier ++ y.0 ≡ earlier ++ (x.0.0.0 ∷ []) ++ x.1.0) × (y.1 ≡ x.0.0.0 ++ blanks (suc x.0.1) ++ x.1.1)
    from ([], s, l, g, p) = absurd (omega arith)
    from (w ∷ ws, s, l, g, (c, t, e, p)) =
        let (h, i) = (new_names earlier w ws).1 g in
        ((((w, h), c), (ws, t, omega arith, i, p)), sym (append_snoc earlier w ws), e ∙ sym (append_assoc w (blanks (suc c)) t))

no_names : (earlier : List (List ℕ)) → SpellsBetween NoSpace Any (give earlier) (NamesIn earlier 0) (λ x. earlier ++ x.0) (λ x. x.1)
no_names earlier = spells_as (spells_before (spells_give earlier)) (λ _. (([], [], refl, (tt, tt), refl), sym (append-nil earlier), refl)) from
  where
    from : (y : NamesIn earlier 0) → (x : Unit {0}) × (earlier ++ y.0 ≡ earlier) × (y.1 ≡ [])
    from ([], s, l, g, p) = (tt, append-nil earlier, p)
    from (w ∷ ws, s, l, g, p) = absurd (omega arith)

spells_loose_names : (count : ℕ) (earlier : List (List ℕ))
    → SpellsBetween NoSpace Any (name_fields_in loose space count earlier) (NamesIn earlier count) (λ x. earlier ++ x.0) (λ x. x.1)
unfolding name_fields_in
spells_loose_names zero earlier = no_names earlier
spells_loose_names (suc zero) earlier = name_more earlier 0 _ (λ w. no_names (earlier ++ (w ∷ [])))
spells_loose_names (suc (suc count)) earlier = name_more earlier (suc count) _ (λ w. spells_loose_names (suc count) (earlier ++ (w ∷ [])))

-- ---- the first three lines, to the last name

-- a text that starts with a word
ends_first : (w a b rest : List ℕ) → is_word w ≡ true → NoSpace (w ++ a ++ b ++ rest)
ends_first w a b rest h = subst⁻¹ NoSpace (let z : w ++ a ++ b ++ rest ≡ w ++ (a ++ (b ++ rest)) = simp append_assoc in z) (word_first w (a ++ (b ++ rest)) h)

-- two lines, and the names
pub record HeadIn (h : Header) (s : List ℕ) : Type 0 where
  pub words : List ℕ
  pub values : List ℕ
  pub names : List ℕ
  pub is : s ≡ words ++ (values ++ names)
  pub words_laid : LooseLine (text "levels" ∷ text "inputs" ∷ []) words
  pub values_laid : LooseLine (decimal h.levels ∷ decimal h.inputs ∷ []) values
  pub names_laid : Parted h.names names

-- a line of two fields
two_fields : List ℕ → List ℕ → ℕ → ℕ → List ℕ
two_fields v w c d = v ++ (blanks (suc c) ++ (w ++ (blanks d ++ newline ∷ [])))

two_laid : (v w : List ℕ) (c d : ℕ) → LooseLine (v ∷ w ∷ []) (two_fields v w c d)
unfolding two_fields
two_laid v w c d = (c, w ++ (blanks d ++ newline ∷ []), refl, (d, refl))

laid_two : (v w s : List ℕ) → LooseLine (v ∷ w ∷ []) s → (c d : ℕ) × (s ≡ two_fields v w c d)
unfolding two_fields
laid_two v w s (c, rest, e, (d, i)) = (c, d, e ∙ ap (λ (t : List ℕ). v ++ (blanks (suc c) ++ t)) i)

-- two such lines, field by field
head_text_lem : (v w x y names : List ℕ) (c d e f : ℕ)
    → v ++ blanks (suc c) ++ (w ++ (blanks d ++ newline ∷ []) ++ (x ++ blanks (suc e) ++ (y ++ (blanks f ++ newline ∷ []) ++ (names ++ []))))
    ≡ two_fields v w c d ++ (two_fields x y e f ++ names)
unfolding two_fields
head_text_lem v w x y names c d e f = simp (append_assoc, append-nil)

abbrev Heads : Type 0
Heads = (h : Header) × (s : List ℕ) × HeaderRules h × HeadIn h s

spells_loose_header : SpellsBetween NoSpace Any (header_lines_in loose space) Heads (λ x. x.0) (λ x. x.1)
unfolding header_lines_in plain is_word all text is_separator space newline
spells_loose_header = spells_as
    (spells_onto _ (spells_parted (judges_word "levels" refl)) (λ _.
    spells_then _ (spells_last (judges_word "inputs" refl)) (λ _.
    spells_onto _ (spells_parted judges_levels) (λ m.
    spells_then _ (spells_last (judges_inputs m.0.0)) (λ n.
    spells_onto _ (spells_loose_names n.0.0 [])
    (λ names. spells_before (spells_give (record { levels = m.0.0; inputs = n.0.0; names = names.0 }))) (λ _ _ rest h. h)))
    (λ m n rest h. ends_first (decimal n.0.0.0) (blanks n.0.1 ++ newline ∷ []) (n.1.0.1 ++ []) rest (decimal_word n.0.0.0))))
    (λ _ y rest h. word_first (text "inputs") _ refl))
    (λ ((_, c), ((_, d), (((m, f), e), (((n, g, i), k), ((names, s, l, (good, _), p), _))))). (
      (
        record { levels = m; inputs = n; names = names },
        two_fields (text "levels") (text "inputs") c d ++ (two_fields (decimal m) (decimal n) e k ++ s),
        record { levels = f; inputs = g; cells = i; count = l; names = good },
        record {
          words = two_fields (text "levels") (text "inputs") c d;
          values = two_fields (decimal m) (decimal n) e k;
          names = s;
          is = refl;
          words_laid = two_laid (text "levels") (text "inputs") c d;
          values_laid = two_laid (decimal m) (decimal n) e k;
          names_laid = p;
        },
      ),
      refl,
      head_text_lem (text "levels") (text "inputs") (decimal m) (decimal n) s c d e k,
    ))
    (λ (h, s, k, head).
    let (c, d, i) = laid_two (text "levels") (text "inputs") head.words head.words_laid in
    let (e, f, j) = laid_two (decimal h.levels) (decimal h.inputs) head.values head.values_laid in (
      (
        (tt, c),
        (
          (tt, d),
          (
            ((h.levels, k.levels), e),
            (((h.inputs, k.inputs, k.cells), f), ((h.names, head.names, k.count, (k.names, fresh_first same h.names), head.names_laid), tt)),
          ),
        ),
      ),
      refl,
      head.is
          ∙ (λ q. i q ++ (j q ++ head.names))
          ∙ sym (head_text_lem (text "levels") (text "inputs") (decimal h.levels) (decimal h.inputs) head.names c d e f),
    ))

-- ---- a row

-- some levels' bytes, as words
abbrev digit_words : List ℕ → List (List ℕ)
digit_words ls = map (λ l. digit_byte l ∷ []) ls

digit_words_lem : (ls : List ℕ) → Words (digit_words ls)
digit_words_lem [] = tt
digit_words_lem (l ∷ ls) = (digit_word l, digit_words_lem ls)

module _ (m : ℕ) where
  -- that many levels below m
  abbrev LevelsIn : ℕ → Type 0
  LevelsIn count = (ls : List ℕ) × (s : List ℕ) × (length ls ≡ count) × Below m ls × Parted (digit_words ls) s

  spells_index : (count before : ℕ)
      → SpellsBetween NoSpace Any (index_fields m count before) (LevelsIn count) (λ x. index_from m before x.0) (λ x. x.1)
  unfolding index_fields index_from
  spells_index zero before = spells_as (spells_before (spells_give before)) (λ _. (([], [], refl, tt, refl), refl, refl)) from
    where
      from : (y : LevelsIn 0) → (x : Unit {0}) × (index_from m before y.0 ≡ before) × (y.1 ≡ [])
      from ([], s, l, g, p) = (tt, refl, p)
      from (w ∷ ws, s, l, g, p) = absurd (omega arith)
  spells_index (suc count) before = spells_as
      (spells_onto _ (spells_parted (judges_any_level m)) (λ z. spells_index count (before * m + z.0.0))
      (λ z (ls, s, l, g, p) rest h. parted_first (digit_words ls) s rest (digit_words_lem ls) p h))
      (λ (((l, h), c), (ls, s, k, g, p)). (
        (l ∷ ls, digit_byte l ∷ [] ++ blanks (suc c) ++ s, ap suc k, (h, g), (c, s, append_assoc (digit_byte l ∷ []) (blanks (suc c)) s, p)),
        refl,
        refl,
      ))
      from
    where
      from : (y : LevelsIn (suc count)) → (x : (z : ((l : ℕ) × (l < m)) × ℕ) × LevelsIn count)
          × (index_from m before y.0 ≡ index_from m (before * m + x.0.0.0) x.1.0)
          × (y.1 ≡ digit_byte x.0.0.0 ∷ [] ++ blanks (suc x.0.1) ++ x.1.1)
      from ([], s, l, g, p) = absurd (omega arith)
      from (l ∷ ls, s, k, g, (c, t, e, p)) =
          ((((l, g.0), c), (ls, t, omega arith, g.1, p)), refl, e ∙ sym (append_assoc (digit_byte l ∷ []) (blanks (suc c)) t))

-- an assignment that no earlier row gave
spells_not_given : (first : ℕ) (earlier : List Row) (p : ℕ) → Spells (not_given first earlier p) (any (is_of p) earlier ≡ false) (λ _. tt) (λ _. [])
unfolding not_given
spells_not_given first earlier p = record { back = λ e rest at _. (at, rw (e, not_given) refl); only = only }
  where
    only : (s : List ℕ) (at : ℕ) (a : Unit {0}) (rest : List ℕ) (place : ℕ) → not_given first earlier p s at ≡ read a rest place
        → (x : any (is_of p) earlier ≡ false) × (a ≡ tt) × (s ≡ rest) × Unit {0}
    only s at a rest place e = go (any (is_of p) earlier) refl e
      where
        go : (t : Bool) → any (is_of p) earlier ≡ t → ◌≡◌ {A = Read (Unit {0})} (elim t [ true ↦ turned_back 20 first | false ↦ read tt s at ])
            (read a rest place)
            → (x : any (is_of p) earlier ≡ false) × (a ≡ tt) × (s ≡ rest) × Unit {0}
        go true d e = absurd (not_read 20 first a rest place e)
        go false d e = (d, refl, (cc), tt)

-- a reader that gets the place where it starts
spells_here : {A : Type 0} (r : ℕ → Reader A) {X : Type 0} {f : X → A} {p : X → List ℕ} → ((first : ℕ) → Spells (r first) X f p)
    → Spells (λ s at. r at s at) X f p
spells_here r spells = record { back = λ x rest at. (spells at).back x rest at; only = λ s at. (spells at).only s at }

-- do two rows name the same assignment?
abbrev named : Row → Row → Bool
named row other = is_of row.index other

named_turned : (row other : Row) → named row other ≡ named other row
named_turned row other = eqb_comm other.index row.index

module _ (m n : ℕ) (pos : 0 < m) where
  -- a row that names an assignment given in no earlier row, and its line
  abbrev RowIn : List Row → Type 0
  RowIn earlier = (row : Row) × (s : List ℕ) × (row.index < m ^ n) × (row.ink ≤ m) × (any (is_of row.index) earlier ≡ false)
      × LooseLine (row_fields m n row) s

  -- levels below m are an assignment
  given : (ls : List ℕ) → length ls ≡ n → Below m ls → Assignment m n ls
  given ls l b = record { count = l; below = λ i h. below_at m ls b i (omega arith) }

  row_words : (row : Row) → row_fields m n row ≡ digit_words (levels_at m n row.index) ++ ((ink_byte m row.ink ∷ []) ∷ [])
  unfolding row_fields
  row_words row = refl

  spells_loose_row : (earlier : List Row) (first : ℕ) → Spells (row_from m n earlier first) (RowIn earlier) (λ x. x.0) (λ x. x.1)
  unfolding row_from index_from index_of
  spells_loose_row earlier first = spells_as
      (spells_onto _ (spells_index m n 0) (λ x.
      spells_then _ (spells_not_given first earlier (index_from m 0 x.0)) (λ _.
      spells_then _ (spells_last (judges_ink m)) (λ z. spells_give (record { index = index_from m 0 x.0; ink = z.0.0 }))))
      (λ x (_, (((d, h), c), _)) rest _. word_first (ink_byte m d ∷ []) _ (ink_word_lem m d)))
      (λ ((ls, t, l, b, p), (fresh, (((d, h), c), _))).
      let v = ink_byte m d ∷ [] in
      let row : Row = record { index = index_from m 0 ls; ink = d } in
      let s = t ++ (v ++ (blanks c ++ newline ∷ [])) in
      let words : row_fields m n row ≡ digit_words ls ++ (v ∷ []) =
      row_words row ∙ ap (λ (k : List ℕ). digit_words k ++ (v ∷ [])) (levels_index m n ls (given ls l b)) in (
        (
          row,
          s,
          index_of_below m n ls (given ls l b),
          h,
          fresh,
          subst⁻¹ (λ (ws : List (List ℕ)). LooseLine ws s) words (last_line v (digit_words ls) s (t, c, p, refl)),
        ),
        refl,
        ap (λ (u : List ℕ). t ++ u) (append-nil (v ++ (blanks c ++ newline ∷ []))),
      ))
      (λ (row, s, i, j, fresh, laid).
      let v = ink_byte m row.ink ∷ [] in
      let ls = levels_at m n row.index in
      let (t, c, p, e) = loose_line_last v (digit_words ls) s (subst (λ (ws : List (List ℕ)). LooseLine ws s) (row_words row) laid) in
      let at : index_from m 0 ls ≡ row.index = index_levels m n row.index pos i in
      let is : Assignment m n ls = levels_given m n row.index pos in (
        (
          (ls, t, is.count, at_below m ls (λ k h. is.below k (omega (arith, is.count))), p),
          (subst⁻¹ (λ (k : ℕ). any (is_of k) earlier ≡ false) at fresh, (((row.ink, j), c), tt)),
        ),
        (λ q. record { index = sym at q; ink = row.ink }),
        e ∙ ap (λ (u : List ℕ). t ++ u) (sym (append-nil (v ++ (blanks c ++ newline ∷ [])))),
      ))

  -- ---- rows

  -- no row names an assignment that a row before it or an earlier one named
  abbrev NewRows : List Row → List Row → Type 0
  NewRows earlier rows = Unlike named rows × Fresh named earlier rows

  abbrev RowsIn : List Row → ℕ → Type 0
  RowsIn earlier count =
      (rows : List Row) × (s : List ℕ) × (length rows ≡ count) × EachRow m n rows × NewRows earlier rows × LooseLines (map (row_fields m n) rows) s

  -- one row, then the others
  new_rows : (earlier : List Row) (row : Row) (rows : List Row)
      → ((any (is_of row.index) earlier ≡ false) × NewRows (earlier ++ (row ∷ [])) rows) ↔ NewRows earlier (row ∷ rows)
  new_rows earlier row rows = (
    λ (e, (u, f)).
        let (i, j) = (fresh_last named named_turned earlier row rows).0 f in
        ((i, u), (e, j)),
    λ ((i, u), (e, j)). (e, (u, (fresh_last named named_turned earlier row rows).1 (i, j))),
  )

  spells_loose_rows : (count : ℕ) (earlier : List Row) → Spells (loose_rows m n count earlier) (RowsIn earlier count) (λ x. earlier ++ x.0) (λ x. x.1)
  unfolding loose_rows
  spells_loose_rows zero earlier = spells_as (spells_give earlier) (λ _. (([], [], refl, tt, (tt, tt), refl), sym (append-nil earlier), refl)) from
    where
      from : (y : RowsIn earlier 0) → (x : Unit {0}) × (earlier ++ y.0 ≡ earlier) × (y.1 ≡ [])
      from ([], s, l, each, new, laid) = (tt, append-nil earlier, laid)
      from (row ∷ rows, s, l, each, new, laid) = absurd (omega arith)
  spells_loose_rows (suc count) earlier = spells_as
      (spells_then _ (spells_here (row_from m n earlier) (spells_loose_row earlier)) (λ x. spells_loose_rows count (earlier ++ (x.0 ∷ []))))
      (λ ((row, t, i, j, fresh, line), (rows, s, l, each, new, laid)). (
        (row ∷ rows, t ++ s, ap suc l, (i, j, each), (new_rows earlier row rows).0 (fresh, new), (t, s, refl, line, laid)),
        append_snoc earlier row rows,
        refl,
      ))
      from
    where
      from : (y : RowsIn earlier (suc count)) → (x : (x : RowIn earlier) × RowsIn (earlier ++ (x.0 ∷ [])) count)
          × (earlier ++ y.0 ≡ earlier ++ (x.0.0 ∷ []) ++ x.1.0) × (y.1 ≡ x.0.1 ++ x.1.1)
      from ([], s, l, each, new, laid) = absurd (omega arith)
      from (row ∷ rows, s, l, (i, j, each), new, (t, rest, e, line, laid)) =
          let (fresh, more) = (new_rows earlier row rows).1 new in
          (((row, t, i, j, fresh, line), (rows, rest, omega arith, each, more, laid)), sym (append_snoc earlier row rows), e)

-- ---- the sheet

-- no two rows for the same assignment
unlike_once : (rows : List Row) → Unlike named rows ↔ Distinct (map (λ row. row.index) rows)
unlike_once [] = (λ _. tt, λ _. tt)
unlike_once (row ∷ rows) =
    let (to, from) = unlike_once rows in
    let same : any (named row) rows ≡ any (eqb row.index) (map (λ row. row.index) rows) =
    any_same (named row) (λ other. eqb row.index other.index) rows (λ other _. eqb_comm other.index row.index)
    ∙ sym (any_map (λ row. row.index) (eqb row.index) rows) in
    (λ (e, u). (sym same ∙ e, to u), λ (e, d). (same ∙ e, from d))

-- a valid header has at least one level
head_pos : (h : Header) → HeaderRules h → 0 < h.levels
head_pos h k = omega (arith, ((levels_fit_lem h.levels).0 k.levels).0)

-- two lines, the third in two parts, and the rows
sheet_text : (a b c d u : List ℕ) → a ++ (b ++ c) ++ (d ++ (u ++ [])) ≡ a ++ (b ++ (c ++ d ++ u))
sheet_text a b c d u = simp (append_assoc, append-nil)

-- the reader of loose sheets spells the texts that follow the rules
pub spells_loose : SpellsTo Ended loose_sheet ((t : LooseTable) × (s : List ℕ) × IsLoose s t) (λ x. x.0) (λ x. x.1)
unfolding loose_sheet loose_fields plain is_word all text is_separator space newline
spells_loose = spells_as
    (spells_onto _ spells_loose_header (λ (h, s, k, head).
    spells_then _ (spells_last (judges_word "ink" refl)) (λ _.
    spells_then _ (spells_loose_rows h.levels h.inputs (head_pos h k) (h.levels ^ h.inputs) [])
    (λ rows. spells_end (record { header = h; rows = rows.0 }))))
    (λ _ _ rest _. word_first (text "ink") _ refl))
    (λ ((h, s, k, head), ((_, c), ((rows, u, l, each, (unlike, _), laid), _))).
    let ink = text "ink" ++ (blanks c ++ newline ∷ []) in
    let third = head.names ++ ink in
    let line = last_line (text "ink") h.names third (head.names, c, head.names_laid, refl) in (
      (
        record { header = h; rows = rows },
        head.words ++ (head.values ++ (third ++ u)),
        record {
          lines = (
            head.words,
            head.values ++ (third ++ u),
            refl,
            head.words_laid,
            (head.values, third ++ u, refl, head.values_laid, (third, u, refl, line, laid)),
          );
          kept = record { header = k; count = l; each = each; once = (unlike_once rows).0 unlike };
        },
      ),
      refl,
      ap (λ (x : List ℕ). x ++ (ink ++ (u ++ []))) head.is ∙ sheet_text head.words head.values head.names ink u,
    ))
    (λ (t, s, is).
    let (words, r, e, words_laid, (values, q, f, values_laid, (third, u, g, line, laid))) = is.lines in
    let (names, c, p, d) = loose_line_last (text "ink") t.header.names third line in
    let ink = text "ink" ++ (blanks c ++ newline ∷ []) in
    let head : HeadIn t.header (words ++ (values ++ names)) =
    record { words = words; values = values; names = names; is = refl; words_laid = words_laid; values_laid = values_laid; names_laid = p } in (
      (
        (t.header, words ++ (values ++ names), is.kept.header, head),
        ((tt, c), ((t.rows, u, is.kept.count, is.kept.each, ((unlike_once t.rows).1 is.kept.once, fresh_first named t.rows), laid), tt)),
      ),
      refl,
      e
          ∙ ap (λ (x : List ℕ). words ++ x) (f ∙ ap (λ (x : List ℕ). values ++ x) (g ∙ ap (λ (x : List ℕ). x ++ u) d))
          ∙ sym (sheet_text words values names ink u),
    ))

-- ---- the theorem

moved : (s r : List ℕ) (t u : LooseTable) → s ≡ r → t ≡ u → IsLoose r u → IsLoose s t
moved s r t u d q is = rw (d, q) is

-- a loose sheet is accepted exactly if it follows the rules, stated without the reader
pub loose_sheets_lem : (s : List ℕ) (t : LooseTable) → (read_loose s ≡ accepted t) ↔ IsLoose s t
unfolding read_loose
loose_sheets_lem s t = (
  λ e.
      let ((u, r, is), q, d) = whole_only spells_loose s t e in
      moved s r t u d q is,
  λ is. whole_back spells_loose (t, s, is),
)
