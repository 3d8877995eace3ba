-- Document 02, K13: "Everything that counts classes, marks groups or fills gates needs a full table". Each such call refuses with 27 exactly if
-- some cell is open, at the lowest such index, provided everything judged before it passes; and it then leaves every buffer unchanged.
-- Assumes nothing.
use Rattle.std.specs.Prelude.{◌<◌, ◌≤◌, ◌^◌, ◌≡◌, ◌↔◌, ◌||◌, ◌∷◌}
use Rattle.laws.specs.Prelude.{ℕ, ◌∙◌, sym, ap, refl, subst, iff_trans, true, false, Bool, true≢false, List, []}
use Rattle.laws.specs.Prelude.{lt_of_not-le, dec_lt, dec_le, arith, eqb, ltb, leb, length, get_or, answer_cases}
use Rattle.rules.specs.Calls.Answers.{Answer, accepted, refused, Named, net_named, table_named, neither}
use Rattle.rules.specs.Calls.Checking.{same_header}
use Rattle.rules.specs.Calls.FamilyCalls.{count_of_table, family_count_call, numbered_into, after_count, family_tree_call}
use Rattle.rules.specs.Calls.Keeping.{Keeping, turned_away, KeptWiring, kept_net, roomy_before, leaves_out, kept_into, keep_call}
use Rattle.rules.specs.Calls.OpenCells.{full, full_cells, full_table, read_full}
use Rattle.rules.specs.Calls.Settling.{Made, settled_net, make_call}
use Rattle.rules.specs.Calls.ShallowSettling.{make_shallow_call}
use Rattle.rules.specs.Groups.Marks.{marks_length}
use Rattle.rules.specs.Lists.{any}
use Rattle.rules.specs.Sheets.Printed.{printed_net}
use Rattle.rules.specs.Sheets.Reading.{read_net, read_table}
use Rattle.rules.specs.Sheets.Sheets.{Net, Table}
use Rattle.rules.specs.Calls.BareCells.{bare_cells}
use Rattle.rules.specs.Calls.Multiplicity.{multiplicity_call}
use Rattle.rules.specs.Calls.Marking.{Marked, marking_call}
use Rattle.rules.specs.Calls.Jobs.{Job, empty_job, Opened, open_job, may_finish}
use Rattle.laws.specs.Calls.Answers.{not_refused}
use Rattle.laws.specs.Lists.Distinct.{In}
use Rattle.laws.specs.Lists.Tests.{by_test}
use Rattle.laws.specs.Calls.OpenCells.{Fullness, all_shut, lowest_open, fullness, some_open, cells_refused, cells_judged, FullRead, turned_back_lem}
use Rattle.laws.specs.Calls.OpenCells.{left_open, whole, full_read, read_27}
use Rattle.laws.specs.Calls.Settling.{make_refused, make_accepted}
use Rattle.laws.specs.Calls.ShallowSettling.{make_shallow_refused}
use Rattle.laws.specs.Calls.FamilyCalls.{family_count_refused, family_tree_refused, family_tree_accepted}
use Rattle.laws.specs.Calls.Jobs.{open_refused, open_accepted, may_refused}
use Rattle.laws.specs.Calls.Multiplicity.{group_answer, multiplicity_refused, multiplicity_judged}
use Rattle.laws.specs.Calls.Keeping.{keep_net_refused, keep_table_refused, keep_accepted, keep_12, keep_27, keep_13, keep_23_0, keep_23, keep_15, keep_written}
use Rattle.readback.specs.Readers.Numbers.{net_numbers, table_numbers, net_refusal, table_refusal}
use Rattle.demands.specs.Settling.AnyStore.{marking_bare}
use Rattle.demands.specs.Numbers.Numbers.{Gives, accepts, bare_numbers_lem, not_given_lem, refuses}
use Rattle.demands.specs.Numbers.SettlingNumbers.{sheet_numbers, in_room_numbers, into_numbers}
use Rattle.demands.specs.Shallow.ShallowRefusals.{make_shallow_refuses}
use Rattle.demands.specs.Families.FamilyCounting.{count_refuses}
use Rattle.laws.specs.Calls.Checking.{same_header_lem, header_same}

-- ---- the lowest open index

-- for cells of m levels: "a cell holds m for it"
pub record LowestOpen (m : ℕ) (cells : List ℕ) (k : ℕ) : Type 0 where
  pub inside : k < length cells
  pub gap : get_or cells k 0 ≡ m
  pub before : (p : ℕ) → p < k → get_or cells p 0 ≡ m → ⊥

-- 27 is given exactly there
pub full_exactly : (m : ℕ) (cells : List ℕ) (k : ℕ) → (full m cells ≡ refused 27 k) ↔ LowestOpen m cells k
full_exactly m cells k = (
  λ e. let (_, inside, gap, before) = some_open m cells 27 k e in record { inside = inside; gap = gap; before = before },
  λ low. told low (fullness m cells),
)
  where
    only : (j : ℕ) → LowestOpen m cells k → get_or cells j 0 ≡ m → ((p : ℕ) → p < j → get_or cells p 0 ≡ m → ⊥) → Dec (j < k) → Dec (k < j) → j ≡ k
    only j low gap before (yes l) d = absurd (low.before j l gap)
    only j low gap before (no l) (yes g) = absurd (before k g low.gap)
    only j low gap before (no l) (no g) = omega arith

    told : LowestOpen m cells k → Fullness m cells → full m cells ≡ refused 27 k
    told low (all_shut _ none) = absurd (none k low.inside low.gap)
    told low (lowest_open j back _ gap before) = back ∙ ap (λ (i : ℕ). refused 27 i) (only j low gap before (dec_lt j k) (dec_lt k j))

-- an accepted table sheet with an open cell; this is the lowest index of one
pub record OpenSheet (s : List ℕ) (k : ℕ) : Type 0 where
  pub table : Table
  pub reads : read_table s ≡ accepted table
  pub lowest : LowestOpen table.header.levels table.inks k

pub sheet_exactly : (s : List ℕ) (k : ℕ) → (read_full s ≡ refused 27 k) ↔ OpenSheet s k
unfolding full_table any
sheet_exactly s k = (λ e. told e (full_read s), λ o. read_27 s o.table o.reads 27 k ((full_exactly _ _ k).1 o.lowest))
  where
    told : read_full s ≡ refused 27 k → FullRead s → OpenSheet s k
    told e (turned_back_lem number place read back) =
        let same : number ≡ 27 = cc in
        absurd (true≢false (sym (subst (λ (j : ℕ). In j table_numbers) same (table_refusal s number place read))))
    told e (left_open t read j back reads) =
        let same : j ≡ k = cc in
        record { table = t; reads = read; lowest = (full_exactly _ _ k).0 (back ∙ ap (λ (i : ℕ). refused 27 i) same) }
    told e (whole t _ _ reads) = absurd (not_refused t 27 k (sym reads ∙ e))

-- ---- the calls on a table sheet

-- an answer that passes every refusal of another on, and refuses the rest with other numbers
passed_on : {A B : Type 0} (k : ℕ) (first : Answer B) (answer : Answer A) → ((number place : ℕ) → first ≡ refused number place → answer ≡ refused number place)
    → ((b : B) → first ≡ accepted b → answer ≡ refused 27 k → ⊥) → (answer ≡ refused 27 k) ↔ (first ≡ refused 27 k)
passed_on {A} k first answer back others = (
  λ e. answer_cases first (λ number place d. same number place d (sym (back number place d) ∙ e))
      (λ b d. absurd (others b d e)),
  back 27 k,
)
  where
    same : (number place : ℕ) → first ≡ refused number place → ◌≡◌ {A = Answer A} (refused number place) (refused 27 k) → first ≡ refused 27 k
    same number place d e = let n : number ≡ 27 = cc in let p : place ≡ k = cc in cc

-- a call that refuses what needs a full table
exactly : {A : Type 0} (s : List ℕ) (k : ℕ) (answer : Answer A) → ((number place : ℕ) → read_full s ≡ refused number place → answer ≡ refused number place)
    → ((t : Table) → read_full s ≡ accepted t → answer ≡ refused 27 k → ⊥) → (answer ≡ refused 27 k) ↔ OpenSheet s k
exactly s k answer back others = iff_trans (passed_on k (read_full s) answer back others) (sheet_exactly s k)

module _ (s : List ℕ) (k : ℕ) where
  module _ (cells marks output : List ℕ) where
    -- making, ..
    pub make_27 : ((make_call s cells marks output).answer ≡ refused 27 k) ↔ OpenSheet s k
    unfolding any
    make_27 =
        exactly s k (make_call s cells marks output).answer
        (λ number place e. ap (λ (made : Made). made.answer) (make_refused s cells marks output number place e))
        (λ t e answer. not_given_lem (13 ∷ 14 ∷ 16 ∷ 15 ∷ []) _
        (into_numbers settled_net (13 ∷ 14 ∷ 16 ∷ 15 ∷ []) refl refl refl t (λ _. refl) cells marks output) 27 k refl
        (sym (ap (λ (made : Made). made.answer) (make_accepted s cells marks output t e)) ∙ answer))

    -- .. which leaves its buffers unchanged, ..
    pub make_27_leaves : OpenSheet s k → make_call s cells marks output ≡ record { answer = refused 27 k; cells = cells; marks = marks; output = output }
    make_27_leaves o = make_refused s cells marks output 27 k ((sheet_exactly s k).1 o)

    -- .. shallow making, ..
    pub make_shallow_27 : ((make_shallow_call s cells marks output).answer ≡ refused 27 k) ↔ OpenSheet s k
    make_shallow_27 = iff_trans (make_shallow_refuses s cells marks output 27 k) make_27

    pub make_shallow_27_leaves : OpenSheet s k → make_shallow_call s cells marks output
        ≡ record { answer = refused 27 k; cells = cells; marks = marks; output = output }
    make_shallow_27_leaves o = make_shallow_refused s cells marks output 27 k ((sheet_exactly s k).1 o)

    -- .. the tree of a number, ..
    module _ (order : ℕ) where
      after_numbers : (t : Table) → Gives (13 ∷ 14 ∷ 17 ∷ 15 ∷ []) (numbered_into order t cells marks output).answer
      unfolding after_count any
      after_numbers t =
          let ns : List ℕ = 13 ∷ 14 ∷ 17 ∷ 15 ∷ [] in
          in_room_numbers ns refl refl t cells marks output _
          (by_test (λ (made : Made). Gives ns made.answer) (ltb order (count_of_table t)) _ _ (sheet_numbers ns refl _ _ _ output) (refuses ns 17 order refl))

      pub family_tree_27 : ((family_tree_call s order cells marks output).answer ≡ refused 27 k) ↔ OpenSheet s k
      unfolding any
      family_tree_27 =
          exactly s k (family_tree_call s order cells marks output).answer
          (λ number place e. ap (λ (made : Made). made.answer) (family_tree_refused s order cells marks output number place e))
          (λ t e answer. not_given_lem (13 ∷ 14 ∷ 17 ∷ 15 ∷ []) _ (after_numbers t) 27 k refl
          (sym (ap (λ (made : Made). made.answer) (family_tree_accepted s order cells marks output t e)) ∙ answer))

      pub family_tree_27_leaves : OpenSheet s k
          → family_tree_call s order cells marks output ≡ record { answer = refused 27 k; cells = cells; marks = marks; output = output }
      family_tree_27_leaves o = family_tree_refused s order cells marks output 27 k ((sheet_exactly s k).1 o)

  -- .. the count of the trees, ..
  module _ (cells marks : List ℕ) where
    pub family_count_27 : ((family_count_call s cells marks).answer ≡ refused 27 k) ↔ OpenSheet s k
    family_count_27 =
        let iff = count_refuses s cells marks [] 27 k in
        let made = make_27 cells marks [] in
        (λ e. made.0 (iff.0 e).0, λ o. iff.1 (made.1 o, λ e. omega arith, λ e. omega arith))

    pub family_count_27_leaves : OpenSheet s k → family_count_call s cells marks ≡ record { answer = refused 27 k; cells = cells; marks = marks }
    family_count_27_leaves o = family_count_refused s cells marks 27 k ((sheet_exactly s k).1 o)

  -- .. and "a job at its opening", which then is the empty job
  pub open_27 : ((open_job s).answer ≡ refused 27 k) ↔ OpenSheet s k
  open_27 =
      exactly s k (open_job s).answer (λ number place e. ap (λ (o : Opened). o.answer) (open_refused s number place e))
      (λ t e answer. not_refused tt 27 k (sym (ap (λ (o : Opened). o.answer) (open_accepted s t e)) ∙ answer))

  pub open_27_empty : OpenSheet s k → open_job s ≡ record { job = empty_job; answer = refused 27 k }
  open_27_empty o = open_refused s 27 k ((sheet_exactly s k).1 o)

-- ---- keeping, with two sheets

-- both sheets are accepted, with the same levels, inputs and names, and the table has an open cell
pub record OpenWiring (s r : List ℕ) (k : ℕ) : Type 0 where
  pub net : Net
  pub table : Table
  pub reads_net : read_net s ≡ accepted net
  pub reads_table : read_table r ≡ accepted table
  pub header : net.header ≡ table.header
  pub lowest : LowestOpen table.header.levels table.inks k

module _ (s r : List ℕ) (k : ℕ) (cells output : List ℕ) where
  -- it names the table sheet, and leaves both buffers unchanged, ..
  pub keep_27_leaves : OpenWiring s r k → keep_call s r cells output ≡ record { answer = turned_away table_named 27 k; cells = cells; output = output }
  unfolding full_table
  keep_27_leaves o =
      keep_accepted s r cells output o.net o.reads_net o.table o.reads_table
      ∙ keep_27 o.net o.table cells output (same_header_lem o.net.header o.table.header o.header) 27 k ((full_exactly _ _ k).1 o.lowest)

  -- .. exactly then
  pub keep_27_exactly : ((named : Named) × ((keep_call s r cells output).answer ≡ turned_away named 27 k)) ↔ OpenWiring s r k
  unfolding any full_table
  keep_27_exactly = (λ (named, e). go named e (read_net s) refl (read_table r) refl, λ o. (table_named, answered (keep_27_leaves o)))
    where
      answered : {a b : KeptWiring} → a ≡ b → a.answer ≡ b.answer
      answered e = ap (λ (w : KeptWiring). w.answer) e

      number_of : (named named' : Named) (number place : ℕ) → ◌≡◌ {A = Keeping} (turned_away named number place) (turned_away named' 27 k)
          → (number ≡ 27) × (place ≡ k)
      number_of named named' number place e = (cc, cc)

      -- past 27 other numbers follow
      past : (named : Named) (net : Net) (t : Table) → same_header net.header t.header ≡ true → full_table t ≡ accepted tt
          → (kept_into net t cells output).answer ≡ turned_away named 27 k → ⊥
      past named net t same on e =
          rest (dec_le (length t.inks) (length cells)) (leaves_out net t) refl (dec_le (length net.gates) (roomy_before net t))
          (dec_le (length (printed_net (kept_net net t))) (length output))
        where
          rest : Dec (length t.inks ≤ length cells) → (out : Bool) → leaves_out net t ≡ out → Dec (length net.gates ≤ roomy_before net t)
              → Dec (length (printed_net (kept_net net t)) ≤ length output) → ⊥
          rest (no short) _ _ _ _ =
              omega (arith, (number_of neither named 13 _ (sym (answered (keep_13 net t cells output same on (lt_of_not-le short))) ∙ e)).0)
          rest (yes long) true out _ _ = omega (arith, (number_of neither named 23 0 (sym (answered (keep_23_0 net t cells output same on long out)) ∙ e)).0)
          rest (yes long) false takes (no crowded) _ =
              omega (arith, (number_of neither named 23 _ (sym (answered (keep_23 net t cells output same on long takes (lt_of_not-le crowded))) ∙ e)).0)
          rest (yes long) false takes (yes roomy) (no short) =
              omega (arith, (number_of neither named 15 _ (sym (answered (keep_15 net t cells output same on long takes roomy (lt_of_not-le short))) ∙ e)).0)
          rest (yes long) false takes (yes roomy) (yes fits) =
              let made = sym (answered (keep_written net t cells output same on long takes roomy fits)) ∙ e in
              let z : ◌≡◌ {A = ℕ} 0 1 = cc in
              omega arith

      go : (named : Named) → (keep_call s r cells output).answer ≡ turned_away named 27 k
          → (a : Answer Net) → read_net s ≡ a → (b : Answer Table) → read_table r ≡ b → OpenWiring s r k
      go named e (refused number place) d b f =
          absurd (true≢false (sym
          (subst (λ (j : ℕ). In j net_numbers)
          (number_of net_named named number place (sym (answered (keep_net_refused s r cells output number place d)) ∙ e)).0 (net_refusal s number place d))))
      go named e (accepted net) d (refused number place) f =
          absurd (true≢false (sym
          (subst (λ (j : ℕ). In j table_numbers)
          (number_of table_named named number place (sym (answered (keep_table_refused s r cells output net d number place f)) ∙ e)).0
          (table_refusal r number place f))))
      go named e (accepted net) d (accepted t) f = headers (same_header net.header t.header) refl (full_table t) refl
        where
          on : keep_call s r cells output ≡ kept_into net t cells output
          on = keep_accepted s r cells output net d t f

          headers : (same : Bool) → same_header net.header t.header ≡ same → (a : Answer (Unit {0})) → full_table t ≡ a → OpenWiring s r k
          headers false h a o = absurd (omega (arith, (number_of neither named 12 0 (sym (answered (on ∙ keep_12 net t cells output h)) ∙ e)).0))
          headers true h (refused number place) o =
              let (number_is, place_is) = number_of table_named named number place (sym (answered (on ∙ keep_27 net t cells output h number place o)) ∙ e) in
              let back : full_table t ≡ refused 27 k = o ∙ (λ i. refused (number_is i) (place_is i)) in
              record {
                net = net;
                table = t;
                reads_net = d;
                reads_table = f;
                header = header_same net.header t.header h;
                lowest = (full_exactly _ _ k).0 back;
              }
          headers true h (accepted _) o = absurd (past named net t h o (sym (answered on) ∙ e))

-- ---- bare cells

-- accepted bare cells with some open ones
abbrev pub OpenCells : ℕ → ℕ → List ℕ → ℕ → Type 0
OpenCells m n cells k = (bare_cells m n cells ≡ accepted tt) × LowestOpen m cells k

module _ (m n : ℕ) (cells : List ℕ) (k : ℕ) where
  pub cells_exactly : (full_cells m n cells ≡ refused 27 k) ↔ OpenCells m n cells k
  unfolding any
  cells_exactly = (λ e. told e (bare_cells m n cells) refl, λ (b, low). sym (cells_judged m n cells (sym b)) ∙ (full_exactly m cells k).1 low)
    where
      told : full_cells m n cells ≡ refused 27 k → (a : Answer (Unit {0})) → bare_cells m n cells ≡ a → OpenCells m n cells k
      told e (accepted tt) b = (b, (full_exactly m cells k).0 (cells_judged m n cells (sym b) ∙ e))
      told e (refused number place) b =
          let is : ◌≡◌ {A = Answer (Unit {0})} (refused number place) (refused 27 k) = cells_refused m n cells number place (sym b) ∙ e in
          absurd (not_given_lem (9 ∷ 10 ∷ []) (bare_cells m n cells) (bare_numbers_lem m n cells (9 ∷ 10 ∷ []) refl refl) 27 k refl (b ∙ is))

  -- a call that takes full cells, and refuses the rest with other numbers
  exactly_cells : {A : Type 0} (answer : Answer A) → ((number place : ℕ) → full_cells m n cells ≡ refused number place → answer ≡ refused number place)
      → (full_cells m n cells ≡ accepted tt → answer ≡ refused 27 k → ⊥) → (answer ≡ refused 27 k) ↔ OpenCells m n cells k
  exactly_cells answer back others = iff_trans (passed_on k (full_cells m n cells) answer back (λ _. others)) cells_exactly

  -- multiplicity, ..
  pub multiplicity_27 : (g : ℕ) → (multiplicity_call m n cells g ≡ refused 27 k) ↔ OpenCells m n cells k
  unfolding any
  multiplicity_27 g =
      exactly_cells (multiplicity_call m n cells g) (λ number place e. sym (multiplicity_refused m n cells g number place (sym e)))
      (λ d e. not_given_lem (11 ∷ []) (group_answer m n cells g) (group_numbers g) 27 k refl (multiplicity_judged m n cells g (sym d) ∙ e))
    where
      group_numbers : (g : ℕ) → Gives (11 ∷ []) (group_answer m n cells g)
      group_numbers g = unfold group_answer in by_test (Gives (11 ∷ [])) (eqb g 0 || leb (2 ^ n) g) _ _ (refuses (11 ∷ []) 11 0 refl) (accepts (11 ∷ []) _)

  -- .. and marking, which leaves its buffer unchanged
  module _ (marks : List ℕ) where
    pub marking_27 : ((marking_call m n cells marks).answer ≡ refused 27 k) ↔ OpenCells m n cells k
    marking_27 =
        exactly_cells (marking_call m n cells marks).answer
        (λ number place e. ap (λ (made : Marked). made.answer) (marking_bare m n cells marks number place e)) marked
      where
        marked : full_cells m n cells ≡ accepted tt → (marking_call m n cells marks).answer ≡ refused 27 k → ⊥
        marked d e =
            unfold marking_call any in
            not_given_lem (14 ∷ []) _
            (by_test (λ (made : Marked). Gives (14 ∷ []) made.answer) (ltb (length marks) (marks_length n)) _ _ (refuses (14 ∷ []) 14 _ refl)
            (accepts (14 ∷ []) _)) 27 k refl (rw (d, marking_call) at e)

    pub marking_27_leaves : OpenCells m n cells k → marking_call m n cells marks ≡ record { answer = refused 27 k; marks = marks }
    marking_27_leaves o = marking_bare m n cells marks 27 k (cells_exactly.1 o)

-- a job is finished only on a full table: 27 comes after 9 and 10, and before 22
pub finish_27 : (job : Job) (k : ℕ) → OpenCells job.table.header.levels job.table.header.inputs job.table.inks k → may_finish job ≡ refused 27 k
finish_27 job k o = may_refused job 27 k ((cells_exactly _ _ _ k).1 o)
