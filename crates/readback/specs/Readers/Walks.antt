-- One walk over the readers of every sheet. If a property of readers is preserved by giving a value, by chaining two readers and by reading a field,
-- it holds for the reader of a sheet, since that is built from these. `Among`, `FromFront` and `Goes` are such properties.
-- Assumes nothing.
use Rattle.std.specs.Prelude.{◌-◌, ◌^◌, ◌∷◌, ◌++◌}
use Rattle.laws.specs.Prelude.{ℕ, suc, zero, List, [], length}
use Rattle.rules.specs.Sheets.Fields.{Reader, ◌>>=◌, give, Judge, Layout, strict, field_in, the_word, closed}
use Rattle.rules.specs.Sheets.Sheets.{Gate, levels_field, inputs_field, name_field, name_fields_in, header_lines_in, reference_field, digits_field, used_by, gate_line}
use Rattle.rules.specs.Sheets.Sheets.{or_end, gate_lines, all_used, net_sheet, levels_at, level_field, ink_field, level_fields, row_lines, table_sheet}
use Rattle.rules.specs.Text.{space, newline}
use Prim.Native.String.{String}
use Rattle.rules.specs.Sheets.ArrivalSheet.{Arrival, next_name, time_field, arrival_line, arrival_lines, arrival_sheet}
use Rattle.laws.specs.Lists.Distinct.{In}
use Rattle.readback.specs.Readers.Among.{AmongJudge, Among, among_give, among_then, among_field_in}
use Rattle.readback.specs.Readers.Fronts.{FromFront, front_give, front_then, front_field}
use Rattle.readback.specs.Nets.NetSheets.{net_to_end, judged_last, net_whole}

-- properties of judges and of readers
abbrev pub OfJudges : Type 1
OfJudges = (A : Type 0) → Judge A → Type 0

abbrev pub OfReaders : Type 1
OfReaders = (A : Type 0) → Reader A → Type 0

-- every judge has it
abbrev pub AnyJudge : (A : Type 0) → Judge A → Type 0
AnyJudge A judge = Unit {0}

-- building readers preserves the property
pub record Compositional (layout : Layout) (J : OfJudges) (P : OfReaders) : Type 1 where
  pub gives : {A : Type 0} (a : A) → P _ (give a)
  pub joins : {A B : Type 0} (r : Reader A) (next : A → Reader B) → P _ r → ((a : A) → P _ (next a)) → P _ (r >>= next)
  pub fields : {A : Type 0} (judge : Judge A) (due : ℕ) → J _ judge → P _ (field_in layout judge due)

-- the judges of the first three lines
pub record FirstJudges (J : OfJudges) : Type 0 where
  pub word : (word : String) → J _ (the_word word)
  pub levels : J _ levels_field
  pub inputs : (m : ℕ) → J _ (inputs_field m)
  pub name : (earlier : List (List ℕ)) → J _ (name_field earlier)

-- ---- two such properties

-- the numbers of refusals, if 1 is among them
pub among_composes : (numbers : List ℕ) → In 1 numbers → (layout : Layout) → Compositional layout (λ A judge. AmongJudge numbers judge) (λ A r. Among numbers r)
among_composes numbers one layout = record {
  gives = λ a. among_give numbers one a;
  joins = λ r next h i. among_then numbers one r next h i;
  fields = λ judge due h. among_field_in numbers one layout judge due h;
}

-- judging from the front
pub front_composes : Compositional strict AnyJudge (λ A r. FromFront r)
front_composes = record { gives = λ a. front_give a; joins = λ r next h i. front_then next h i; fields = λ judge due _. front_field judge due }

pub any_first : FirstJudges AnyJudge
any_first = record { word = λ _. tt; levels = tt; inputs = λ _. tt; name = λ _. tt }

-- ---- the first three lines

module _ {layout : Layout} {J : OfJudges} {P : OfReaders} (comp : Compositional layout J P) (judges : FirstJudges J) where
  pub names_walk : (last count : ℕ) (earlier : List (List ℕ)) → P _ (name_fields_in layout last count earlier)
  unfolding name_fields_in
  names_walk last zero earlier = comp.gives earlier
  names_walk last (suc zero) earlier = comp.joins _ _ (comp.fields _ last (judges.name earlier)) (λ w. comp.gives (earlier ++ (w ∷ [])))
  names_walk last (suc (suc count)) earlier =
      comp.joins _ _ (comp.fields _ space (judges.name earlier)) (λ w. names_walk last (suc count) (earlier ++ (w ∷ [])))

  pub header_walk : (last : ℕ) → P _ (header_lines_in layout last)
  unfolding header_lines_in
  header_walk last =
      comp.joins _ _ (comp.fields _ space (judges.word "levels")) (λ _.
      comp.joins _ _ (comp.fields _ newline (judges.word "inputs")) (λ _.
      comp.joins _ _ (comp.fields _ space judges.levels) (λ m.
      comp.joins _ _ (comp.fields _ newline (judges.inputs m)) (λ n.
      comp.joins _ _ (names_walk last n []) (λ names. comp.gives _)))))

-- ---- a net sheet

module _ {J : OfJudges} {P : OfReaders} (comp : Compositional strict J P)
    (reference : (names : List (List ℕ)) (earlier : ℕ) (used : List ℕ) → J _ (reference_field names earlier used)) (digits : (m : ℕ) → J _ (digits_field m)) where
  pub gate_walk : (m : ℕ) (names : List (List ℕ)) (earlier : List Gate) → P _ (gate_line m names earlier)
  unfolding gate_line
  gate_walk m names earlier =
      comp.joins _ _ (comp.fields _ space (reference names (length earlier) (used_by earlier))) (λ left.
      comp.joins _ _ (comp.fields _ space (reference names (length earlier) (left ∷ used_by earlier))) (λ right.
      comp.joins _ _ (comp.fields _ newline (digits m)) (λ digits. comp.gives _)))

  module _ (judges : FirstJudges J) (at_end : P _ closed) (or_end_lem : (A : Type 0) (a : A) (more : Reader A) → P _ more → P _ (or_end a more)) where
    gates_walk : (m : ℕ) (names : List (List ℕ)) (count : ℕ) (earlier : List Gate) → P _ (gate_lines m names count earlier)
    unfolding gate_lines
    gates_walk m names zero earlier = comp.gives earlier
    gates_walk m names (suc count) earlier = comp.joins _ _ (gate_walk m names earlier) (λ g. or_end_lem _ _ _ (gates_walk m names count (earlier ++ (g ∷ []))))

    -- to its end, ..
    pub to_end_walk : P _ net_to_end
    unfolding net_to_end
    to_end_walk =
        comp.joins _ _ (header_walk comp judges newline) (λ h.
        comp.joins _ _ (comp.fields _ space (judges.word "left")) (λ _.
        comp.joins _ _ (comp.fields _ space (judges.word "right")) (λ _.
        comp.joins _ _ (comp.fields _ newline (judges.word "table")) (λ _.
        comp.joins _ _ (gates_walk h.levels h.names (h.inputs - 1) []) (λ gates.
        comp.joins _ _ at_end (λ _. comp.gives _))))))

    -- .. and with the check there
    pub net_walk : ((n : ℕ) (gates : List Gate) → P _ (all_used n gates)) → P _ net_sheet
    unfolding judged_last
    net_walk used =
        rw net_whole (comp.joins net_to_end judged_last to_end_walk (λ net. comp.joins _ _ (used net.header.inputs net.gates) (λ _. comp.gives net)))

-- ---- a table sheet

module _ {J : OfJudges} {P : OfReaders} (comp : Compositional strict J P) (level : (due : ℕ) → J _ (level_field due)) (ink : (m : ℕ) → J _ (ink_field m)) where
  pub levels_walk : (levels : List ℕ) → P _ (level_fields levels)
  unfolding level_fields
  levels_walk [] = comp.gives tt
  levels_walk (l ∷ ls) = comp.joins _ _ (comp.fields _ space (level l)) (λ _. levels_walk ls)

  pub rows_walk : (m n p count : ℕ) (inks : List ℕ) → P _ (row_lines m n p count inks)
  unfolding row_lines
  rows_walk m n p zero inks = comp.gives inks
  rows_walk m n p (suc count) inks =
      comp.joins _ _ (levels_walk (levels_at m n p)) (λ _.
      comp.joins _ _ (comp.fields _ newline (ink m)) (λ i. rows_walk m n (suc p) count (inks ++ (i ∷ []))))

  pub table_walk : FirstJudges J → P _ closed → P _ table_sheet
  unfolding table_sheet
  table_walk judges at_end =
      comp.joins _ _ (header_walk comp judges space) (λ h.
      comp.joins _ _ (comp.fields _ newline (judges.word "ink")) (λ _.
      comp.joins _ _ (rows_walk h.levels h.inputs 0 (h.levels ^ h.inputs) []) (λ inks.
      comp.joins _ _ at_end (λ _. comp.gives _))))

-- ---- an arrival sheet

module _ {J : OfJudges} {P : OfReaders} (comp : Compositional strict J P) (word : (word : String) → J _ (the_word word))
    (name : (name : List ℕ) → J _ (next_name name))
    (time : (least : ℕ) → J _ (time_field least)) where
  arrivals_lines_walk : (names : List (List ℕ)) (earlier : List Arrival) → P _ (arrival_lines names earlier)
  unfolding arrival_lines arrival_line
  arrivals_lines_walk [] earlier = comp.gives earlier
  arrivals_lines_walk (n ∷ names) earlier =
      comp.joins _ _
      (comp.joins _ _ (comp.fields _ space (name n)) (λ _.
      comp.joins _ _ (comp.fields _ space (time 0)) (λ from.
      comp.joins _ _ (comp.fields _ newline (time from)) (λ to. comp.gives _))))
      (λ a. arrivals_lines_walk names (earlier ++ (a ∷ [])))

  pub arrivals_walk : P _ closed → (names : List (List ℕ)) → P _ (arrival_sheet names)
  unfolding arrival_sheet
  arrivals_walk at_end names =
      comp.joins _ _ (comp.fields _ space (word "name")) (λ _.
      comp.joins _ _ (comp.fields _ space (word "from")) (λ _.
      comp.joins _ _ (comp.fields _ newline (word "to")) (λ _.
      comp.joins _ _ (arrivals_lines_walk names []) (λ arrivals.
      comp.joins _ _ at_end (λ _. comp.gives arrivals)))))
