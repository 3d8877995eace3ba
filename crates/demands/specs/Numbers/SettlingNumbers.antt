-- The numbers with which settling and making may refuse.
-- Assumes nothing.
use Rattle.std.specs.Prelude.{◌^◌, ◌≡◌, ◌∷◌}
use Rattle.laws.specs.Prelude.{ℕ, refl, subst⁻¹, List, [], ℕ_discrete, ltb, length}
use Rattle.rules.specs.Calls.Answers.{refused}
use Rattle.rules.specs.Calls.OpenCells.{read_full}
use Rattle.rules.specs.Calls.Settling.{Made, settled_net, written_sheet, after_marks, room_for, in_room, made_into, settle_call, make_call}
use Rattle.rules.specs.Groups.Marks.{marks_length}
use Rattle.rules.specs.Lists.{all, any}
use Rattle.rules.specs.Sheets.Reading.{read_net, table_of_net}
use Rattle.rules.specs.Sheets.Sheets.{Net, Table}
use Rattle.laws.specs.Lists.Distinct.{In, wider}
use Rattle.laws.specs.Calls.Settling.{WholeTwo, marked_16, marked_tree}
use Rattle.readback.specs.Readers.Numbers.{net_numbers, net_refusal}
use Rattle.readback.specs.Sheets.ReadBack.{net_accepted}
use Rattle.trees.proofs.Trees.NetTables.{net_whole_two}
use Rattle.demands.specs.Sheets.FullSheets.{full_numbers, full_refusal}
use Rattle.demands.specs.Numbers.Numbers.{Gives, accepts, by_answer, not_given_lem, refuses}
use Rattle.laws.specs.Lists.Tests.{by_test}

abbrev pub settle_numbers : List ℕ
settle_numbers = 1 ∷ 2 ∷ 3 ∷ 4 ∷ 6 ∷ 7 ∷ 8 ∷ 26 ∷ 13 ∷ 14 ∷ 15 ∷ []

abbrev pub make_numbers : List ℕ
make_numbers = 1 ∷ 2 ∷ 3 ∷ 4 ∷ 5 ∷ 6 ∷ 27 ∷ 13 ∷ 14 ∷ 16 ∷ 15 ∷ []

abbrev MadeGives : List ℕ → Made → Type 0
MadeGives numbers made = Gives numbers made.answer

pub sheet_numbers : (numbers : List ℕ) → In 15 numbers → (sheet cells marks output : List ℕ) → Gives numbers (written_sheet sheet cells marks output).answer
unfolding written_sheet
sheet_numbers numbers h15 sheet cells marks output =
    by_test (MadeGives numbers) (ltb (length output) (length sheet)) _ _ (refuses numbers 15 _ h15) (accepts numbers _)

-- 13 or 14, among any numbers that the rest of the call has
pub room_numbers : (t : Table) (cells marks : List ℕ) (numbers : List ℕ) → In 13 numbers → In 14 numbers → Gives numbers (room_for t cells marks)
unfolding room_for
room_numbers t cells marks numbers h13 h14 =
    by_test (Gives numbers) (ltb (length cells) (t.header.levels ^ t.header.inputs)) _ _ (refuses numbers 13 _ h13)
    (by_test (Gives numbers) (ltb (length marks) (marks_length t.header.inputs)) _ _ (refuses numbers 14 _ h14) (accepts numbers tt))

pub in_room_numbers : (numbers : List ℕ) → In 13 numbers → In 14 numbers → (t : Table) (cells marks output : List ℕ) (rest : Made)
    → Gives numbers rest.answer
    → Gives numbers (in_room t cells marks output rest).answer
unfolding in_room
in_room_numbers numbers h13 h14 t cells marks output rest h =
    by_answer (MadeGives numbers) (room_for t cells marks) _ _ (λ _ _. h)
    (λ number place e. refuses numbers number place (room_numbers t cells marks numbers h13 h14 number place e))

-- 13, 14, 15, and 16 if the whole group's mark is not 2
pub into_numbers : (net_for : Table → Net) (numbers : List ℕ) → In 13 numbers → In 14 numbers → In 15 numbers → (t : Table) → ((WholeTwo t → ⊥) → In 16 numbers)
    → (cells marks output : List ℕ) → Gives numbers (made_into net_for t cells marks output).answer
into_numbers net_for numbers h13 h14 h15 t h16 cells marks output = in_room_numbers numbers h13 h14 t cells marks output _ (marked (ℕ_discrete _ 2))
  where
    marked : Dec (WholeTwo t) → Gives numbers (after_marks net_for t cells marks output).answer
    marked (yes two) = subst⁻¹ (MadeGives numbers) (marked_tree net_for t cells marks output two) (sheet_numbers numbers h15 _ _ _ output)
    marked (no other) = subst⁻¹ (MadeGives numbers) (marked_16 net_for t cells marks output other) (refuses numbers 16 _ (h16 other))

module _ (s cells marks output : List ℕ) where
  -- settling never gives 16: a net's table has a tree
  pub settle_numbers_lem : Gives settle_numbers (settle_call s cells marks output).answer
  unfolding settle_call any all
  settle_numbers_lem =
      by_answer (MadeGives settle_numbers) (read_net s) _ _
      (λ net e. into_numbers settled_net settle_numbers refl refl refl (table_of_net net)
      (λ other. absurd (other (net_whole_two net (net_accepted s net e).1))) cells marks output)
      (λ number place e. refuses settle_numbers number place (wider net_numbers settle_numbers refl number (net_refusal s number place e)))

  pub make_numbers_lem : Gives make_numbers (make_call s cells marks output).answer
  unfolding make_call any all
  make_numbers_lem =
      by_answer (MadeGives make_numbers) (read_full s) _ _
      (λ t _. into_numbers settled_net make_numbers refl refl refl t (λ _. refl) cells marks output)
      (λ number place e. refuses make_numbers number place (wider full_numbers make_numbers refl number (full_refusal s number place e)))

  -- "Settling never gives 16."
  pub settle_never_16 : (place : ℕ) → (settle_call s cells marks output).answer ≡ refused 16 place → ⊥
  unfolding any
  settle_never_16 place = not_given_lem settle_numbers _ settle_numbers_lem 16 place refl
