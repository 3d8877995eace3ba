-- No call refuses with 0.
-- Assumes nothing.
use Rattle.laws.specs.Prelude.{ℕ, sym, refl, true≢false, List, []}
use Rattle.rules.specs.Calls.Answers.{refused, Named, net_named, table_named, neither}
use Rattle.rules.specs.Calls.Checking.{turned_down, check_call}
use Rattle.rules.specs.Calls.FamilyCalls.{family_count_call, family_tree_call}
use Rattle.rules.specs.Calls.Keeping.{turned_away, keep_call}
use Rattle.rules.specs.Calls.Settling.{settle_call, make_call}
use Rattle.rules.specs.Calls.ShallowSettling.{settle_shallow_call, make_shallow_call}
use Rattle.rules.specs.Lists.{any}
use Rattle.rules.specs.Nets.Arrivals.{net_refused, arrivals_refused, arrivals_call}
use Rattle.std.specs.Prelude.{ℤ, ◌≡◌, ◌∷◌}
use Rattle.rules.specs.Calls.Multiplicity.{multiplicity_call}
use Rattle.rules.specs.Calls.Marking.{marking_call}
use Rattle.rules.specs.Calls.TableWriting.{write_table_call}
use Rattle.rules.specs.Calls.Tidying.{tidy_call}
use Rattle.rules.specs.Calls.Lister.{listing}
use Rattle.rules.specs.Calls.Jobs.{Job, open_job, step_job, ask_job, finish_job}
use Rattle.rules.specs.Calls.Glyphs.{glyph_call}
use Rattle.laws.specs.Lists.Distinct.{In}
use Rattle.readback.specs.Readers.Numbers.{net_numbers}
use Rattle.demands.specs.Sheets.FullSheets.{full_numbers}
use Rattle.demands.specs.Numbers.Numbers.{not_given_lem}
use Rattle.demands.specs.Numbers.MultiplicityNumbers.{multiplicity_numbers_lem, multiplicity_numbers}
use Rattle.demands.specs.Numbers.MarkingNumbers.{marking_numbers_lem, marking_numbers}
use Rattle.demands.specs.Numbers.SettlingNumbers.{make_numbers_lem, make_numbers, settle_numbers_lem, settle_numbers}
use Rattle.demands.specs.Shallow.ShallowRefusals.{make_shallow_numbers, settle_shallow_numbers}
use Rattle.demands.specs.Families.FamilyOutcomes.{judged_numbers}
use Rattle.demands.specs.Numbers.FamilyNumbers.{family_count_numbers, family_tree_numbers_lem, family_tree_numbers}
use Rattle.demands.specs.Numbers.CheckingNumbers.{check_numbers_lem, check_numbers}
use Rattle.demands.specs.Numbers.TableWritingNumbers.{write_table_numbers_lem, write_table_numbers}
use Rattle.demands.specs.Numbers.TidyingNumbers.{tidy_numbers_lem, tidy_numbers}
use Rattle.demands.specs.Numbers.ListingNumbers.{listing_numbers}
use Rattle.demands.specs.Numbers.ArrivalNumbers.{arrivals_numbers}
use Rattle.demands.specs.Numbers.JobNumbers.{open_numbers, step_numbers, ask_numbers, finish_numbers_lem, finish_numbers}
use Rattle.demands.specs.Numbers.KeepingNumbers.{keep_numbers_lem, keep_numbers}
use Rattle.demands.specs.Numbers.GlyphNumbers.{glyph_numbers_lem, glyph_numbers}

-- No call refuses with 0: so over C, where 0 means that a call accepted, the two can be distinguished.
pub never_0 : (place : ℕ)
    → ((m n : ℕ) (cells : List ℕ) (g : ℕ) → multiplicity_call m n cells g ≡ refused 0 place → ⊥)
    × ((m n : ℕ) (cells marks : List ℕ) → (marking_call m n cells marks).answer ≡ refused 0 place → ⊥)
    × ((s cells marks output : List ℕ) → (settle_call s cells marks output).answer ≡ refused 0 place → ⊥)
    × ((s cells marks output : List ℕ) → (make_call s cells marks output).answer ≡ refused 0 place → ⊥)
    × ((s cells marks output : List ℕ) → (settle_shallow_call s cells marks output).answer ≡ refused 0 place → ⊥)
    × ((s cells marks output : List ℕ) → (make_shallow_call s cells marks output).answer ≡ refused 0 place → ⊥)
    × ((s cells marks : List ℕ) → (family_count_call s cells marks).answer ≡ refused 0 place → ⊥)
    × ((s : List ℕ) (r : ℕ) (cells marks output : List ℕ) → (family_tree_call s r cells marks output).answer ≡ refused 0 place → ⊥)
    × ((s r cells : List ℕ) (named : Named) → (check_call s r cells).answer ≡ turned_down named 0 place → ⊥)
    × ((s output : List ℕ) → (write_table_call s output).answer ≡ refused 0 place → ⊥)
    × ((s cells output : List ℕ) → (tidy_call s cells output).answer ≡ refused 0 place → ⊥)
    × ((s : List ℕ) (k : ℕ) → listing s k ≡ refused 0 place → ⊥)
    × ((s r : List ℕ) (delay : ℕ) → arrivals_call s r delay ≡ net_refused 0 place → ⊥)
    × ((s r : List ℕ) (delay : ℕ) → arrivals_call s r delay ≡ arrivals_refused 0 place → ⊥)
    × ((s : List ℕ) → (open_job s).answer ≡ refused 0 place → ⊥)
    × ((job : Job) → (step_job job).answer ≡ refused 0 place → ⊥)
    × ((job : Job) (g : ℕ) → (ask_job job g).answer ≡ refused 0 place → ⊥)
    × ((job : Job) (cells marks output : List ℕ) → (finish_job job cells marks output).made.answer ≡ refused 0 place → ⊥)
    × ((s r cells output : List ℕ) (named : Named) → (keep_call s r cells output).answer ≡ turned_away named 0 place → ⊥)
    × ((s : List ℕ) (width height : ℕ) (picture : List ℕ) (offsets : List ℤ) (output : List ℕ)
    → (glyph_call s width height picture offsets output).answer ≡ refused 0 place → ⊥)
unfolding any
never_0 place = (
  λ m n cells g. not_given_lem multiplicity_numbers _ (multiplicity_numbers_lem m n cells g) 0 place refl,
  λ m n cells marks. not_given_lem marking_numbers _ (marking_numbers_lem m n cells marks) 0 place refl,
  λ s cells marks output. not_given_lem settle_numbers _ (settle_numbers_lem s cells marks output) 0 place refl,
  λ s cells marks output. not_given_lem make_numbers _ (make_numbers_lem s cells marks output) 0 place refl,
  λ s cells marks output. not_given_lem settle_numbers _ (settle_shallow_numbers s cells marks output) 0 place refl,
  λ s cells marks output. not_given_lem make_numbers _ (make_shallow_numbers s cells marks output) 0 place refl,
  λ s cells marks. not_given_lem judged_numbers _ (family_count_numbers s cells marks) 0 place refl,
  λ s r cells marks output. not_given_lem family_tree_numbers _ (family_tree_numbers_lem s r cells marks output) 0 place refl,
  λ s r cells named e. no_0 named (check_numbers_lem s r cells named 0 place e),
  λ s output. not_given_lem write_table_numbers _ (write_table_numbers_lem s output) 0 place refl,
  λ s cells output. not_given_lem tidy_numbers _ (tidy_numbers_lem s cells output) 0 place refl,
  λ s k. not_given_lem net_numbers _ (listing_numbers s k) 0 place refl,
  λ s r delay e. true≢false (sym ((arrivals_numbers s r delay).net 0 place e)),
  λ s r delay e. true≢false (sym ((arrivals_numbers s r delay).arrivals 0 place e)),
  λ s. not_given_lem full_numbers _ (open_numbers s) 0 place refl,
  λ job. not_given_lem (21 ∷ []) _ (step_numbers job) 0 place refl,
  λ job g. not_given_lem (11 ∷ []) _ (ask_numbers job g) 0 place refl,
  λ job cells marks output. not_given_lem finish_numbers _ (finish_numbers_lem job cells marks output) 0 place refl,
  λ s r cells output named e. no_keeping_0 named (keep_numbers_lem s r cells output named 0 place e),
  λ s width height picture offsets output. not_given_lem glyph_numbers _ (glyph_numbers_lem s width height picture offsets output) 0 place refl,
)
  where
    no_0 : (named : Named) → In 0 (check_numbers named) → ⊥
    no_0 net_named e = true≢false (sym e)
    no_0 table_named e = true≢false (sym e)
    no_0 neither e = true≢false (sym e)

    no_keeping_0 : (named : Named) → In 0 (keep_numbers named) → ⊥
    no_keeping_0 net_named e = true≢false (sym e)
    no_keeping_0 table_named e = true≢false (sym e)
    no_keeping_0 neither e = true≢false (sym e)
