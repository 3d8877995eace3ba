-- The numbers with which table writing may refuse.
-- Assumes nothing.
use Rattle.std.specs.Prelude.{◌∷◌}
use Rattle.laws.specs.Prelude.{ℕ, refl, List, [], ltb, length}
use Rattle.rules.specs.Lists.{all, any}
use Rattle.rules.specs.Sheets.Printed.{printed_table}
use Rattle.rules.specs.Sheets.Reading.{read_net, table_of_net}
use Rattle.rules.specs.Calls.TableWriting.{Written, write_table_call}
use Rattle.readback.specs.Readers.Numbers.{net_numbers, net_refusal}
use Rattle.demands.specs.Numbers.Numbers.{Gives, accepts, by_answer, refuses}
use Rattle.laws.specs.Lists.Tests.{by_test}
use Rattle.laws.specs.Lists.Distinct.{wider}

abbrev pub write_table_numbers : List ℕ
write_table_numbers = 1 ∷ 2 ∷ 3 ∷ 4 ∷ 6 ∷ 7 ∷ 8 ∷ 26 ∷ 15 ∷ []

pub write_table_numbers_lem : (s output : List ℕ) → Gives write_table_numbers (write_table_call s output).answer
unfolding write_table_call any all
write_table_numbers_lem s output =
    by_answer (λ (made : Written). Gives write_table_numbers made.answer) (read_net s) _ _
    (λ net _. by_test (λ (made : Written). Gives write_table_numbers made.answer) (ltb (length output) (length (printed_table (table_of_net net)))) _ _
    (refuses write_table_numbers 15 _ refl) (accepts write_table_numbers _))
    (λ number place e. refuses write_table_numbers number place (wider net_numbers write_table_numbers refl number (net_refusal s number place e)))
