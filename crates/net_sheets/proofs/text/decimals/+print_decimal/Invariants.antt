-- `net_sheets::text::decimals::print_decimal` calls itself with the number without its last digit. Assumes nothing.
use Rattle.net_sheets.proofs.text.decimals.+print_decimal.Given as goal

abbrev pub decreases-print_decimal : goal.decreases-print_decimal
decreases-print_decimal l = l.k
