-- `capi::shallower_sheet::sitgurp_shallower` meets its contract: which sheet, as two numbers. Assumes nothing.
use Rattle.std.specs.Prelude.{◌≡◌}
use Rattle.laws.specs.Prelude.{◌∙◌, sym, ap, rules}
use Rattle.rules.specs.Calls.Shallower as rules
use Rattle.shallower.specs.declared.which.Which.{Which}
use Rattle.shallower.specs.Which.{which_as}
use Rattle.capi.specs.Shallower.{flat_which}
use Rattle.capi.proofs.shallower_sheet.sitgurp_shallower.Goals as goal

pub returns-in-First : goal.returns-in-First
returns-in-First c =
    let due : (w : Which) → c.which_of-chosen.result ≡ w → let a = c.args in flat_which (which_as w) a.first.now a.second.now ≡ flat_which (rules.which_of a.first.now a.second.now) a.first.now a.second.now = λ w e.
    let a = c.args in
    ap (λ (v : rules.Which). flat_which v a.first.now a.second.now) (sym (ap which_as e) ∙ c.which_of-chosen.ensures) in
    due _ c.in-First.is

pub returns-in-Second : goal.returns-in-Second
returns-in-Second c =
    let due : (w : Which) → c.which_of-chosen.result ≡ w → let a = c.args in flat_which (which_as w) a.first.now a.second.now ≡ flat_which (rules.which_of a.first.now a.second.now) a.first.now a.second.now = λ w e.
    let a = c.args in
    ap (λ (v : rules.Which). flat_which v a.first.now a.second.now) (sym (ap which_as e) ∙ c.which_of-chosen.ensures) in
    due _ c.in-Second.is

pub returns-in-Neither : goal.returns-in-Neither
returns-in-Neither c =
    let due : (w : Which) → c.which_of-chosen.result ≡ w → let a = c.args in flat_which (which_as w) a.first.now a.second.now ≡ flat_which (rules.which_of a.first.now a.second.now) a.first.now a.second.now = λ w e.
    let a = c.args in
    ap (λ (v : rules.Which). flat_which v a.first.now a.second.now) (sym (ap which_as e) ∙ c.which_of-chosen.ensures) in
    due _ c.in-Neither.is
