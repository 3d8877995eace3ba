-- `wirings::forms::no_links` meets its contract. Assumes nothing.
use mathlib.Core.Path.{refl}
use Rattle.wirings.specs.Links.{no_links}
use Rattle.wirings.proofs.forms.no_links.Goals as goal

pub returns : goal.returns
unfolding no_links
returns c = refl
