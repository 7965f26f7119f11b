use Rattle.std.proofs.Common.{ℕ, List, ◌++◌, sym, ap, subst, ◌∙◌}
use Rattle.mos_fields.specs.Characters.{IsUtf16, chars_of}
use Rattle.mos_fields.proofs.CharacterLemmas.{chars_of-units_of}
use Rattle.mos_forms.proofs.UnitLemmas.{joined_chars, joined_written}
use Rattle.mos_forms.proofs.tail.join.Goals as goal

pub from_vec-requires : goal.from_vec-requires
from_vec-requires c = subst IsUtf16 (sym c.in_ok-both.ensures) (joined_written c.units.result.now c.args.more.now c.units.ensures.well_formed c.requires)

pub returns : goal.returns
returns c =
    c.from_vec.ensures ∙ ap chars_of c.in_ok-both.ensures ∙ (joined_chars c.units.result.now c.args.more.now c.units.ensures.well_formed c.requires
    ∙ ap (λ (z : List ℕ). z ++ chars_of c.args.more.now) (ap chars_of c.units.ensures.value ∙ chars_of-units_of c.args.text.now c.units.ensures.allowed))
