use Rattle.std.proofs.Common.{sym, subst, ◌∙◌}
use Rattle.mos_forms.specs.Known.{IsGiven}
use Rattle.mos_elements.specs.Roles.{wanted_of}
use Rattle.mos_elements.proofs.RoleLemmas.{without_fault}
use Rattle.mos_elements.proofs.admission.admitted.Goals as goal

pub returns-in-None : goal.returns-in-None
returns-in-None c n g h i =
    let k = subst (IsGiven (wanted_of c.args.role) g) c.in-Known.is i in
    without_fault c.admit_role.result c.args.role n g c.in-Known.attribute c.args.outside c.args.inside k (sym c.earlier.ensures ∙ c.in-None.is) (c.admit_role.ensures n g h k.is)
