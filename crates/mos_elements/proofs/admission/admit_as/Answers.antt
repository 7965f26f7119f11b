use Rattle.std.proofs.Common.{subst}
use Rattle.mos_forms.specs.Known.{IsGiven}
use Rattle.mos_elements.proofs.RoleLemmas.{start_is}
use Rattle.mos_elements.proofs.admission.admit_as.Goals as goal

pub returns : goal.returns
returns c =
    let n = c.args.name.now in
    let g = c.args.attributes.now in
    start_is c.admitted.result c.in_ok-role.role c.args.frame.now.table c.args.frame.now.before n g c.args.outside c.in_ok-role.ensures c.requires.fault
    (c.admitted.ensures n g c.in_ok-role.ensures.name (subst (λ w. IsGiven w g c.in_ok-given.given) c.wanted.ensures c.in_ok-given.ensures))
