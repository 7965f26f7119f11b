use Rattle.std.proofs.Common.{sym, ◌∙◌}
use Rattle.std.proofs.lemmas.Option.{IfSome_then}
use Rattle.mos_elements.proofs.RoleLemmas.{plain_is}
use Rattle.mos_elements.proofs.admission.plain.Goals as goal

pub returns-in-Some-column : goal.returns-in-Some-column
returns-in-Some-column c = IfSome_then c.plain_leaf.result c.plain_leaf.ensures
    (λ o b t before n g e k. plain_is o c.in-Some-column.column b t before n g (sym e ∙ c.in-Some-column.is) (sym k ∙ c.in-None.is))
