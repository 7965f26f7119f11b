use Rattle.std.proofs.Common.{[], sym, ap, ◌∙◌}
use Rattle.mos_grammar.specs.Records.{inside_fault}
use Rattle.mos_elements.specs.Roles.{role_of}
use Rattle.mos_elements.proofs.RoleLemmas.{leaf_inside}
use Rattle.mos_elements.proofs.admission.inside_fault.Goals as goal

pub returns-in-Leaf : goal.returns-in-Leaf
returns-in-Leaf c n g = c.leaf_fault.ensures ∙ (leaf_inside n c.in-Leaf.field c.in-Leaf.form c.in-Leaf.may_lack g ∙ ap (λ r. inside_fault n (role_of r g) []) (sym c.in-Leaf.is))
