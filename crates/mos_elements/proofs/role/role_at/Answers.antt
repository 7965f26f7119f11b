use Rattle.mos_elements.proofs.RoleLemmas.{leaf_is, record_is}
use Rattle.mos_elements.proofs.role.role_at.Goals as goal

pub returns-in-Leaf : goal.returns-in-Leaf
returns-in-Leaf c = leaf_is c.args.frame.now.before c.args.name.now c.args.attributes.now c.args.column c.in-Leaf.form c.may_lack.result c.in-Leaf.is c.requires c.may_lack.ensures

pub returns-in-Record : goal.returns-in-Record
returns-in-Record c = record_is c.args.frame.now.before c.args.name.now c.args.attributes.now c.args.column c.in-Record.table c.with_aim.result c.in-Record.is c.requires c.with_aim.ensures
