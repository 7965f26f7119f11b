use Rattle.std.proofs.Common.{sym, ◌∙◌}
use Rattle.mos_elements.proofs.RoleLemmas.{message_lost, message_found}
use Rattle.mos_elements.proofs.role.message_role.Goals as goal

pub returns-in-None : goal.returns-in-None
returns-in-None c = message_lost c.args.field c.args.name.now c.args.attributes.now (sym c.find_named.ensures ∙ c.in-None.is)

pub returns-in_ok-operation-in-Some : goal.returns-in_ok-operation-in-Some
returns-in_ok-operation-in-Some c = message_found c.args.field c.args.name.now c.args.attributes.now c.in-Some.message c.in_ok-operation-in-Some.operation c.message_table-table.result (sym c.find_named.ensures ∙ c.in-Some.is) c.in_ok-operation-in-Some.ensures c.message_table-table.ensures
