use Rattle.std.proofs.Common.{IfOk, refl, sym, ap, subst, ◌∙◌}
use Rattle.mos_tables.specs.Tables.{columns, others}
use Rattle.mos_grammar.specs.Records.{Role, other_role}
use Rattle.mos_elements.specs.Roles.{IsRole}
use Rattle.mos_elements.proofs.RoleLemmas.{column_named, role_none, role_full, role_room}
use Rattle.mos_elements.proofs.role.find_role.Goals as goal

pub role_at-requires : goal.role_at-requires
role_at-requires c = column_named (columns c.args.frame.now.table) c.args.name.now c.in-Some.column (sym c.requires ∙ c.in-Some.is)

pub returns-in-None : goal.returns-in-None
returns-in-None c = role_none c.role_of_other.result c.args.frame.now.table c.args.frame.now.before c.args.name.now c.args.attributes.now (sym c.requires ∙ c.in-None.is)
    (subst (λ o. IsRole c.role_of_other.result c.args.name.now c.args.attributes.now (other_role o)) (c.others.ensures ∙ ap (λ t. others t c.args.name.now) c.table.ensures) (c.role_of_other.ensures c.args.name.now c.args.attributes.now))

pub returns-then-has_all : goal.returns-then-has_all
returns-then-has_all c = role_full c.args.frame.now.table c.args.frame.now.before c.args.name.now c.args.attributes.now c.in-Some.column _ c.has_all.result (sym c.requires ∙ c.in-Some.is) refl c.has_all.ensures c.if-has_all.true

pub returns-else-has_all : goal.returns-else-has_all
returns-else-has_all c = subst (λ (w : Role). IfOk c.role_at.result (λ r. IsRole r c.args.name.now c.args.attributes.now w))
    (role_room c.args.frame.now.table c.args.frame.now.before c.args.name.now c.args.attributes.now c.in-Some.column _ c.has_all.result (sym c.requires ∙ c.in-Some.is) refl c.has_all.ensures c.if-has_all.false)
    c.role_at.ensures
