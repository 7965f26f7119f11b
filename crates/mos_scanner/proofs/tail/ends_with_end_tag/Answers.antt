use Rattle.std.proofs.Common.{sym, ◌∙◌}
use Rattle.mos_fields.specs.Raw.{end_text}
use Rattle.mos_scanner.proofs.EndLemmas.{ends_units, ends_false}
use Rattle.mos_scanner.proofs.tail.ends_with_end_tag.Goals as goal

pub returns-else-may_end : goal.returns-else-may_end
returns-else-may_end c = sym (ends_units c.args.name.now c.args.text.now c.requires ∙ ends_false (end_text c.args.name.now) c.args.text.now (c.may_end.ensures c.if-may_end.false))
