use Rattle.std.proofs.Common.{sym, ◌∙◌}
use Rattle.mos_scanner.proofs.EndLemmas.{ends_units, end_found, end_without_mark, end_without_name, end_without_begin}
use Rattle.mos_scanner.proofs.tail.has_end_tag.Goals as goal

pub returns-in-None : goal.returns-in-None
returns-in-None c = sym (ends_units c.args.name.now c.args.text.now c.requires ∙ end_without_mark c.args.name.now c.args.text.now c.in-None.ensures)

pub returns-in-None-without_end : goal.returns-in-None-without_end
returns-in-None-without_end c = sym (ends_units c.args.name.now c.args.text.now c.requires ∙ end_without_name c.args.name.now c.args.text.now c.in-Some.front.now c.in-Some.ensures c.in-None-without_end.ensures)

pub returns-in-None-without_end-2 : goal.returns-in-None-without_end-2
returns-in-None-without_end-2 c = sym (ends_units c.args.name.now c.args.text.now c.requires
    ∙ end_without_begin c.args.name.now c.args.text.now c.in-Some.front.now c.in-Some-without_end.front.now c.in-Some.ensures c.in-Some-without_end.ensures c.in-None-without_end-2.ensures)

pub returns-in-Some-without_end-2 : goal.returns-in-Some-without_end-2
returns-in-Some-without_end-2 c = sym (ends_units c.args.name.now c.args.text.now c.requires
    ∙ end_found c.args.name.now c.args.text.now c.in-Some.front.now c.in-Some-without_end.front.now c.in-Some-without_end-2.field-0.now c.in-Some.ensures c.in-Some-without_end.ensures c.in-Some-without_end-2.ensures)
