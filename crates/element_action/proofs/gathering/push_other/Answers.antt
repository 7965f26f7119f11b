use Rattle.std.proofs.Common.{◌++◌, sym, ap, ◌∙◌}
use Rattle.std.proofs.lemmas.List.{append-nil}
use Rattle.element_action.proofs.GatherLemmas.{other_gone, other_kept}
use Rattle.running_order.proofs.Lists.{OnOk-map}
use Rattle.element_action.proofs.gathering.push_other.Goals as goal

pub returns-then-is_seen : goal.returns-then-is_seen
returns-then-is_seen c =
    let out = other_gone c.args.id.now c.args.out.now (sym c.is_seen.ensures ∙ c.if-is_seen.true) in
    sym (append-nil c.args.list.now) ∙ ap (λ l. c.args.list.now ++ l) (sym out)

pub returns-else-is_seen : goal.returns-else-is_seen
returns-else-is_seen c =
    let kept = other_kept c.args.id.now c.args.out.now (sym c.is_seen.ensures ∙ c.if-is_seen.false) in
    OnOk-map c.push_copy.result (λ e. e ∙ ap (λ l. c.args.list.now ++ l) (sym kept)) c.push_copy.ensures
