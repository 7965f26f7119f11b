use Rattle.std.proofs.Common.{◌≡◌, ap, ◌∙◌}
use Rattle.mos_edits.specs.Entries.{entry_count}
use Rattle.mos_edits.specs.Orders.{edit_ro}
use Rattle.ncs_core.specs.State.{given_by}
use Rattle.ncs_core.proofs.commands.keep_and_give.Goals as goal

pub returns-clause-peers : goal.returns-clause-peers
returns-clause-peers g c =
    let ro : c.edit_ro-ro.result.now ≡ edit_ro c.args.edit.now = c.edit_ro-ro.ensures in
    let number : c.entry_count-number.result ≡ entry_count c.args.journal.now (edit_ro c.args.edit.now) = c.entry_count-number.ensures ∙ ap (entry_count c.args.journal.now) ro in
    c.give_all.ensures ∙ (λ i. λ d. given_by (ro i) (c.is_whole-whole.ensures i) (number i) (c.reserve_all.ensures.same i d))
