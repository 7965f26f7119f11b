use Rattle.std.proofs.Common.{◌≡◌, ◌+◌, ap, ◌∙◌, arith}
use Rattle.status_board.proofs.Sums.{count-group}
use Rattle.status_board.proofs.sizes.group_units.Goals as goal

pub returns : goal.returns
returns c =
    count-group (0, c.args.s.now) c.text_or.result.now c.text_or-2.result.now c.text_or-3.result.now c.text_units-story.result c.text_units-item.result c.text_units-obj.result c.optional_units-channel.result c.text_units-status.result
    c.saturating_add.result c.saturating_add-names.result c.saturating_add-2.result c.saturating_add-3.result
    c.text_or.ensures c.text_or-2.ensures c.text_or-3.ensures
    c.text_units-story.ensures c.text_units-item.ensures c.text_units-obj.ensures c.optional_units-channel.ensures c.text_units-status.ensures
    c.saturating_add.ensures c.saturating_add-names.ensures c.saturating_add-2.ensures c.saturating_add-3.ensures
