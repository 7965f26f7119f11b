use Rattle.std.proofs.Common.{length, ap, ◌∙◌}
use Rattle.mos_edits.specs.Entries.{entry_count}
use Rattle.rundown_log.proofs.PositionLemmas.{positions-count}
use Rattle.rundown_log.proofs.journal.Journal.entry_count.Goals as goal

pub returns : goal.returns
returns c =
    let ro = c.args.ro.now in
    c.count_in.ensures ∙ (ap length (c.self.invariant ro) ∙ (positions-count ro 0 c.self.inside.entries.items ∙ ap (λ j. entry_count j ro) c.self.view_is))
