use Rattle.std.proofs.Common.{slice_get, ap, ◌∙◌}
use Rattle.rundown_log.specs.Positions.{positions}
use Rattle.rundown_log.proofs.journal.Journal.find.Goals as goal

pub returns : goal.returns
returns c = c.find_in.ensures ∙ ap (λ ps. slice_get ps c.args.k) (c.self.invariant c.args.ro.now ∙ ap (positions c.args.ro.now) c.self.view_is)
