use Rattle.mos_tables.specs.Events.{raw as raw_event}
use Rattle.mos_values.specs.Sound.{Fits}
use Rattle.mos_soundness.proofs.Walks.{GoesOn}
use Rattle.mos_soundness.proofs.fields.all_fit.Given as goal

abbrev pub invariant-loop-raw : goal.invariant-loop-raw
invariant-loop-raw l = GoesOn (λ x. Fits l.table (raw_event l.field x)) l.raw-index l.raws
