use Rattle.mos_cursor.proofs.Fill.{filled_fits, filled_events, filled_here}
use Rattle.mos_cursor.proofs.record.record_slots.Goals as goal

pub returns-clause-fit : goal.returns-clause-fit
returns-clause-fit g c =
    let a = c.requires.accepted in
    filled_fits c.args.table a.0 c.args.cursor _ _ c.requires.single a.1 (filled_here c.args.table _ _ _ _ c.columns.ensures c.in_ok-fill.ensures)

pub returns-clause-events : goal.returns-clause-events
returns-clause-events g c =
    let a = c.requires.accepted in
    filled_events c.args.table a.0 c.args.cursor _ _ c.requires.single a.1 (filled_here c.args.table _ _ _ _ c.columns.ensures c.in_ok-fill.ensures)
