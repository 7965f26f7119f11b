use Rattle.std.proofs.Common.{length, sym, ap, ◌∙◌}
use Rattle.rundown_log.proofs.PlaceRows.{look-some, look-none}
use Rattle.rundown_log.proofs.places.count_in.Goals as goal

pub returns-in-Some : goal.returns-in-Some
returns-in-Some c = c.len.ensures ∙ ap length (sym (look-some c.args.ro.now c.args.places.now c.in-Some.row.now (sym c.in-Some.ensures)))

pub returns-in-None : goal.returns-in-None
returns-in-None c = ap length (sym (look-none c.args.ro.now c.args.places.now (sym c.in-None.ensures)))
