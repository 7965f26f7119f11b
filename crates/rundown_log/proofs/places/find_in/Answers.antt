use Rattle.std.proofs.Common.{slice_get, sym, ap, ◌∙◌}
use Rattle.rundown_log.proofs.PlaceRows.{look-some, look-none}
use Rattle.rundown_log.proofs.places.find_in.Goals as goal

pub returns-in-Some : goal.returns-in-Some
returns-in-Some c = c.get.ensures ∙ ap (λ row. slice_get row c.args.k) (sym (look-some c.args.ro.now c.args.places.now c.in-Some.row.now (sym c.in-Some.ensures)))

pub returns-in-None : goal.returns-in-None
returns-in-None c = ap (λ row. slice_get row c.args.k) (sym (look-none c.args.ro.now c.args.places.now (sym c.in-None.ensures)))
