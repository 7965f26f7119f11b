use Rattle.std.proofs.Common.{ap, sym, ◌∙◌}
use Rattle.server_peer.specs.Dues.{script_until}
use Rattle.server_peer.proofs.ViewRows.{look-some, look-none}
use Rattle.server_peer.proofs.until.script_until.Goals as goal

pub returns-in-Some : goal.returns-in-Some
returns-in-Some c = c.held_until.ensures ∙ ap (λ v. script_until v c.args.from) (sym (look-some c.args.ro.now c.args.views.now c.in-Some.seen.now (sym c.in-Some.ensures)))

pub returns-in-None : goal.returns-in-None
returns-in-None c = sym (ap (λ v. script_until v c.args.from) (look-none c.args.ro.now c.args.views.now (sym c.in-None.ensures)))
