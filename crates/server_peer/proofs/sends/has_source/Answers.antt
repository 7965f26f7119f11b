use Rattle.std.proofs.Common.{◌≡◌, ◌≤◌, ◌<◌, sym, ◌∙◌, subst, arith}
use Rattle.mos_edits.specs.Entries.{entry_count}
use Rattle.mos_machines.specs.Server.{View}
use Rattle.mos_machines.specs.Server.View.{Out, In}
use Rattle.server_peer.specs.Parts.{HasEarlier}
use Rattle.server_peer.proofs.NumberLemmas.{first-has}
use Rattle.server_peer.proofs.ViewRows.{look-some, look-none}
use Rattle.server_peer.proofs.sends.has_source.Goals as goal

pub returns-in-Some : goal.returns-in-Some
returns-in-Some c =
    let s = c.requires in
    let is = sym (look-some c.args.ro.now c.args.views.now c.in-Some.seen.now (sym c.in-Some.ensures)) ∙ s.is in
    let below = subst HasEarlier is c.has_earlier_scripts.ensures in
    let l = below c.args.k (first-has c.args.k s.scripts s.first) in
    let w = s.within in
    omega (arith, l, w)

pub returns-in-None : goal.returns-in-None
returns-in-None c = absurd (let s = c.requires in let e : Out ≡ In s.n s.again s.scripts = sym (look-none c.args.ro.now c.args.views.now (sym c.in-None.ensures)) ∙ s.is in cc)
