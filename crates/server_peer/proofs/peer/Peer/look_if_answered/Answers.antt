use Rattle.std.proofs.Common.{◌≤◌, ap, sym, ◌∙◌, subst}
use Rattle.mos_machines.specs.Server.{peer_answered}
use Rattle.mos_machines.specs.Server.View.{Out}
use Rattle.mos_machines.specs.Tables.{PeerTables, look, peer_of}
use Rattle.server_peer.specs.Parts.{flight_view}
use Rattle.server_peer.specs.Dues.{IsIdleBefore, out_until}
use Rattle.server_peer.proofs.LookLaws.{idle-answered, out-less}
use Rattle.server_peer.proofs.peer.Peer.look_if_answered.Goals as goal

pub returns-clause-idle : goal.returns-clause-idle
returns-clause-idle c = λ m.
    let journal = c.args.journal.now in
    let p = c.args.self.now in
    let e = c.out_until.ensures ∙ ap (λ (t : PeerTables). out_until journal (flight_view t.upper (look Out t.views)) t.upper c.args.from) c.self.view_is in
    subst (λ n. IsIdleBefore n journal (peer_answered journal (peer_of p) m).0.views) (sym e) (idle-answered journal (peer_of p) c.args.from m c.requires)

pub returns-clause-within : goal.returns-clause-within
returns-clause-within c =
    let journal = c.args.journal.now in
    let e = c.out_until.ensures ∙ ap (λ (t : PeerTables). out_until journal (flight_view t.upper (look Out t.views)) t.upper c.args.from) c.self.view_is in
    subst (λ n. n ≤ c.args.from) (sym e) (out-less journal (flight_view c.args.self.now.upper (look Out c.args.self.now.views)) c.args.self.now.upper c.args.from)
