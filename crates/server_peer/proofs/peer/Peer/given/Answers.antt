use Rattle.std.proofs.Common.{◌&&◌, sym, ◌∙◌}
use Rattle.mos_machines.specs.Server.{is_open}
use Rattle.server_peer.proofs.ViewRows.{not-given}
use Rattle.server_peer.proofs.peer.Peer.given.Goals as goal

pub returns-else-is_given : goal.returns-else-is_given
returns-else-is_given c = not-given (is_open c.args.self.now.upper && c.args.is_whole) c.args.self.now c.args.ro.now c.args.n (sym c.is_given.ensures ∙ c.if-is_given.false)
