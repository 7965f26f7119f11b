use Rattle.std.proofs.Common.{sym, subst}
use Rattle.thread_doors.specs.Listening.{server_listening}
use Rattle.serve_ends.specs.Ends.{IsCaused}
use Rattle.serve_ends.proofs.Doors.{caused_by_doors}
use Rattle.server_serving.proofs.by_threads.ncs_serve_by_threads.Goals as goal

pub returns-clause-caused : goal.returns-clause-caused
returns-clause-caused g c = let seen = server_listening g.L.Listener.coming g.L.Listener.faults in let ended = c.serve_server_by_threads-ended in
    subst (λ e. IsCaused seen c.args.listeners ended.result.1 e) (sym c.of_door.ensures) (caused_by_doors _ seen c.args.listeners ended.result.1 ended.result.0 ended.ensures.caused)
