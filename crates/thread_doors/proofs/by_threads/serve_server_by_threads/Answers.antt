use Rattle.std.proofs.Common.{None, length}
use Rattle.std.proofs.iter.Serving.{serving}
use Rattle.thread_doors.proofs.Listenings.{server_caused, server_rises}
use Rattle.thread_doors.proofs.by_threads.serve_server_by_threads.Goals as goal

pub serve_server-end-requires-clause-ready : goal.serve_server-end-requires-clause-ready
serve_server-end-requires-clause-ready g c κs within = ((grind serving, grind serving, grind serving), grind serving)

pub returns-clause-caused : goal.returns-clause-caused
returns-clause-caused g c = let s = c.server_listeners.ensures in
    server_caused g.L.Listener.coming g.L.Listener.faults (λ s. None) (λ s. s.faults) (length c.args.peers.now)
    (record {
      upper = record { listener = c.args.listeners.upper; spawner = c.new.result };
      lower = record { listener = c.args.listeners.lower; spawner = c.new-2.result };
      editor = record { listener = c.args.listeners.editor; spawner = c.new-3.result };
      drivers = c.new-4.result;
    })
    c.serve_server-end.new.ports c.server_listeners.result c.args.listeners.refused c.serve_server-end.result c.serve_server-end.ensures.caused
    c.new.ensures.faults c.new-2.ensures.faults c.new-3.ensures.faults c.new-4.ensures.faults
    s.listeners s.upper s.lower s.editor s.drivers

pub returns-clause-rises : goal.returns-clause-rises
returns-clause-rises g c = let s = c.server_listeners.ensures in
    server_rises g.L.Listener.coming g.L.Listener.faults (λ s. None) (λ s. s.faults) (length c.args.peers.now)
    (record {
      upper = record { listener = c.args.listeners.upper; spawner = c.new.result };
      lower = record { listener = c.args.listeners.lower; spawner = c.new-2.result };
      editor = record { listener = c.args.listeners.editor; spawner = c.new-3.result };
      drivers = c.new-4.result;
    })
    c.serve_server-end.new.ports c.server_listeners.result c.args.listeners.refused c.serve_server-end.result c.serve_server-end.ensures.served
    s.listeners s.rises
