use Rattle.std.proofs.Common.{None}
use Rattle.thread_doors.proofs.Listenings.{gate_caused, gate_rises}
use Rattle.thread_doors.proofs.by_threads.serve_gate_by_threads.Goals as goal

pub returns-clause-caused : goal.returns-clause-caused
returns-clause-caused g c = let s = c.gate_listeners.ensures in
    gate_caused g.L.Listener.coming g.L.Listener.faults (λ s. None) (λ s. s.faults) 1
    (record {
      upper = record { listener = c.args.listeners.upper; spawner = c.new.result };
      lower = record { listener = c.args.listeners.lower; spawner = c.new-2.result };
      drivers = c.new-3.result;
    })
    c.serve_gate-end.new.ports c.gate_listeners.result c.args.listeners.refused c.serve_gate-end.result c.serve_gate-end.ensures.caused
    c.new.ensures.faults c.new-2.ensures.faults c.new-3.ensures.faults
    s.listeners s.upper s.lower s.drivers

pub returns-clause-rises : goal.returns-clause-rises
returns-clause-rises g c = let s = c.gate_listeners.ensures in
    gate_rises g.L.Listener.coming g.L.Listener.faults (λ s. None) (λ s. s.faults) 1
    (record {
      upper = record { listener = c.args.listeners.upper; spawner = c.new.result };
      lower = record { listener = c.args.listeners.lower; spawner = c.new-2.result };
      drivers = c.new-3.result;
    })
    c.serve_gate-end.new.ports c.gate_listeners.result c.args.listeners.refused c.serve_gate-end.result c.serve_gate-end.ensures.served
    s.listeners s.rises
