use Rattle.std.proofs.Common.{◌∙◌, refl}
use denote.Exit.{no}
use denote.Param.Send.{param_send, arg_send}
use Rattle.port_doors.specs.declared.door.DoorEnd.TheVariants.{Closed}
use Rattle.port_doors.proofs.Sent.{lane_send}
use Rattle.port_doors.proofs.Lanes.{door_moved}
use Rattle.port_doors.proofs.run.run_gate.Goals as goal

pub run_in_place-requires-send-A : goal.run_in_place-requires-send-A
run_in_place-requires-send-A g c κs within = let b = c.type_bounds in param_send 1 _ (arg_send _ no _ (lane_send _ _ _ _ _ _ _ _ _ b.send-M b.send-D b.send-L b.send-Di b.send-P b.send-C b.send-R b.send-W))

pub returns : goal.returns
returns g c = let s = c.run_in_place.ensures in record {
  drivers = s.9.2 ∙ s.7.2;
  ran = record {
    upper_end = s.4.end;
    lower_end = s.5.end;
    editor_end = Closed;
    upper = door_moved g.L.Listener.coming g.L.Listener.faults g.W.Spawner.took g.W.Spawner.faults _ _ _ _ _ s.7.0 s.9.0 s.8.0;
    lower = door_moved g.L.Listener.coming g.L.Listener.faults g.W.Spawner.took g.W.Spawner.faults _ _ _ _ _ s.7.1 s.9.1 s.8.1;
    editor = refl;
    end_is = s.9.3;
  };
}
