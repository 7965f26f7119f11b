use Rattle.std.proofs.Common.{rules, ◌≡◌, arith, sym}
use Rattle.std.proofs.lemmas.Grind.{common_steps}
use Rattle.std.specs.Arc.{arc_value}
use Rattle.port_dialing.specs.Dialing.{worker}
use Rattle.port_jobs.proofs.Drives.{dialed_still}
use Rattle.port_jobs.proofs.job.PortJobJob.run.Goals as goal

pub returns : goal.returns
returns g c =
    let h : c.deref-in-Dial.result.now ≡ arc_value c.args.self.hub = first_of (search rules, grind (arith, common_steps)) in
    rw c.in-Dial.is (rw (sym h) (
      c.dial_all-starved.ensures.pass.0,
      c.dial_all-starved.ensures.pass.1,
      dialed_still g.M.StepRelation.steps g.M.StepRelation.refusal g.M.StepRelation.decks_left c.deref-in-Dial.result.now.start.0 c.args.self.pass.caller c.args.self.port c.args.self.budget
          (worker (g.Di.Dialer.links c.in-Dial.dialer) (g.Di.Dialer.calls c.in-Dial.dialer) (g.P.Pacer.paces c.in-Dial.pacer) (g.P.Pacer.stops c.in-Dial.pacer) (g.C.Clock.time c.in-Dial.clock) c.args.self.pass.seen)
          (g.Di.Dialer.links c.dial_all-starved.new.dialer) (g.Di.Dialer.calls c.dial_all-starved.new.dialer) (g.P.Pacer.paces c.dial_all-starved.new.pacer) (g.P.Pacer.stops c.dial_all-starved.new.pacer) (g.C.Clock.time c.dial_all-starved.new.clock) c.dial_all-starved.new.pass.seen
          c.dial_all-starved.result c.dial_all-starved.ensures.dialed,
    ))
