use Rattle.std.proofs.Common.{sym, subst}
use Rattle.mos_reader.specs.Places.{Ended}
use Rattle.mos_reader.proofs.RunForms.{run_to, run_read, run_too_long}
use Rattle.mos_reader.proofs.reading.Reading.read_run.Goals as goal

pub returns-then-next-le-MESSAGE_LIMIT : goal.returns-then-next-le-MESSAGE_LIMIT
returns-then-next-le-MESSAGE_LIMIT c =
    (run_read c.args.self.now c.skip.new.self c.args.held.now c.in_ok-next.next c.requires c.in_ok-next.ensures c.if-next-le-MESSAGE_LIMIT.true, c.in_ok-next.ensures.onward)

pub returns-else-next-le-MESSAGE_LIMIT : goal.returns-else-next-le-MESSAGE_LIMIT
returns-else-next-le-MESSAGE_LIMIT c =
    subst (λ z. Ended z (run_to c.args.self.now c.skip.new.self c.args.self.now.here) c.args.held.now) (sym c.too_long.ensures)
    (run_too_long c.args.self.now c.skip.new.self c.args.held.now c.in_ok-next.next c.requires c.in_ok-next.ensures c.if-next-le-MESSAGE_LIMIT.false)
