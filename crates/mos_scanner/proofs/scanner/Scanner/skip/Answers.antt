use Rattle.mos_scanner.proofs.StartRuns.{run_join_ok}
use Rattle.mos_scanner.proofs.scanner.Scanner.skip.Goals as goal

pub returns : goal.returns
returns c =
    run_join_ok c.args.self.now c.skip_begin-begun.new.self c.skip_on.new.self c.args.held.now c.args.here c.skip_begin-begun.result c.skip_on.result c.skip_begin-begun.ensures c.skip_on.ensures
