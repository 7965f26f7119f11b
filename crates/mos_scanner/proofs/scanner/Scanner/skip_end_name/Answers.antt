use Rattle.std.proofs.Common.{◌≡◌, ◌+◌, ◌-◌, ◌≤◌, refl, sym, ◌∙◌, arith}
use Rattle.mos_scanner.proofs.RunSteps.{end_skips}
use Rattle.mos_scanner.proofs.StartRuns.{run_join, end_name_begins}
use Rattle.mos_scanner.proofs.scanner.Scanner.skip_end_name.Goals as goal

pub returns-then-is_start_unit : goal.returns-then-is_start_unit
returns-then-is_start_unit c =
    let s = c.args.self.now in
    let h = c.if-here-held.false in
    let b = c.requires.begun in
    let l = c.name_end.ensures.before in
    let two : c.args.here - s.start ≡ 2 = omega (arith, b) in
    let few : c.name_end.result ≤ c.args.here + 1 + (s.start + 2 + 128 - (c.args.here + 1)) = omega (arith, b, l) in
    let first = end_name_begins s c.args.held.now c.args.here c.requires.mode c.requires.sound (omega (arith, h)) two (sym c.is_start_unit.ensures ∙ c.if-is_start_unit.true) in
    run_join s s s c.args.held.now c.args.here (c.args.here + 1) c.name_end.result first
    (end_skips s c.args.held.now (c.args.here + 1) c.name_end.result (s.start + 2 + 128) c.requires.mode first.sound c.name_end.ensures.onward c.name_end.ensures.within
    (omega (arith, b)) refl few c.name_end.ensures.named)
