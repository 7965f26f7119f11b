use Rattle.std.proofs.Common.{refl, sym, ◌+◌, ◌-◌, ◌≤◌, ◌∙◌, subst, arith}
use Rattle.mos_scanner.specs.ScannerView.{IsSoundAt}
use Rattle.mos_scanner.specs.declared.mode.Mode.TheVariants.{InTag}
use Rattle.mos_scanner.proofs.RunSteps.{start_skips}
use Rattle.mos_scanner.proofs.StartRuns.{run_join, end_begins, name_begins}
use Rattle.mos_scanner.proofs.scanner.Scanner.skip_tag.Goals as goal

pub skip_end_name-requires-clause-sound : goal.skip_end_name-requires-clause-sound
skip_end_name-requires-clause-sound c = let h = c.if-here-held.false in
    (end_begins c.args.self.now c.args.held.now c.args.here c.requires.mode c.requires.sound (omega (arith, h)) c.if-held-here-eq47.true).sound

pub skip_end_name-requires-clause-begun : goal.skip_end_name-requires-clause-begun
skip_end_name-requires-clause-begun c =
    let d : IsSoundAt InTag c.args.self.now c.args.held.now c.args.here = subst (λ m. IsSoundAt m c.args.self.now c.args.held.now c.args.here) c.requires.mode c.requires.sound in
    let b = d.begun in
    omega (arith, b)

pub returns-then-held-here-eq47 : goal.returns-then-held-here-eq47
returns-then-held-here-eq47 c = let h = c.if-here-held.false in
    run_join c.args.self.now _ _ c.args.held.now c.args.here (c.args.here + 1) c.skip_end_name.result
    (end_begins c.args.self.now c.args.held.now c.args.here c.requires.mode c.requires.sound (omega (arith, h)) c.if-held-here-eq47.true)
    c.skip_end_name.ensures

pub returns-then-is_start_unit : goal.returns-then-is_start_unit
returns-then-is_start_unit c =
    let h = c.if-here-held.false in
    let d : IsSoundAt InTag c.args.self.now c.args.held.now c.args.here = subst (λ m. IsSoundAt m c.args.self.now c.args.held.now c.args.here) c.requires.mode c.requires.sound in
    let b = d.begun in
    let l = c.name_end.ensures.before in
    let few : c.name_end.result ≤ c.args.here + 1 + (c.args.self.now.start + 1 + 128 - (c.args.here + 1)) = omega (arith, b, l) in
    let first = name_begins c.args.self.now _ c.args.held.now c.args.here c.requires.mode c.requires.sound (omega (arith, h)) (sym c.is_start_unit.ensures ∙ c.if-is_start_unit.true) refl refl c.clear.ensures.items in
    run_join c.args.self.now _ _ c.args.held.now c.args.here (c.args.here + 1) c.name_end.result first
    (start_skips _ c.args.held.now (c.args.here + 1) c.name_end.result (c.args.self.now.start + 1 + 128) refl first.sound c.name_end.ensures.onward c.name_end.ensures.within
    refl few c.name_end.ensures.named)
