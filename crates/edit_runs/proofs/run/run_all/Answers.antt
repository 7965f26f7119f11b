use Rattle.std.proofs.Common.{◌≡◌, ◌∙◌, false, arith}
use Rattle.edit_runs.proofs.Inputs.{ends_by, ends_over, talking_none}
use Rattle.edit_runs.proofs.run.run_all.Goals as goal

pub loop-init : goal.loop-init
loop-init g c = record {
  room = c.requires.room;
  most = c.requires.most;
  rises = omega arith;
  talking = rw c.new-counts.ensures (talking_none _ _ _ _ _ c.requires.begun c.requires.inlet);
}

pub returns-in-Ok-false : goal.returns-in-Ok-false
returns-in-Ok-false g c =
    let z = c.in-Ok-false.field-0-test in
    let last : c.in-Ok-false.field-0 ≡ false = cc in
    ends_over _ _ _ _ _ _ _ _ _ _ _ c.loop.invariant.rises (c.turn.ensures.most ∙ c.loop.invariant.most) _ c.finished.ensures.good c.finished.ensures.bad (rw last at (c.in-Ok-false.ensures.turned _ _ c.loop.invariant.talking))

pub returns-in-Err : goal.returns-in-Err
returns-in-Err g c =
    ends_by _ _ _ _ _ _ _ _ _ _ _ c.loop.invariant.rises (c.turn.ensures.most ∙ c.loop.invariant.most) _ (c.in-Err.ensures.turned _ _ c.loop.invariant.talking)
