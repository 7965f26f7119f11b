use Rattle.world_stage.proofs.play.Play.event.Goals as goal

pub returns-in-FailNext : goal.returns-in-FailNext
returns-in-FailNext c = rw c.in-FailNext.is (λ w m. c.fail_next.ensures w m)
