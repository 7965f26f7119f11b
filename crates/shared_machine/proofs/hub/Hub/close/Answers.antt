use Rattle.std.proofs.Common.{◌≡◌, ap, ◌∙◌, subst}
use Rattle.std.specs.Prelude.{List}
use Rattle.shared_machine.specs.declared.entry.Entry.{Entry}
use Rattle.shared_machine.specs.History.{StartsWith, calls_by}
use Rattle.shared_machine.specs.Passes.{Known}
use Rattle.shared_machine.proofs.CallLaws.{reaches_same}
use Rattle.shared_machine.proofs.Histories.{reaches_first}
use Rattle.shared_machine.proofs.hub.Hub.close.Goals as goal

pub returns : goal.returns
returns g c = let t = c.close_table.ensures in (
  t.2.0,
  subst (λ (l : List (Entry g.row.M-Event.Denot g.row.M-Answer.Denot)). StartsWith t.2.0 l) (ap (λ k. k.seen) c.pass.view_is) t.2.1,
  subst (λ (k : Known (g.row.M.Denot × g.row.D.Denot) g.row.M-Event.Denot g.row.M-Answer.Denot). calls_by k.caller t.2.0 ≡ calls_by k.caller k.seen) c.pass.view_is t.2.2,
  reaches_first _ _ _ c.args.self.start t.2.0 c.close_table.result (reaches_same _ _ _ c.pass.inside.seat.me.0.start c.args.self.start t.0 t.2.0 c.args.pass.seen c.close_table.result (ap (λ k. k.start) c.pass.view_is ∙ c.requires.1) t.1 t.2.3),
)
