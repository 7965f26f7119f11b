use Rattle.std.proofs.Common.{rules, ◌≡◌, ◌<◌, ◌-◌, Some, None, length, refl, ◌∙◌, arith}
use Rattle.std.proofs.lemmas.Grind.{common_steps}
use Rattle.port_looking.proofs.Lookings.{looking_none, stepped_found, stepped_on, stepped_out}
use Rattle.port_looking.proofs.looker.look_on.Goals as goal

pub next-init : goal.next-init
next-init g c = record {
  looking = looking_none _ _ _ _ c.requires.none c.requires.taken c.requires.ready;
  rises = omega arith;
  room = refl;
}

pub next-smaller : goal.next-smaller
next-smaller g c =
    let i = c.next.invariant in
    let is : c.in-Ok-None.field-0 ≡ None = first_of (search rules, grind (arith, common_steps)) in
    let s = stepped_on c.args.names.now c.args.budget (g.S.Source.left c.args.source.now) (g.S.Source.left c.step.new.source) (g.S.Source.faults c.args.source.now) (g.S.Source.faults c.step.new.source) c.next.front.items c.step.new.front.items c.step.new.decoder c.in-Ok-None.field-0 (c.in-Ok-None.ensures.stepped (g.S.Source.left c.args.source.now) (g.S.Source.faults c.args.source.now) i.looking i.rises) is in
    let more = s.1 in
    let within = s.0.within in
    let less : c.args.budget - length c.step.new.front.items < c.args.budget - length c.next.front.items = omega arith in less

pub next-preserved : goal.next-preserved
next-preserved g c =
    let i = c.next.invariant in
    let is : c.in-Ok-None.field-0 ≡ None = first_of (search rules, grind (arith, common_steps)) in
    let s = stepped_on c.args.names.now c.args.budget (g.S.Source.left c.args.source.now) (g.S.Source.left c.step.new.source) (g.S.Source.faults c.args.source.now) (g.S.Source.faults c.step.new.source) c.next.front.items c.step.new.front.items c.step.new.decoder c.in-Ok-None.field-0 (c.in-Ok-None.ensures.stepped (g.S.Source.left c.args.source.now) (g.S.Source.faults c.args.source.now) i.looking i.rises) is in
    record {
      looking = s.0;
      rises = let before = i.rises in let after = c.step.ensures.rises in omega arith;
      room = c.step.ensures.room ∙ i.room;
    }

pub returns-in-Ok-Some-clause-looked : goal.returns-in-Ok-Some-clause-looked
returns-in-Ok-Some-clause-looked g c =
    let i = c.next.invariant in
    let is : c.in-Ok-Some.field-0 ≡ Some c.in-Ok-Some.device = first_of (search rules, grind (arith, common_steps)) in
    stepped_found c.args.names.now c.args.budget (g.S.Source.left c.args.source.now) (g.S.Source.left c.step.new.source) (g.S.Source.faults c.args.source.now) (g.S.Source.faults c.step.new.source) c.next.front.items c.step.new.front.items c.step.new.decoder c.in-Ok-Some.field-0 (c.in-Ok-Some.ensures.stepped (g.S.Source.left c.args.source.now) (g.S.Source.faults c.args.source.now) i.looking i.rises) c.in-Ok-Some.device is

pub returns-in-Err-clause-looked : goal.returns-in-Err-clause-looked
returns-in-Err-clause-looked g c =
    let i = c.next.invariant in
    stepped_out c.args.names.now c.args.budget (g.S.Source.left c.args.source.now) (g.S.Source.left c.step.new.source) (g.S.Source.faults c.args.source.now) (g.S.Source.faults c.step.new.source) c.next.front.items c.step.new.front.items c.step.new.decoder c.in-Err.lack (c.in-Err.ensures.stepped (g.S.Source.left c.args.source.now) (g.S.Source.faults c.args.source.now) i.looking i.rises)
