use Rattle.std.proofs.Common.{rules, ◌≡◌, ◌<◌, ◌-◌, ◌≢◌, ℕ, take, arith, subst}
use Rattle.std.proofs.lemmas.Grind.{common_steps}
use Rattle.mos_io.specs.Bytes.{Takes}
use Rattle.port_session.proofs.Readings.{halts_ended, halts_rejected, halts_spent, halts_unread}
use Rattle.port_session.proofs.inlet.Inlet.go_on.Goals as goal

pub returns-in-Some-clause-next : goal.returns-in-Some-clause-next
returns-in-Some-clause-next g c l f given r = halts_rejected l f _ _ _ _ _ _ given r c.requires.ready _ c.in-Some.is

pub returns-then-self-clause-next : goal.returns-then-self-clause-next
returns-then-self-clause-next g c l f given r = halts_spent l f _ _ _ _ _ _ given r c.requires.ready c.in_default.is c.if-self.true

pub returns-in-Ok-eq0-clause-next : goal.returns-in-Ok-eq0-clause-next
returns-in-Ok-eq0-clause-next g c l f given r =
    let zero : c.in-Ok-eq0.field-0 ≡ 0 = first_of (search rules, grind (arith, common_steps)) in
    let room : c.args.self.now.count < c.args.self.now.budget = let w = r.within in let n : c.args.self.now.count ≢ c.args.self.now.budget = c.if-self.false in omega arith in
    halts_ended l f _ _ _ _ _ _ given r c.requires.ready c.in_default.is _ _
    (subst (λ (k : ℕ). Takes (g.S.Source.left c.args.source.now) (g.S.Source.left c.read_piece.new.source) (take k c.read_piece.new.buffer.items)) zero c.in-Ok-eq0.ensures.read.2)
    (c.in-Ok-eq0.ensures.read.3 zero) c.read_piece.ensures.rises room c.ended.result c.ended.ensures

pub returns-in-Ok-clause-next : goal.returns-in-Ok-clause-next
returns-in-Ok-clause-next g c l f given r = c.take_in.ensures.next l f _ _ _ _ given r c.in-Ok.ensures.read.2 c.read_piece.ensures.rises

pub returns-in-Err-clause-next : goal.returns-in-Err-clause-next
returns-in-Err-clause-next g c l f given r =
    let room : c.args.self.now.count < c.args.self.now.budget = let w = r.within in let n : c.args.self.now.count ≢ c.args.self.now.budget = c.if-self.false in omega arith in
    halts_unread l f _ _ _ _ _ _ given r c.requires.ready c.in_default.is _ _ (c.args.self.now.budget - c.args.self.now.count) c.read_piece.new.buffer.items c.read_piece.ensures.rises room c.in-Err.end c.in-Err.ensures.read
