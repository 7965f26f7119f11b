use Rattle.std.proofs.Common.{rules, ◌≡◌, ◌+◌, ◌≤◌, ◌<◌, ◌-◌, ℕ, length, take, arith, subst}
use Rattle.std.proofs.lemmas.Grind.{common_steps}
use Rattle.mos_io.specs.Bytes.{Takes}
use Rattle.port_looking.proofs.Lookings.{step_ended, step_failed, step_taken}
use Rattle.port_looking.proofs.looker.step.Goals as goal

pub returns-in-Ok-eq0-clause-stepped : goal.returns-in-Ok-eq0-clause-stepped
returns-in-Ok-eq0-clause-stepped g c l f k le =
    let zero : c.in-Ok-eq0.field-0 ≡ 0 = first_of (search rules, grind (arith, common_steps)) in
    step_ended c.args.names.now c.args.budget l (g.S.Source.left c.args.source.now) (g.S.Source.left c.read_piece.new.source) c.args.front.now.items c.args.decoder.now k f (g.S.Source.faults c.read_piece.new.source) c.requires.names.0
    (subst (λ (n : ℕ). Takes (g.S.Source.left c.args.source.now) (g.S.Source.left c.read_piece.new.source) (take n c.read_piece.new.buffer)) zero c.in-Ok-eq0.ensures.read.2)
    (c.in-Ok-eq0.ensures.read.3 zero)

pub returns-in-Ok-clause-stepped : goal.returns-in-Ok-clause-stepped
returns-in-Ok-clause-stepped g c l f k le =
    let size : length (take c.in-Ok.count c.read_piece.new.buffer) ≡ c.in-Ok.count = first_of (search rules, grind (arith, common_steps)) in
    let some : 0 < length (take c.in-Ok.count c.read_piece.new.buffer) = first_of (search rules, grind (arith, common_steps)) in
    let room : length c.args.front.now.items + length (take c.in-Ok.count c.read_piece.new.buffer) ≤ c.args.budget = first_of (search rules, grind (arith, common_steps)) in
    step_taken c.args.names.now c.args.budget l (g.S.Source.left c.args.source.now) (g.S.Source.left c.read_piece.new.source) c.args.front.now.items c.args.decoder.now k f (g.S.Source.faults c.read_piece.new.source)
    (take c.in-Ok.count c.read_piece.new.buffer) c.take_in.new.front.items c.take_in.new.decoder c.take_in.result c.in-Ok.ensures.read.2 some room c.take_in.ensures

pub returns-in-Err-clause-stepped : goal.returns-in-Err-clause-stepped
returns-in-Err-clause-stepped g c l f k le =
    step_failed c.args.names.now c.args.budget l (g.S.Source.left c.args.source.now) (g.S.Source.left c.read_piece.new.source) c.args.front.now.items c.args.decoder.now k f (g.S.Source.faults c.args.source.now) (g.S.Source.faults c.read_piece.new.source)
    (c.args.budget - length c.args.front.now.items) c.read_piece.new.buffer c.in-Err.lack le c.in-Err.ensures.read
