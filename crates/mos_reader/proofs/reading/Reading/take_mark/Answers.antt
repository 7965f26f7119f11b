use Rattle.std.proofs.Common.{refl}
use Rattle.mos_grammar.specs.Tokens.{mark}
use Rattle.mos_scanner.specs.declared.scanned.Kind.TheVariants.{Mark}
use Rattle.mos_reader.specs.Places.{position_of}
use Rattle.mos_reader.proofs.MoreLemmas.{step_more, raw_more, rest_same}
use Rattle.mos_reader.proofs.reading.Reading.take_mark.Goals as goal

pub rest-requires-clause-raw : goal.rest-requires-clause-raw
rest-requires-clause-raw c =
    raw_more (position_of c.args.self.now.frames) c.take.new.self Mark c.args.self.now.scanner c.args.held.now c.args.next
    (step_more c.args.self.now.frames c.take.new.self mark mark c.in-Ok-More.field-0 c.requires.placed.stands (c.in-Ok-More.ensures {u = tt}) c.in-Ok-More.field-0-is refl)
    tt

pub returns-in-Ok-More-clause-same : goal.returns-in-Ok-More-clause-same
returns-in-Ok-More-clause-same c =
    rest_same (position_of c.args.self.now.frames) c.take.new.self Mark c.args.self.now.scanner c.args.held.now c.args.next c.args.self.now.here c.args.self.now.here c.rest.new.self
    (step_more c.args.self.now.frames c.take.new.self mark mark c.in-Ok-More.field-0 c.requires.placed.stands (c.in-Ok-More.ensures {u = tt}) c.in-Ok-More.field-0-is refl)
    (record { frames = c.rest.ensures.frames; state = c.rest.ensures.state; start = c.rest.ensures.start; opened = c.rest.ensures.opened; here = c.rest.ensures.here })
