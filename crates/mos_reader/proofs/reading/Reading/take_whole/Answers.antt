use Rattle.std.proofs.Common.{◌∙◌}
use Rattle.mos_lexer.specs.Units.{opened_by}
use Rattle.mos_scanner.specs.ScannerView.{kind_token}
use Rattle.mos_reader.specs.Places.{position_of, reader_of}
use Rattle.mos_reader.proofs.TokenLemmas.{outside_cond}
use Rattle.mos_reader.proofs.MoreLemmas.{step_more, raw_more, rest_same}
use Rattle.mos_reader.proofs.reading.Reading.take_whole.Goals as goal

pub rest-requires-clause-raw : goal.rest-requires-clause-raw
rest-requires-clause-raw c =
    raw_more (position_of c.args.self.now.frames) c.take.new.self c.args.kind c.args.self.now.scanner c.args.held.now c.args.next
    (step_more c.args.self.now.frames c.take.new.self _ (kind_token c.args.kind c.args.self.now.scanner c.args.held.now c.args.next) c.in-Ok-More.field-0 c.requires.placed.stands (c.in-Ok-More.ensures {u = tt}) c.in-Ok-More.field-0-is c.token.ensures.token)
    c.requires.whole

pub returns-in-Ok-More-clause-same : goal.returns-in-Ok-More-clause-same
returns-in-Ok-More-clause-same c =
    rest_same (position_of c.args.self.now.frames) c.take.new.self c.args.kind c.args.self.now.scanner c.args.held.now c.args.next c.args.self.now.start (opened_by (reader_of c.args.self.now c.args.held.now)) c.rest.new.self
    (step_more c.args.self.now.frames c.take.new.self _ (kind_token c.args.kind c.args.self.now.scanner c.args.held.now c.args.next) c.in-Ok-More.field-0 c.requires.placed.stands (c.in-Ok-More.ensures {u = tt}) c.in-Ok-More.field-0-is c.token.ensures.token)
    (record {
      frames = c.rest.ensures.frames;
      state = c.rest.ensures.state;
      start = c.rest.ensures.start;
      opened = c.rest.ensures.opened ∙ (c.opened_by-opened.ensures ∙ outside_cond c.args.self.now.frames c.args.self.now.start c.args.self.now.opened c.requires.placed.stands);
      here = c.rest.ensures.here;
    })
