use Rattle.mos_reader.proofs.TokenLemmas.{text_stops}
use Rattle.mos_reader.proofs.reading.Reading.take_text_and_mark.Goals as goal

pub unreachable-requires : goal.unreachable-requires
unreachable-requires c = text_stops c.args.self.now.frames c.take.new.self _ _ _ c.in-Ok-Whole.field-0 c.requires.placed.stands (c.in-Ok-Whole.ensures {u = tt}) c.text.ensures.token c.in-Ok-Whole.field-0-is
