use Rattle.std.proofs.Common.{take, refl, ◌∙◌}
use Rattle.std.proofs.lemmas.List.{with_items_is}
use Rattle.line_reader.proofs.StepLemmas.{all_room, piece_read}
use Rattle.line_reader.proofs.reader.LineReader.read.Goals as goal

pub returns-in-Ok-clause-stepped : goal.returns-in-Ok-clause-stepped
returns-in-Ok-clause-stepped g c l lines h =
    piece_read l _ _ c.args.self.now _ lines (take c.in-Ok.count c.read.new.buf) c.requires.spent
    (all_room c.in-Ok.count _ c.read.new.buf (with_items_is c.args.self.now.piece c.read.new.buf (c.read.auto.buf ∙ c.deref_mut.ensures.len))) refl refl c.in-Ok.ensures.taken h
