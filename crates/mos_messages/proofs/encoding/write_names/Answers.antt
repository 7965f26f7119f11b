use Rattle.std.proofs.Common.{◌≡◌, ◌∙◌}
use Rattle.mos_writer.proofs.EncodedLemmas.{renamed}
use Rattle.mos_messages.proofs.Parts.{names_are}
use Rattle.mos_messages.proofs.encoding.write_names.Goals as goal

pub returns : goal.returns
returns c = renamed _ _ _ _ (c.name_pieces.ensures ∙ names_are c.args.e.now) c.in_ok-write_pieces.ensures
