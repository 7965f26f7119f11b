use Rattle.mos_writer.specs.Encoded.{start_with_bytes}
use Rattle.mos_writer.proofs.EncodedLemmas.{two, three}
use Rattle.mos_writer.proofs.fields.push_start_with.Goals as goal

pub returns : goal.returns
unfolding start_with_bytes
returns c = two _ _ _ _ _ (three _ _ _ _ _ _ _ c.in_ok-push_front.ensures c.in_ok-push_attribute.ensures c.in_ok-push_word.ensures) c.in_ok-push_ascii.ensures
