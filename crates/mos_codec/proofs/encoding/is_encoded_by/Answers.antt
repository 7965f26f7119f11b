use Rattle.mos_codec.proofs.Pinning.{encoded_by}
use Rattle.mos_codec.proofs.encoding.is_encoded_by.Goals as goal

pub returns : goal.returns
returns c = encoded_by c.args.bytes.now c.args.e.now c.requires.canonical c.requires.sound c.message_is_in_range.ensures c.is_encoded.ensures
