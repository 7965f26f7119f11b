use Rattle.encoding_laws.proofs.TextLaws.{slugs_back}
use Rattle.encoding_laws.proofs.texts.slugs_are_read_back.Goals as goal

pub returns : goal.returns
returns c = slugs_back
