use Rattle.mos_forms.proofs.FormLemmas.{reads_is}
use Rattle.mos_forms.proofs.laws.texts_are_read_beside_keys.Goals as goal

pub returns : goal.returns
returns c = reads_is
