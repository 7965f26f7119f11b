use Rattle.mos_action_reading.proofs.IdentifierLemmas.{all_ids, ids_read}
use Rattle.mos_action_reading.proofs.identifiers.ids_of.Goals as goal

pub read_ids-requires : goal.read_ids-requires
read_ids-requires c = all_ids _ c.requires

pub returns : goal.returns
returns c = λ f. ids_read f _ _ c.requires c.in_ok-ids.ensures
