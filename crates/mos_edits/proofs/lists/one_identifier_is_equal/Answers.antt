use Rattle.mos_edits.proofs.Identifiers.{same-true, same-self}
use Rattle.mos_edits.proofs.lists.one_identifier_is_equal.Goals as goal

pub returns : goal.returns
returns c = record { only_equal = same-true; itself = same-self }
