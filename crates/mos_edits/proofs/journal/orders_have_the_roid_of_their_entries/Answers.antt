use Rattle.mos_edits.proofs.Names.{named-at, edit-named}
use Rattle.mos_edits.proofs.journal.orders_have_the_roid_of_their_entries.Goals as goal

pub returns : goal.returns
returns c = record { orders = named-at; edits = edit-named }
