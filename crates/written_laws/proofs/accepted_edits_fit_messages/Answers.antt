use Rattle.written_laws.proofs.Accepted.{edit-short, order-short, orders-short}
use Rattle.written_laws.proofs.accepted_edits_fit_messages.Goals as goal

pub returns : goal.returns
returns c = record { edit = edit-short; order = order-short; orders = orders-short }
