use Rattle.mos_values.specs.Views.{ack_status_text}
use Rattle.mos_values.proofs.Counts.{count_simple}
use Rattle.mos_values.proofs.Simple.{simple_ack_status}
use Rattle.mos_values.proofs.units.ack_status_units.Goals as goal

pub returns : goal.returns
returns c = count_simple c.args.field (ack_status_text c.args.status) c.tags_units.result c.ack_status_len.result c.plus.result (simple_ack_status c.args.status) c.tags_units.ensures c.ack_status_len.ensures c.plus.ensures
