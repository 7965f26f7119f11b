-- The names of both ends of an envelope, before its message.
use Rattle.std.specs.Prelude.{List, [], ◌∷◌}
use Rattle.mos_fields.specs.declared.field.Field.TheVariants as fields
use Rattle.mos_tables.specs.Events.{Event}
use Rattle.mos_values.specs.declared.message.Envelope.{Envelope}
use Rattle.mos_values.specs.Parts.{must, maybe, joined}

unfoldable pub names_events : Envelope → List Event
names_events e = joined (must fields.MosID e.mos ∷ must fields.NcsID e.ncs ∷ maybe fields.MessageID e.message_id ∷ [])
