-- What the pieces of a record add to its value.
use Rattle.std.specs.Prelude.{ℕ, List}
use Rattle.std.specs.List.{flat_map}
use Rattle.mos_fields.specs.Values.{samples_text, rev_text, air_text, obj_type_text, time_text}
use Rattle.mos_tables.specs.Events.{Event}
use Rattle.mos_values.specs.declared.piece.Piece.{Piece}
use Rattle.mos_values.specs.declared.piece.Piece.TheVariants as pieces
use Rattle.mos_values.specs.Parts.{must, maybe, maybe_as, must_raw, maybe_raw, raws}
use Rattle.mos_values.specs.Views.{ack_status_text}

abbrev pub piece_events : Piece → List Event
piece_events (pieces.Text f x) = must f x.now
piece_events (pieces.OptionalText f x) = maybe f x.now
piece_events (pieces.OptionalSlug f x) = maybe f x.now
piece_events (pieces.OptionalOptId f x) = maybe f x.now
piece_events (pieces.Samples f n) = must f (samples_text n)
piece_events (pieces.OptionalSamples f n) = maybe_as samples_text f n
piece_events (pieces.OptionalRev f n) = maybe_as rev_text f n
piece_events (pieces.Time f t) = must f (time_text t.now)
piece_events (pieces.OptionalTime f t) = maybe_as time_text f t.now
piece_events (pieces.Air f a) = must f (air_text a)
piece_events (pieces.OptionalAir f a) = maybe_as air_text f a
piece_events (pieces.OptionalObjType f t) = maybe_as obj_type_text f t
piece_events (pieces.AckStatus f s) = must f (ack_status_text s)
piece_events (pieces.Raw f x) = must_raw f x.now
piece_events (pieces.OptionalRaw f x) = maybe_raw f x.now
piece_events (pieces.Raws f xs) = raws f xs.now

unfoldable pub pieces_events : List Piece → List Event
pieces_events ps = flat_map piece_events ps
