-- What a listing says of an event: a text for each outcome, in UTF-8.
use Rattle.std.specs.Prelude.{ℕ, List, ◌∷◌, ◌++◌, codes}
use Rattle.std.specs.List.{flat_map}
use Rattle.std.specs.Char.{encode_utf8}
use Rattle.std.specs.Fmt.{decimal}
use Rattle.mos_fields.specs.Characters.{Text}
use Rattle.world_laws.specs.Outcomes.{Outcome}
use Rattle.world_laws.specs.Outcomes.Outcome.{Impossible, Done, Connection, Nothing, Taken, Unasked, Heartbeat, Edit, Again, Script, AskAll, Ask, ListAll, List as Listed, Ack, Command}

-- a text in UTF-8
abbrev pub utf8 : Text → List ℕ
utf8 x = flat_map encode_utf8 x

-- a word and what follows it, with a space between
abbrev pub spaced : List ℕ → List ℕ → List ℕ
spaced front back = front ++ 32 ∷ back

-- the text of an outcome
abbrev pub outcome_text : Outcome → List ℕ
outcome_text Impossible = codes "-"
outcome_text Done = codes "done"
outcome_text (Connection c) = spaced (codes "connection") (decimal c)
outcome_text Nothing = codes "nothing"
outcome_text Taken = codes "taken"
outcome_text Unasked = codes "unasked"
outcome_text Heartbeat = codes "heartbeat"
outcome_text (Edit ro k) = spaced (codes "edit") (spaced (utf8 ro) (decimal k))
outcome_text (Again ro m) = spaced (codes "again") (spaced (utf8 ro) (decimal m))
outcome_text (Script ro k m) = spaced (codes "script") (spaced (utf8 ro) (spaced (decimal k) (decimal m)))
outcome_text AskAll = codes "roReqAll"
outcome_text (Ask ro) = spaced (codes "roReq") (utf8 ro)
outcome_text (ListAll n) = spaced (codes "roListAll") (decimal n)
outcome_text (Listed ro m) = spaced (codes "roList") (spaced (utf8 ro) (decimal m))
outcome_text (Ack ro text) = spaced (codes "roAck") (spaced (utf8 ro) (utf8 text))
outcome_text (Command text) = utf8 text
