-- The lines that are said of connections.
use Rattle.std.specs.Prelude.{ℕ, List, [], ◌∷◌, ◌++◌, codes}
use Rattle.std.specs.Fmt.{decimal}
use Rattle.mos_fields.specs.Characters.{Text}
use Rattle.port_events.specs.declared.event.Side.{Side}
use Rattle.port_events.specs.declared.event.Side.TheVariants.{Upper, Lower, Editor}
use Rattle.port_session.specs.declared.end.End.{End}
use Rattle.port_session.specs.declared.end.End.TheVariants.{Closed, Truncated, BadMessage, ReadFault, WriteFault, Budget, Stale, Unasked, Stopped, NoMemory}
use Rattle.line_texts.specs.Texts.{printed_text, refused_line}

abbrev pub side_text : Side → List ℕ
side_text Upper = codes "upper"
side_text Lower = codes "lower"
side_text Editor = codes "editor"

-- a device's name with a space before it, or nothing where there is none
abbrev pub device_text : Text → List ℕ
device_text [] = []
device_text (c ∷ cs) = 32 ∷ printed_text (c ∷ cs)

-- a machine and a TCP port
abbrev pub place_text : Text → ℕ → List ℕ
place_text host port = printed_text host ++ (58 ∷ decimal port)

-- Why a connection ended, to the end of its line. Of a stream that is refused it has the words that `mos_replay` has.
abbrev pub end_text : End → List ℕ
end_text Closed = codes "Closed\n"
end_text (Truncated bytes) = codes "Truncated " ++ decimal bytes ++ 10 ∷ []
end_text (BadMessage place kind) = refused_line place kind
end_text ReadFault = codes "ReadFault\n"
end_text WriteFault = codes "WriteFault\n"
end_text Budget = codes "Budget\n"
end_text Stale = codes "Stale\n"
end_text Unasked = codes "Unasked\n"
end_text Stopped = codes "Stopped\n"
end_text NoMemory = codes "NoMemory\n"

-- a connection, by its number
abbrev pub numbered_text : ℕ → List ℕ
numbered_text number = codes "connection " ++ decimal number

-- a port and a device, with a space before each
abbrev pub at_text : Side → Text → List ℕ
at_text side device = codes " " ++ side_text side ++ device_text device

-- a connection, by its number, its port and its device
abbrev pub connection_text : ℕ → Side → Text → List ℕ
connection_text number side device = numbered_text number ++ at_text side device

-- a peer opened a connection
abbrev pub accepted_line : ℕ → Side → List ℕ → List ℕ
accepted_line number side peer = connection_text number side [] ++ codes " from " ++ peer ++ 10 ∷ []

-- this end opened one
abbrev pub dialed_line : ℕ → Side → Text → Text → ℕ → List ℕ
dialed_line number side device host port = connection_text number side device ++ codes " to " ++ place_text host port ++ 10 ∷ []

-- it ended
abbrev pub ended_line : ℕ → Side → Text → End → List ℕ
ended_line number side device end = connection_text number side device ++ codes " ended: " ++ end_text end

-- none could be opened
abbrev pub failed_line : Side → Text → Text → ℕ → List ℕ → List ℕ
failed_line side device host port cause = codes "dial " ++ side_text side ++ device_text device ++ codes " to " ++ place_text host port ++ codes " failed: " ++ cause ++ 10 ∷ []

-- a port takes no connections, and takes some again
abbrev pub stalled_line : Side → List ℕ → List ℕ
stalled_line side cause = codes "port " ++ side_text side ++ codes " can't take connections: " ++ cause ++ 10 ∷ []

abbrev pub works_line : Side → List ℕ
works_line side = codes "port " ++ side_text side ++ codes " takes connections again\n"

-- a device was silent for so many seconds
abbrev pub silent_line : Side → Text → ℕ → List ℕ
silent_line side device seconds = side_text side ++ device_text device ++ codes " hasn't answered for " ++ decimal seconds ++ codes " s\n"

-- a port has so many connections and takes no more
abbrev pub full_line : Side → ℕ → List ℕ
full_line side count = codes "port " ++ side_text side ++ codes " has " ++ decimal count ++ codes " connections and takes no more\n"

-- a port ended, since a connection couldn't be served
abbrev pub shut_line : Side → List ℕ
shut_line side = codes "port " ++ side_text side ++ codes " ended, with no memory or thread for a connection; the program ends\n"

-- no thread can be made, and some can again
abbrev pub waits_line : List ℕ
waits_line = codes "no thread can be made for a connection; it waits\n"

abbrev pub threads_line : List ℕ
threads_line = codes "threads can be made again\n"

-- whose a connection is
abbrev pub known_line : ℕ → Side → Text → List ℕ
known_line number side device = connection_text number side [] ++ codes " is" ++ device_text device ++ codes "\n"

-- whose it is said to be
abbrev pub stranger_line : ℕ → Side → Text → List ℕ
stranger_line number side device = connection_text number side [] ++ codes " is" ++ device_text device ++ codes ", which the settings don't have\n"

-- nothing came on a connection for so many seconds
abbrev pub quiet_line : ℕ → Side → ℕ → List ℕ
quiet_line number side seconds = connection_text number side [] ++ codes " sent nothing for " ++ decimal seconds ++ codes " s\n"

-- what the first bytes of a connection look like that are no message
abbrev pub hint_line : ℕ → Side → List ℕ → List ℕ
hint_line number side hint = connection_text number side [] ++ codes ": " ++ hint ++ 10 ∷ []
