-- What stands in front of a line.
use Rattle.std.specs.Prelude.{ℕ, Bool, true, false, List, [], ◌++◌, Option, Some, None, codes}
use Rattle.mos_fields.specs.Values.{time_text}
use Rattle.mos_fields.specs.declared.time.MosTime.{MosTime}
use Rattle.line_texts.specs.Texts.{printed_text}

-- the mark by which systemd's journal knows a line that warns
abbrev pub mark_text : Bool → List ℕ
mark_text true = codes "<4>"
mark_text false = []

-- a time and a space, or nothing where the time isn't known
abbrev pub stamp_text : Option MosTime → List ℕ
stamp_text None = []
stamp_text (Some t) = printed_text (time_text t) ++ codes " "

-- a line as it is said at a time
abbrev pub said_text : Bool → Option MosTime → List ℕ → List ℕ
said_text warns now line = mark_text warns ++ stamp_text now ++ line
