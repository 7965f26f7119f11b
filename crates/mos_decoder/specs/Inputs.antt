-- What the bytes of an input come to.
use Rattle.std.specs.Prelude.{ℕ, Bool, true, false, cond, List, [], ◌∷◌, length, ◌&&◌, not}
use Rattle.mos_fields.specs.Characters.{units_in}
use Rattle.mos_lexer.specs.declared.kind.Kind.{Kind}
use Rattle.mos_lexer.specs.declared.kind.Kind.TheVariants as kinds
use Rattle.mos_lexer.specs.Units.{Found, StreamRun, reads_stream, rejects_stream, start_stream, stream_units, is_resting}

-- an odd byte stands behind the pairs of bytes
unfoldable pub is_odd : List ℕ → Bool
is_odd [] = false
is_odd (a ∷ []) = true
is_odd (a ∷ b ∷ bs) = is_odd bs

-- What an input comes to that ended: a stream of messages, or messages and then a rejection at a place, with its kind.
pub data Input : Type 0 where
  whole : List Found → Input
  refused : List Found → ℕ → Kind → Input

-- What a stream of so many code units comes to where it ends, behind an odd byte or not: behind the last message only
-- white space and U+FEFF may stand.
abbrev pub ended : ℕ → Bool → StreamRun → Input
ended count odd (reads_stream s) = cond (is_resting s.reader && not odd) (whole s.ready) (refused s.ready count kinds.End)
ended count odd (rejects_stream s place k) = refused s.ready place k

-- what the bytes come to, two to a code unit
abbrev pub input_of : List ℕ → Input
input_of bytes = ended (length (units_in bytes)) (is_odd bytes) (stream_units start_stream (units_in bytes))
