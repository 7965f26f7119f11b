-- What may come next, as the one who reads the characters has to know it.
use Rattle.std.specs.Prelude.{Bool, true, false}
use Rattle.mos_grammar.specs.RecordMachine.{State, at, complete, between, in_field, behind_text, in_raw}
use Rattle.mos_grammar.specs.Streams.{before_message, before_prolog, behind_mark, behind_declaration, inside}
use Rattle.mos_elements.specs.Standing.{Standing, reads, failed}

-- in front of a message
abbrev pub stands_outside : Standing → Bool
stands_outside (reads (before_message g)) = true
stands_outside (reads (inside s)) = false
stands_outside (failed k) = false

-- in front of a message, behind no declaration
abbrev pub may_stay : Standing → Bool
may_stay (reads (before_message before_prolog)) = true
may_stay (reads (before_message behind_mark)) = true
may_stay (reads (before_message behind_declaration)) = false
may_stay (reads (inside s)) = false
may_stay (failed k) = false

-- in a raw element, the rest of which comes as one token
abbrev pub is_in_raw : State → Bool
is_in_raw (at between f fs) = false
is_in_raw (at (in_field n o) f fs) = false
is_in_raw (at (behind_text n o es) f fs) = false
is_in_raw (at (in_raw n p tag) f fs) = true
is_in_raw (complete v) = false

abbrev pub stands_in_raw : Standing → Bool
stands_in_raw (reads (before_message g)) = false
stands_in_raw (reads (inside s)) = is_in_raw s
stands_in_raw (failed k) = false
