use Rattle.std.proofs.Common.{◌≡◌, ◌++◌, take}
use Rattle.script_edits.proofs.names.push_chars.Given as goal

abbrev pub invariant-loop-byte : goal.invariant-loop-byte
invariant-loop-byte l = l.chars.items ≡ l.initial.chars.items ++ take l.byte-index l.word
