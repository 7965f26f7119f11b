use Rattle.std.proofs.Common.{◌≡◌, ◌++◌, take}
use Rattle.std.specs.Prelude.{string_bytes}
use Rattle.program_ends.specs.Paths.{utf8}
use Rattle.program_ends.proofs.files.push_chars.Given as goal

abbrev pub invariant-loop-c : goal.invariant-loop-c
invariant-loop-c l = string_bytes l.name ≡ string_bytes l.initial.name ++ utf8 (take l.c-index l.chars)
