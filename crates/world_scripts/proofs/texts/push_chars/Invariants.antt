use Rattle.std.proofs.Common.{◌≡◌, ◌++◌, take}
use Rattle.std.specs.Prelude.{string_bytes}
use Rattle.world_scripts.specs.Lines.{utf8}
use Rattle.world_scripts.proofs.texts.push_chars.Given as goal

abbrev pub invariant-loop-c : goal.invariant-loop-c
invariant-loop-c l = string_bytes l.line ≡ string_bytes l.initial.line ++ utf8 (take l.c-index l.chars)
