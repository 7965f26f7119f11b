use Rattle.std.proofs.Common.{◌≡◌, ◌++◌, take}
use Rattle.device_answers.specs.Taking.{wide}
use Rattle.device_answers.proofs.wide.push_wide.Given as goal

abbrev pub invariant-loop-byte : goal.invariant-loop-byte
invariant-loop-byte l = l.out.items ≡ l.initial.out.items ++ wide (take l.byte-index l.bytes)
