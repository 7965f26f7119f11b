use Rattle.std.proofs.Common.{◌≡◌, ℕ, ◌++◌, List, length}
use Rattle.script_reader.specs.Readers.{HasRead}
use Rattle.script_reader.proofs.reader.ScriptReader.feed.Given as goal

abbrev pub invariant-line : goal.invariant-line
invariant-line l = record {
  front : List ℕ;
  parts : l.piece ≡ front ++ l.rest;
  read : (before : List ℕ) → HasRead l.initial.self before → HasRead l.self (before ++ front);
}

abbrev pub decreases-line : goal.decreases-line
decreases-line l = length l.rest
