use Rattle.std.proofs.Common.{◌≡◌, ◌+◌, ◌≤◌, ◌++◌, length}
use Rattle.std.specs.Prelude.{string_bytes}
use Rattle.toml.specs.View.{items_view}
use Rattle.settings_help.specs.Known.{unknown_in_tables}
use Rattle.settings_help.proofs.unknown.push_tables.Given as goal

abbrev pub decreases-loop-rest : goal.decreases-loop-rest
decreases-loop-rest l = length l.rest

abbrev pub invariant-loop-rest : goal.invariant-loop-rest
invariant-loop-rest l =
    (string_bytes l.out ++ unknown_in_tables l.file l.before (items_view l.rest) ≡ string_bytes l.initial.out ++ unknown_in_tables l.file 0 (items_view l.values))
    × (l.before + length l.rest ≤ length l.values)
