use Rattle.std.proofs.Common.{◌≡◌, ◌++◌}
use Rattle.std.specs.Prelude.{string_bytes}
use Rattle.toml.specs.View.{members_view}
use Rattle.settings_help.specs.Known.{unknown_in}
use Rattle.settings_help.proofs.unknown.push_keys.Given as goal

abbrev pub invariant-keys : goal.invariant-keys
invariant-keys l =
    (goal.iterator-keys).can_next l.name-iterator × (goal.iterator-keys).is_finite l.name-iterator
    × (string_bytes l.out ++ unknown_in l.file l.place l.known (members_view l.name-iterator) ≡ string_bytes l.initial.out ++ unknown_in l.file l.place l.known (members_view l.table.entries))
