use Rattle.std.proofs.Common.{◌≡◌, ◌++◌, ◌∷◌, [], drop, sym, ap, ◌∙◌}
use Rattle.std.specs.Prelude.{string_bytes}
use Rattle.stream_commands.proofs.TextLemmas.{nine_pieces}
use Rattle.stream_commands.proofs.lines.push_message.Goals as goal
