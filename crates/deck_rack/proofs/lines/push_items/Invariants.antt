use Rattle.std.proofs.Common.{◌≡◌, ◌++◌, take}
use Rattle.std.specs.Prelude.{string_bytes}
use Rattle.deck_rack.specs.Lines.{item_words}
use Rattle.deck_rack.proofs.lines.push_items.Given as goal

abbrev pub invariant-items : goal.invariant-items
invariant-items l = string_bytes l.line ≡ string_bytes l.initial.line ++ item_words (take l.play-index l.list)
