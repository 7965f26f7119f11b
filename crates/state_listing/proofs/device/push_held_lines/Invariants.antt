use Rattle.std.proofs.Common.{◌≡◌, ◌∷◌, ◌++◌, ◌+◌, drop, codes}
use Rattle.std.specs.Fmt.{decimal}
use Rattle.std.specs.List.{flat_map}
use Rattle.mos_fields.specs.Characters.{Text}
use Rattle.mos_machines.specs.Tables.{look, gate_of}
use Rattle.world_scripts.specs.Lines.{utf8}
use Rattle.world_scripts.specs.Listing.{phase_word, order_words, line}
use Rattle.state_listing.proofs.device.push_held_lines.Given as goal

abbrev pub invariant-ids : goal.invariant-ids
invariant-ids l =
    let lines = flat_map (λ (r : Text). line (codes "held" ∷ decimal (l.d + 1) ∷ utf8 r ∷ phase_word ((gate_of l.gate).phase r) ∷ decimal (look 0 l.applied r) ∷ order_words ((gate_of l.gate).held r))) in
    l.out.items ++ lines (drop l.ro-index l.ids) ≡ l.initial.out.items ++ lines l.ids
