use Rattle.std.proofs.Common.{◌≡◌, ◌∷◌, ◌++◌, ◌+◌, drop, codes}
use Rattle.std.specs.Fmt.{decimal}
use Rattle.std.specs.List.{flat_map}
use Rattle.mos_fields.specs.Characters.{Text}
use Rattle.ncs_core.specs.State.{ncs_of}
use Rattle.world_scripts.specs.Lines.{utf8}
use Rattle.world_scripts.specs.Listing.{view_words, line}
use Rattle.state_listing.proofs.server.push_view_lines.Given as goal

abbrev pub invariant-ids : goal.invariant-ids
invariant-ids g l =
    let lines = flat_map (λ (r : Text). line (codes "view" ∷ decimal (l.d + 1) ∷ utf8 r ∷ view_words (((ncs_of l.ncs).peers l.d).views r))) in
    l.out.items ++ lines (drop l.ro-index l.ids) ≡ l.initial.out.items ++ lines l.ids
