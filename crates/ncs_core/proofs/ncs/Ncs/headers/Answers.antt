use Rattle.std.proofs.Common.{◌≡◌, List, IfOk, ap, subst, ◌∙◌}
use Rattle.mos_edits.specs.Orders.{HeaderPatch}
use Rattle.mos_edits.specs.Entries.{headers}
use Rattle.ncs_core.specs.State.{NcsTables, row_headers}
use Rattle.ncs_core.proofs.HeaderRows.{rows-headers}
use Rattle.ncs_core.proofs.ncs.Ncs.headers.Goals as goal

pub returns : goal.returns
returns g c =
    subst (λ (all : List HeaderPatch). IfOk c.headers_in.result (λ (hs : List HeaderPatch). hs ≡ all))
    (ap row_headers c.rows.ensures ∙ (rows-headers c.self.inside.journal c.self.inside.orders c.self.invariant.0 c.has_ascending_ids.ensures ∙ ap (λ (n : NcsTables _). headers n.server.journal) c.self.view_is))
    c.headers_in.ensures
