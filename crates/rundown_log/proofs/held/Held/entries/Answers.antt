use Rattle.std.proofs.Common.{take, sym, ap, ◌∙◌, List}
use Rattle.mos_edits.specs.Entries.{Entry}
use Rattle.rundown_log.proofs.HeldLists.{kept-here}
use Rattle.rundown_log.proofs.held.Held.entries.Goals as goal

pub returns : goal.returns
returns c =
    let h = c.self.inside in
    let n = c.count_kept-kept.result in
    ap (λ (xs : List Entry). take n xs) c.deref.ensures.value
    ∙ sym (kept-here c.args.self.now h.standing n h.certain c.len.result h.items.items c.self.view_is c.self.invariant.0 c.self.invariant.1 (c.len.ensures ∙ h.items.ok.0) c.count_kept-kept.ensures)
