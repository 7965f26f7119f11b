use Rattle.std.proofs.Common.{◌≡◌, ◌≤◌, length, take, ◌∙◌}
use Rattle.rundown_log.specs.Memory.{held_kept}
use Rattle.rundown_log.proofs.HeldLists.{kept-within, kept-here, closed-is}
use Rattle.rundown_log.proofs.held.Held.close.Goals as goal

pub returns : goal.returns
returns c =
    let h = c.self.inside in
    let n = c.count_kept-kept.result in
    let len = c.len.ensures ∙ h.items.ok.0 in
    let within : n ≤ length h.items.items = kept-within h.standing n h.certain c.len.result h.items.items len c.self.invariant.0 c.count_kept-kept.ensures in
    let kept : held_kept c.args.self.now ≡ take n h.items.items = kept-here c.args.self.now h.standing n h.certain c.len.result h.items.items c.self.view_is c.self.invariant.0 c.self.invariant.1 len c.count_kept-kept.ensures in
    closed-is c.args.self.now h.standing n h.items.items c.truncate.new.self.items kept within c.truncate.ensures.items
