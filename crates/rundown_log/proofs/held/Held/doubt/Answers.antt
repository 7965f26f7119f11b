use Rattle.std.proofs.Common.{◌≡◌, ◌≤◌, length, take, ◌∙◌}
use Rattle.rundown_log.specs.Memory.{held_kept}
use Rattle.rundown_log.proofs.HeldLists.{kept-within, kept-here, doubt-is}
use Rattle.rundown_log.proofs.held.Held.doubt.Goals as goal

pub returns-clause-ok : goal.returns-clause-ok
returns-clause-ok c =
    let h = c.self.inside in
    let n = c.count_kept-kept.result in
    let len = c.len.ensures ∙ h.items.ok.0 in
    let within : n ≤ length h.items.items = kept-within h.standing n h.certain c.len.result h.items.items len c.self.invariant.0 c.count_kept-kept.ensures in
    let kept : held_kept c.args.self.now ≡ take n h.items.items = kept-here c.args.self.now h.standing n h.certain c.len.result h.items.items c.self.view_is c.self.invariant.0 c.self.invariant.1 len c.count_kept-kept.ensures in
    doubt-is c.args.self.now c.args.stands n h.items.items c.put_behind.new.items.items kept within c.args.entry c.in_ok-put_behind.ensures.ok
