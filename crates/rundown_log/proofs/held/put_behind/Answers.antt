use Rattle.std.proofs.Common.{◌≤◌, suc, length, set, ap, ◌∙◌, arith}
use Rattle.mos_edits.specs.Entries.{Entry}
use Rattle.rundown_log.proofs.HeldLists.{put-in}
use Rattle.rundown_log.proofs.held.put_behind.Goals as goal

pub returns-then-n-len-clause-ok : goal.returns-then-n-len-clause-ok
returns-then-n-len-clause-ok c =
    let xs = c.args.items.now in
    let there : suc c.args.n ≤ length xs.items = let len = c.len.ensures ∙ xs.ok.0 in omega (arith, len, c.if-n-len.true) in
    ap (λ (x : Entry). set xs.items c.args.n x) c.replace.ensures.after ∙ put-in c.args.n xs.items c.args.entry c.requires.least c.requires.most there
