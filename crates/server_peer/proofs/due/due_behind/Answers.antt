use Rattle.std.proofs.Common.{sym, ◌∙◌, ◌≤◌, length, arith}
use Rattle.std.proofs.lemmas.Bool.Decides.{nat_tests}
use Rattle.server_peer.proofs.LookLemmas.{look-begun, look-passed, look-found, look-ended}
use Rattle.server_peer.proofs.due.due_behind.Goals as goal

pub places-init : goal.places-init
places-init c = look-begun c.args.journal.now c.args.views.now c.has_ascending_ids.ensures c.args.from c.requires

pub returns-in-Some : goal.returns-in-Some
returns-in-Some c = sym (look-found c.args.journal.now c.args.views.now c.has_ascending_ids.ensures c.places.place c.in-Some.due (sym c.due_here.ensures ∙ c.in-Some.is) c.places.invariant)

pub places-preserved : goal.places-preserved
places-preserved c = look-passed c.args.journal.now c.args.views.now c.has_ascending_ids.ensures c.places.place (sym c.due_here.ensures ∙ c.in-None.is) c.places.invariant

pub returns : goal.returns
returns c =
    let f = c.places-test.false in
    let n = c.len.ensures in
    let l : length c.args.journal.now ≤ c.places.place = grind (arith, nat_tests, f, n) in
    sym (look-ended c.args.journal.now c.args.views.now c.has_ascending_ids.ensures c.places.place l c.places.invariant)
