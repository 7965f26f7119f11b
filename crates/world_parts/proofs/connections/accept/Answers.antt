use Rattle.std.proofs.Common.{get_or, true, sym, ap, ◌∙◌}
use Rattle.world_parts.specs.declared.connection.Connection.{Connection}
use Rattle.world_parts.specs.Matching.{opener_of}
use Rattle.world_parts.proofs.Lines.{device-at, line-at, line-put, put-same}
use Rattle.world_parts.proofs.Queues.{accepted-matches, opener-same}
use Rattle.world_parts.proofs.connections.accept.Goals as goal

-- the connection, and what it stands for
pub returns-in-Some-clause-done : goal.returns-in-Some-clause-done
returns-in-Some-clause-done c = λ r lines h.
    let xs = c.args.connections.now in
    let i = c.in-Some.i in
    let x = get_or xs i c.index-connections-i.result in
    let y = c.accept_at.new.connection in
    let p = c.in-Some.ensures.some in
    let e = ap (get_or xs i) c.index-connections-i.is in
    let t = c.accept_at.ensures.done r in
    let m = line-at xs c.args.d c.args.c i x lines p e h in (
      sym m.opener ∙ ap opener_of t.0,
      sym m.accepted ∙ t.1,
      line-put xs c.args.d c.args.c i y lines (record (lines c.args.c) { accepted = true }) p (ap (λ (z : Connection). z.device) t.2 ∙ device-at xs c.args.d c.args.c i x p e) (accepted-matches x y (lines c.args.c) t.2 m) h,
    )

pub returns-in-Some-clause-not : goal.returns-in-Some-clause-not
returns-in-Some-clause-not c = λ r.
    let xs = c.args.connections.now in
    let i = c.in-Some.i in
    let x = get_or xs i c.index-connections-i.result in
    let y = c.accept_at.new.connection in
    let p = c.in-Some.ensures.some in
    let e = ap (get_or xs i) c.index-connections-i.is in
    let t = c.accept_at.ensures.not r in (
      put-same xs i x y e t.0,
      λ lines h o. let m = line-at xs c.args.d c.args.c i x lines p e h in sym m.accepted ∙ t.1 (opener-same x.opener c.args.opener (m.opener ∙ o)),
    )
