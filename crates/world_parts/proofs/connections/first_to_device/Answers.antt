use Rattle.std.proofs.Common.{ℕ, get_or, ap, ◌∙◌, subst}
use Rattle.std.proofs.lemmas.Option.{IfSome_then}
use Rattle.world_laws.specs.World.{rest}
use Rattle.world_parts.specs.declared.connection.Connection.{Connection}
use Rattle.world_parts.specs.Matching.{CarriesEncoded}
use Rattle.world_parts.proofs.Lines.{device-at, line-at, line-put, others-put, put-same}
use Rattle.world_parts.proofs.Queues.{on-none, device-kept, device-front, device-taken}
use Rattle.world_parts.proofs.ReadableLines.{first-readable, readable-at}
use Rattle.world_parts.proofs.connections.first_to_device.Goals as goal

pub returns-in-Some-clause-none : goal.returns-in-Some-clause-none
returns-in-Some-clause-none c =
    let xs = c.args.connections.now in
    let i = c.in-Some.i in
    let x = get_or xs i c.index-connections-i.result in
    let y = c.take_for_device.new.connection in
    let p = c.in-Some.ensures.some in
    let e = ap (get_or xs i) c.index-connections-i.is in
    on-none c.take_for_device.result c.take_for_device.ensures.none
    (λ t. (put-same xs i x y e t.0, λ lines h o. device-front x (lines c.args.c) t.1 (line-at xs c.args.d c.args.c i x lines p e h)))

pub returns-in-Some-clause-some : goal.returns-in-Some-clause-some
returns-in-Some-clause-some c =
    let xs = c.args.connections.now in
    let i = c.in-Some.i in
    let x = get_or xs i c.index-connections-i.result in
    let y = c.take_for_device.new.connection in
    let p = c.in-Some.ensures.some in
    let e = ap (get_or xs i) c.index-connections-i.is in
    IfSome_then c.take_for_device.result c.take_for_device.ensures.some
    (λ k t lines h.
    let f = device-taken x y k (lines c.args.c) t.0 t.1 (line-at xs c.args.d c.args.c i x lines p e h) in (
      f.0,
      f.1,
      subst (λ (n : ℕ). CarriesEncoded n k f.0) (device-at xs c.args.d c.args.c i x p e) f.2,
      line-put xs c.args.d c.args.c i y lines (record (lines c.args.c) { to_device = rest (lines c.args.c).to_device }) p (ap (λ (z : Connection). z.device) t.0 ∙ device-at xs c.args.d c.args.c i x p e) f.3 h,
    ))

pub returns-in-Some-clause-others : goal.returns-in-Some-clause-others
returns-in-Some-clause-others c =
    let xs = c.args.connections.now in
    let i = c.in-Some.i in
    let x = get_or xs i c.index-connections-i.result in
    let y = c.take_for_device.new.connection in
    let p = c.in-Some.ensures.some in
    let e = ap (get_or xs i) c.index-connections-i.is in
    others-put xs c.args.d c.args.c i x y p e (device-kept c.take_for_device.result x y c.take_for_device.ensures.none c.take_for_device.ensures.some ∙ device-at xs c.args.d c.args.c i x p e)

pub returns-in-Some-clause-readable : goal.returns-in-Some-clause-readable
returns-in-Some-clause-readable c =
    let xs = c.args.connections.now in
    let i = c.in-Some.i in
    let x = get_or xs i c.index-connections-i.result in
    let y = c.take_for_device.new.connection in
    let p = c.in-Some.ensures.some in
    let e = ap (get_or xs i) c.index-connections-i.is in
    IfSome_then c.take_for_device.result c.take_for_device.ensures.some
    (λ k t r. first-readable k y.to_device.items x.to_device.items t.1 (readable-at xs c.args.d c.args.c i x p e r).0)
