use Rattle.std.proofs.Common.{ℕ, get_or, sym, ap, ◌∙◌, subst}
use Rattle.world_laws.specs.World.{write_server}
use Rattle.world_parts.specs.declared.connection.Connection.{Connection}
use Rattle.world_parts.specs.Matching.{CarriesEncoded}
use Rattle.world_parts.proofs.Lines.{device-at, line-at, line-put, others-put}
use Rattle.world_parts.proofs.Queues.{on-ok, server-written}
use Rattle.world_parts.proofs.ReadableLines.{written-carries}
use Rattle.world_parts.proofs.connections.write_to_server.Goals as goal

pub returns-in_ok-encoded-in-Some-clause-own : goal.returns-in_ok-encoded-in-Some-clause-own
returns-in_ok-encoded-in-Some-clause-own c =
    let xs = c.args.connections.now in
    let i = c.in-Some.i in
    let x = get_or xs i c.index-connections-i.result in
    let y = c.write_for_server.new.connection in
    let p = c.in-Some.ensures.some in
    let e = ap (get_or xs i) c.index-connections-i.is in
    on-ok c.write_for_server.result c.write_for_server.ensures
    (λ t lines q h o k.
    line-put xs c.args.d c.args.c i y lines (write_server q (lines c.args.c)) p (ap (λ (z : Connection). z.device) t.0 ∙ device-at xs c.args.d c.args.c i x p e)
    (server-written x y c.in_ok-encoded-in-Some.encoded q (lines c.args.c) t.0 t.1 (subst (λ (n : ℕ). CarriesEncoded n c.in_ok-encoded-in-Some.encoded q) (sym (device-at xs c.args.d c.args.c i x p e)) (written-carries c.args.d c.args.packet c.in_ok-encoded-in-Some.encoded q c.in_ok-encoded-in-Some.ensures k)) (line-at xs c.args.d c.args.c i x lines p e h)) h)

pub returns-in_ok-encoded-in-Some-clause-others : goal.returns-in_ok-encoded-in-Some-clause-others
returns-in_ok-encoded-in-Some-clause-others c =
    let xs = c.args.connections.now in
    let i = c.in-Some.i in
    let x = get_or xs i c.index-connections-i.result in
    let y = c.write_for_server.new.connection in
    let p = c.in-Some.ensures.some in
    let e = ap (get_or xs i) c.index-connections-i.is in
    on-ok c.write_for_server.result c.write_for_server.ensures
    (λ t. others-put xs c.args.d c.args.c i x y p e (ap (λ (z : Connection). z.device) t.0 ∙ device-at xs c.args.d c.args.c i x p e))
