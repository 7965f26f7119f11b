use Rattle.std.proofs.Common.{◌≡◌, ◌+◌, List, [], refl, sym, ◌∙◌, subst}
use Rattle.std.proofs.lemmas.List.{with_items_is}
use Rattle.std.specs.Vec.{with_items}
use Rattle.mos_edits.specs.Texts.{set_number}
use Rattle.world_laws.specs.World.{new_connection, own_beat, write_device}
use Rattle.world_laws.specs.World.Opener.{TheServer}
use Rattle.world_parts.specs.Matching.{MatchesConnections}
use Rattle.world_parts.specs.declared.connection.Connection.{Connection}
use Rattle.world_stage.proofs.ServerSaid.{fresh-opened, opened-step}
use Rattle.world_stage.proofs.Tables.{leaves-written}
use Rattle.world_stage.proofs.server_events.open_to.Goals as goal

pub returns-clause-server : goal.returns-clause-server
returns-clause-server c = leaves-written c.args.ncs.now c.upper_opened.new.self c.args.d _ c.upper_opened.ensures.step c.upper_opened.ensures.rest

pub returns-clause-step : goal.returns-clause-step
returns-clause-step c = λ l p m.
    let lines = set_number l.connections c.in_ok-c.c (new_connection TheServer []) in
    let opened : MatchesConnections c.deref_mut.result.now (c.args.d + 1) lines = subst (λ (xs : List Connection). MatchesConnections xs (c.args.d + 1) lines) (sym c.deref_mut.ensures.value) (c.in_ok-c.ensures.own l.connections m) in
    let wrote = c.in_ok-write_to_device.ensures.own lines own_beat opened (fresh-opened l.connections c.in_ok-c.c) c.own_beat.ensures in
    let whole : (with_items c.open.new.connections c.write_to_device.new.connections).items ≡ c.write_to_device.new.connections = with_items_is c.open.new.connections c.write_to_device.new.connections (c.in_ok-write_to_device.ensures.count ∙ c.deref_mut.ensures.len) in
    opened-step l c.args.ncs.now c.upper_opened.new.self (with_items c.open.new.connections c.write_to_device.new.connections).items c.args.d c.in_ok-c.c _ _ c.in_ok-c.ensures.number p c.upper_opened.ensures.step
    (subst (λ (xs : List Connection). MatchesConnections xs (c.args.d + 1) (set_number lines c.in_ok-c.c (write_device own_beat (lines c.in_ok-c.c)))) (sym whole) wrote) refl
