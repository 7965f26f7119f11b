use Rattle.std.proofs.Common.{◌≡◌, List, length, nat_le, ◌&&◌, refl, sym, ap, ◌∙◌, subst}
use Rattle.std.specs.Vec.{with_items}
use Rattle.std.proofs.lemmas.List.{with_items_is}
use Rattle.mos_edits.specs.Texts.{set_number}
use Rattle.world_scripts.specs.WorldEvents.{direction_of}
use Rattle.world_scripts.specs.declared.outcome.Outcome.TheVariants.{Done}
use Rattle.world_laws.specs.World.{lose}
use Rattle.world_parts.specs.Matching.{MatchesConnections}
use Rattle.world_parts.specs.declared.connection.Connection.{Connection}
use Rattle.world_stage.specs.declared.play.Play.{Play}
use Rattle.world_stage.proofs.Plays.{lost-so}
use Rattle.world_stage.proofs.play.Play.lose.Goals as goal

pub returns-then-lose : goal.returns-then-lose
returns-then-lose c = λ w m.
    let t : Play = c.args.self.now in
    let xs = t.connections.items in
    let u : Play = record { ncs = t.ncs; gateways = t.gateways; connections = with_items t.connections c.lose.new.connections } in
    let told = c.if-lose.ensures in
    let old : c.deref_mut.result.now ≡ xs = c.deref_mut.ensures.value in
    let items : u.connections.items ≡ c.lose.new.connections = with_items_is t.connections c.lose.new.connections (told.count ∙ c.deref_mut.ensures.len) in
    let lost = told.lost refl in
    lost-so t u w c.args.c (direction_of c.args.way) c.args.k Done m (sym (told.there ∙ ap (λ (ys : List Connection). nat_le 1 c.args.c && nat_le c.args.c (length ys)) old)) refl refl (ap length items ∙ (told.count ∙ ap length old))
    (λ d lines k. subst (λ (ys : List Connection). MatchesConnections ys d (set_number lines c.args.c (lose (direction_of c.args.way) c.args.k (lines c.args.c)))) (sym items) (lost d lines (subst (λ (ys : List Connection). MatchesConnections ys d lines) (sym old) k)))
    refl
