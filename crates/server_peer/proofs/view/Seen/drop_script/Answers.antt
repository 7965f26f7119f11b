use Rattle.std.proofs.Common.{◌≡◌, true, refl, sym, ap, ◌∙◌, subst}
use Rattle.mos_edits.specs.Scripts.{without_number}
use Rattle.mos_machines.specs.Server.{view_without}
use Rattle.server_peer.specs.Parts.{HasEarlier, view_with}
use Rattle.server_peer.proofs.NumberLemmas.{others-are, others-earlier}
use Rattle.server_peer.proofs.view.Seen.drop_script.Goals as goal

pub invariant_of-self : goal.invariant_of-self
invariant_of-self c = subst (λ ks. HasEarlier (view_with c.self.inside.held ks)) (sym c.take_out.ensures) (others-earlier c.self.inside.held c.args.k c.self.inside.scripts.items c.self.invariant)

pub returns-in-In : goal.returns-in-In
returns-in-In c =
    let ks = c.self.inside.scripts.items in
    let k = c.args.k in
    ap (view_with c.self.inside.held) (c.take_out.ensures ∙ others-are k ks)
    ∙ (subst (λ h. view_with h (without_number k ks) ≡ view_without true k (view_with h ks)) (sym c.in-In.is) refl
    ∙ ap (view_without true k) c.self.view_is)
