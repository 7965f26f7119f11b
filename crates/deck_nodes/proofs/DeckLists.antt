-- What decks have once they were called.
use Rattle.std.proofs.Common.{◌≡◌, Bool, true, false, List, [], ◌∷◌, Option, Some, None, Result, Ok, Err, is_ok, refl, sym, ap, ◌∙◌, subst, if◌then◌else◌}
use Rattle.mos_edits.specs.Texts.{Text, same_id}
use Rattle.mos_edits.specs.Orders.{Order}
use Rattle.mos_edits.proofs.Identifiers.{same-self, same-true}
use Rattle.mos_machines.specs.Device.{GateState}
use Rattle.deck_rack.specs.Decks.{Answers, AreCalled, DeckView, IsChanged, Row, loaded, marked}
use Rattle.deck_rack.specs.Playlists.{playlist_of}
use Rattle.deck_rack.specs.declared.deck.DeckFault.{DeckFault}
use Rattle.deck_nodes.specs.DeckCalls.{DeckCall, IsDeckCall}
use Rattle.deck_nodes.specs.DeckCalls.DeckCall.{NoCall, Load, Arm, Disarm}
use Rattle.deck_nodes.specs.ExactDecks.{AllTell, AreArmed, HaveLists, HoldsNone, TellsArmed, TellsLists, TellsNothing}
use Rattle.deck_nodes.proofs.Held.{HeldBy}

-- a deck that stayed did what it was told
stayed : (before after : DeckView) (change : Row → Row) (ro : Text) (answer : Result (Unit {0}) DeckFault) → true ≡ is_ok answer → Answers before after change ro answer → IsChanged before.told after.told change ro
stayed before after change ro (Ok done) e h = h.1
stayed before after change ro (Err f) e h = absurd (cc)

module _ {D : Type 0} (view : D → DeckView) where
  called-all : (P Q : Option (Text → Row) → Type 0) (change : Row → Row) (ro : Text) → ((b a : Option (Text → Row)) → IsChanged b a change ro → P b → Q a)
      → (ds left : List D) → AreCalled view change ro ds left → AllTell view P ds → AllTell view Q left
  called-all P Q change ro step [] left e h = subst (AllTell view Q) (sym e) tt
  called-all P Q change ro step (d ∷ ds) left (after, true, rest, call, more, is) h =
      subst (AllTell view Q) (sym is) (
        step (view d).told (view after).told (stayed (view d) (view after) change ro call.answer call.is call.answers) h.0,
        called-all P Q change ro step ds rest more h.1,
      )
  called-all P Q change ro step (d ∷ ds) left (after, false, rest, call, more, is) h = subst (AllTell view Q) (sym is) (called-all P Q change ro step ds rest more h.1)

  each-tells : (P Q : Option (Text → Row) → Type 0) → ((b : Option (Text → Row)) → P b → Q b) → (ds : List D) → AllTell view P ds → AllTell view Q ds
  each-tells P Q step [] h = tt
  each-tells P Q step (d ∷ ds) h = (step (view d).told h.0, each-tells P Q step ds h.1)

module _ (mos : Text) (held after : Text → Option Order) where
  -- a list that was loaded
  loaded-row : (rows : Text → Row) (ro q : Text) (b : Bool) → same_id q ro ≡ b → ((s : Text) → same_id s ro ≡ false → after s ≡ held s) → ((s : Text) → (rows s).list ≡ playlist_of (held s) mos)
      → (if b then loaded (playlist_of (after ro) mos) (rows ro) else rows q).list ≡ playlist_of (after q) mos
  loaded-row rows ro q true e same h = ap (λ (z : Text). playlist_of (after z) mos) (sym (same-true q ro e))
  loaded-row rows ro q false e same h = h q ∙ ap (λ (o : Option Order). playlist_of o mos) (sym (same q e))

  loads : (ro : Text) → ((s : Text) → same_id s ro ≡ false → after s ≡ held s) → (b a : Option (Text → Row)) → IsChanged b a (loaded (playlist_of (after ro) mos)) ro → TellsLists mos held b → TellsLists mos after a
  loads ro same None a e h = subst (TellsLists mos after) (sym e) tt
  loads ro same (Some rows) a e h = subst (TellsLists mos after) (sym e) (λ q. loaded-row rows ro q (same_id q ro) refl same h)

  -- a mark that was set or taken off
  marked-row : (armed : Bool) (rows : Text → Row) (ro q : Text) (b : Bool) → same_id q ro ≡ b → ((s : Text) → after s ≡ held s) → ((s : Text) → (rows s).list ≡ playlist_of (held s) mos)
      → (if b then marked armed (rows ro) else rows q).list ≡ playlist_of (after q) mos
  marked-row armed rows ro q true e same h = h ro ∙ (ap (λ (z : Text). playlist_of (held z) mos) (sym (same-true q ro e)) ∙ ap (λ (o : Option Order). playlist_of o mos) (sym (same q)))
  marked-row armed rows ro q false e same h = h q ∙ ap (λ (o : Option Order). playlist_of o mos) (sym (same q))

  marks : (armed : Bool) (ro : Text) → ((s : Text) → after s ≡ held s) → (b a : Option (Text → Row)) → IsChanged b a (marked armed) ro → TellsLists mos held b → TellsLists mos after a
  marks armed ro same None a e h = subst (TellsLists mos after) (sym e) tt
  marks armed ro same (Some rows) a e h = subst (TellsLists mos after) (sym e) (λ q. marked-row armed rows ro q (same_id q ro) refl same h)

  keeps : ((s : Text) → after s ≡ held s) → (b : Option (Text → Row)) → TellsLists mos held b → TellsLists mos after b
  keeps same None h = tt
  keeps same (Some rows) h = λ q. h q ∙ ap (λ (o : Option Order). playlist_of o mos) (sym (same q))

  -- all lists are those of what is held, after every call
  pub called-lists : {D : Type 0} (view : D → DeckView) (call : DeckCall) (ds left : List D) → HeldBy call held after → IsDeckCall view mos after call ds left → HaveLists view mos held ds → HaveLists view mos after left
  called-lists view NoCall ds left same called h = subst (HaveLists view mos after) (sym called) (each-tells view (TellsLists mos held) (TellsLists mos after) (keeps same) ds h)
  called-lists view (Load ro) ds left same called h = called-all view (TellsLists mos held) (TellsLists mos after) (loaded (playlist_of (after ro) mos)) ro (loads ro same) ds left called h
  called-lists view (Arm ro) ds left same called h = called-all view (TellsLists mos held) (TellsLists mos after) (marked true) ro (marks true ro same) ds left called h
  called-lists view (Disarm ro) ds left same called h = called-all view (TellsLists mos held) (TellsLists mos after) (marked false) ro (marks false ro same) ds left called h

  -- each is armed that was told to be
  arms : (ro : Text) → ((s : Text) → after s ≡ held s) → (b a : Option (Text → Row)) → IsChanged b a (marked true) ro → TellsLists mos held b → TellsArmed mos after ro a
  arms ro same None a e h = subst (TellsArmed mos after ro) (sym e) tt
  arms ro same (Some rows) a e h = subst (TellsArmed mos after ro) (sym e) (
      ap (λ (b : Bool). if b then marked true (rows ro) else rows ro) (same-self ro)
      ∙ ap (λ l. record { list = l; armed = true }) (h ro ∙ ap (λ (o : Option Order). playlist_of o mos) (sym (same ro))))

  pub called-armed : {D : Type 0} (view : D → DeckView) (ro : Text) (ds left : List D) → ((s : Text) → after s ≡ held s) → AreCalled view (marked true) ro ds left → HaveLists view mos held ds → AreArmed view mos after ro left
  called-armed view ro ds left same called h = called-all view (TellsLists mos held) (TellsArmed mos after ro) (marked true) ro (arms ro same) ds left called h

-- decks without lists have those of a gateway that holds no order
nothing-tells : (mos : Text) (g : GateState) → HoldsNone g → (b : Option (Text → Row)) → TellsNothing b → TellsLists mos g.held b
nothing-tells mos g none None h = tt
nothing-tells mos g none (Some rows) h = λ q. h q ∙ ap (λ (o : Option Order). playlist_of o mos) (sym (none q))

pub empty-lists : {D : Type 0} (view : D → DeckView) (mos : Text) (g : GateState) (ds : List D) → HoldsNone g → AllTell view TellsNothing ds → HaveLists view mos g.held ds
empty-lists view mos g ds none h = each-tells view TellsNothing (TellsLists mos g.held) (nothing-tells mos g none) ds h
