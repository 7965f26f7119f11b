-- Worked runs: what goes out to the device as edits. Each begins with a session that is opened, in which entry 0, the order of
-- A, B and C, went out.
use Rattle.std.proofs.Common.{◌≡◌, List, [], ◌∷◌, true, false, refl}
use Rattle.mos_edits.specs.Texts.{same_id}
use Rattle.mos_edits.specs.Orders.{apply}
use Rattle.mos_edits.specs.Entries.{over_limit}
use Rattle.mos_edits.specs.declared.edit.Edit.TheVariants.{Act, Air, Replace}
use Rattle.mos_values.specs.declared.action.Action.TheVariants.{SwapStories}
use Rattle.mos_fields.specs.declared.air.Air.TheVariants.{Ready}
use Rattle.world_laws.specs.World.{WorldEvent, own_time}
use Rattle.world_laws.specs.World.WorldEvent.{Command, AtDevice, FailNext, Restart}
use Rattle.world_laws.specs.World.PairingEvent.{OpenTo, Accept, Cut, Send, Read, Back, Dial, Admit, Ask, Hear, Got, Hangup, Want}
use Rattle.world_laws.proofs.RunWords.{a, c, d, r, plain, body, opened}
use Rattle.sending_laws.specs.Sends.{entries_sent, readies_sent_again, lists_told}

-- `examples/cut.script`: the edit is lost with its connection. The device has it from a list, and is never sent it again.
abbrev cut_in_a_swap : List WorldEvent
cut_in_a_swap =
    Command (record { ro = r; edit = Act r (SwapStories a c) }) ∷
    AtDevice 1 Send ∷
    AtDevice 1 Cut ∷
    AtDevice 1 (Want r) ∷
    AtDevice 1 Ask ∷
    AtDevice 1 Hear ∷
    AtDevice 1 Got ∷
    AtDevice 1 OpenTo ∷
    AtDevice 1 Ask ∷
    AtDevice 1 Hear ∷
    AtDevice 1 Got ∷
    AtDevice 1 (Accept 3) ∷
    AtDevice 1 Read ∷
    AtDevice 1 Back ∷
    AtDevice 1 Ask ∷
    AtDevice 1 Hear ∷
    AtDevice 1 Got ∷
    AtDevice 1 Ask ∷
    AtDevice 1 Hear ∷
    AtDevice 1 Got ∷
    AtDevice 1 Ask ∷
    AtDevice 1 Hear ∷
    AtDevice 1 Got ∷
    AtDevice 1 Send ∷
    AtDevice 1 Read ∷ []

cut_in_a_swap_sends : (entries_sent 1 r opened cut_in_a_swap ≡ 1 ∷ []) × (lists_told 1 r opened cut_in_a_swap ≡ 2 ∷ []) × (readies_sent_again 1 r opened cut_in_a_swap ≡ [])
unfolding same_id apply over_limit own_time
cut_in_a_swap_sends = (refl, refl, refl)

-- The server restarts while an edit is on its way: the device has it from a list, and the next entry is sent behind it.
abbrev restart_in_a_swap : List WorldEvent
restart_in_a_swap =
    Command (record { ro = r; edit = Act r (SwapStories a c) }) ∷
    AtDevice 1 Send ∷
    Restart false ∷
    AtDevice 1 Hangup ∷
    AtDevice 1 OpenTo ∷
    AtDevice 1 (Accept 3) ∷
    AtDevice 1 Read ∷
    AtDevice 1 Back ∷
    AtDevice 1 Send ∷
    AtDevice 1 Dial ∷
    AtDevice 1 (Admit 4) ∷
    AtDevice 1 Ask ∷
    AtDevice 1 Hear ∷
    AtDevice 1 Got ∷
    AtDevice 1 Ask ∷
    AtDevice 1 Hear ∷
    AtDevice 1 Got ∷
    AtDevice 1 Ask ∷
    AtDevice 1 Hear ∷
    AtDevice 1 Got ∷
    AtDevice 1 Send ∷
    Command (record { ro = r; edit = Act r (SwapStories a c) }) ∷
    AtDevice 1 Send ∷ []

restart_in_a_swap_sends : (entries_sent 1 r opened restart_in_a_swap ≡ 1 ∷ 2 ∷ []) × (lists_told 1 r opened restart_in_a_swap ≡ 2 ∷ []) × (readies_sent_again 1 r opened restart_in_a_swap ≡ [])
unfolding same_id apply over_limit own_time
restart_in_a_swap_sends = (refl, refl, refl)

-- An entry whose append failed and that the keeper has after all is in no edit: behind the restart a whole-order edit goes out.
abbrev kept_entry : List WorldEvent
kept_entry =
    FailNext ∷
    Command (record { ro = r; edit = Act r (SwapStories a c) }) ∷
    Restart true ∷
    AtDevice 1 OpenTo ∷
    AtDevice 1 (Accept 3) ∷
    AtDevice 1 Read ∷
    AtDevice 1 Back ∷
    AtDevice 1 Send ∷
    Command (record { ro = r; edit = Replace (body r ((plain d) ∷ [])) }) ∷
    AtDevice 1 Send ∷
    AtDevice 1 Read ∷ []

kept_entry_sends : (entries_sent 1 r opened kept_entry ≡ 2 ∷ []) × (lists_told 1 r opened kept_entry ≡ []) × (readies_sent_again 1 r opened kept_entry ≡ [])
unfolding same_id apply over_limit own_time
kept_entry_sends = (refl, refl, refl)

-- A READY that a list may have overtaken is sent again, once for each list.
abbrev ready_twice_again : List WorldEvent
ready_twice_again =
    Command (record { ro = r; edit = Air r Ready }) ∷
    AtDevice 1 Send ∷
    AtDevice 1 Read ∷
    AtDevice 1 Back ∷
    AtDevice 1 (Want r) ∷
    AtDevice 1 Ask ∷
    AtDevice 1 Hear ∷
    AtDevice 1 Got ∷
    AtDevice 1 Ask ∷
    AtDevice 1 Hear ∷
    AtDevice 1 Send ∷
    AtDevice 1 Read ∷
    AtDevice 1 Back ∷
    AtDevice 1 Send ∷
    AtDevice 1 Got ∷
    AtDevice 1 (Want r) ∷
    AtDevice 1 Ask ∷
    AtDevice 1 Hear ∷
    AtDevice 1 Got ∷
    AtDevice 1 Ask ∷
    AtDevice 1 Hear ∷
    AtDevice 1 Send ∷ []

ready_twice_again_sends : (entries_sent 1 r opened ready_twice_again ≡ 1 ∷ []) × (lists_told 1 r opened ready_twice_again ≡ 2 ∷ 2 ∷ []) × (readies_sent_again 1 r opened ready_twice_again ≡ 2 ∷ 2 ∷ [])
unfolding same_id apply over_limit own_time
ready_twice_again_sends = (refl, refl, refl)
