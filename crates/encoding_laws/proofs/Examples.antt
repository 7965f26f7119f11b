-- Worked examples: what the laws ask of an envelope, and what its canonical encoding is.
use Rattle.std.specs.Prelude.{◌≡◌, [], ◌∷◌, Some, None, codes, refl}
use Rattle.mos_fields.specs.Forms.{reads}
use Rattle.mos_tables.specs.Canonical.{canonical}
use Rattle.mos_values.specs.declared.action.Action.TheVariants.{MoveItems}
use Rattle.mos_values.specs.declared.message.Envelope.{Envelope}
use Rattle.mos_values.specs.declared.message.Message.TheVariants.{RoReq, RoElementAction, RoCreate}
use Rattle.mos_values.specs.Parts.{must, maybe, raws}
use Rattle.mos_values.specs.Views.{header_events, items_events, story_head_events, story_events, stories_events, body_events}
use Rattle.mos_values.specs.MessageViews.{target_item, ids_events, source, action_events, message_events, envelope_events}
use Rattle.encoding_laws.specs.Allowed.{HasAllowedTexts}
use Rattle.encoding_laws.specs.Fitting.{HasFittingTexts}

-- a request for an order
request : Envelope
request = record { mos = codes "m"; ncs = codes "n"; message_id = Some (codes "1"); message = RoReq (codes "r<") }

request_encoding : canonical (envelope_events request) ≡ codes "<mos><mosID>m</mosID><ncsID>n</ncsID><messageID>1</messageID><roReq><roID>r&lt;</roID></roReq></mos>"
unfolding request canonical envelope_events message_events must maybe
request_encoding = refl

request_fits : HasFittingTexts (envelope_events request)
unfolding request envelope_events message_events must maybe reads
request_fits = (refl, (refl, (refl, (refl, tt))))

request_allowed : HasAllowedTexts (envelope_events request)
unfolding request envelope_events message_events must maybe
request_allowed = (tt, (refl, (refl, (refl, (tt, (refl, (tt, (tt, tt))))))))

-- an item that is moved
moving : Envelope
moving = record { mos = codes "m"; ncs = codes "n"; message_id = None; message = RoElementAction (codes "r") (MoveItems (codes "s") (codes "") (codes "i" ∷ codes "j" ∷ [])) }

moving_encoding : canonical (envelope_events moving) ≡ codes "<mos><mosID>m</mosID><ncsID>n</ncsID><roElementAction operation=\"MOVE\"><roID>r</roID><element_target><storyID>s</storyID><itemID></itemID></element_target><element_source><itemID>i</itemID><itemID>j</itemID></element_source></roElementAction></mos>"
unfolding moving canonical envelope_events message_events action_events target_item source ids_events must maybe
moving_encoding = refl

moving_fits : HasFittingTexts (envelope_events moving)
unfolding moving envelope_events message_events action_events target_item source ids_events must maybe reads
moving_fits = (refl, (refl, (refl, (refl, (refl, (refl, (refl, tt)))))))

-- an order with a story whose storyID is empty has no fitting texts, since a storyID has 1 to 128 characters
empty_key : Envelope
empty_key = record {
  mos = codes "m";
  ncs = codes "n";
  message_id = None;
  message = RoCreate (record {
    header = record { ro = codes "r"; slug = []; channel = None; ed_start = None; ed_dur = None; trigger = None; macro_in = None; macro_out = None; metadata = []; others = [] };
    stories = record { id = []; slug = None; num = None; metadata = []; others = []; items = [] } ∷ [];
  });
}

empty_key_refused : HasFittingTexts (envelope_events empty_key) → ⊥
unfolding empty_key envelope_events message_events body_events header_events stories_events story_events story_head_events items_events must maybe raws reads
empty_key_refused h = let k : None ≡ Some [] = h.1.1.1.1.0 in absurd cc
