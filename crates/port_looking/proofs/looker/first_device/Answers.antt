use Rattle.port_looking.proofs.Lookings.{first_named}
use Rattle.port_looking.proofs.looker.first_device.Goals as goal

pub returns : goal.returns
returns c = first_named _ _ _ _ _ c.next-message.ensures.hands c.next-message.ensures.named c.next-message.ensures.in_range c.next-message.ensures.sound c.device_of-device.ensures
