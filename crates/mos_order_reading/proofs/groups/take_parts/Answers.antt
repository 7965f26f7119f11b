use Rattle.mos_order_reading.proofs.Taken.{group_taken}
use Rattle.mos_order_reading.proofs.groups.take_parts.Goals as goal

pub returns-clause-fit : goal.returns-clause-fit
returns-clause-fit c = (group_taken _ _ _ _ _ _ _ _ _ _ _ c.requires c.take_leaf-story.ensures.taken c.take_leaf-story.ensures.left c.take_leaf-item.ensures.taken c.take_leaf-item.ensures.left
    c.take_leaf-obj.ensures.taken c.take_leaf-obj.ensures.left c.take_leaf-channel.ensures.taken c.take_leaf-channel.ensures.left c.take_leaf-status.ensures.taken c.take_leaf-status.ensures.left).fit

pub returns-clause-events : goal.returns-clause-events
returns-clause-events c = (group_taken _ _ _ _ _ _ _ _ _ _ _ c.requires c.take_leaf-story.ensures.taken c.take_leaf-story.ensures.left c.take_leaf-item.ensures.taken c.take_leaf-item.ensures.left
    c.take_leaf-obj.ensures.taken c.take_leaf-obj.ensures.left c.take_leaf-channel.ensures.taken c.take_leaf-channel.ensures.left c.take_leaf-status.ensures.taken c.take_leaf-status.ensures.left).events

pub returns-clause-groups : goal.returns-clause-groups
returns-clause-groups c = (group_taken _ _ _ _ _ _ _ _ _ _ _ c.requires c.take_leaf-story.ensures.taken c.take_leaf-story.ensures.left c.take_leaf-item.ensures.taken c.take_leaf-item.ensures.left
    c.take_leaf-obj.ensures.taken c.take_leaf-obj.ensures.left c.take_leaf-channel.ensures.taken c.take_leaf-channel.ensures.left c.take_leaf-status.ensures.taken c.take_leaf-status.ensures.left).groups
