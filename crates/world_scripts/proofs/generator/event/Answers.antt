use Rattle.world_scripts.proofs.MadeLemmas.{commanded}
use Rattle.world_scripts.proofs.generator.event.Goals as goal

pub returns-in-CreateOrder : goal.returns-in-CreateOrder
returns-in-CreateOrder c = rw c.in-CreateOrder.is (commanded _ _ _ c.create.ensures c.commands.ensures)

pub returns-in-InsertStory : goal.returns-in-InsertStory
returns-in-InsertStory c = rw c.in-InsertStory.is (commanded _ _ _ c.insert.ensures c.commands-in-InsertStory.ensures)

pub returns-in-SwapStories : goal.returns-in-SwapStories
returns-in-SwapStories c = rw c.in-SwapStories.is (commanded _ _ _ c.swap.ensures c.commands-in-SwapStories.ensures)

pub returns-in-MoveStory : goal.returns-in-MoveStory
returns-in-MoveStory c = rw c.in-MoveStory.is (commanded _ _ _ c.move_story.ensures c.commands-in-MoveStory.ensures)

pub returns-in-DropStory : goal.returns-in-DropStory
returns-in-DropStory c = rw c.in-DropStory.is (commanded _ _ _ c.drop_story.ensures c.commands-in-DropStory.ensures)

pub returns-in-ReadyOrder : goal.returns-in-ReadyOrder
returns-in-ReadyOrder c = rw c.in-ReadyOrder.is (commanded _ _ _ c.ready.ensures c.commands-in-ReadyOrder.ensures)
