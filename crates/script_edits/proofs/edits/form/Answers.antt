use Rattle.script_edits.proofs.ActLemmas.{acted}
use Rattle.script_edits.proofs.edits.form.Goals as goal

pub returns-in-Insert : goal.returns-in-Insert
returns-in-Insert c = rw c.in-Insert.is (acted _ _ _ _ c.insert_stories.ensures c.acts.ensures)

pub returns-in-Sub : goal.returns-in-Sub
returns-in-Sub c = rw c.in-Sub.is (acted _ _ _ _ c.replace_story.ensures c.acts-in-Sub.ensures)

pub returns-in-Move : goal.returns-in-Move
returns-in-Move c = rw c.in-Move.is (acted _ _ _ _ c.move_stories.ensures c.acts-in-Move.ensures)

pub returns-in-Drop : goal.returns-in-Drop
returns-in-Drop c = rw c.in-Drop.is (acted _ _ _ _ c.delete_stories.ensures c.acts-in-Drop.ensures)

pub returns-in-Swap : goal.returns-in-Swap
returns-in-Swap c = rw c.in-Swap.is (acted _ _ _ _ c.swap_stories.ensures c.acts-in-Swap.ensures)

pub returns-in-InsertItems : goal.returns-in-InsertItems
returns-in-InsertItems c = rw c.in-InsertItems.is (acted _ _ _ _ c.insert_items.ensures c.acts-in-InsertItems.ensures)

pub returns-in-SubItem : goal.returns-in-SubItem
returns-in-SubItem c = rw c.in-SubItem.is (acted _ _ _ _ c.replace_item.ensures c.acts-in-SubItem.ensures)

pub returns-in-MoveItems : goal.returns-in-MoveItems
returns-in-MoveItems c = rw c.in-MoveItems.is (acted _ _ _ _ c.move_items.ensures c.acts-in-MoveItems.ensures)

pub returns-in-DropItems : goal.returns-in-DropItems
returns-in-DropItems c = rw c.in-DropItems.is (acted _ _ _ _ c.delete_items.ensures c.acts-in-DropItems.ensures)

pub returns-in-SwapItems : goal.returns-in-SwapItems
returns-in-SwapItems c = rw c.in-SwapItems.is (acted _ _ _ _ c.swap_items.ensures c.acts-in-SwapItems.ensures)
