use Rattle.std.proofs.Common.{length, ap, ◌∙◌, rules}
use Rattle.marks.proofs.Steps.{marking_on_row}
use Rattle.slottable.specs.Table.{slotted}
use Rattle.slottable.proofs.Members.{freed_none}
use Rattle.markdemo.proofs.in_slots.Goals as goal

pub returns : goal.returns
returns c =
    let made = c.over-table.ensures in
    let set = c.set_up.ensures in
    let mark = c.mark.ensures in
    marking_on_row slotted _ _ c.mark.new.store.slots.now _ _ _ _ _ _ _ _ _
    (search rules) set.limit mark.limit_kept (set.cleared.long ∙ ap length made.memory) (freed_none _ _ _ set.cleared) c.in_ok-mark.ensures.marking.1
