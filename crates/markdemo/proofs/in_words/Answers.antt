use Rattle.std.proofs.Common.{rules}
use Rattle.marks.proofs.Steps.{marking_on_row}
use Rattle.wordtable.specs.Bits.{bit}
use Rattle.wordtable.proofs.Masks.{cleared_none}
use Rattle.markdemo.proofs.in_words.Goals as goal

pub returns : goal.returns
returns c =
    let set = c.in-Ok.ensures.made in
    let mark = c.mark.ensures in
    marking_on_row bit _ _ c.mark.new.store.words.now _ _ _ _ _ _ _ _ _
    (search rules) set.1 mark.limit_kept set.1 (cleared_none _ _ _ set.2) c.in_ok-mark.ensures.marking.1
