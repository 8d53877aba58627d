use Rattle.std.proofs.Common.{◌+◌, sym}
use Rattle.ruletext.proofs.Checked.{names_stop, names_more, names_end}
use Rattle.ruletext.proofs.words.check_names.Goals as goal

pub returns-then-not-is_name : goal.returns-then-not-is_name
returns-then-not-is_name c =
    let q = c.in-Some.ensures.steps in
    let e = names_stop c.loop-word.word-iterator.line (c.loop-word.word-iterator.word + 1) _ c.in-Some.word.bytes.now _ q.taken (sym c.if-not-is_name.ensures) in
    let i = c.loop-word.invariant in
    cc (e, i.3, i.2, q.in_line, q.in_word)

pub loop-word-preserved : goal.loop-word-preserved
loop-word-preserved c =
    let q = c.in-Some.ensures.steps in
    let e = names_more c.loop-word.word-iterator.line (c.loop-word.word-iterator.word + 1) _ c.in-Some.word.bytes.now _ q.taken (sym c.if-not-is_name.ensures) in
    let i = c.loop-word.invariant in
    (tt, tt, cc (i.2, q.line), cc (e, i.3, i.2, q.word))

pub returns : goal.returns
returns c =
    let q = c.in-None.ensures.steps in
    let e = names_end c.loop-word.word-iterator.line (c.loop-word.word-iterator.word + 1) _ q.over in
    let i = c.loop-word.invariant in
    cc (e, i.3, i.2)
