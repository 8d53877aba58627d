use Rattle.std.proofs.Common.{inl, arith}
use Rattle.std.proofs.lemmas.Iterator.Consumers.{count_from_yields_List}
use Rattle.reader.proofs.Cuts.{few_words}
use Rattle.reader.proofs.Walks.{words_come}
use Rattle.ruletext.proofs.words.last_word.Goals as goal

pub count-requires-clause-fits : goal.count-requires-clause-fits
count-requires-clause-fits c = let h = few_words c.args.line.here.now in inl (omega (arith, c.args.line.words))

pub overflow_add-result : goal.overflow_add-result
overflow_add-result c =
    let h = few_words c.args.line.here.now in
    let n = count_from_yields_List c.args.line c.count.result c.count.ensures.ran (words_come c.args.line) in
    omega (arith, c.args.line.words)

pub returns : goal.returns
returns c = let n = count_from_yields_List c.args.line c.count.result c.count.ensures.ran (words_come c.args.line) in omega arith
