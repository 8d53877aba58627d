use Rattle.std.proofs.Common.{MatchOption, ap, length}
use Rattle.std.proofs.lemmas.Iterator.{YieldsList}
use Rattle.std.proofs.lemmas.Iterator.Consumers.{YieldsList-from_shown}
use Rattle.reader.specs.declared.reader.Line.{Line}
use Rattle.reader.specs.Reading.{words_left, NextWord, NoWord}

-- A line, gone through as an iterator, gives the words that are left in it.
pub words_come : (l : Line) → YieldsList (λ before w after. MatchOption w (NoWord before after) (λ w. NextWord before w after)) (λ w. w.bytes.now) l (words_left l)
words_come = YieldsList-from_shown _ _ words_left (λ s t h. ap length h.over) (λ s w t h. h.taken)
