use Rattle.std.proofs.Common.{refl, sym, ◌∙◌, arith}
use Rattle.reader.proofs.Cuts.{words_over, words_found}
use Rattle.reader.proofs.reader.Line.next_word.Goals as goal

pub returns-in_err-from : goal.returns-in_err-from
returns-in_err-from c = rw c.from_residual.ensures (record { over = words_over c.args.self.now.here.now (sym c.first_but.ensures ∙ c.in_err-from.was); same = refl })

pub invariant_of-self : goal.invariant_of-self
invariant_of-self c =
    let p = words_found c.args.self.now.here.now c.in_ok-from.from (sym c.first_but.ensures ∙ c.in_ok-from.was) _ c.split_at.ensures.back c.first.result c.first.ensures c.unwrap_or-end.result c.unwrap_or-end.ensures in
    record { words = omega (arith, c.split_at-2.ensures.back_len, c.split_at.ensures.back_len, p.some) }

pub returns : goal.returns
returns c =
    let p = words_found c.args.self.now.here.now c.in_ok-from.from (sym c.first_but.ensures ∙ c.in_ok-from.was) _ c.split_at.ensures.back c.first.result c.first.ensures c.unwrap_or-end.result c.unwrap_or-end.ensures in
    record { taken = rw (c.split_at-2.ensures.front, c.split_at-2.ensures.back) p.is; in_line = refl; in_word = refl; word = refl; line = refl }
