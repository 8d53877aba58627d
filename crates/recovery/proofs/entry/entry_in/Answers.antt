use Rattle.std.proofs.Common.{◌≡◌, ℕ, ◌≤◌, List, [], length, sym, arith, rules}
use Rattle.std.proofs.lemmas.List.{drop_all}
use Rattle.recovery.proofs.Cutting.{cut_made}
use Rattle.recovery.proofs.entry.entry_in.Goals as goal

pub returns-clause-is : goal.returns-clause-is
returns-clause-is c =
    let b : List ℕ = c.args.bytes in
    let h : length b ≡ 14 = search rules in
    let m : 14 ≤ length b = omega arith in
    let n : length b ≤ 14 = omega arith in
    sym (cut_made b [] _ _ _ _ _ _ (λ k. search rules) m c.from_be_bytes.ensures c.from_be_bytes-2.ensures c.from_be_bytes-3.ensures c.from_be_bytes-4.ensures c.from_be_bytes-5.ensures c.from_be_bytes-6.ensures (sym (drop_all 14 b n))).is
