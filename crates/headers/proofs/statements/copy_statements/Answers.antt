use Rattle.std.proofs.Common.{◌≡◌, ℕ, ◌+◌, ◌<◌, length, drop, subst, ◌∙◌, arith}
use Rattle.std.proofs.lemmas.List.{at_drop_all}
use Rattle.headers.specs.Bytes.{cut}
use Rattle.headers.specs.Views.{Copied}
use Rattle.headers.proofs.Copying.{given_by, given_none, given_some, next_rest, next_length, next_memory, ended}
use Rattle.headers.proofs.statements.copy_statements.Goals as goal
use Rattle.headers.proofs.statements.copy_statements.Goals.{in-Some+else-count-memory, in_default}

pub loop-bytes-preserved : goal.loop-bytes-preserved
loop-bytes-preserved c =
    let i = c.loop-bytes.invariant in
    let xs = c.as_chunks.result.0.now in let k : ℕ = c.loop-bytes.bytes-index in let n : ℕ = c.loop-bytes.count in
    elim c.match-statement.branch [
      | in-Some+else-count-memory w ↦
          let s = w.in-Some.statement in
          let e = i.0 ∙ given_some xs k _ c.record_in.result c.loop-bytes-test.true c.record_in.ensures s w.in-Some.ensures in
          let after = given_by (drop (k + 1) xs) in
          let r : c.loop-bytes.count < length c.args.memory.now = omega (arith, i.2, w.if-count-memory.false, c.loop-bytes.auto.memory) in
          rw (w.count-is, w.memory-is) (
            next_rest (given_by xs) c.args.memory.now c.loop-bytes.memory after n s e i.1 i.2 i.3,
            next_length (given_by xs) c.args.memory.now c.loop-bytes.memory after n s e i.1 i.2 i.3,
            omega (arith, r),
            next_memory (given_by xs) c.args.memory.now c.loop-bytes.memory after n s e i.1 i.2 i.3 r,
          )
      | in_default w ↦
          rw (w.count-is, w.memory-is) (i.0 ∙ given_none xs k _ c.record_in.result c.loop-bytes-test.true c.record_in.ensures w.in_default.ensures, i.1, i.2, i.3)
    ]

pub returns : goal.returns
returns c =
    let i = c.loop-bytes.invariant in
    let xs = c.as_chunks.result.0.now in
    let cut_is : c.as_chunks.result.0.now ≡ cut 8 c.args.part.now = c.as_chunks.ensures.front in
    subst (λ ys. Copied c.args.memory.now c.loop-bytes.memory (given_by ys) c.loop-bytes.count) cut_is
    (ended (given_by xs) c.args.memory.now c.loop-bytes.memory c.loop-bytes.count (i.0 ∙ at_drop_all given_by xs c.loop-bytes.bytes-index c.loop-bytes-test.false) i.1 i.2 i.3)
