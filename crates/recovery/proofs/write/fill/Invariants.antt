use Rattle.std.proofs.Common.{◌≡◌, ◌+◌, ◌*◌, length, take}
use Rattle.headers.specs.Bytes.{joined}
use Rattle.headers.specs.Output.{laid}
use Rattle.recovery.specs.Begun.{entry_bytes}
use Rattle.recovery.proofs.write.fill.Given as goal

abbrev pub invariant-loop-entry : goal.invariant-loop-entry
invariant-loop-entry l =
    (l.file.out.ghost_name ≡ l.initial.file.out.ghost_name)
    × (l.file.header ≡ length l.header)
    × (l.file.at ≡ 16 + length l.header + 14 * l.entry-index)
    × (l.file.out.now ≡ laid l.initial.file.out.now (16 + length l.header) (joined entry_bytes (take l.entry-index l.entries)))
