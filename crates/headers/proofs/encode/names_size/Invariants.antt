use Rattle.std.proofs.Common.{◌≡◌, ◌+◌, ◌<◌, length}
use Rattle.headers.proofs.Listing.{lines_from}
use Rattle.headers.proofs.encode.names_size.Given as goal

abbrev pub invariant-loop-name : goal.invariant-loop-name
invariant-loop-name g l =
    let left = lines_from g.N.AsSlice.items l.names in
    (l.size + length (left l.name-index) ≡ length (left 0)) × (l.size < 4294967296)
