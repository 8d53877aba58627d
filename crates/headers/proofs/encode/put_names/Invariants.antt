use Rattle.std.proofs.Common.{◌≡◌, ◌+◌, length}
use Rattle.headers.specs.Output.{laid}
use Rattle.headers.proofs.Listing.{lines_from}
use Rattle.headers.proofs.encode.put_names.Given as goal

abbrev pub invariant-loop-name : goal.invariant-loop-name
invariant-loop-name g l =
    let left = lines_from g.N.AsSlice.items l.names in
    (laid l.out l.to (left l.name-index) ≡ laid l.initial.out l.at (left 0)) × (l.to + length (left l.name-index) ≡ l.at + length (left 0))
