use Rattle.headers.proofs.Forward.{read_back}
use Rattle.headers.proofs.encode.write_header.Goals as goal

pub returns : goal.returns
returns g c = record { bytes = c.write_lists.ensures; back = read_back }
