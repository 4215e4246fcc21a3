use Rattle.std.proofs.Math.Logic.{∥∥₁_elim}
use denote.Struct.Props.{props}
use Rattle.dav_wire.proofs.Runs.{in_body}
use Rattle.dav_wire.proofs.peer.Peer.is_in_body.Goals as goal

pub returns : goal.returns
returns c still = ∥∥₁_elim c.args.self.now.holds (search props) (in_body c.args.self.now.line still)
