use Rattle.std.proofs.Math.Logic.{∥∥₁_map}
use Rattle.dav_wire.proofs.Runs.{served}
use Rattle.dav_wire.proofs.peer.Peer.is_served.Goals as goal

pub returns : goal.returns
returns c = ∥∥₁_map c.args.self.now.holds (served c.args.self.now.line)
