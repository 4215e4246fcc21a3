use Rattle.std.proofs.Common.{◌≡◌, sym, subst, ◌∙◌, length, arith}
use Rattle.std.specs.Vec.Iter.{into_iter_len}
use Rattle.std.proofs.lemmas.Iterator.Adapters.{YieldsList-from_vec}
use Rattle.std.proofs.lemmas.Iterator.Consumers.{YieldsList-turn}
use Rattle.dav_core.specs.Path.{IsSegment}
use Rattle.dav_store.proofs.entries.listing.members_among.Goals as goal

pub from_bytes-requires : goal.from_bytes-requires
from_bytes-requires c =
    let count : into_iter_len c.into_iter-key-iterator.result ≡ length c.args.children.items = c.into_iter-key-iterator.ensures.into_iter_gives.1 ∙ omega (arith, c.args.children.ok) in
    let turn = YieldsList-turn (YieldsList-from_vec {s = c.into_iter-key-iterator.result} c.args.children.items c.into_iter-key-iterator.ensures.into_iter_gives.0 count) c.loop-key.yielded c.loop-key.key-iterator c.loop-key.yielded_by c.next.result c.next.new.self (c.in-Some.key, c.in-Some.child) c.in-Some.is c.next.ensures.steps in
    subst (λ e. IsSegment e.0.items) (sym turn.1) (c.requires (length c.loop-key.yielded) (c.in-Some.key, c.in-Some.child) turn.0)
