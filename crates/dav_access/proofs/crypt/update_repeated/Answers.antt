use Rattle.std.proofs.Common.{◌++◌, append-nil}
use Rattle.std.specs.List.{repeat}
use Rattle.dav_access.proofs.CryptLemmas.{repeat_more}
use Rattle.dav_access.proofs.crypt.update_repeated.Goals as goal

pub loop-i-init : goal.loop-i-init
loop-i-init c m holds = rw (append-nil m) holds

pub loop-i-preserved : goal.loop-i-preserved
loop-i-preserved c m holds =
    rw (repeat_more c.loop-i.i c.args.bytes.now m) (c.update.ensures (m ++ repeat c.loop-i.i c.args.bytes.now) (c.loop-i.invariant m holds))
