-- The fields before the place were looked at.
use Rattle.std.proofs.Common.{◌≡◌, ◌++◌, take}
use Rattle.dav_http.proofs.HeadTextLemmas.{lines}
use Rattle.dav_http.proofs.head.text.put_fields.Given as goal

abbrev pub invariant-loop-place : goal.invariant-loop-place
invariant-loop-place l = l.out.items ≡ l.fn.out.items ++ lines l.fn.is_lock (take l.place l.fn.view.fields)
