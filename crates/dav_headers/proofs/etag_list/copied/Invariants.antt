use Rattle.std.proofs.Common.{◌≡◌, ◌++◌, drop}
use Rattle.dav_headers.proofs.etag_list.copied.Given as goal

abbrev pub invariant-loop-tag : goal.invariant-loop-tag
invariant-loop-tag l = l.copies.items ++ drop l.tag-index l.tags.items ≡ l.tags.items
