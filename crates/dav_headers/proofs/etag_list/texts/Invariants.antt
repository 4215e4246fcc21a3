use Rattle.std.proofs.Common.{◌≡◌, ◌++◌, map, drop, string_bytes}
use Rattle.dav_headers.specs.ETag.{tag_text}
use Rattle.dav_headers.proofs.etag_list.texts.Given as goal

abbrev pub invariant-loop-tag : goal.invariant-loop-tag
invariant-loop-tag l =
    map string_bytes l.texts.items ++ map (λ t. tag_text t.weak t.tag) (drop l.tag-index l.tags)
    ≡ map (λ t. tag_text t.weak t.tag) l.tags
