use Rattle.std.proofs.Common.{◌≡◌, ◌++◌, List, map}
use Rattle.dav_headers.specs.ETag.{EntityTag}
use Rattle.dav_headers.specs.ETagList.{AreTags}
use Rattle.dav_headers.specs.Elements.{trimmed}
use Rattle.dav_headers.proofs.etag_list.push_tags.Given as goal

abbrev pub invariant-loop-element : goal.invariant-loop-element
invariant-loop-element l =
    (added : List EntityTag)
    × (l.tags.items ≡ l.initial.tags.items ++ added) × AreTags (map trimmed (map (λ p. p.now) l.yielded)) added
