use Rattle.std.proofs.Common.{◌≡◌, ◌++◌, drop, map}
use Rattle.dav_xml.specs.Scopes.{pair_bytes}
use Rattle.dav_xml.specs.Spelling.{spellings}
use Rattle.dav_xml.specs.Flat.{flats}
use Rattle.dav_xml.proofs.Spellings.{children_in}
use Rattle.dav_xml.proofs.writing.+writes.Given as goal

abbrev pub invariant-push_children-loop-child : goal.invariant-push_children-loop-child
invariant-push_children-loop-child l =
    l.out.items ++ spellings (flats (children_in (map pair_bytes l.scope) (drop l.child-index l.child-items)))
    ≡ l.fn.out.items ++ spellings (flats (children_in (map pair_bytes l.scope) l.child-items))
