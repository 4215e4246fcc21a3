-- What contracts see of the fields of a node that is read.
use Rattle.dav_saved.specs.Worlds.{Fields}
use Rattle.dav_store.specs.KindOf.{kind_of}
use Rattle.dav_store.specs.declared.node.saved.Parts.{Parts}

-- the fields of a node, in the order in which they are saved
abbrev pub parts_view : Parts → Fields
parts_view p = (p.made, (p.number, (kind_of p.content, (p.properties, (p.created, p.modified)))))
