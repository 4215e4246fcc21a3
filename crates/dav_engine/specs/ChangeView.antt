-- What contracts see of a change of a property.
use Rattle.dav_engine.specs.declared.methods.proppatch.changes.Change.TheInside.{Inside}
use Rattle.dav_engine.specs.Proppatch.{Change}

-- A change as contracts see it, with the property as a tree.
abbrev pub change_of : Inside → Change
change_of c = record { is_set = c.is_set; property = c.property.now }
