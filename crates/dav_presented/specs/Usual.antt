-- Properties that are told by a name which each client knows, whatever a request wrote for it (RFC 4918, section 14.18).
use Rattle.std.specs.Prelude.{◌||◌, Bool, codes, if◌then◌else◌}
use Rattle.dav_core.specs.Element.{ElementTree, name_of, children_of}
use Rattle.dav_presented.specs.Names.{is_dav}
use Rattle.dav_presented.specs.Missing.{dav_element}

-- Whether a property is `resourcetype` (RFC 4918, section 15.9) or `current-user-principal` (RFC 5397, section 3).
abbrev pub has_usual_name : ElementTree → Bool
has_usual_name e = is_dav (codes "resourcetype") e || is_dav (codes "current-user-principal") e

-- Such a property is written with the prefix `D`, without attributes, its children as they are; any other stays (RFC 4918, section 14.18).
abbrev pub usual : ElementTree → ElementTree
usual e = if has_usual_name e then dav_element (name_of e) (children_of e) else e
