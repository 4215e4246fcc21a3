-- The answer to a change of a property.
use Rattle.std.specs.Prelude.{ℕ, Bool}
use Rattle.dav_core.specs.Property.{Property, patched_property, patch_of, without_xml}

-- the answer to a property that is set (true) or removed: 200, with the property and without its element (RFC 4918, section 9.2)
abbrev pub answer_to : Bool × Property → ℕ × Property
answer_to change = (200, without_xml (patched_property (patch_of change)))
