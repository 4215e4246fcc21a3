-- What is shown of a multistatus may be sent, and so may what is run of a request: its names are plain, its prefixes may be declared, and its
-- texts are legal (Namespaces in XML 1.0, sections 3 to 6; XML 1.0, section 2.2), so a client reads it again (law `sendable_is_read` of
-- dav_xml).
use Rattle.std.specs.Prelude.{ℕ, ◌≤◌, Bool}
use Rattle.dav_core.specs.Element.{ElementTree}
use Rattle.dav_core.specs.World.{last_moment}
use Rattle.dav_xml.specs.Sendable.{IsSendable}
use Rattle.dav_presented.specs.declared.quota.Room.{Room}
use Rattle.dav_presented.specs.Minimal.{answered_to}
use Rattle.dav_presented.specs.Quota.{with_quota}
use Rattle.dav_presented.specs.Times.{find_as, patch_as}
use Rattle.dav_presented.specs.Typed.{outcomes, typed}

-- A multistatus that may be sent may be sent with types, times and usual names; with the room that folders tell; with the names that are
-- missing, or without them, where the body of the request may be sent too, as each one that is read may; and with the names by which a
-- client set times (RFC 4918, sections 9.1 and 14.16).
pub record ShownMayBeSent : Type 0 where
  pub types : (told : ElementTree) → IsSendable told → IsSendable (typed told)
  pub quota : (room : Room) (propfind told : ElementTree) → IsSendable told → IsSendable (with_quota room propfind told)
  pub names : (leaves_out : Bool) (propfind told : ElementTree) → IsSendable propfind → IsSendable told → IsSendable (answered_to leaves_out propfind told)
  pub times : (told : ElementTree) → IsSendable told → IsSendable (outcomes told)

-- A request's body that may be sent may be sent as it is run: that of a PROPFIND, and that of a PROPPATCH at a moment up to the end of 9999
-- (RFC 4918, sections 9.1 and 9.2).
abbrev pub AskedMayBeSent : Type 0
AskedMayBeSent =
    ((tree : ElementTree) → IsSendable tree → IsSendable (find_as tree))
    × ((moment : ℕ) (tree : ElementTree) → moment ≤ last_moment → IsSendable tree → IsSendable (patch_as moment tree))
