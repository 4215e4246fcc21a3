-- What a PROPFIND is told that prefers a minimal reply (RFC 8144, section 2.1).
use Rattle.std.specs.Prelude.{Bool, true, false, [], codes, if◌then◌else◌}
use Rattle.std.specs.List.{list_any}
use Rattle.dav_core.specs.Element.{ElementTree, child_elements, with_child}
use Rattle.dav_presented.specs.Names.{is_dav}
use Rattle.dav_presented.specs.Missing.{answered}
use Rattle.dav_presented.specs.Responses.{each_response, ok_status, propstat_of}

-- A response tells its properties as they are; where it tells none it has a `propstat` of 200 with an empty `prop` (RFC 8144, section 2.1).
abbrev pub with_propstat : ElementTree → ElementTree
with_propstat response =
    if list_any (is_dav (codes "propstat")) (child_elements response) then response
    else with_child response (propstat_of ok_status [])

-- A multistatus in which nothing is said of properties that aren't there (RFC 8144, section 2.1).
abbrev pub minimal : ElementTree → ElementTree
minimal told = each_response with_propstat told

-- The multistatus that is sent to a PROPFIND with this body: where it isn't told of what isn't there, a minimal one; else one with each name
-- that is asked for (RFC 4918, section 9.1; RFC 8144, section 2.1).
abbrev pub answered_to : Bool → ElementTree → ElementTree → ElementTree
answered_to true propfind told = minimal told
answered_to false propfind told = answered propfind told
