-- What is told of a folder on the way to what may be read: that it is a folder, and nothing else (RFC 4918, sections 14.16 and 14.24).
use Rattle.std.specs.Prelude.{ℕ, List, [], ◌∷◌, map, codes, Option, Some, None}
use Rattle.dav_core.specs.Element.{ElementTree}
use Rattle.dav_core.specs.Path.{PathText}
use Rattle.dav_engine.specs.Multistatus.{dav_element, declares_dav, dav_text, href, multistatus, xml_type}
use Rattle.dav_engine.specs.declared.reply.ReplyBody.TheVariants.{Nothing, Tree}
use Rattle.dav_engine.specs.Reply.{Reply}
use Rattle.dav_presented.specs.Missing.{answered}

-- the property that something is a folder (RFC 4918, section 15.9)
abbrev pub folder_type : ElementTree
folder_type = dav_element (codes "resourcetype") (dav_element (codes "collection") [] ∷ [])

-- the response for a folder on the way: its address, and that it is a folder (RFC 4918, section 14.24)
abbrev pub way_response : PathText → ElementTree
way_response p =
    dav_element (codes "response")
    (href p
    ∷ dav_element (codes "propstat") (dav_element (codes "prop") (folder_type ∷ []) ∷ dav_text (codes "status") (codes "HTTP/1.1 200 OK") ∷ [])
    ∷ [])

-- a multistatus, with the properties that are asked for by name and aren't told under 404, where the request has a body (RFC 4918,
-- section 9.1)
abbrev pub answered_by : Option ElementTree → ElementTree → ElementTree
answered_by None told = told
answered_by (Some propfind) told = answered propfind told

-- the multistatus for folders on the way
abbrev pub ways_told : Option ElementTree → List PathText → ElementTree
ways_told propfind paths = answered_by propfind (multistatus (map way_response paths))

-- 207 with a multistatus (RFC 4918, section 13)
abbrev pub listing_reply : ElementTree → Reply
listing_reply tree = record { status = 207; headers = xml_type ∷ []; body = Tree tree }

-- 403 where all below a folder is asked for (RFC 4918, sections 9.1.1 and 16)
abbrev pub too_deep_reply : Reply
too_deep_reply = record {
  status = 403;
  headers = xml_type ∷ [];
  body = Tree (declares_dav (dav_element (codes "error") (dav_element (codes "propfind-finite-depth") [] ∷ [])));
}

-- what an OPTIONS is told of a folder on the way: that it may be asked for by OPTIONS and PROPFIND (RFC 9110, section 9.3.7; RFC 4918,
-- section 10.1)
abbrev pub way_options : Reply
way_options = record {
  status = 200;
  headers = (codes "dav", codes "1,2,3,sabredav-partialupdate") ∷ (codes "ms-author-via", codes "DAV") ∷ (codes "allow", codes "OPTIONS,PROPFIND") ∷ [];
  body = Nothing;
}
