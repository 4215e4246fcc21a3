-- The responses of a multistatus, and how their parts are written (RFC 4918, sections 14.16, 14.22 and 14.24).
use Rattle.std.specs.Prelude.{ℕ, List, [], ◌∷◌, map, codes, if◌then◌else◌}
use Rattle.dav_core.specs.Element.{ElementTree, text, children_of, with_children}
use Rattle.dav_presented.specs.Names.{is_dav}
use Rattle.dav_presented.specs.Missing.{dav_element}

-- Properties under a status (RFC 4918, section 14.22).
abbrev pub propstat_of : List ℕ → List ElementTree → ElementTree
propstat_of status es =
    dav_element (codes "propstat") (dav_element (codes "prop") es ∷ dav_element (codes "status") (text status ∷ []) ∷ [])

-- The status of properties that are there (RFC 9110, section 15.3.1).
abbrev pub ok_status : List ℕ
ok_status = codes "HTTP/1.1 200 OK"

-- A child of a multistatus: a response is changed so, all else stays (RFC 4918, section 14.16).
abbrev pub changed_child : (ElementTree → ElementTree) → ElementTree → ElementTree
changed_child change child = if is_dav (codes "response") child then change child else child

-- A multistatus whose responses are changed so; all else stays (RFC 4918, section 14.16).
abbrev pub each_response : (ElementTree → ElementTree) → ElementTree → ElementTree
each_response change told = with_children told (map (changed_child change) (children_of told))
