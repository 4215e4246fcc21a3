-- Servers that have some folders alone: what is at none of these, nor below one, is elsewhere, with another server (RFC 9110, section
-- 15.5.20; RFC 4918, sections 9.8.5, 9.9.4 and 10.4).
use Rattle.std.specs.Prelude.{◌≡◌, ◌||◌, ℕ, Bool, true, not, bytes_eq, if◌then◌else◌, List, [], ◌∷◌, Option, None, Some}
use Rattle.std.specs.List.{list_all, list_any}
use Rattle.dav_core.specs.declared.method.DavMethod.{DavMethod}
use Rattle.dav_core.specs.declared.method.DavMethod.TheVariants.{Copy, Move}
use Rattle.dav_core.specs.Path.{Path, PathText, is_at_or_under, names, star}
use Rattle.dav_server.specs.Machine.{Exchange, Settings}
use Rattle.dav_confined.specs.Asked.{AskedView, IsAsked}
use Rattle.dav_shards.specs.declared.parts.Part.{Part}
use Rattle.dav_shards.specs.declared.parts.Part.TheVariants.{Target, Destination, Condition}

-- Whether a server has what is at a path that has these folders alone: it is at one of them, or below one. Where none is named, it has all.
abbrev pub is_here : List PathText → Path → Bool
is_here [] p = true
is_here (folder ∷ more) p = list_any (λ f. is_at_or_under p (names f)) (folder ∷ more)

-- whether the target of what is asked is here; `*` is the server itself (RFC 9110, section 7.1)
abbrev pub has_target : List PathText → AskedView → Bool
has_target folders a = bytes_eq a.path.bytes star || is_here folders (names a.path)

-- whether a place is here, if there is one
abbrev pub has_place : List PathText → Option PathText → Bool
has_place folders None = true
has_place folders (Some d) = is_here folders (names d)

-- whether the place is here to which a COPY or MOVE goes
abbrev pub has_destination : List PathText → DavMethod → Option PathText → Bool
has_destination folders Copy destination = has_place folders destination
has_destination folders Move destination = has_place folders destination
has_destination folders method destination = true

-- Which part of what is asked names what is elsewhere: the target; else Destination, of a COPY or MOVE (RFC 4918, section 10.3); else a list
-- of If (section 10.4.2).
abbrev pub elsewhere : List PathText → AskedView → Option Part
elsewhere folders a =
    if not (has_target folders a) then Some Target
    else if not (has_destination folders a.method a.destination) then Some Destination
    else if not (list_all (is_here folders) a.spoken_of) then Some Condition
    else None

-- This part of a request with this head, below this prefix, names what is elsewhere.
pub record IsElsewhere (folders : List PathText) (prefix head : List ℕ) (part : Part) : Type 0 where
  pub settings : Settings
  pub exchange : Exchange
  pub below : settings.prefix ≡ prefix
  pub here : exchange.head ≡ head
  pub asks : AskedView
  pub asked : IsAsked settings exchange asks
  pub is : elsewhere folders asks ≡ Some part
