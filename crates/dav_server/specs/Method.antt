-- The methods that are served (RFC 9110, section 9.3; RFC 5789; RFC 4918, section 9).
use Rattle.std.specs.Prelude.{◌≡◌, ◌≢◌, ℕ, ⊤, List, Result, Ok, Err}
use Rattle.dav_core.specs.declared.errors.DavError.{DavError}
use Rattle.dav_core.specs.declared.errors.DavError.TheVariants as dav
use Rattle.dav_core.specs.declared.method.DavMethod.{DavMethod}
use Rattle.dav_core.specs.declared.method.DavMethod.TheVariants.{Report, MkCalendar, MkAddressbook}
use Rattle.dav_core.specs.Method.{method_name}

-- a method is served: all that are known but REPORT, MKCALENDAR and MKADDRESSBOOK
abbrev pub IsServed : DavMethod → Type 0
IsServed Report = ⊥
IsServed MkCalendar = ⊥
IsServed MkAddressbook = ⊥
IsServed _ = ⊤

-- The served method of which the text is the name, case counting; `UnknownDavMethod` for any other text (RFC 9110, section 9.1).
abbrev pub GivesServed : List ℕ → Result DavMethod DavError → Type 0
GivesServed text (Ok m) = IsServed m × (text ≡ method_name m)
GivesServed text (Err e) = (e ≡ dav.UnknownDavMethod) × ((m : DavMethod) → IsServed m → text ≢ method_name m)
