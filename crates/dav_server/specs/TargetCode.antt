-- What the code that reads targets returns.
use Rattle.std.specs.Prelude.{◌≡◌, ◌≢◌, ◌⊎◌, ℕ, List, [], Option, Some, None, Result, Ok, Err}
use Rattle.http_uri.specs.Grammar.{or_slash}
use Rattle.http_uri.specs.Uri.{uri_scheme, uri_authority, uri_data}
use Rattle.http_uri.specs.declared.uri.Uri.{Uri}
use Rattle.dav_core.specs.declared.errors.ParseError.TheVariants as parse
use Rattle.dav_core.specs.declared.errors.DavError.{DavError}
use Rattle.dav_core.specs.declared.errors.DavError.TheVariants as dav
use Rattle.dav_core.specs.declared.method.DavMethod.{DavMethod}
use Rattle.dav_core.specs.Path.{PathText, IsCut, HasNoCut}
use Rattle.dav_core.specs.Target.{Reads, IsRefused}
use Rattle.dav_server.specs.Target.{HasPathText, IsUnreadable, TargetNames}

-- the result is what the target of a request with this method names (`TargetNames`), or out of memory
abbrev pub GivesPath : List ℕ → DavMethod → List ℕ → Result PathText DavError → Type 0
GivesPath prefix method target (Ok p) = TargetNames prefix method target (Ok p)
GivesPath prefix method target (Err e) = (e ≡ dav.Memory) ⊎ TargetNames prefix method target (Err e)

-- the result is the path in the target, without a prefix, or why none is read in it, or out of memory
abbrev pub GivesRead : List ℕ → Result PathText DavError → Type 0
GivesRead target (Ok p) = (p.prefix ≡ []) × (text : List ℕ) × HasPathText target text × Reads text p.bytes
GivesRead target (Err e) = (e ≡ dav.Memory) ⊎ IsUnreadable target e

-- the result is the path that the text names, without a prefix, or why it names none, or out of memory
abbrev pub GivesNamed : List ℕ → Result PathText DavError → Type 0
GivesNamed text (Ok p) = (p.prefix ≡ []) × Reads text p.bytes
GivesNamed text (Err e) =
    (e ≡ dav.Memory) ⊎ (((e ≡ dav.InvalidPath) × IsRefused text parse.InvalidPath) ⊎ ((e ≡ dav.ForbiddenPath) × IsRefused text parse.ForbiddenPath))

-- the result is the path that these bytes are when cut after a prefix, `IllegalPath` where they can't be, or out of memory
abbrev pub GivesCut : List ℕ → List ℕ → Result PathText DavError → Type 0
GivesCut prefix bytes (Ok p) = IsCut prefix bytes p
GivesCut prefix bytes (Err e) = (e ≡ dav.Memory) ⊎ ((e ≡ dav.IllegalPath) × HasNoCut prefix bytes)

-- what follows the authority of a URI, or a slash where nothing does; none for a URI without a scheme or without an authority
abbrev pub GivesTail : Uri → Option (List ℕ) → Type 0
GivesTail uri None = (scheme authority : List ℕ) → uri_scheme uri ≡ Some scheme → uri_authority uri ≢ Some authority
GivesTail uri (Some text) = (scheme : List ℕ) × (authority : List ℕ) × (uri_scheme uri ≡ Some scheme) × (uri_authority uri ≡ Some authority) × (text ≡ or_slash (uri_data uri))
