-- What the target of a request names (RFC 9112, section 3.2).
use Rattle.std.specs.Prelude.{◌≡◌, ◌≢◌, ◌⊎◌, ℕ, List, [], ◌∷◌, Contains, Some, Result, Ok, Err}
use Rattle.http_uri.specs.Grammar.{IsUriText, or_slash}
use Rattle.dav_core.specs.declared.errors.ParseError.TheVariants as parse
use Rattle.dav_core.specs.declared.errors.DavError.{DavError}
use Rattle.dav_core.specs.declared.errors.DavError.TheVariants as dav
use Rattle.dav_core.specs.declared.method.DavMethod.{DavMethod}
use Rattle.dav_core.specs.declared.method.DavMethod.TheVariants.{Options}
use Rattle.dav_core.specs.Path.{PathText, IsCut, HasNoCut, star, without_slash}
use Rattle.dav_core.specs.Target.{Reads, IsRefused}

-- a target begins with a slash: the origin form (RFC 9112, section 3.2.1)
abbrev pub BeginsWithSlash : List ℕ → Type 0
BeginsWithSlash target = (rest : List ℕ) × (target ≡ 47 ∷ rest)

-- The absolute form of a target (RFC 9112, section 3.2.2): a URI with a scheme and an authority and without `#`. The text is what follows
-- the authority, or a slash where nothing does.
abbrev pub IsAbsolute : List ℕ → List ℕ → Type 0
IsAbsolute target text =
    ¬ Contains target 35
    × (scheme : List ℕ) × (authority : List ℕ) × (behind : List ℕ)
    × IsUriText target (Some scheme) (Some authority) behind × (text ≡ or_slash behind)

-- the text in a target that is to name a path: in origin form the whole target, in absolute form what follows the authority (RFC 9112,
-- section 3.2)
abbrev pub HasPathText : List ℕ → List ℕ → Type 0
HasPathText target text =
    (BeginsWithSlash target × (text ≡ target)) ⊎ (¬ BeginsWithSlash target × IsAbsolute target text)

-- Why no path is read in a target: 400 where it is in neither form; `InvalidPath` where its text names no path; `ForbiddenPath` where its
-- text climbs above the root.
pub data IsUnreadable (target : List ℕ) : DavError → Type 0 where
  formless : ((text : List ℕ) → ¬ HasPathText target text) → IsUnreadable target (dav.Status 400)
  invalid : {text : List ℕ} → HasPathText target text → IsRefused text parse.InvalidPath → IsUnreadable target dav.InvalidPath
  climbing : {text : List ℕ} → HasPathText target text → IsRefused text parse.ForbiddenPath → IsUnreadable target dav.ForbiddenPath

-- What the target of a request with this method names, below a prefix: a path, cut after the prefix (without a slash at the prefix's
-- end), or the error that answers the request, which is `IllegalPath` for a path outside the prefix. `*` names the server, whatever the
-- prefix, for OPTIONS alone; 400 for other methods (RFC 9110, section 9.3.7; RFC 9112, section 3.2).
pub data TargetNames (prefix : List ℕ) (method : DavMethod) (target : List ℕ) : Result PathText DavError → Type 0 where
  server : target ≡ star → method ≡ Options → TargetNames prefix method target (Ok (record { prefix = []; bytes = star }))
  reserved : target ≡ star → method ≢ Options → TargetNames prefix method target (Err (dav.Status 400))
  unreadable : {e : DavError} → target ≢ star → IsUnreadable target e → TargetNames prefix method target (Err e)
  outside : {text bytes : List ℕ} → HasPathText target text → Reads text bytes → HasNoCut (without_slash prefix) bytes → TargetNames prefix method target (Err dav.IllegalPath)
  path : {text bytes : List ℕ} {p : PathText} → HasPathText target text → Reads text bytes → IsCut (without_slash prefix) bytes p → TargetNames prefix method target (Ok p)

-- the target of a request with this method names one path, or gives one error
abbrev pub OneOutcome : Type 0
OneOutcome =
    (prefix : List ℕ) (method : DavMethod) (target : List ℕ) (a b : Result PathText DavError)
    → TargetNames prefix method target a → TargetNames prefix method target b → a ≡ b
