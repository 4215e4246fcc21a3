-- One text names one path, whether a request is for it or brings something there (RFC 4918, section 10.3; RFC 9112, section 3.2).
use Rattle.std.specs.Prelude.{◌≡◌, ◌≢◌, ℕ, List, Some, Result, Ok}
use Rattle.http_header.specs.FieldValue.{FieldValue}
use Rattle.dav_core.specs.declared.errors.DavError.{DavError}
use Rattle.dav_core.specs.declared.method.DavMethod.{DavMethod}
use Rattle.dav_core.specs.Path.{PathText, star}
use Rattle.dav_headers.specs.Value.{only_text}
use Rattle.dav_engine.specs.CopyMove.{DestinationNames}
use Rattle.dav_server.specs.Setup.{IsPrefix}
use Rattle.dav_server.specs.Target.{BeginsWithSlash, TargetNames}

-- A text that begins with a slash names one path, or gives one error, whether it is the target of a request with any method, or the
-- Destination of a request whose own target was cut after the same prefix (RFC 4918, section 10.3).
abbrev pub OneTextOnePath : Type 0
OneTextOnePath =
    (prefix : List ℕ) → IsPrefix prefix
    → (method other : DavMethod) (own text : List ℕ) (p : PathText) (values : List FieldValue) (a b : Result PathText DavError)
    → own ≢ star → TargetNames prefix method own (Ok p)
    → BeginsWithSlash text → only_text values ≡ Some text
    → TargetNames prefix other text a → DestinationNames p.prefix values b → a ≡ b
