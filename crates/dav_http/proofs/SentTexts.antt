-- Texts that may stand in a reply.
use Rattle.std.proofs.Common.{ℕ, List, Option, Some, None}
use Rattle.std.specs.Prelude.{IfSome}
use Rattle.std.specs.Str.{IsUtf8}
use Rattle.dav_xml.proofs.Legal.{legal_is_utf8}
use Rattle.dav_http.specs.Sent.{IsSendableTextIfAny}

pub sendable_utf8 : (name : Option (List ℕ)) → IsSendableTextIfAny name → IfSome name (λ t. IsUtf8 t)
sendable_utf8 None h = tt
sendable_utf8 (Some t) h = legal_is_utf8 t h.legal
