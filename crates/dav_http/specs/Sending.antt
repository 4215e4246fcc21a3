-- A reply as a connection sends it (RFC 9110, section 3.4).
use Rattle.std.specs.Prelude.{ℕ, Bool, ◌||◌, ◌++◌, not, List, codes, bytes_eq}
use Rattle.std.specs.List.{filter}
use Rattle.http_server.specs.declared.response.Response.{Response}
use Rattle.http_server.specs.Response.{IsResponse}
use Rattle.dav_engine.specs.Reply.{Header, Reply}
use Rattle.dav_http.specs.Steps.{sent_bytes}

-- whether a field is sent that a reply has: each is, but for `content-length`, which tells a HEAD how long the content of a GET is, and
-- which the connection tells of each other reply (RFC 9110, section 8.6)
abbrev pub is_sent : Bool → List ℕ → Bool
is_sent is_head name = is_head || not (bytes_eq name (codes "content-length"))

-- the fields of a reply that are sent, in order
abbrev pub sent_fields : Bool → List Header → List Header
sent_fields is_head headers = filter (λ h. is_sent is_head h.0) headers

-- A reply as it is sent: its status, its fields and the bytes of its body.
abbrev pub IsSentAs : Bool → Reply → Response → Type 0
IsSentAs is_head r sent = IsResponse r.status (sent_fields is_head r.headers) (sent_bytes r.body) sent

-- A reply as it is sent, with more fields after its own.
abbrev pub IsSentWith : List Header → Bool → Reply → Response → Type 0
IsSentWith more is_head r sent = IsResponse r.status (sent_fields is_head r.headers ++ more) (sent_bytes r.body) sent
