-- With the fields that are left to come, those are added that are sent; all else is as it was.
use Rattle.std.proofs.Common.{◌≡◌, ◌++◌, bytes_eq, codes, filter}
use Rattle.http_header.specs.HeaderMap.{pairs}
use Rattle.http_server.specs.Response.{fields_of}
use Rattle.dav_engine.specs.Reply.{Header, header_pairs}
use Rattle.dav_http.proofs.presented.fields.add_tag.Given as goal

abbrev pub invariant-loop-name : goal.invariant-loop-name
invariant-loop-name l =
    (fields_of l.response ++ filter (λ (h : Header). bytes_eq h.0 (codes "etag")) (header_pairs l.name-iterator) ≡ fields_of l.fn.response ++ filter (λ (h : Header). bytes_eq h.0 (codes "etag")) (header_pairs (pairs l.fn.headers)))
    × (l.response.status ≡ l.fn.response.status) × (l.response.body ≡ l.fn.response.body)
