-- With the fields that are left to come, those are added that are sent; all else is as it was.
use Rattle.std.proofs.Common.{◌≡◌, ◌++◌, map, option_map}
use Rattle.http_header.specs.HeaderMap.{pairs}
use Rattle.http_server.specs.Response.{fields_of}
use Rattle.dav_engine.specs.Reply.{header_pairs}
use Rattle.dav_http.specs.Presented.{with_type}
use Rattle.dav_http.specs.Sending.{sent_fields}
use Rattle.dav_http.proofs.presented.fields.add_typed.Given as goal

abbrev pub invariant-loop-name : goal.invariant-loop-name
invariant-loop-name l =
    (fields_of l.response ++ map (with_type (option_map (λ t. t.now) l.fn.kind)) (sent_fields l.fn.is_head (header_pairs l.name-iterator)) ≡ fields_of l.fn.response ++ map (with_type (option_map (λ t. t.now) l.fn.kind)) (sent_fields l.fn.is_head (header_pairs (pairs l.fn.headers))))
    × (l.response.status ≡ l.fn.response.status) × (l.response.body ≡ l.fn.response.body)
