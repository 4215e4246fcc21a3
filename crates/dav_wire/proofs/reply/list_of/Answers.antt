use Rattle.std.proofs.Common.{◌≡◌, ◌+◌, [], ◌∷◌, ◌++◌, drop, sym, ap, ◌∙◌, append_assoc}
use Rattle.std.proofs.lemmas.List.{map_push, at_drop_more}
use Rattle.http1.specs.Head.{header_parts, pairs}
use Rattle.http_server.specs.Response.{fields}
use Rattle.dav_wire.proofs.reply.list_of.Goals as goal

pub loop-header-preserved : goal.loop-header-preserved
loop-header-preserved c =
    let headers = c.args.headers.now in
    let next = c.loop-header.header-index in
    let item = c.header-item.result in
    let listed = pairs c.loop-header.list.items in
    let later = fields (drop (next + 1) headers) in
    let left : fields (drop next headers) ≡ (item.0, item.1.bytes) ∷ later =
    at_drop_more fields headers next item c.loop-header-test.true ∙ ap (λ h. (h.0, h.1.bytes) ∷ later) (sym c.header-item.is) in
    ap (λ t. t ++ later)
    (ap pairs c.in_ok-push.ensures.items ∙ map_push header_parts _ _
    ∙ (λ i. listed ++ (c.as_bytes.ensures.value i, c.as_bytes-in-loop-header.ensures.value i) ∷ []))
    ∙ append_assoc listed ((item.0, item.1.bytes) ∷ []) later ∙ ap (λ t. listed ++ t) (sym left) ∙ c.loop-header.invariant
