use Rattle.std.proofs.Common.{◌≡◌, ap, ◌∙◌}
use Rattle.http1.specs.Head.{pairs}
use Rattle.http_server.specs.Response.{fields, fields_of}
use Rattle.dav_wire.proofs.Replies.{unrefused, refused_for}
use Rattle.dav_wire.proofs.reply.write_head.Goals as goal

pub returns-clause-sendable : goal.returns-clause-sendable
returns-clause-sendable c =
    let sent : pairs c.deref-2.result.now ≡ fields_of c.args.response.now =
    ap pairs c.deref-2.ensures.value ∙ c.in_ok-fields.ensures ∙ ap fields c.deref.ensures.value in
    unrefused c.write_response.result _ _ _
    (rw (sent, c.as_u16.ensures.value, c.phrase_of-phrase.ensures, c.size_of-size.ensures.value) at c.write_response.ensures.outcome)

pub returns-clause-refused : goal.returns-clause-refused
returns-clause-refused c =
    let sent : pairs c.deref-2.result.now ≡ fields_of c.args.response.now =
    ap pairs c.deref-2.ensures.value ∙ c.in_ok-fields.ensures ∙ ap fields c.deref.ensures.value in
    refused_for c.write_response.result _ _ _ _
    (rw (sent, c.as_u16.ensures.value, c.phrase_of-phrase.ensures, c.size_of-size.ensures.value) at c.write_response.ensures.outcome)
    c.write_response.ensures.err
