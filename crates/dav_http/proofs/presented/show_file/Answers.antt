use Rattle.std.proofs.Common.{option_copied, option_map, string_bytes}
use Rattle.dav_http.proofs.PresentedLemmas.{on_ok, shows_by}
use Rattle.dav_http.proofs.presented.show_file.Goals as goal

pub returns : goal.returns
returns c =
    on_ok c.fill.result
    (shows_by c.args.head.now c.args.moment c.args.modified c.fill.new.response c.in_ok-tag.tag (option_copied c.as_ref.result) c.in_ok-bytes.bytes c.target.result.now c.method.result.now
    c.in_ok-sent.sent.status (option_map string_bytes c.in_ok-sent.sent.content_range) (option_map (λ t. t.now) c.in_ok-kind.kind) c.in_ok-sent.sent.body c.is_head.result c.reply.view_is
    c.in_ok-tag.ensures c.as_ref.ensures.value c.in_ok-sent.ensures.sent c.in_ok-bytes.ensures c.in_ok-kind.ensures.is c.target.ensures c.is_head.ensures c.method.ensures)
    c.fill.ensures
