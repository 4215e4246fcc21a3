use Rattle.std.proofs.Common.{ap, codes, sym, ℕ, ◌==◌, ◌∙◌}
use Rattle.http_header.specs.HeaderMap.{get_all}
use Rattle.dav_headers.specs.IfView.{if_lists}
use Rattle.dav_http.proofs.RefusedLemmas.{unread_by}
use Rattle.dav_http.proofs.handler.refused.is_unread_if.Goals as goal

pub returns : goal.returns
returns c =
    unread_by if_lists c.deref.result.now c.in_ok-values.values.items (get_all c.args.headers.now (codes "if")) c.in_ok-absent_if_invalid.field-0 c.decode.result c.is_none.result
    c.deref.ensures.value (c.in_ok-values.ensures ∙ ap (get_all c.args.headers.now) c.IF.ensures) (ap (λ (n : ℕ). n == 0) (sym c.in_ok-values.values.ok.0) ∙ sym c.is_empty.ensures ∙ c.if-is_empty.false) c.in_ok-absent_if_invalid.ensures.ok
    c.decode.ensures.ok c.decode.ensures.invalid c.is_none.ensures
