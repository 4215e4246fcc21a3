use Rattle.std.proofs.Common.{◌≡◌, ◌∙◌, List, map, bytes_eq, sym, ap, subst, codes}
use Rattle.std.specs.List.{list_any}
use Rattle.std.specs.Option.{ok_or}
use Rattle.http_header.specs.HeaderMap.{get_all}
use Rattle.http_header.specs.FieldValue.{FieldValue}
use Rattle.dav_headers.specs.declared.errors.HeaderError.TheVariants as HeaderError
use Rattle.dav_headers.specs.declared.if_header.IfList.{IfList}
use Rattle.dav_headers.specs.If.{IsIfHeader, tokens_of}
use Rattle.dav_headers.specs.IfView.{list_value, if_lists}
use Rattle.dav_server.proofs.NamingLemmas.{if_ok_at, if_token_of, no_if_token}
use Rattle.dav_server.proofs.naming.is_if_token.Goals as goal

pub returns-in-Some : goal.returns-in-Some
returns-in-Some c =
    let same : c.deref.result.now ≡ get_all c.args.headers.now (codes "if") =
    c.deref.ensures.value ∙ c.in_ok-values.ensures ∙ ap (get_all c.args.headers.now) c.IF.ensures in
    let good = c.in_ok-header.ensures.ok ∙ ap (λ header. ok_or header HeaderError.Invalid) c.in-Some.is in
    if_token_of c.args.headers.now c.args.token.now (if_lists c.in-Some.header) _
    (subst (λ (values : List FieldValue). IsIfHeader values (if_lists c.in-Some.header)) same (if_ok_at (λ x. IsIfHeader c.deref.result.now (if_lists x)) c.decode.result c.in-Some.header good c.decode.ensures.ok))
    (c.is_in_lists.ensures ∙ ap (λ (ls : List IfList). list_any (bytes_eq c.args.token.now) (tokens_of (map list_value ls))) c.deref-in-Some.ensures.value)

pub returns : goal.returns
returns c =
    let same : get_all c.args.headers.now (codes "if") ≡ c.deref.result.now =
    sym (c.deref.ensures.value ∙ c.in_ok-values.ensures ∙ ap (get_all c.args.headers.now) c.IF.ensures) in
    let invalid = c.in_ok-header.ensures.ok ∙ ap (λ header. ok_or header HeaderError.Invalid) c.in-None.is in
    no_if_token c.args.headers.now c.args.token.now
    (λ ls is. c.decode.ensures.invalid invalid ls (subst (λ (values : List FieldValue). IsIfHeader values ls) same is))
