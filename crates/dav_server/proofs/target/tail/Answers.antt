use Rattle.std.proofs.Common.{sym, ap, ◌∙◌, option_copied}
use Rattle.http_uri.specs.Grammar.{or_slash}
use Rattle.dav_server.proofs.TargetLemmas.{shown_data}
use Rattle.dav_server.proofs.target.tail.Goals as goal

pub returns : goal.returns
returns c =
    let scheme = sym c.scheme.ensures ∙ ap option_copied c.in_ok-scheme.was in
    let authority = sym c.authority.ensures ∙ ap option_copied c.in_ok-authority.was in
    let shown = ap option_copied (sym c.in_ok-path_and_query.was) ∙ c.path_and_query.ensures in (
      c.in_ok-scheme.field-0.now,
      c.in_ok-authority.field-0.now,
      scheme,
      authority,
      c.as_str.ensures.value ∙ ap or_slash (shown_data c.args.uri.now _ _ scheme shown),
    )
