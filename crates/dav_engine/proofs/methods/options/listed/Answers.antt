use Rattle.std.proofs.Common.{codes, ap, ◌∙◌}
use Rattle.std.specs.List.{join_by}
use Rattle.http_header.specs.FieldValue.{plain_value}
use Rattle.dav_engine.specs.Options.{offered}
use Rattle.dav_engine.proofs.OptionsLemmas.{joined_names, if_ok}
use Rattle.dav_engine.proofs.methods.options.listed.Goals as goal

pub returns : goal.returns
returns c =
    let same = ap plain_value (joined_names (codes ",") c.in_ok-names.names.items (offered c.args.allow c.args.locks c.args.methods.now) c.in_ok-names.ensures) in
    if_ok c.joined.result (λ value is. is ∙ ap (λ texts. plain_value (join_by (λ text. text.now) (codes ",") texts)) c.deref.ensures.value ∙ same) c.joined.ensures
