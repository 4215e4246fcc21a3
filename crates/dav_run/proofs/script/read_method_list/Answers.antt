use Rattle.std.proofs.Common.{All, ap, subst, sym, ◌∙◌}
use Rattle.serde_json.specs.View.{items_view}
use Rattle.dav_core.specs.Method.{IsMethodName, texts_of}
use Rattle.dav_run.proofs.Items.{texts_same}
use Rattle.dav_run.proofs.script.read_method_list.Goals as goal

pub returns-in_err-from_vec-clause-none : goal.returns-in_err-from_vec-clause-none
returns-in_err-from_vec-clause-none c = λ e set are.
    let (names, texts, named) = are.named in
    let same = texts_same (items_view c.args.list.now) names (texts_of c.in_ok-names.names.items) texts c.in_ok-names.ensures.ok in
    c.in_err-from_vec.ensures (subst (All IsMethodName) (same ∙ ap texts_of (sym c.deref.ensures.value)) named.named)
