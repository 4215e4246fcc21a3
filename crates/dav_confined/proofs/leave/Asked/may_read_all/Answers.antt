use Rattle.std.proofs.Common.{◌∙◌, ap, sym}
use Rattle.std.specs.List.{list_all}
use Rattle.std.specs.Option.{option_copied}
use Rattle.std.proofs.lemmas.List.Folds.{list_all-map}
use Rattle.dav_core.specs.Path.{names}
use Rattle.dav_access.specs.Rules.{may_read}
use Rattle.dav_confined.specs.Asked.{AskedView}
use Rattle.dav_confined.proofs.leave.Asked.may_read_all.Goals as goal

pub returns : goal.returns
returns c =
    let reads = may_read c.args.rules.now (option_copied c.args.who) in
    c.may_read_each.ensures ∙ ap (list_all (λ p. reads (names p))) c.deref.ensures.value ∙ sym (list_all-map reads names c.self.inside.spoken_of.items)
    ∙ ap (λ (a : AskedView). list_all reads a.spoken_of) c.self.view_is
