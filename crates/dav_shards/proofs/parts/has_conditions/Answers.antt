use Rattle.std.proofs.Common.{◌∙◌, ap, sym}
use Rattle.std.specs.List.{list_all}
use Rattle.std.proofs.lemmas.List.Folds.{list_all-map}
use Rattle.dav_core.specs.Path.{names}
use Rattle.dav_confined.specs.Asked.{AskedView}
use Rattle.dav_shards.specs.Shards.{is_here}
use Rattle.dav_shards.proofs.parts.has_conditions.Goals as goal

pub returns : goal.returns
returns c =
    let here = is_here c.args.folders.now in
    c.has_each.ensures ∙ ap (list_all (λ p. here (names p))) c.deref.ensures.value ∙ sym (list_all-map here names c.asked.inside.spoken_of.items)
    ∙ ap (λ (a : AskedView). list_all here a.spoken_of) c.asked.view_is
