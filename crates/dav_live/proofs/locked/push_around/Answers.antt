use Rattle.std.proofs.Common.{List, [], ◌∷◌, ◌++◌, ap, append_assoc, false, ◌∙◌}
use Rattle.dav_core.proofs.ParentLemmas.{parent_names}
use Rattle.dav_live.specs.declared.locked.Place.{Place}
use Rattle.dav_live.proofs.locked.push_around.Goals as goal

pub returns : goal.returns
returns c =
    let here : Place = record { path = c.args.path; deep = c.args.deep } in
    let folder : Place = record { path = c.in_ok-folder.folder; deep = false } in (
      c.in_ok-folder.folder,
      parent_names c.args.path.bytes c.in_ok-folder.folder.bytes c.in_ok-folder.ensures.parent,
      c.in_ok-push-2.ensures.items ∙ ap (λ (places : List Place). places ++ folder ∷ []) c.in_ok-push.ensures.items
          ∙ append_assoc c.args.places.now.items (here ∷ []) (folder ∷ []),
    )
