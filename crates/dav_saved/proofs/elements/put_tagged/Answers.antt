use Rattle.std.proofs.Common.{◌++◌, ◌∷◌, [], ap, sym, ◌∙◌, append_assoc}
use Rattle.dav_saved.specs.Spelling.{sized}
use Rattle.dav_saved.proofs.Puts.{text_put}
use Rattle.dav_saved.proofs.elements.put_tagged.Goals as goal

pub returns-clause-added : goal.returns-clause-added
returns-clause-added c =
    let v = c.args.value.now in
    c.in_ok-put_text.ensures.added ∙ ap (λ bs. bs ++ sized v) c.in_ok-push.ensures.items ∙ append_assoc c.args.out.now.items (1 ∷ []) (sized v)
    ∙ ap (λ x. c.args.out.now.items ++ x) (sym (text_put v))
