use Rattle.std.proofs.Common.{◌∙◌, ◌++◌, List, ℕ, ap, codes}
use Rattle.dav_run.specs.Print.{body_data}
use Rattle.dav_run.proofs.TreeLemmas.{printed}
use Rattle.dav_run.proofs.print.body_text.Goals as goal

pub returns : goal.returns
returns c =
    let begun = c.new-out.ensures.before ∙ c.in_ok-extend_from_slice.ensures.items ∙ ap (λ (s : List ℕ). s ++ c.as_bytes.result.now) c.new-text.ensures.items ∙ c.as_bytes.ensures.value in
    printed (body_data c.args.body.now) (codes "{\"body\":") c.into_inner.result.items begun c.new-out.ensures.tokens c.in_ok-write_body.ensures c.into_inner.ensures.items
