use Rattle.std.proofs.Common.{◌≡◌, ℕ, not, List, [], ◌∷◌, ◌++◌, sym, ap, ◌∙◌}
use Rattle.std.proofs.lemmas.List.{append-nil}
use Rattle.std.proofs.lemmas.Result.{err_from_is_err_and}
use Rattle.dav_core.specs.Path.{without_slash, full_bytes, end_for}
use Rattle.dav_core.proofs.PrefixLemmas.{prefix_fits, cut_made, cut_also, full_is}
use Rattle.dav_core.proofs.davpath.DavPath.set_prefix.Goals.{then-lacks_slash+in_ok-push, else-lacks_slash}
use Rattle.dav_core.proofs.davpath.DavPath.set_prefix.Goals as goal

pub invariant_of-self-2 : goal.invariant_of-self-2
invariant_of-self-2 c =
    let fits = λ (more : List ℕ) (whole : c.if-lacks_slash.self-inside.full.items ≡ c.deref.result.now ++ more). prefix_fits c.args.prefix.now c.without_slash-prefix.result.now c.deref.result.now more c.if-lacks_slash.self-inside.full.items c.in-Some.lacks_slash c.utf8.prefix (c.without_slash-prefix.ensures ∙ ap without_slash c.as_bytes.ensures.value) c.in-Some.ensures whole in
    elim c.if-lacks_slash.branch [
      | then-lacks_slash+in_ok-push w ↦
          fits (47 ∷ []) (ap (λ s. s.full.items) w.self-inside-is ∙ w.in_ok-push.ensures.items ∙ ap (λ b. b ++ 47 ∷ []) (sym c.deref.ensures.value))
      | else-lacks_slash w ↦
          fits [] (ap (λ s. s.full.items) w.self-inside-is ∙ sym c.deref.ensures.value ∙ sym (append-nil c.deref.result.now))
    ]

pub returns-in_default-clause-err : goal.returns-in_default-clause-err
returns-in_default-clause-err c = λ cut h.
    let same : c.without_slash-prefix.result.now ≡ without_slash c.args.prefix.now = c.without_slash-prefix.ensures ∙ ap without_slash c.as_bytes.ensures.value in
    let whole : c.deref.result.now ≡ full_bytes c.args.self.now = c.deref.ensures.value ∙ full_is c.args.self.now c.self.inside.full.items c.self.inside.prefix_len c.self.view_is in
    c.in_default.ensures cut (cut_also (without_slash c.args.prefix.now) (full_bytes c.args.self.now) c.without_slash-prefix.result.now c.deref.result.now cut same whole h)

pub returns-in_err-push-clause-err : goal.returns-in_err-push-clause-err
returns-in_err-push-clause-err c =
    let same : c.without_slash-prefix.result.now ≡ without_slash c.args.prefix.now = c.without_slash-prefix.ensures ∙ ap without_slash c.as_bytes.ensures.value in
    let whole : c.deref.result.now ≡ full_bytes c.args.self.now = c.deref.ensures.value ∙ full_is c.args.self.now c.self.inside.full.items c.self.inside.prefix_len c.self.view_is in
    let all = c.in-Some.ensures.2 c.if-lacks_slash.true in
    let p = err_from_is_err_and c.from_residual.result c.from_residual.ensures.1 in
    rw (p.1, p.2) (λ empty. all.0 (same ∙ empty), sym whole ∙ all.1 ∙ same)

pub returns-clause-ok : goal.returns-clause-ok
returns-clause-ok c =
    let same : c.without_slash-prefix.result.now ≡ without_slash c.args.prefix.now = c.without_slash-prefix.ensures ∙ ap without_slash c.as_bytes.ensures.value in
    let whole : c.deref.result.now ≡ full_bytes c.args.self.now = c.deref.ensures.value ∙ full_is c.args.self.now c.self.inside.full.items c.self.inside.prefix_len c.self.view_is in
    let made = cut_made (without_slash c.args.prefix.now) (full_bytes c.args.self.now) c.without_slash-prefix.result.now c.deref.result.now c.if-lacks_slash.self-inside.full.items c.in-Some.lacks_slash same whole c.in-Some.ensures in
    elim c.if-lacks_slash.branch [
      | then-lacks_slash+in_ok-push w ↦
          made (ap (λ s. s.full.items) w.self-inside-is ∙ w.in_ok-push.ensures.items ∙ ap (λ b. b ++ 47 ∷ []) (sym c.deref.ensures.value) ∙ ap (λ b. c.deref.result.now ++ end_for (not b)) (sym w.if-lacks_slash.true))
      | else-lacks_slash w ↦
          made (ap (λ s. s.full.items) w.self-inside-is ∙ sym c.deref.ensures.value ∙ sym (append-nil c.deref.result.now) ∙ ap (λ b. c.deref.result.now ++ end_for (not b)) (sym w.if-lacks_slash.false))
    ]
