use Rattle.std.proofs.Common.{List, ap, subst, ◌∙◌, string_bytes, ℕ}
use Rattle.std.proofs.lemmas.Result.{IfOk-weaker}
use Rattle.dav_core.specs.Locks.{Lock}
use Rattle.dav_core.specs.Path.{full_bytes}
use Rattle.dav_core.specs.UrlText.{IsTextOf}
use Rattle.dav_http.specs.Ending.{unlock_text}
use Rattle.dav_http.proofs.ending.unlock_head.Goals as goal

pub returns : goal.returns
returns c =
    IfOk-weaker c.head_of.result _ _
    (λ head is. (
      string_bytes c.in_ok-path.path,
      subst (λ (bytes : List ℕ). IsTextOf bytes (string_bytes c.in_ok-path.path)) (c.with_prefix.ensures ∙ ap (λ (l : Lock). full_bytes l.path) c.lock.view_is) c.in_ok-path.ensures,
      is ∙ ap (λ (path : List ℕ). unlock_text path c.as_str-2.result.now) c.as_str.ensures.value
          ∙ ap (unlock_text (string_bytes c.in_ok-path.path)) (c.as_str-2.ensures.value ∙ ap (λ (l : Lock). l.token) c.lock.view_is),
    ))
    c.head_of.ensures
