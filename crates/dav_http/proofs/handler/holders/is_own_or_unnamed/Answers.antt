use Rattle.std.proofs.Common.{◌≡◌, ◌∙◌, ◌↔◌, List, ℕ, IsTrue, ap, subst}
use Rattle.std.specs.Str.Iter.{HasSubslice}
use Rattle.dav_core.specs.Locks.{Lock}
use Rattle.dav_http.proofs.HolderLemmas.{own_or_unnamed}
use Rattle.dav_http.proofs.handler.holders.is_own_or_unnamed.Goals as goal

pub returns-else-is_of : goal.returns-else-is_of
returns-else-is_of c =
    let token : c.as_str.result.now ≡ c.args.lock.now.token = c.as_str.ensures.value ∙ ap (λ (l : Lock). l.token) c.lock.view_is in
    own_or_unnamed c.is_of.result c.names.result c.is_of.ensures
    (subst (λ (t : List ℕ). IsTrue c.names.result ↔ HasSubslice c.args.text.now t) token c.names.ensures) c.if-is_of.false
