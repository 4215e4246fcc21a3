use Rattle.std.proofs.Common.{◌∙◌, ℕ, List, ap, string_bytes}
use Rattle.dav_access.specs.Logins.{wait_of}
use Rattle.dav_live.specs.Serving.{logins_of}
use Rattle.dav_live.proofs.service.Service.wait_for.Goals as goal

pub returns : goal.returns
returns g c =
    let l = logins_of c.args.self.now in
    c.wait_of.ensures
    ∙ ap (λ (n : List ℕ). wait_of l n c.as_bytes-password.result.now c.seconds.result) c.as_bytes-name.ensures.value
    ∙ ap (λ (p : List ℕ). wait_of l (string_bytes c.args.login.now.name) p c.seconds.result) c.as_bytes-password.ensures.value
    ∙ ap (λ (n : ℕ). wait_of l (string_bytes c.args.login.now.name) (string_bytes c.args.login.now.password) n) c.seconds.ensures
