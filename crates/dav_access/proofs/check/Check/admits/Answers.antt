use Rattle.std.proofs.Common.{◌≡◌, List, ℕ, rules, string_bytes, sym, ◌∙◌, subst}
use Rattle.sha2.specs.Sha256.{sha256}
use Rattle.dav_access.specs.Users.{HasFitting}
use Rattle.dav_access.proofs.check.Check.admits.Goals as goal

pub returns-clause-sound : goal.returns-clause-sound
returns-clause-sound c _ =
    let same : c.as_slice.result.now ≡ c.as_slice-2.result.now = search rules in
    let digest : c.in-Some.last ≡ sha256 c.args.password.now =
    sym c.as_slice.ensures ∙ same ∙ c.as_slice-2.ensures ∙ c.digest-digest.ensures in
    let fitted : HasFitting (string_bytes c.self.inside.secret) c.in-Some.last = c.self.invariant c.in-Some.last c.in-Some.is in
    subst (λ (s : List ℕ). HasFitting s (sha256 c.args.password.now)) c.self.view_is
    (subst (λ (d : List ℕ). HasFitting (string_bytes c.self.inside.secret) d) digest fitted)
