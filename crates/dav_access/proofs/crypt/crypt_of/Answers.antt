use Rattle.std.proofs.Common.{List, ℕ, add-one, ap, ◌∙◌, length, refl}
use Rattle.sha2.specs.Sha256.{sha256}
use Rattle.dav_access.specs.Crypt.{after_rounds, round_message, spread}
use Rattle.dav_access.proofs.crypt.crypt_of.Goals as goal

pub loop-k-init : goal.loop-k-init
unfolding after_rounds
loop-k-init c = refl

pub loop-k-preserved : goal.loop-k-preserved
unfolding after_rounds
loop-k-preserved c =
    let p : List ℕ = spread (length c.args.password.now) c.digest_of_repeated-of_password.result in
    rw (add-one c.loop-k.k)
    (c.next_digest-last.ensures ∙ ap (λ d. sha256 (round_message c.loop-k.k d p c.front-salt.result.now)) c.loop-k.invariant)
