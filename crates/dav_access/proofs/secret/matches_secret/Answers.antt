use Rattle.std.proofs.Common.{◌≡◌, sym, ap, ◌∙◌, arith}
use Rattle.dav_access.specs.Crypt.{crypt_of, encoding_of}
use Rattle.dav_access.proofs.SecretLemmas.{secret_once}
use Rattle.dav_access.proofs.secret.matches_secret.Goals as goal

pub returns-in-Some : goal.returns-in-Some
returns-in-Some c =
    let parts = c.in-Some.parts in
    let password = c.args.password.now in
    let same : c.crypt_of-digest.result ≡ crypt_of password parts.salt.now parts.rounds =
    c.crypt_of-digest.ensures ∙ ap (λ s. crypt_of password s parts.rounds) c.as_bytes.ensures.value in (
      λ is. record {
        short = omega arith;
        crypt = record {
          rounds = parts.rounds;
          salt = parts.salt.now;
          digest = parts.digest.now;
          parts = c.in-Some.ensures;
          written = sym c.as_bytes-in-Some.ensures.value ∙ c.is_encoding_of.ensures.0 is ∙ ap encoding_of same;
        };
      },
      λ fits.
          let once = secret_once c.in-Some.ensures fits.crypt.parts in
          let other : crypt_of password fits.crypt.salt fits.crypt.rounds ≡ c.crypt_of-digest.result =
          ap (λ s. crypt_of password s fits.crypt.rounds) (sym once.salt) ∙ ap (λ n. crypt_of password parts.salt.now n) (sym once.rounds) ∙ sym same in
          c.is_encoding_of.ensures.1 (c.as_bytes-in-Some.ensures.value ∙ once.digest ∙ fits.crypt.written ∙ ap encoding_of other),
    )
