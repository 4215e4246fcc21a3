-- The phrases of statuses.
use Rattle.std.proofs.Common.{◌≡◌, ℕ, ◌==◌, ◌&&◌, true, false, List, [], None, Option, refl, sym, ap, if◌then◌else◌, arith, nat_le, nat_lt}
use Rattle.std.specs.Option.{unwrap_or}
use Rattle.http.specs.StatusCode.{reason_phrase, IsStatusCode}

other_code : (n k : ℕ) → ¬ (IsStatusCode n) → (nat_le 100 k && nat_lt k 1000) ≡ true → (n == k) ≡ false
other_code n k other code = grind arith

skip : (n k : ℕ) (phrase : Option (List ℕ)) {rest : Option (List ℕ)} → ¬ (IsStatusCode n) → (nat_le 100 k && nat_lt k 1000) ≡ true → rest ≡ None
    → (if n == k then phrase else rest) ≡ None
skip n k phrase other code none = rw (other_code n k other code) none

-- what isn't a status has no phrase
has_none : (n : ℕ) → ¬ (IsStatusCode n) → reason_phrase n ≡ None
has_none n other =
    skip n 100 _ other refl (skip n 101 _ other refl (skip n 102 _ other refl (skip n 103 _ other refl (
    skip n 200 _ other refl (skip n 201 _ other refl (skip n 202 _ other refl (skip n 203 _ other refl (
    skip n 204 _ other refl (skip n 205 _ other refl (skip n 206 _ other refl (skip n 207 _ other refl (
    skip n 208 _ other refl (skip n 226 _ other refl (skip n 300 _ other refl (skip n 301 _ other refl (
    skip n 302 _ other refl (skip n 303 _ other refl (skip n 304 _ other refl (skip n 305 _ other refl (
    skip n 307 _ other refl (skip n 308 _ other refl (skip n 400 _ other refl (skip n 401 _ other refl (
    skip n 402 _ other refl (skip n 403 _ other refl (skip n 404 _ other refl (skip n 405 _ other refl (
    skip n 406 _ other refl (skip n 407 _ other refl (skip n 408 _ other refl (skip n 409 _ other refl (
    skip n 410 _ other refl (skip n 411 _ other refl (skip n 412 _ other refl (skip n 413 _ other refl (
    skip n 414 _ other refl (skip n 415 _ other refl (skip n 416 _ other refl (skip n 417 _ other refl (
    skip n 418 _ other refl (skip n 421 _ other refl (skip n 422 _ other refl (skip n 423 _ other refl (
    skip n 424 _ other refl (skip n 425 _ other refl (skip n 426 _ other refl (skip n 428 _ other refl (
    skip n 429 _ other refl (skip n 431 _ other refl (skip n 451 _ other refl (skip n 500 _ other refl (
    skip n 501 _ other refl (skip n 502 _ other refl (skip n 503 _ other refl (skip n 504 _ other refl (
    skip n 505 _ other refl (skip n 506 _ other refl (skip n 507 _ other refl (skip n 508 _ other refl (
    skip n 510 _ other refl (skip n 511 _ other refl (refl))))))))))))))))))))))))))))))))))))))))))))))))))))))))))))))

pub no_phrase : (n : ℕ) → ¬ (IsStatusCode n) → [] ≡ unwrap_or (reason_phrase n) []
no_phrase n other = ap (λ o. unwrap_or o []) (sym (has_none n other))
