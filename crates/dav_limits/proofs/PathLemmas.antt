-- Two paths each of which is at the other or below it are one.
use Rattle.std.proofs.Common.{◌≡◌, ◌++◌, true, [], length, length-append, Option, None, Some, refl, ap, ◌∙◌, append-nil, arith}
use Rattle.std.proofs.lemmas.List.{nil_from_length}
use Rattle.std.specs.Option.{is_some}
use Rattle.dav_core.specs.Path.{Path, is_at_or_under, rest_after}
use Rattle.dav_core.proofs.FrontLemmas.{from_rest}

rest_by : (p q : Path) (o : Option Path) → rest_after p q ≡ o → is_some o ≡ true → (r : Path) × (q ≡ p ++ r)
rest_by p q None is some = cc
rest_by p q (Some r) is some = (r, from_rest p q r is)

pub one_path : (a b : Path) → is_at_or_under a b ≡ true → is_at_or_under b a ≡ true → a ≡ b
one_path a b within back =
    let (r, e) = rest_by b a (rest_after b a) refl within in
    let (s, f) = rest_by a b (rest_after a b) refl back in
    let none : r ≡ [] = nil_from_length r (omega (arith, ap length e, ap length f, length-append b r, length-append a s)) in
    e ∙ ap (λ (t : Path). b ++ t) none ∙ append-nil b
