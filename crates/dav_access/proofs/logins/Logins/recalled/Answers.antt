use Rattle.std.proofs.Common.{◌≡◌, ◌∙◌, ◌++◌, ℕ, List, ap, length, take, arith}
use Rattle.std.proofs.lemmas.List.{length-take-le, take-append-drop}
use Rattle.std.proofs.lemmas.Option.{MatchOption-at_none, MatchOption-at_some}
use Rattle.std.specs.List.{flat_map}
use Rattle.dav_access.specs.Logins.{LoginsView}
use Rattle.dav_access.proofs.logins.Logins.recalled.Goals as goal

-- src/logins.rt:214:13
pub returns-in_default-2 : goal.returns-in_default-2
returns-in_default-2 c count few is =
    MatchOption-at_none _ _ c.in_default-2.is c.in_ok-right.ensures count few (omega (arith, c.in-Some.ensures.cases.2, is))

-- src/logins.rt:205:5
pub returns : goal.returns
returns c =
    let bytes : List ℕ = c.args.bytes.now in
    let told = MatchOption-at_some _ _ c.in-Some-2.right c.in-Some-2.is c.in_ok-right.ensures in
    let none = c.logins.view_is ∙ c.new-logins.ensures in
    let salt : c.extend_from_slice.new.self.items ≡ take 16 bytes =
    c.in_ok-extend_from_slice.ensures.items ∙ ap (λ (v : LoginsView). v.salt ++ c.in-Some.salt.now) none ∙ c.in-Some.ensures.cases.0 in
    record {
      salt = ap length salt ∙ length-take-le 16 bytes (omega (arith, c.in-Some.ensures.cases.2));
      digests = told.0;
      few = told.1;
      kept = ap (λ (l : List ℕ). l ++ flat_map (λ d. d) c.in-Some-2.right.items) salt ∙ ap (λ (l : List ℕ). take 16 bytes ++ l) (told.2 ∙ c.in-Some.ensures.cases.1) ∙ take-append-drop 16 bytes;
      wrong = ap (λ (v : LoginsView). v.wrong) none;
      address = ap (λ (v : LoginsView). v.address) none;
    }
