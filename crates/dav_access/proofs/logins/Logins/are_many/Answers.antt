use Rattle.std.proofs.Common.{◌≡◌, ◌∙◌, ◌&&◌, ◌||◌, ℕ, List, bytes_eq, count_by, nat_lt, ap}
use Rattle.sha2.specs.Sha256.{sha256}
use Rattle.dav_access.specs.Logins.{LoginsView, is_from, is_of, is_recent}
use Rattle.dav_access.specs.declared.logins.WrongLogin.{WrongLogin}
use Rattle.dav_access.proofs.logins.Logins.are_many.Goals as goal

pub returns : goal.returns
returns c =
    let l = c.args.self.now in
    let now = c.args.now in
    let wrong : c.self.inside.wrong.items ≡ l.wrong = ap (λ (v : LoginsView). v.wrong) c.self.view_is in
    let address : c.self.inside.address.items ≡ l.address = ap (λ (v : LoginsView). v.address) c.self.view_is in
    let place : c.digest-address.result ≡ sha256 l.address = c.digest-address.ensures ∙ ap sha256 address in
    let all : c.deref.result.now ≡ l.wrong = c.deref.ensures.value ∙ wrong in
    let same : c.deref-2.result.now ≡ l.wrong = c.deref-2.ensures.value ∙ wrong in
    let of_name : c.count_of.result ≡ count_by (is_of now l.address c.args.name.now) l.wrong =
    c.count_of.ensures ∙ (λ t. count_by (λ (w : WrongLogin). (is_recent now w && bytes_eq w.address (place t)) && bytes_eq w.name (c.digest.ensures t)) (all t)) in
    let from : c.count_from.result ≡ count_by (is_from now l.address) l.wrong =
    c.count_from.ensures ∙ (λ t. count_by (λ (w : WrongLogin). is_recent now w && bytes_eq w.address (place t)) (same t)) in
    c.are_many.ensures ∙ (λ t. nat_lt 4 (of_name t) || nat_lt 19 (from t))
