-- What the server reads of a request may be sent.
use Rattle.std.proofs.Common.{◌≡◌, ◌≢◌, true≢false, ℕ, ◌<◌, ◌≤◌, true, false, cond, bytes_eq, codes, ◌&&◌, ◌==◌, nat_le, List, [], ◌∷◌, length, All, Option, Some, None, Result, Ok, Err, refl, ap, subst, sym, ◌∙◌, arith}
use Rattle.std.proofs.lemmas.Bool.{and_from, eqb-true}
use Rattle.std.proofs.lemmas.Bool.Decides.{nat_tests}
use Rattle.std.proofs.lemmas.List.Elements.{All-head, All-tail}
use Rattle.std.specs.List.{list_all}
use Rattle.dav_core.specs.Element.{ElementTree}
use Rattle.dav_core.specs.Path.{is_nonempty}
use Rattle.dav_core.specs.World.{last_moment}
use Rattle.dav_engine.specs.declared.request.Body.{Body}
use Rattle.dav_engine.specs.declared.request.Body.TheVariants as body
use Rattle.dav_server.specs.declared.exchange.TokenError.{TokenError}
use Rattle.dav_server.specs.declared.exchange.TokenError.TheVariants.{Refused}
use Rattle.dav_server.specs.GrantToken.{IsTokenByte, IsGrantToken}
use Rattle.dav_server.specs.Machine.{Exchange}
use Rattle.dav_server.specs.Token.{GivesToken}
use Rattle.dav_xml.specs.declared.error.Fault.{Fault}
use Rattle.dav_xml.specs.declared.error.XmlError.{XmlError}
use Rattle.dav_xml.specs.declared.error.XmlError.TheVariants as errors
use Rattle.dav_xml.specs.Read.{Fails}
use Rattle.dav_xml.specs.Namespaces.{document}
use Rattle.dav_xml.proofs.SentTrees.{read_is_sendable}
use Rattle.dav_presented.specs.Times.{find_as, patch_as}
use Rattle.dav_presented.proofs.SentLemmas.{asked_may_be_sent}
use Rattle.dav_xml.specs.Sendable.{IsSendable}
use Rattle.dav_http.specs.Steps.{TakesTree, IsBodyOf, nothing, as_tree, as_bytes, IsTokenOf, missing, granted, refused, read_as, with_times, IsExchangeOf}
use Rattle.dav_http.specs.Owners.{prefixed_owners}
use Rattle.dav_engine.specs.Caller.{Caller}
use Rattle.dav_http.specs.Sent.{IsSendableText, IsSendableTextIfAny, IsSendableBody}
use Rattle.dav_http.specs.SentLaws.{IsSendableRequest}
use Rattle.dav_presented.proofs.Printed.{printed_legal}
use Rattle.dav_http.proofs.Each.{test_of}
use Rattle.dav_http.proofs.SentOwners.{prefixed_owners_may_be_sent}

-- ---- bodies

none_by_length : (bs : List ℕ) → length bs ≡ 0 → bs ≡ []
none_by_length [] e = refl
none_by_length (b ∷ bs) e = absurd (omega (arith, e))

pub no_bytes : (bs : List ℕ) → true ≡ (length bs == 0) → bs ≡ []
no_bytes bs e = none_by_length bs (eqb-true (length bs) 0 (sym e))

pub some_bytes : (bs : List ℕ) → false ≡ (length bs == 0) → bs ≢ []
some_bytes bs e none = true≢false (sym (e ∙ ap (λ (xs : List ℕ). length xs == 0) none))

pub by_tree : (method : List ℕ) (moment : ℕ) (bytes slice : List ℕ) (tree timed told : ElementTree) → bytes ≢ [] → TakesTree method → slice ≡ bytes → document slice ≡ Ok tree
    → timed ≡ with_times method moment tree → told ≡ prefixed_owners timed → IsBodyOf method moment bytes (body.Tree told)
by_tree method moment bytes slice tree timed told some takes is e times same =
    subst (IsBodyOf method moment bytes) (ap (read_as method moment) (sym (ap document is) ∙ e) ∙ ap body.Tree (sym (same ∙ ap prefixed_owners times))) (as_tree some takes)

pub by_fault : (method : List ℕ) (moment : ℕ) (bytes slice : List ℕ) (error : XmlError) (fault : Fault) → bytes ≢ [] → TakesTree method → slice ≡ bytes → error ≡ errors.Fault fault → Fails error (document slice)
    → IsBodyOf method moment bytes body.Malformed
by_fault method moment bytes slice error fault some takes is names fails =
    let e : document slice ≡ Err fault = subst (λ (x : XmlError). Fails x (document slice)) names fails in
    subst (IsBodyOf method moment bytes) (ap (read_as method moment) (sym (ap document is) ∙ e)) (as_tree some takes)

-- a tree with times as they are kept
timed_sent : (method : List ℕ) (moment : ℕ) (tree : ElementTree) → moment ≤ last_moment → IsSendable tree → IsSendable (with_times method moment tree)
timed_sent method moment tree le sent =
    test_of (bytes_eq method (codes "PROPPATCH")) (λ t. IsSendable (cond t (patch_as moment tree) (cond (bytes_eq method (codes "PROPFIND")) (find_as tree) tree)))
    (λ is. asked_may_be_sent.1 moment tree le sent)
    (λ is. test_of (bytes_eq method (codes "PROPFIND")) (λ t. IsSendable (cond t (find_as tree) tree)) (λ is. asked_may_be_sent.0 tree sent) (λ is. sent))

-- a body that is read as a tree, once its owners are ready
read_body : (method : List ℕ) (moment : ℕ) (bytes : List ℕ) (r : Result ElementTree Fault) → moment ≤ last_moment → document bytes ≡ r → IsSendableBody (read_as method moment r)
read_body method moment bytes (Ok tree) le e = prefixed_owners_may_be_sent (with_times method moment tree) (timed_sent method moment tree le (read_is_sendable bytes tree e))
read_body method moment bytes (Err fault) le e = tt

given_body : (method : List ℕ) (moment : ℕ) (bytes : List ℕ) (content : Body) → moment ≤ last_moment → IsBodyOf method moment bytes content → IsSendableBody content
given_body method moment bytes content le (nothing none) = tt
given_body method moment bytes content le (as_tree some takes) = read_body method moment bytes (document bytes) le refl
given_body method moment bytes content le (as_bytes some not) = tt

-- ---- tokens

pub token_granted : (text token : List ℕ) → IsGrantToken text × (token ≡ text) → IsTokenOf (Some text) (Some token)
token_granted text token h = subst (λ (t : List ℕ). IsTokenOf (Some text) (Some t)) (sym h.1) (granted h.0)

pub token_refused : (text : List ℕ) (error : TokenError) → error ≡ Refused → GivesToken text (Err error) → IsTokenOf (Some text) None
token_refused text error is h = refused (subst (λ (e : TokenError). GivesToken text (Err e)) is h)

byte_printed : (b : ℕ) → 32 < b → b < 127 → (nat_le 32 b && nat_le b 126) ≡ true
byte_printed b low high = grind (arith, nat_tests)

bytes_printed : (bs : List ℕ) → All IsTokenByte bs → list_all (λ b. nat_le 32 b && nat_le b 126) bs ≡ true
bytes_printed [] h = refl
bytes_printed (b ∷ bs) h =
    let one = All-head IsTokenByte b bs h in
    and_from (nat_le 32 b && nat_le b 126) (list_all (λ b. nat_le 32 b && nat_le b 126) bs) (byte_printed b one.0 one.1) (bytes_printed bs (All-tail IsTokenByte b bs h))

some_byte : (bs : List ℕ) → (bs ≡ [] → ⊥) → is_nonempty bs ≡ true
some_byte [] n = absurd (n refl)
some_byte (b ∷ bs) n = refl

granted_token : (token : List ℕ) → IsGrantToken token → IsSendableText token
granted_token token h = record { some = some_byte token h.0; legal = printed_legal token (record { all = bytes_printed token h.1 }) }

-- ---- requests

given_token : (text token : Option (List ℕ)) → IsTokenOf text token → IsSendableTextIfAny token
given_token text token missing = tt
given_token text token (granted {text = t} h) = granted_token t h
given_token text token (refused not) = tt

pub given_moment : (head bytes : List ℕ) (who : Caller) (x : Exchange) → IsExchangeOf head bytes who x → x.moment ≤ last_moment
given_moment head bytes who x h = rw h.moment (omega arith)

-- a request of somebody whose name may be sent
pub given_request : (head bytes : List ℕ) (who : Caller) (x : Exchange) → IsExchangeOf head bytes who x → IsSendableTextIfAny x.principal → IsSendableRequest x
given_request head bytes who x h principal =
    record { body = given_body h.method x.moment bytes x.body (given_moment head bytes who x h) h.body; principal = principal; token = given_token who.token x.token h.token }
