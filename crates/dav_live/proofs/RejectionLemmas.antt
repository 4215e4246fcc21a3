-- Which requests aren't taken, by their heads alone.
use Rattle.std.proofs.Common.{◌≡◌, ◌≢◌, ◌⊎◌, inl, inr, ℕ, Bool, true, false, List, ◌∷◌, ◌++◌, Contains, Option, Some, None, Ok, Err, MatchOption, codes, drop, true≢false, refl, sym, subst, ap, ◌∙◌}
use Rattle.std.specs.Bool.{Decides}
use Rattle.std.specs.List.{list_any}
use Rattle.std.specs.Str.{IsUtf8}
use Rattle.std.proofs.lemmas.Fmt.{IsAscii-from_digits}
use Rattle.std.proofs.lemmas.Str.{IsUtf8-from_ascii}
use denote.Ref.{Bor}
use Rattle.dav_core.specs.declared.errors.DavError.{DavError}
use Rattle.dav_core.specs.declared.method.DavMethod.{DavMethod}
use Rattle.dav_headers.specs.Cut.{IsCut}
use Rattle.dav_headers.specs.Value.{IsNumber}
use Rattle.dav_headers.proofs.CutLemmas.{cut_one}
use Rattle.dav_server.specs.Head.{Request, is_same_name}
use Rattle.dav_server.specs.Method.{GivesServed}
use Rattle.dav_server.proofs.MeansWorld.{one_method}
use Rattle.dav_wire.specs.declared.answer.Rejection.{Rejection}
use Rattle.dav_live.specs.Hosts.{AsksBadPort, IsHostOf, TellsFor, alone, asked_host, before_port, own_names, value_of}
use Rattle.dav_live.specs.Rejections.{HasAuthority, IsBodyRefused, IsOfHost, IsForged, IsUntaken, MayHaveMore, StatesAtMost, TellsRefusedBody, TellsUntaken, bad_port, bodiless, body, forged, misdirected, takes_body, unserved}
use Rattle.dav_live.proofs.HostLemmas.{front_of_last, has_colon, no_colon}

-- ---- origins

-- a text without a colon has no authority
pub no_authority : (origin a : List ℕ) → ¬ Contains origin 58 → ¬ HasAuthority origin a
no_authority origin a none (scheme, cut) =
    none (subst (λ (t : List ℕ). Contains t 58) (sym cut.1) (has_colon scheme (codes "//" ++ a)))

-- what follows the first colon is one text
pub one_rest : (origin scheme rest a : List ℕ) → IsCut 58 origin scheme rest → HasAuthority origin a → rest ≡ codes "//" ++ a
one_rest origin scheme rest a cut (other, also) =
    (cut_one 58 scheme rest other (codes "//" ++ a) (sym cut.1 ∙ also.1) cut.0 also.0).1

-- an origin has one authority
pub one_authority : (origin a b : List ℕ) → HasAuthority origin a → HasAuthority origin b → a ≡ b
one_authority origin a b (scheme, cut) has = ap (drop 2) (one_rest origin scheme (codes "//" ++ a) b cut has)

-- whether an origin's authority is that of a host, by its name
pub of_host : (origin a host : List ℕ) (b : Bool) → HasAuthority origin a → b ≡ is_same_name a host → Decides b (IsOfHost origin (Some host))
of_host origin a host b has is =
    ((λ yes. (a, has, sym is ∙ yes)), (λ other. is ∙ ap (λ (x : List ℕ). is_same_name x host) (one_authority origin a other.0 has other.1) ∙ other.2))

pub of_no_host : (origin host : List ℕ) → ((a : List ℕ) → ¬ HasAuthority origin a) → Decides false (IsOfHost origin (Some host))
of_no_host origin host none = ((λ yes. absurd (true≢false (sym yes))), (λ other. absurd (none other.0 other.1)))

-- the authority by what follows the first colon
pub authority_by : (origin scheme rest : List ℕ) (r : Option (Bor (List ℕ))) → IsCut 58 origin scheme rest
    → MatchOption r ((x : List ℕ) → rest ≢ codes "//" ++ x) (λ x. rest ≡ codes "//" ++ x.now)
    → MatchOption r ((a : List ℕ) → ¬ HasAuthority origin a) (λ a. HasAuthority origin a.now)
authority_by origin scheme rest None cut none = λ a has. none a (one_rest origin scheme rest a cut has)
authority_by origin scheme rest (Some x) cut found = (scheme, (cut.0, cut.1 ∙ ap (λ (t : List ℕ). scheme ++ 58 ∷ t) found))

-- ---- bodies

-- a number is text
pub number_is_text : (text : List ℕ) (n : ℕ) → IsNumber text n → IsUtf8 text
number_is_text text n is = IsUtf8-from_ascii text (IsAscii-from_digits text is.0.1)

-- ---- hosts

-- an authority has one host
one_host : (authority a b : List ℕ) → IsHostOf authority a → IsHostOf authority b → a ≡ b
one_host authority a b (before_port _ port is digits) (before_port _ other also figures) =
    front_of_last a b port other (sym is ∙ also) (no_colon port digits) (no_colon other figures)
one_host authority a _ (before_port _ port is digits) (alone none) = absurd (none a port is digits)
one_host authority _ b (alone none) (before_port _ port is digits) = absurd (none b port is digits)
one_host authority _ _ (alone none) (alone also) = refl

pub not_both_hosts : (hosts : List (List ℕ)) (value : Option (List ℕ)) → TellsFor hosts value true → ¬ TellsFor hosts value false
not_both_hosts hosts None is other = cc
not_both_hosts hosts (Some authority) (host, is, named) (another, also, unnamed) =
    let same = one_host authority host another is also in
    true≢false (named ∙ ap (λ (h : List ℕ). list_any (is_same_name h) (own_names ++ hosts)) same ∙ sym unnamed)

-- ---- which aren't taken

pub decided_not : {P : Type 0} (b : Bool) → Decides b P → b ≡ false → ¬ P
decided_not b decides is p = true≢false (sym (decides.1 p) ∙ is)

pub no_reason : (hosts : List (List ℕ)) (r : Request) (why : Rejection) → ¬ IsForged r → ¬ MayHaveMore 0 r → ¬ IsUntaken hosts r why
no_reason hosts r _ own few (forged is) = own is
no_reason hosts r _ own few (bad_port _ more port) = few more
no_reason hosts r _ own few (misdirected _ more port host) = few more
no_reason hosts r _ own few (body _ more port host refused) = few more

no_reason_by_body : (hosts : List (List ℕ)) (r : Request) (why : Rejection) → ¬ IsForged r → ¬ AsksBadPort (asked_host r) → TellsFor hosts (asked_host r) true → ((y : Rejection) → ¬ IsBodyRefused r y)
    → ¬ IsUntaken hosts r why
no_reason_by_body hosts r _ own port host none (forged is) = own is
no_reason_by_body hosts r _ own port host none (bad_port _ more bad) = port bad
no_reason_by_body hosts r _ own port host none (misdirected _ more _ other) = not_both_hosts hosts (asked_host r) host other
no_reason_by_body hosts r why own port host none (body _ more _ _ refused) = none why refused

pub by_body : (hosts : List (List ℕ)) (r : Request) (found : Option Rejection) → ¬ IsForged r → MayHaveMore 0 r → ¬ AsksBadPort (asked_host r)
    → TellsFor hosts (asked_host r) true
    → TellsRefusedBody r found → TellsUntaken hosts r found
by_body hosts r (Some why) own more port host refused = body own more port host refused
by_body hosts r None own more port host none = λ why is. no_reason_by_body hosts r why own port host none is

-- a method that is served has one reading
pub body_taken : (r : Request) (m : DavMethod) (why : Rejection) → GivesServed r.method (Ok m) → (takes_body m ≡ true) ⊎ StatesAtMost 0 r → ¬ IsBodyRefused r why
body_taken r m _ served (inl takes) (unserved none) = none m served
body_taken r m _ served (inr few) (unserved none) = none m served
body_taken r m _ served (inl takes) (bodiless n gives takes_none many) =
    true≢false (sym takes ∙ ap takes_body (one_method r.method m n served gives) ∙ takes_none)
body_taken r m _ served (inr few) (bodiless n gives takes_none many) = many few

-- a method of which there is none isn't served
pub not_served : (method : List ℕ) (e : DavError) → GivesServed method (Err e) → (m : DavMethod) → ¬ GivesServed method (Ok m)
not_served method e (is, none) m (served, named) = none m served named
