-- Of a head one request is read, so one amount is added.
use Rattle.std.proofs.Common.{◌≡◌, ℕ, true, List, [], codes, Option, Some, None, Result, refl, sym, ap, subst, ◌∙◌}
use Rattle.std.specs.Result.{result_ok}
use Rattle.http_header.specs.FieldValue.{FieldValue}
use Rattle.http_header.specs.HeaderMap.{get_all}
use Rattle.dav_core.specs.declared.errors.DavError.{DavError}
use Rattle.dav_core.specs.declared.method.DavMethod.{DavMethod}
use Rattle.dav_core.specs.Path.{PathText}
use Rattle.dav_core.specs.World.{Nodes}
use Rattle.dav_engine.specs.CopyMove.{DestinationNames}
use Rattle.dav_engine.specs.Headers.{Headers}
use Rattle.dav_engine.proofs.OnePlanLemmas.{one_place}
use Rattle.dav_headers.specs.Value.{Decodes}
use Rattle.dav_server.specs.Head.{IsHead, Request}
use Rattle.dav_server.specs.Headers.{headers_of}
use Rattle.dav_server.specs.Holder.{IsRequestTo}
use Rattle.dav_server.specs.Machine.{Exchange, Settings}
use Rattle.dav_access.specs.declared.limit.Limit.{Limit}
use Rattle.dav_confined.specs.Asked.{AskedView, IsAsked}
use Rattle.dav_confined.proofs.LeaveLemmas.{by_reading}
use Rattle.dav_http.specs.Placed.{AreFirsts, IsRangedFrom, IsUpdatedFrom}
use Rattle.dav_http.proofs.PlacedLemmas.{one_ranged, one_updated}
use Rattle.dav_limits.specs.Added.{added_by}
use Rattle.dav_limits.specs.Limits.{is_past}

one_decoded : (P : List FieldValue → ℕ → Type 0) (values : List FieldValue) → ((m n : ℕ) → P values m → P values n → m ≡ n) → (o p : Option ℕ) → Decodes P values o → Decodes P values p → o ≡ p
one_decoded P values one None None first second = refl
one_decoded P values one None (Some n) first second = absurd (first n second)
one_decoded P values one (Some m) None first second = absurd (second m first)
one_decoded P values one (Some m) (Some n) first second = ap Some (one m n first second)

one_firsts : (headers : Headers) (f g : Option ℕ × Option ℕ) → AreFirsts headers f → AreFirsts headers g → f ≡ g
one_firsts headers f g first second =
    let ranged = get_all headers (codes "content-range") in
    let updated = get_all headers (codes "x-update-range") in
    λ i. (
      one_decoded IsRangedFrom ranged (one_ranged ranged) f.0 g.0 first.0 second.0 i,
      one_decoded IsUpdatedFrom updated (one_updated updated) f.1 g.1 first.1 second.1 i,
    )

module _ (s : Settings) (x y : Exchange) (a b : AskedView) (ask : IsAsked s x a) (other : IsAsked s y b) (same : y.head ≡ x.head) (ns : Nodes) (body : List ℕ) (limits : List Limit)
    (f g : Option ℕ × Option ℕ) (named : AreFirsts (headers_of ask.request.fields) f) (also : AreFirsts (headers_of other.request.fields) g) where
  abbrev Passes : DavMethod → PathText → Option PathText → Option ℕ × Option ℕ → Type 0
  Passes m p d h = is_past ns (record { method = m; path = p; destination = d; spoken_of = [] }) (added_by ns m p body h) limits ≡ true

  to : IsRequestTo s x other.request b.method b.path
  to = record { head = subst (λ (h : List ℕ). IsHead h other.request) same other.to.head; method = other.to.method; target = other.to.target }

  abbrev Says : Request → DavMethod → PathText → Type 0
  Says r m p =
      (place : Result PathText DavError) → DestinationNames p.prefix (get_all (headers_of r.fields) (codes "destination")) place
      → AreFirsts (headers_of r.fields) g → Passes m p (result_ok place) g → Passes a.method a.path a.destination f

  here : Says ask.request a.method a.path
  here place destination firsts is =
      let d : result_ok place ≡ a.destination =
      ap result_ok (one_place a.path.prefix (get_all (headers_of ask.request.fields) (codes "destination")) destination ask.says.named) ∙ sym ask.says.destination in
      let h : g ≡ f = one_firsts (headers_of ask.request.fields) g f firsts named in
      subst (λ (k : Option ℕ × Option ℕ). Passes a.method a.path a.destination k) h (subst (λ (o : Option PathText). Passes a.method a.path o g) d is)

  -- what another reading adds past a limit, this one does
  pub past_once : is_past ns b (added_by ns b.method b.path body g) limits ≡ true → is_past ns a (added_by ns a.method a.path body f) limits ≡ true
  past_once is =
      by_reading [] s x a ask Says here other.request b.method b.path to other.says.place other.says.named also
      (subst (λ (o : Option PathText). Passes b.method b.path o g) other.says.destination is)
