-- Which requests leave the server as it was, by tests.
use Rattle.std.proofs.Common.{◌≡◌, ◌≢◌, ◌↔◌, ◌<◌, ℕ, arith, Bool, true, false, ◌||◌, List, [], ◌∷◌, length, Ok, Err, refl, sym, ap, subst, ◌∙◌}
use Rattle.std.proofs.Math.Bool.{or-true}
use Rattle.std.proofs.lemmas.List.{length-map}
use Rattle.http_header.specs.FieldValue.{FieldValue}
use Rattle.http_header.specs.HeaderMap.{Entries, pairs, value_count}
use Rattle.http_header.proofs.CountLemmas.{length-pairs}
use Rattle.dav_core.specs.declared.errors.DavError.{DavError}
use Rattle.dav_core.specs.declared.method.DavMethod.{DavMethod}
use Rattle.dav_engine.specs.Reply.{Reply, Header, headers_in}
use Rattle.dav_server.specs.Head.{IsHead, Request}
use Rattle.dav_server.specs.Leaving.{IsEarlyError}
use Rattle.dav_server.specs.Method.{GivesServed}
use Rattle.dav_server.specs.TagLaws.{is_safe}
use Rattle.dav_server.proofs.HeadLemmas.{one_head}
use Rattle.dav_server.proofs.MeansWorld.{one_method}
use Rattle.dav_http.specs.Leaves.{Leaves, early, no_head, reading, unserved}

some_counted : (headers : List Header) (count : ℕ) → length headers ≡ count → headers ≢ [] → 0 < count
some_counted [] count is some = absurd (some refl)
some_counted (h ∷ hs) count is some = omega (arith, is)

-- a map that has a value has a header
pub has_header : (h : Entries FieldValue) → (0 < value_count h) ↔ (headers_in h ≢ [])
has_header h =
    let count : length (headers_in h) ≡ value_count h = length-map (pairs h) _ ∙ length-pairs h in (
      λ some none. let empty : 0 ≡ length (headers_in h) = sym (ap length none) in absurd (omega (arith, some, count, empty)),
      λ some. some_counted (headers_in h) (value_count h) count some,
    )

-- a method that only reads
abbrev pub IsReading : List ℕ → Type 0
IsReading method = (m : DavMethod) × GivesServed method (Ok m) × (is_safe m ≡ true)

module _ (head method : List ℕ) (r : Request) (reply : Reply) (is : IsHead head r) (named : method ≡ r.method) where
  same_method : (q : Request) → IsHead head q → q.method ≡ method
  same_method q other = ap (λ (x : Request). x.method) (one_head head q r other is) ∙ sym named

  -- of a method that is served, from the tests on
  leaves_if : (m : DavMethod) (s e : Bool) → GivesServed method (Ok m) → (s ≡ true → IsReading method) → (e ≡ true → IsEarlyError m reply) → (s || e) ≡ true → Leaves head reply
  leaves_if m true e gives reads error t =
      let (k, served, safe) = reads t in
      reading r k is (subst (λ (t : List ℕ). GivesServed t (Ok k)) named served) safe
  leaves_if m false e gives reads error t = early r m is (subst (λ (t : List ℕ). GivesServed t (Ok m)) named gives) (error t)

  -- and back
  leaves_only : (m : DavMethod) (s e : Bool) → GivesServed method (Ok m) → (IsReading method → s ≡ true) → (IsEarlyError m reply → e ≡ true) → Leaves head reply → (s || e) ≡ true
  leaves_only m s e gives reads error (no_head none) = absurd (none r is)
  leaves_only m s e gives reads error (reading q k other served safe) =
      ap (λ (b : Bool). b || e) (reads (k, subst (λ (t : List ℕ). GivesServed t (Ok k)) (same_method q other) served, safe))
  leaves_only m s e gives reads error (unserved q d other refuses) = absurd (refuses.1 m gives.0 (same_method q other ∙ gives.1))
  leaves_only m s e gives reads error (early q k other served is_error) =
      let same : k ≡ m = one_method method k m (subst (λ (t : List ℕ). GivesServed t (Ok k)) (same_method q other) served) gives in
      ap (λ (b : Bool). s || b) (error (subst (λ (j : DavMethod). IsEarlyError j reply) same is_error)) ∙ or-true s

  pub leaves_by : (m : DavMethod) (s e : Bool) → GivesServed method (Ok m) → (s ≡ true ↔ IsReading method) → (e ≡ true ↔ IsEarlyError m reply) → ((s || e) ≡ true) ↔ Leaves head reply
  leaves_by m s e gives reads error = (leaves_if m s e gives reads.0 error.0, leaves_only m s e gives reads.1 error.1)

  -- of one that isn't
  pub leaves_unserved : (e : DavError) → GivesServed method (Err e) → Leaves head reply
  leaves_unserved e (is_unknown, none) = unserved r e is (is_unknown, λ m served same. none m served (named ∙ same))
