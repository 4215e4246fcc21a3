-- Of a head one request is read, so the part of it that names what is elsewhere is one.
use Rattle.std.proofs.Common.{◌≡◌, ◌||◌, ◌==◌, ℕ, Bool, true, false, true≢false, arith, length, not, bytes_eq, if◌then◌else◌, List, [], ◌∷◌, MatchOption, codes, Option, Some, None, Result, refl, sym, ap, ◌∙◌}
use Rattle.std.specs.List.{list_all, list_any}
use Rattle.std.proofs.lemmas.Bool.Decides.{nat_tests}
use Rattle.std.specs.Result.{result_ok}
use Rattle.http_header.specs.HeaderMap.{get_all}
use Rattle.dav_core.specs.declared.errors.DavError.{DavError}
use Rattle.dav_core.specs.declared.method.DavMethod.{DavMethod}
use Rattle.dav_core.specs.declared.method.DavMethod.TheVariants.{Copy, Move}
use Rattle.dav_core.specs.Path.{Path, PathText, is_at_or_under, names, star}
use Rattle.dav_engine.specs.declared.request.Body.TheVariants as body
use Rattle.dav_engine.specs.Conditions.{AreConditions, Conditions, paths_in}
use Rattle.dav_engine.specs.CopyMove.{DestinationNames}
use Rattle.dav_engine.proofs.OnePlanLemmas.{one_conditions, one_place}
use Rattle.dav_server.specs.Head.{Request}
use Rattle.dav_server.specs.Headers.{headers_of}
use Rattle.dav_server.specs.Machine.{Exchange, Settings}
use Rattle.dav_confined.specs.Asked.{AskedView, IsAsked, IsUnread}
use Rattle.dav_confined.proofs.LeaveLemmas.{by_reading}
use Rattle.dav_shards.specs.Shards.{IsElsewhere, elsewhere, has_destination, has_target, is_here}
use Rattle.dav_shards.specs.declared.parts.Part.{Part}
use Rattle.dav_shards.specs.declared.parts.Part.TheVariants.{Target, Destination, Condition}

abbrev asking : DavMethod → PathText → Option PathText → List Path → AskedView
asking m p d paths = record { method = m; path = p; destination = d; spoken_of = paths }

module _ (folders : List PathText) (s : Settings) (x : Exchange) (a : AskedView) (ask : IsAsked s x a) where
  abbrev Says : Request → DavMethod → PathText → Type 0
  Says r m p =
      (place : Result PathText DavError) (c : Conditions) → DestinationNames p.prefix (get_all (headers_of r.fields) (codes "destination")) place
      → AreConditions (headers_of r.fields) p.prefix (names p) c
      → elsewhere folders (asking m p (result_ok place) (paths_in c.lists)) ≡ elsewhere folders a

  said : Says ask.request a.method a.path
  said place c destination read =
      let headers = headers_of ask.request.fields in
      let d : result_ok place ≡ a.destination = ap result_ok (one_place a.path.prefix (get_all headers (codes "destination")) destination ask.says.named) ∙ sym ask.says.destination in
      let k : paths_in c.lists ≡ a.spoken_of =
      ap (λ (t : Conditions). paths_in t.lists) (one_conditions headers a.path.prefix (names a.path) c ask.says.conditions read ask.says.read) ∙ sym ask.says.spoken_of in
      λ i. elsewhere folders (asking a.method a.path (d i) (k i))

  -- another reading of the request has the same part
  pub once : (b : AskedView) → IsAsked s x b → elsewhere folders b ≡ elsewhere folders a
  once b other =
      let is = by_reading [] s x a ask Says said other.request b.method b.path other.to other.says.place other.says.conditions other.says.named other.says.read in
      (λ i. elsewhere folders (asking b.method b.path (other.says.destination i) (other.says.spoken_of i))) ∙ is

-- ---- what is told of a head

module _ (folders : List PathText) (prefix head : List ℕ) where
  abbrev Tells : Option Part → Type 0
  Tells o = MatchOption o ((p : Part) → ¬ IsElsewhere folders prefix head p) (IsElsewhere folders prefix head)

  pub told : (a : AskedView) → ((s : Settings) (x : Exchange) → s.prefix ≡ prefix → x.head ≡ head → IsAsked s x a) → (o : Option Part) → o ≡ elsewhere folders a → Tells o
  told a ask None is = λ p e. let same : Some p ≡ None = sym e.is ∙ once folders e.settings e.exchange a (ask e.settings e.exchange e.below e.here) e.asks e.asked ∙ sym is in cc
  told a ask (Some p) is =
      let s : Settings = record { prefix = prefix; allowed = 0 } in
      let x : Exchange = record { head = head; body = body.None; principal = None; moment = 0; token = None } in
      record { settings = s; exchange = x; below = refl; here = refl; asks = a; asked = ask s x refl refl; is = sym is }

  -- what isn't read has none
  pub unread_told : ((s : Settings) (x : Exchange) → s.prefix ≡ prefix → x.head ≡ head → IsUnread s x) → (p : Part) → ¬ IsElsewhere folders prefix head p
  unread_told unread p e = unread e.settings e.exchange e.below e.here e.asked.request e.asks.method e.asks.path e.asked.to

-- ---- which part it is

-- the first of three tests that doesn't pass
abbrev pub first_of : Bool → Bool → Bool → Option Part
first_of t d c = if not t then Some Target else if not d then Some Destination else if not c then Some Condition else None

pub parts_of : (t d c : Bool) → first_of t d c ≡ None → (t ≡ true) × ((d ≡ true) × (c ≡ true))
parts_of true true true is = (refl, (refl, refl))
parts_of true true false is = cc
parts_of true false c is = cc
parts_of false d c is = cc

-- ---- a server that has all

or_true : (b : Bool) → (b || true) ≡ true
or_true true = refl
or_true false = refl

all_here : (paths : List Path) → list_all (is_here []) paths ≡ true
all_here [] = refl
all_here (p ∷ paths) = all_here paths

goes_here : (m : DavMethod) (d : Option PathText) → has_destination [] m d ≡ true
goes_here Copy None = refl
goes_here Copy (Some d) = refl
goes_here Move None = refl
goes_here Move (Some d) = refl
goes_here _ d = refl

none_of : (t d c : Bool) → t ≡ true → d ≡ true → c ≡ true → first_of t d c ≡ None
none_of true true true one two three = refl
none_of true true false one two three = cc
none_of true false c one two three = cc
none_of false d c one two three = cc

none_elsewhere : (a : AskedView) → elsewhere [] a ≡ None
none_elsewhere a =
    none_of (has_target [] a) (has_destination [] a.method a.destination) (list_all (is_here []) a.spoken_of)
    (or_true (bytes_eq a.path.bytes star)) (goes_here a.method a.destination) (all_here a.spoken_of)

-- what is at or below one of some folders is here
pub one_is_here : (folders : List PathText) (p : Path) → (length folders == 0) ≡ false → list_any (λ f. is_at_or_under p (names f)) folders ≡ is_here folders p
one_is_here [] p is = absurd (true≢false is)
one_is_here (f ∷ folders) p is = refl

-- without folders all is
pub all_is_here : (folders : List PathText) (p : Path) → (length folders == 0) ≡ true → is_here folders p ≡ true
all_is_here [] p is = refl
all_is_here (f ∷ folders) p is = absurd (grind (arith, nat_tests))

pub no_folders : (folders : List PathText) → (length folders == 0) ≡ true → folders ≡ []
no_folders [] is = refl
no_folders (f ∷ folders) is = absurd (grind (arith, nat_tests))

-- a server that has all refuses nothing
pub all_told : (prefix head : List ℕ) (p : Part) → ¬ IsElsewhere [] prefix head p
all_told prefix head p e = let same : Some p ≡ None = sym e.is ∙ none_elsewhere e.asks in cc
