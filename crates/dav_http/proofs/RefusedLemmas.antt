-- Which requests aren't run, by what is read of them.
use Rattle.std.proofs.Common.{◌≡◌, ◌≢◌, ◌⊎◌, Bool, true, false, nat_lt, not, ◌==◌, length, is_some, ok_or, IfOk, true≢false, arith, List, [], inl, inr, ℕ, ◌<◌, ◌≤◌, Option, Some, None, Result, Ok, Err, option_map, codes, refl, subst, sym, ap, ◌∙◌}
use Rattle.std.specs.Bool.{Decides}
use Rattle.std.proofs.lemmas.Bool.{cases_lt}
use Rattle.std.proofs.lemmas.Bool.Decides.{nat_tests}
use Rattle.dav_core.specs.Path.{PathText, names}
use Rattle.dav_core.specs.World.{Node, node_at}
use Rattle.dav_core.specs.declared.errors.DavError.{DavError}
use Rattle.dav_core.specs.declared.errors.DavError.TheVariants as dav
use Rattle.dav_core.specs.declared.method.DavMethod.{DavMethod}
use Rattle.dav_core.specs.declared.method.DavMethod.TheVariants.{PropPatch}
use Rattle.dav_store.specs.Used.{properties_of}
use Rattle.httparse.proofs.GrammarLemmas.{request_unique}
use Rattle.dav_server.specs.Head.{IsHead, Request, request_of_head}
use Rattle.dav_http.specs.Kept.{Says}
use Rattle.dav_server.specs.Method.{GivesServed}
use Rattle.dav_server.specs.Server.{Server}
use Rattle.dav_server.specs.Target.{TargetNames}
use Rattle.dav_server.proofs.MeansWorld.{one_method}
use Rattle.dav_server.proofs.TargetLemmas.{one_outcome}
use Rattle.http_header.specs.FieldValue.{FieldValue}
use Rattle.dav_headers.specs.If.{ConditionList, IsIfHeader}
use Rattle.dav_headers.specs.declared.errors.HeaderError.{HeaderError}
use Rattle.dav_headers.specs.declared.errors.HeaderError.TheVariants as header-error
use Rattle.dav_server.specs.Headers.{headers_of}
use Rattle.dav_http.specs.Crowded.{AreTooMany, IsCrowded}
use Rattle.dav_http.specs.Setting.{set_in}
use Rattle.dav_http.specs.Refused.{AsksForTooMany, HasUnread, IsChangedAt, IsStale, IsUnmet, IsUnread, MayBeRefused, MayChange, NoLaterSecondIsLost, Refuses, Tells, crowded, many, since_in, stale, unmet, unread}

-- bytes that say one request are the head of no other
pub said_of : (bytes : List ℕ) (a b : Request) → IsHead bytes a → Says bytes b → a ≡ b
said_of bytes a b (_, head, reads, _, is) (other, also, same) = is ∙ ap request_of_head (request_unique bytes head other [] [] reads also).0 ∙ sym same

-- a request that isn't run has a method of which some aren't
pub may_be_refused : (s : Server) (q : Request) (body : List ℕ) (status : ℕ) → Refuses s q body status → MayBeRefused q.method
may_be_refused s q body _ (many asks) = inl asks.0
may_be_refused s q body status (unmet may is) = inr may
may_be_refused s q body _ (crowded may met is) = inr may

-- an update that is run loses no change of a later second
pub no_later_second_is_lost : NoLaterSecondIsLost
no_later_second_is_lost s q body since moment runs may is_since changed = by (cases_lt since moment)
  where
    by : (since < moment) ⊎ (moment ≤ since) → moment ≤ since
    by (inr before) = before
    by (inl later) = absurd (runs 412 (unmet may (stale (λ has. runs 400 (unmet may (unread has))) (since, moment, is_since, changed, later))))

one_path : (a b : PathText) → ◌≡◌ {A = Result PathText DavError} (Ok a) (Ok b) → a ≡ b
one_path a b same = cc

not_both : {A : Type 0} (a : PathText) (e : DavError) → ◌≡◌ {A = Result PathText DavError} (Ok a) (Err e) → A
not_both a e same = absurd (cc)

module _ (s : Server) (q : Request) (m : DavMethod) (served : GivesServed q.method (Ok m)) where
  -- when what is at the path of a target was changed last
  pub tells_change : (p : PathText) → TargetNames s.settings.prefix m q.target (Ok p) → (at : Option ℕ)
      → at ≡ option_map (λ (n : Node). n.modified) (node_at s.state.store.world (names p)) → Tells (IsChangedAt s q) at
  tells_change p named at is = by (node_at s.state.store.world (names p)) refl
    where
      same_path : (k : DavMethod) (r : PathText) → GivesServed q.method (Ok k) → TargetNames s.settings.prefix k q.target (Ok r) → r ≡ p
      same_path k r gives also =
          one_path r p
          (one_outcome s.settings.prefix m q.target (Ok r) (Ok p) (subst (λ (k : DavMethod). TargetNames s.settings.prefix k q.target (Ok r)) (one_method q.method k m gives served) also) named)

      by : (found : Option Node) → node_at s.state.store.world (names p) ≡ found → Tells (IsChangedAt s q) at
      by (Some n) there =
          subst (Tells (IsChangedAt s q)) (sym (is ∙ ap (option_map (λ (n : Node). n.modified)) there)) (m, p, n, served, named, there, refl)
      by None there =
          subst (Tells (IsChangedAt s q)) (sym (is ∙ ap (option_map (λ (n : Node). n.modified)) there))
          (λ moment changed.
          let (k, r, n, gives, also, has, when) = changed in
          let none : None ≡ Some n = sym there ∙ ap (λ (x : PathText). node_at s.state.store.world (names x)) (sym (same_path k r gives also)) ∙ has in cc)

  -- where no path is read in a target, nothing was changed
  pub tells_none : (e : DavError) → TargetNames s.settings.prefix m q.target (Err e) → Tells (IsChangedAt s q) None
  tells_none e not = λ moment changed.
      let (k, r, n, gives, also, has, when) = changed in
      not_both r e (one_outcome s.settings.prefix m q.target (Ok r) (Err e) (subst (λ (k : DavMethod). TargetNames s.settings.prefix k q.target (Ok r)) (one_method q.method k m gives served) also) not)

-- the same, where the method, the prefix and the target were asked for
pub tells_change_by : (s : Server) (q : Request) (m : DavMethod) (method prefix target : List ℕ) → method ≡ q.method → prefix ≡ s.settings.prefix → target ≡ q.target
    → GivesServed method (Ok m) → (p : PathText) → TargetNames prefix m target (Ok p) → (at : Option ℕ)
    → at ≡ option_map (λ (n : Node). n.modified) (node_at s.state.store.world (names p)) → Tells (IsChangedAt s q) at
tells_change_by s q m method prefix target named below asked served p reads at is =
    tells_change s q m (subst (λ (t : List ℕ). GivesServed t (Ok m)) named served) p
    (subst (λ (t : List ℕ). TargetNames s.settings.prefix m t (Ok p)) asked (subst (λ (t : List ℕ). TargetNames t m target (Ok p)) below reads)) at is

pub tells_none_by : (s : Server) (q : Request) (m : DavMethod) (method prefix target : List ℕ) → method ≡ q.method → prefix ≡ s.settings.prefix → target ≡ q.target
    → GivesServed method (Ok m) → (e : DavError) → (e ≡ dav.Memory) ⊎ TargetNames prefix m target (Err e) → e ≢ dav.Memory → (at : Option ℕ) → at ≡ None → Tells (IsChangedAt s q) at
tells_none_by s q m method prefix target named below asked served e (inl memory) other at is = absurd (other memory)
tells_none_by s q m method prefix target named below asked served e (inr reads) other at is =
    subst (Tells (IsChangedAt s q)) (sym is)
    (tells_none s q m (subst (λ (t : List ℕ). GivesServed t (Ok m)) named served) e
    (subst (λ (t : List ℕ). TargetNames s.settings.prefix m t (Err e)) asked (subst (λ (t : List ℕ). TargetNames t m target (Err e)) below reads)))

-- ---- too many properties

module _ (s : Server) (q : Request) (body : List ℕ) (is_patch : q.method ≡ codes "PROPPATCH") where
  -- what is crowded at the path that a target names is crowded
  pub crowded_at : (prefix target : List ℕ) → prefix ≡ s.settings.prefix → target ≡ q.target → (p : PathText) → TargetNames prefix PropPatch target (Ok p) → (is : Bool)
      → Decides is (AreTooMany (properties_of (node_at s.state.store.world (names p))) (set_in body)) → Decides is (IsCrowded s q body)
  crowded_at prefix target below asked p reads is decides =
      let named : TargetNames s.settings.prefix PropPatch q.target (Ok p) =
      subst (λ (t : List ℕ). TargetNames s.settings.prefix PropPatch t (Ok p)) asked (subst (λ (t : List ℕ). TargetNames t PropPatch target (Ok p)) below reads) in (
        λ yes. (p, is_patch, named, decides.0 yes),
        λ crowds.
            let (r, method, also, there) = crowds in
            decides.1 (
            subst (λ (x : PathText). AreTooMany (properties_of (node_at s.state.store.world (names x))) (set_in body))
            (one_path r p (one_outcome s.settings.prefix PropPatch q.target (Ok r) (Ok p) also named)) there
            ),
      )

  -- where no path is read in a target, nothing is
  pub crowded_nowhere : (prefix target : List ℕ) → prefix ≡ s.settings.prefix → target ≡ q.target → (e : DavError) → (e ≡ dav.Memory) ⊎ TargetNames prefix PropPatch target (Err e)
      → e ≢ dav.Memory → (is : Bool) → is ≡ false → Decides is (IsCrowded s q body)
  crowded_nowhere prefix target below asked e (inl memory) other is never = absurd (other memory)
  crowded_nowhere prefix target below asked e (inr reads) other is never = (
    λ yes. absurd (true≢false (sym yes ∙ never)),
    λ crowds.
        let (r, method, also, there) = crowds in
        not_both r e (one_outcome s.settings.prefix PropPatch q.target (Ok r) (Err e) also
        (subst (λ (t : List ℕ). TargetNames s.settings.prefix PropPatch t (Err e)) asked (subst (λ (t : List ℕ). TargetNames t PropPatch target (Err e)) below reads))),
  )

-- ---- what was changed since

one_moment : (s : Server) (q : Request) (a b : ℕ) → IsChangedAt s q a → IsChangedAt s q b → a ≡ b
one_moment s q a b (m, p, n, served, named, there, when) (k, r, o, gives, also, has, then-when) =
    let methods : k ≡ m = one_method q.method k m gives served in
    let paths : r ≡ p =
    one_path r p (one_outcome s.settings.prefix m q.target (Ok r) (Ok p) (subst (λ (k : DavMethod). TargetNames s.settings.prefix k q.target (Ok r)) methods also) named) in
    let nodes : Some n ≡ Some o = sym there ∙ ap (λ (x : PathText). node_at s.state.store.world (names x)) (sym paths) ∙ has in
    sym when ∙ ap (λ (x : Node). x.modified) (one_node n o nodes) ∙ then-when
  where
    one_node : (x y : Node) → Some x ≡ Some y → x ≡ y
    one_node x y same = cc

less_from : (a b : ℕ) → nat_lt a b ≡ true → a < b
less_from a b is = grind (arith, nat_tests, is)

from_less : (a b : ℕ) → a < b → nat_lt a b ≡ true
from_less a b less = grind (arith, nat_tests, less)

one_since : (a b : ℕ) → Some a ≡ Some b → a ≡ b
one_since a b same = cc

pub decides_stale : (s : Server) (q : Request) (since moment : ℕ) → since_in (headers_of q.fields) ≡ Some since → IsChangedAt s q moment
    → (nat_lt since moment ≡ true → IsStale s q) × (IsStale s q → nat_lt since moment ≡ true)
decides_stale s q since moment is changed = (
  λ less. (since, moment, is, changed, less_from since moment less),
  λ stale.
      let (a, b, also, then, less) = stale in
      subst (λ (x : ℕ). nat_lt x moment ≡ true) (one_since a since (sym also ∙ is)) (subst (λ (y : ℕ). nat_lt a y ≡ true) (one_moment s q b moment then changed) (from_less a b less)),
)

pub never_stale : (s : Server) (q : Request) → Tells (IsChangedAt s q) None → (false ≡ true → IsStale s q) × (IsStale s q → false ≡ true)
never_stale s q none = (
  λ bad. absurd (true≢false (sym bad)),
  λ stale. let (a, b, also, then, less) = stale in absurd (none b then),
)

-- ---- what isn't understood

not_false : (b : Bool) → not b ≡ false → b ≡ true
not_false true is = refl
not_false false is = absurd (true≢false is)

pub unread_or_not : {X : Type 0} (lists : X → List ConditionList) (values : List FieldValue) (header : Option X) (decoded : Result X HeaderError) (is : Bool)
    → (values ≡ [] → ⊥) → decoded ≡ ok_or header header-error.Invalid → IfOk decoded (λ x. IsIfHeader values (lists x))
    → (decoded ≡ Err header-error.Invalid → (ls : List ConditionList) → ¬ IsIfHeader values ls) → is_some header ≡ not is
    → (is ≡ true → IsUnread IsIfHeader values) × (IsUnread IsIfHeader values → is ≡ true)
unread_or_not lists values None decoded is some same reads invalid none = ((λ yes. (some, invalid same)), (λ unread. not_false is (sym none)))
unread_or_not {X} lists values (Some x) decoded is some same reads invalid there =
    let read : IsIfHeader values (lists x) = subst (λ (d : Result X HeaderError). IfOk d (λ x. IsIfHeader values (lists x))) same reads in (
      λ yes. absurd (true≢false (there ∙ ap not yes)),
      λ unread. absurd (unread.1 (lists x) read),
    )

pub unread_by : {X : Type 0} (lists : X → List ConditionList) (shown items values : List FieldValue) (header : Option X) (decoded : Result X HeaderError) (is : Bool)
    → shown ≡ items → items ≡ values → (length items == 0) ≡ false → decoded ≡ ok_or header header-error.Invalid → IfOk decoded (λ x. IsIfHeader shown (lists x))
    → (decoded ≡ Err header-error.Invalid → (ls : List ConditionList) → ¬ IsIfHeader shown ls) → is_some header ≡ not is
    → (is ≡ true → IsUnread IsIfHeader values) × (IsUnread IsIfHeader values → is ≡ true)
unread_by {X} lists shown items values header decoded is one two some same reads invalid there =
    let all : shown ≡ values = one ∙ two in
    unread_or_not lists values header decoded is (λ none. true≢false (ap (λ (vs : List FieldValue). length vs == 0) (sym none ∙ sym two) ∙ some)) same
    (subst (λ (vs : List FieldValue). IfOk decoded (λ x. IsIfHeader vs (lists x))) all reads)
    (subst (λ (vs : List FieldValue). decoded ≡ Err header-error.Invalid → (ls : List ConditionList) → ¬ IsIfHeader vs ls) all invalid) there

-- ---- all

pub all_met : (s : Server) (q : Request) → ¬ HasUnread (headers_of q.fields) → ¬ IsStale s q → (n : ℕ) → ¬ IsUnmet s q n
all_met s q understood fresh _ (unread has) = understood has
all_met s q understood fresh _ (stale not is) = fresh is

module _ (s : Server) (q : Request) (body : List ℕ) (few : ¬ AsksForTooMany q body) (may : MayChange q.method) where
  pub refused_unmet : (status : Option ℕ) (n : ℕ) → status ≡ Some n → Tells (IsUnmet s q) status → Refuses s q body n
  refused_unmet None n some is = absurd (cc)
  refused_unmet (Some m) n some is = unmet may (subst (IsUnmet s q) (same m n some) is)
    where
      same : (a b : ℕ) → Some a ≡ Some b → a ≡ b
      same a b e = cc

  module _ (status : Option ℕ) (none : status ≡ None) (tells : Tells (IsUnmet s q) status) where
    met : (n : ℕ) → ¬ IsUnmet s q n
    met = subst (Tells (IsUnmet s q)) none tells

    pub refused_crowded : IsCrowded s q body → Refuses s q body 507
    refused_crowded is = crowded may met is

    pub not_refused : ¬ IsCrowded s q body → (n : ℕ) → ¬ Refuses s q body n
    not_refused room _ (many asks) = few asks
    not_refused room n (unmet also is) = met n is
    not_refused room _ (crowded also others is) = room is
