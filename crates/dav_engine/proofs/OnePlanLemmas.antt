-- A request has one plan, since each header is read in one way.
use Rattle.std.proofs.Common.{◌≡◌, ◌≢◌, Result, Ok, Err, inl, inr, ℕ, List, [], ◌∷◌, Option, Some, None, refl, sym, ap, subst, ◌∙◌}
use Rattle.std.specs.Option.{option_or}
use Rattle.std.specs.Prelude.{codes}
use Rattle.http_header.specs.FieldValue.{FieldValue}
use Rattle.http_header.specs.HeaderMap.{get_all}
use Rattle.url.specs.Parts.{Parts}
use Rattle.dav_core.specs.declared.errors.DavError.{DavError}
use Rattle.dav_core.specs.declared.errors.ParseError.{ParseError}
use Rattle.dav_core.specs.declared.errors.ParseError.TheVariants as parse
use Rattle.dav_core.specs.declared.method.DavMethod.{DavMethod}
use Rattle.dav_core.specs.Path.{Path, PathText, names, IsCut, without_slash}
use Rattle.dav_core.specs.Status.{path_error}
use Rattle.dav_core.specs.Target.{Reads, IsRefused}
use Rattle.dav_core.proofs.Theorems.{Reads-one, Reads-valid, Reads-allowed, refused_once, one_cut}
use Rattle.dav_headers.specs.ContentRange.{IsContentRange}
use Rattle.dav_headers.specs.Depth.{IsDepth}
use Rattle.dav_headers.specs.Destination.{IsDestination}
use Rattle.dav_headers.specs.Overwrite.{IsOverwrite}
use Rattle.dav_headers.specs.ETagList.{IsTagList}
use Rattle.dav_headers.specs.If.{ConditionList, IsIf, IsIfHeader}
use Rattle.dav_headers.specs.Length.{IsContentLength}
use Rattle.dav_headers.specs.Timeout.{IsTimeout}
use Rattle.dav_headers.specs.UpdateRange.{IsUpdateRange}
use Rattle.dav_headers.specs.Value.{IsNumber}
use Rattle.dav_headers.specs.declared.range.ContentRange.{ContentRange}
use Rattle.dav_headers.proofs.Theorems.{one_destination, one_overwrite, one_depth, one_timeout, says_one, one_update_range, same_number, one_tag_list, one_content_range, one_content_length}
use Rattle.dav_engine.specs.declared.methods.put.headers.Bounds.{Bounds}
use Rattle.dav_engine.specs.declared.methods.put.headers.Bounds.TheVariants.{Unread, Whole, Within}
use Rattle.dav_engine.specs.declared.request.Body.{Body}
use Rattle.dav_engine.specs.Caller.{Caller}
use Rattle.dav_engine.specs.Conditions.{Addressed, Conditions, SaysLists, AreAddressed, SpeaksOf, TagNames}
use Rattle.dav_engine.specs.CopyMove.{CopyHeaders, AreCopyHeaders, DestinationNames, absent, unreadable, outside, inside, copy_or_move, IsCopyMove, is_copy_move}
use Rattle.dav_engine.specs.Delete.{DeleteHeaders, AreDeleteHeaders, delete, IsDelete, is_delete}
use Rattle.dav_engine.specs.Headers.{Headers, Decodes}
use Rattle.dav_engine.specs.Method.{MethodPlan}
use Rattle.dav_engine.specs.Mkcol.{mkcol, IsMkcol, is_mkcol}
use Rattle.dav_engine.specs.Lock.{lock, IsLock, is_lock}
use Rattle.dav_engine.specs.LockHeaders.{LockHeaders, AreLockHeaders}
use Rattle.dav_engine.specs.LockToken.{SaysLockToken}
use Rattle.dav_engine.specs.OnePlan.{OneReadingOfConditions, OneReadingOfPut, OnePutPlan, OneMkcolPlan, OneDeletePlan, OneUnlockPlan, OneLockPlan, OneCopyMovePlan, OnePropfindPlan, OneProppatchPlan}
use Rattle.dav_engine.specs.Propfind.{FindHeaders, AreFindHeaders, propfind, IsPropfind, is_propfind}
use Rattle.dav_engine.specs.Proppatch.{proppatch, IsProppatch, is_proppatch}
use Rattle.dav_engine.specs.Put.{PutHeaders, IsPut, is_put, put_body, bytes_of_body, IsAnnounced, IsExpectedLength, TellsBounds}
use Rattle.dav_engine.specs.Reply.{Reply}
use Rattle.dav_engine.specs.Unlock.{unlock, IsUnlock, is_unlock}
use Rattle.dav_engine.proofs.LockTokenLemmas.{one_lock_token}

-- what a grammar reads in one way is decoded in one way
pub decoded_one : {V A : Type 0} (grammar : V → A → Type 0) (values : V) → ((a b : A) → grammar values a → grammar values b → a ≡ b)
    → (a b : Option A) → Decodes grammar values a → Decodes grammar values b → a ≡ b
decoded_one grammar values one None None p q = refl
decoded_one grammar values one None (Some b) p q = absurd (p b q)
decoded_one grammar values one (Some a) None p q = absurd (q a p)
decoded_one grammar values one (Some a) (Some b) p q = ap Some (one a b p q)

-- ---- conditions

some_one : {A : Type 0} {a b : A} → ◌≡◌ {A = Option A} (Some a) (Some b) → a ≡ b
some_one same = cc

names_one : (prefix : List ℕ) (url : Parts) (q r : Path) → TagNames prefix url q → TagNames prefix url r → q ≡ r
names_one prefix url q r (a, p, reads, star, cut, is) (b, s, also, _, split, too) =
    let same : a ≡ b = Reads-one url.path a b reads also in
    is ∙ ap names (one_cut (without_slash prefix) b p s (subst (λ (x : List ℕ). IsCut (without_slash prefix) x p) same cut) split) ∙ sym too

speaks_one : (prefix : List ℕ) (own : Path) (url : Option Parts) (q r : Option Path) → SpeaksOf prefix own url q → SpeaksOf prefix own url r → q ≡ r
speaks_one prefix own None q r h k = h ∙ sym k
speaks_one prefix own (Some url) None None h k = refl
speaks_one prefix own (Some url) None (Some r) h k = absurd (h r k)
speaks_one prefix own (Some url) (Some q) None h k = absurd (k q h)
speaks_one prefix own (Some url) (Some q) (Some r) h k = ap Some (names_one prefix url q r h k)

addressed_one : (prefix : List ℕ) (own : Path) (ls : List ConditionList) (a b : List Addressed) → AreAddressed prefix own ls a → AreAddressed prefix own ls b → a ≡ b
addressed_one prefix own [] a b h k = h ∙ sym k
addressed_one prefix own (l ∷ ls) a b (q, more, speaks, is, h) (r, rest, also, too, k) =
    let first : Option Path → Addressed = λ x. record { path = x; conditions = l.conditions } in
    is ∙ ap (λ (x : Option Path). first x ∷ more) (speaks_one prefix own l.resource q r speaks also)
    ∙ ap (λ (xs : List Addressed). first r ∷ xs) (addressed_one prefix own ls more rest h k) ∙ sym too

header_one : (values : List FieldValue) (ls ms : List ConditionList) → IsIfHeader values ls → IsIfHeader values ms → ls ≡ ms
header_one values ls ms (v, is, says) (w, also, too) =
    let same : v ≡ w = let both = sym is ∙ also in cc in
    says_one w.bytes ls ms (subst (λ (x : FieldValue). IsIf x.bytes ls) same says) too

lists_one : (prefix : List ℕ) (own : Path) (values : List FieldValue) (a b : List Addressed) → SaysLists prefix own values a → SaysLists prefix own values b → a ≡ b
lists_one prefix own values a b (ls, header, are) (ms, also, too) =
    addressed_one prefix own ms a b (subst (λ (x : List ConditionList). AreAddressed prefix own x a) (header_one values ls ms header also) are) too

pub one_conditions : OneReadingOfConditions
one_conditions headers prefix own a b h k =
    let match = decoded_one IsTagList (get_all headers (codes "if-match")) (one_tag_list _) a.if_match b.if_match h.match k.match in
    let none_match = decoded_one IsTagList (get_all headers (codes "if-none-match")) (one_tag_list _) a.if_none_match b.if_none_match h.none_match k.none_match in
    let lists = decoded_one (SaysLists prefix own) (get_all headers (codes "if")) (lists_one prefix own _) a.lists b.lists h.lists k.lists in
    λ i. record { if_match = match i; if_none_match = none_match i; lists = lists i }

-- ---- PUT and PATCH

expected_one : (values : List FieldValue) (m n : ℕ) → IsExpectedLength values m → IsExpectedLength values n → m ≡ n
expected_one values m n (v, vs, is, number) (w, ws, also, other) =
    let same : v ≡ w = let both = sym is ∙ also in cc in
    same_number w.bytes m n (subst (λ (x : FieldValue). IsNumber x.bytes m) same number) other

announced_one : (headers : Headers) (a b : Option ℕ) → IsAnnounced headers a → IsAnnounced headers b → a ≡ b
announced_one headers a b (length, expected, one, two, is) (size, hoped, three, four, also) =
    let first = decoded_one IsContentLength (get_all headers (codes "content-length")) (one_content_length _) length size one three in
    let second = decoded_one IsExpectedLength (get_all headers (codes "x-expected-entity-length")) (expected_one _) expected hoped two four in
    is ∙ ap (λ (x : Option ℕ). option_or x expected) first ∙ ap (option_or size) second ∙ sym also

abbrev range_of : Option (ℕ × ℕ) → Option ℕ → ContentRange
range_of bounds length = record { bounds = bounds; length = length }

no_values : (values : List FieldValue) (r : ContentRange) → values ≡ [] → IsContentRange values r → ⊥
no_values values r is h = subst (λ (x : List FieldValue). IsContentRange x r) is h

same_bounds : (values : List FieldValue) (q r : ContentRange) → IsContentRange values q → IsContentRange values r → q.bounds ≡ r.bounds
same_bounds values q r h k = ap (λ (x : ContentRange). x.bounds) (one_content_range values q r h k)

bounds_one : (values : List FieldValue) (a b : Bounds) → TellsBounds values a → TellsBounds values b → a ≡ b
bounds_one values Unread Unread h k = refl
bounds_one values Unread Whole (some, none) (inl is) = absurd (some is)
bounds_one values Unread Whole (some, none) (inr (l, h)) = absurd (none (range_of None l) h)
bounds_one values Unread (Within m n) (some, none) (l, h) = absurd (none (range_of (Some (m, n)) l) h)
bounds_one values Whole Unread (inl is) (some, none) = absurd (some is)
bounds_one values Whole Unread (inr (l, h)) (some, none) = absurd (none (range_of None l) h)
bounds_one values Whole Whole h k = refl
bounds_one values Whole (Within m n) (inl is) (l, k) = absurd (no_values values (range_of (Some (m, n)) l) is k)
bounds_one values Whole (Within m n) (inr (l, h)) (k, j) = let same : ◌≡◌ {A = Option (ℕ × ℕ)} None (Some (m, n)) = same_bounds values (range_of None l) (range_of (Some (m, n)) k) h j in absurd (cc)
bounds_one values (Within m n) Unread (l, h) (some, none) = absurd (none (range_of (Some (m, n)) l) h)
bounds_one values (Within m n) Whole (l, h) (inl is) = absurd (no_values values (range_of (Some (m, n)) l) is h)
bounds_one values (Within m n) Whole (l, h) (inr (k, j)) = let same : ◌≡◌ {A = Option (ℕ × ℕ)} None (Some (m, n)) = same_bounds values (range_of None k) (range_of (Some (m, n)) l) j h in absurd (cc)
bounds_one values (Within m n) (Within r s) (l, h) (k, j) =
    let same : ◌≡◌ {A = ℕ × ℕ} (m, n) (r, s) = some_one (same_bounds values (range_of (Some (m, n)) l) (range_of (Some (r, s)) k) h j) in
    ap (λ (x : ℕ × ℕ). Within x.0 x.1) same

pub one_put_headers : OneReadingOfPut
one_put_headers headers p a b h k =
    let conditions = one_conditions headers p.prefix (names p) a.conditions b.conditions h.conditions k.conditions in
    let announced = announced_one headers a.announced b.announced h.announced k.announced in
    let range = bounds_one (get_all headers (codes "content-range")) a.range b.range h.range k.range in
    let partial : a.is_partial ≡ b.is_partial = h.is_partial ∙ sym k.is_partial in
    let update = decoded_one IsUpdateRange (get_all headers (codes "x-update-range")) (one_update_range (get_all headers (codes "x-update-range"))) a.update b.update h.update k.update in
    let checksum : a.checksum ≡ b.checksum = h.checksum ∙ sym k.checksum in
    λ i. record { conditions = conditions i; announced = announced i; range = range i; is_partial = partial i; update = update i; checksum = checksum i }

same_put : {m : DavMethod} {headers : Headers} {p : PathText} {body : Body} {who : Caller} {one other : MethodPlan Reply} → IsPut m headers p body who one → IsPut m headers p body who other → one ≡ other
same_put {m} {headers} {p} {body} {who} (is_put a h) (is_put b k) = ap (λ (x : PutHeaders). put_body m x (names p) who (bytes_of_body body)) (one_put_headers headers p a b h k)

pub one_put_plan : OnePutPlan
one_put_plan m headers p body who one other h k = same_put h k

-- ---- MKCOL

same_mkcol : {headers : Headers} {p : PathText} {who : Caller} {one other : MethodPlan Reply} → IsMkcol headers p who one → IsMkcol headers p who other → one ≡ other
same_mkcol {headers} {p} {who} (is_mkcol a h) (is_mkcol b k) = ap (λ (x : Conditions). mkcol x p who) (one_conditions headers p.prefix (names p) a b h k)

pub one_mkcol_plan : OneMkcolPlan
one_mkcol_plan headers p who one other h k = same_mkcol h k

-- ---- DELETE

one_delete_headers : (headers : Headers) (p : PathText) (a b : DeleteHeaders) → AreDeleteHeaders headers p a → AreDeleteHeaders headers p b → a ≡ b
one_delete_headers headers p a b h k =
    let conditions = one_conditions headers p.prefix (names p) a.conditions b.conditions h.conditions k.conditions in
    let depth = decoded_one IsDepth (get_all headers (codes "depth")) (one_depth (get_all headers (codes "depth"))) a.depth b.depth h.depth k.depth in
    λ i. record { conditions = conditions i; depth = depth i }

same_delete : {headers : Headers} {p : PathText} {who : Caller} {one other : MethodPlan Reply} → IsDelete headers p who one → IsDelete headers p who other → one ≡ other
same_delete {headers} {p} {who} (is_delete a h) (is_delete b k) = ap (λ (x : DeleteHeaders). delete x p who) (one_delete_headers headers p a b h k)

pub one_delete_plan : OneDeletePlan
one_delete_plan headers p who one other h k = same_delete h k

-- ---- UNLOCK

same_unlock : {headers : Headers} {p : PathText} {who : Caller} {one other : MethodPlan Reply} → IsUnlock headers p who one → IsUnlock headers p who other → one ≡ other
same_unlock {headers} {p} (is_unlock a h) (is_unlock b k) = ap (λ (x : Option (List ℕ)). unlock x p) (decoded_one SaysLockToken headers (one_lock_token headers) a b h k)

pub one_unlock_plan : OneUnlockPlan
one_unlock_plan headers p who one other h k = same_unlock h k

-- ---- LOCK

one_lock_headers : (headers : Headers) (p : PathText) (a b : LockHeaders) → AreLockHeaders headers p a → AreLockHeaders headers p b → a ≡ b
one_lock_headers headers p a b h k =
    let conditions = one_conditions headers p.prefix (names p) a.conditions b.conditions h.conditions k.conditions in
    let depth = decoded_one IsDepth (get_all headers (codes "depth")) (one_depth (get_all headers (codes "depth"))) a.depth b.depth h.depth k.depth in
    let timeout = decoded_one IsTimeout (get_all headers (codes "timeout")) (one_timeout (get_all headers (codes "timeout"))) a.timeout b.timeout h.timeout k.timeout in
    λ i. record { conditions = conditions i; depth = depth i; timeout = timeout i }

same_lock_plan : {headers : Headers} {p : PathText} {body : Body} {who : Caller} {one other : MethodPlan Reply} → IsLock headers p body who one → IsLock headers p body who other → one ≡ other
same_lock_plan {headers} {p} {body} {who} (is_lock a h) (is_lock b k) = ap (λ (x : LockHeaders). lock x p body who) (one_lock_headers headers p a b h k)

pub one_lock_plan : OneLockPlan
one_lock_plan headers p body who one other h k = same_lock_plan h k

-- ---- COPY and MOVE

-- a text is refused for one reason
refused_for : (text : List ℕ) (e f : ParseError) → IsRefused text e → IsRefused text f → e ≢ parse.Memory → f ≢ parse.Memory → e ≡ f
refused_for text parse.InvalidPath parse.InvalidPath one two other also = refl
refused_for text parse.InvalidPath parse.ForbiddenPath one two other also = absurd (refused_once text one two)
refused_for text parse.ForbiddenPath parse.InvalidPath one two other also = absurd (refused_once text two one)
refused_for text parse.ForbiddenPath parse.ForbiddenPath one two other also = refl
refused_for text parse.PrefixMismatch f one two other also = absurd one
refused_for text parse.Memory f one two other also = absurd (other refl)
refused_for text parse.InvalidPath parse.PrefixMismatch one two other also = absurd two
refused_for text parse.ForbiddenPath parse.PrefixMismatch one two other also = absurd two
refused_for text parse.InvalidPath parse.Memory one two other also = absurd (also refl)
refused_for text parse.ForbiddenPath parse.Memory one two other also = absurd (also refl)

-- one that is read isn't refused
unrefused : (text bytes : List ℕ) (e : ParseError) → Reads text bytes → IsRefused text e → e ≢ parse.Memory → ⊥
unrefused text bytes parse.InvalidPath reads refused other = Reads-valid text bytes reads refused
unrefused text bytes parse.ForbiddenPath reads refused other = Reads-allowed text bytes reads refused
unrefused text bytes parse.PrefixMismatch reads refused other = refused
unrefused text bytes parse.Memory reads refused other = other refl

module _ (prefix : List ℕ) (values : List FieldValue) where
  text_one : (a b : List ℕ) → IsDestination values a → IsDestination values b → a ≡ b
  text_one a b h k = one_destination values a b h k

  bytes_one : (a b p q : List ℕ) → IsDestination values a → IsDestination values b → Reads a p → Reads b q → p ≡ q
  bytes_one a b p q h k one two = Reads-one b p q (subst (λ (x : List ℕ). Reads x p) (text_one a b h k) one) two

  names_same : {r s : Result PathText DavError} → DestinationNames prefix values r → DestinationNames prefix values s → r ≡ s
  names_same (absent none) (absent also) = refl
  names_same (absent none) (unreadable b k f y) = absurd (none b k)
  names_same (absent none) (outside b q k two cut) = absurd (none b k)
  names_same (absent none) (inside b q k two cut) = absurd (none b k)
  names_same (unreadable a h e x) (absent none) = absurd (none a h)
  names_same (unreadable a {e} h one x) (unreadable b {e = f} k two y) =
      ap (λ (z : ParseError). Err (path_error z)) (refused_for b e f (subst (λ (t : List ℕ). IsRefused t e) (text_one a b h k) one) two x y)
  names_same (unreadable a {e} h one x) (outside b q k two cut) = absurd (unrefused b q e two (subst (λ (t : List ℕ). IsRefused t e) (text_one a b h k) one) x)
  names_same (unreadable a {e} h one x) (inside b q k two cut) = absurd (unrefused b q e two (subst (λ (t : List ℕ). IsRefused t e) (text_one a b h k) one) x)
  names_same (outside a p h one cut) (absent none) = absurd (none a h)
  names_same (outside a p h one cut) (unreadable b {e = f} k two y) = absurd (unrefused a p f one (subst (λ (t : List ℕ). IsRefused t f) (text_one b a k h) two) y)
  names_same (outside a p h one cut) (outside b q k two also) = refl
  names_same (outside a p h one cut) (inside b q {d} k two also) = absurd (cut d (subst (λ (x : List ℕ). IsCut (without_slash prefix) x d) (bytes_one b a q p k h two one) also))
  names_same (inside a p h one cut) (absent none) = absurd (none a h)
  names_same (inside a p h one cut) (unreadable b {e = f} k two y) = absurd (unrefused a p f one (subst (λ (t : List ℕ). IsRefused t f) (text_one b a k h) two) y)
  names_same (inside a p {d} h one cut) (outside b q k two also) = absurd (also d (subst (λ (x : List ℕ). IsCut (without_slash prefix) x d) (bytes_one a b p q h k one two) cut))
  names_same (inside a p {d} h one cut) (inside b q {d = c} k two also) =
      ap Ok (one_cut (without_slash prefix) q d c (subst (λ (x : List ℕ). IsCut (without_slash prefix) x d) (bytes_one a b p q h k one two) cut) also)

-- what Destination names is one path, or one error
pub one_place : (prefix : List ℕ) (values : List FieldValue) {r s : Result PathText DavError} → DestinationNames prefix values r → DestinationNames prefix values s → r ≡ s
one_place prefix values one other = names_same prefix values one other

one_copy_headers : (headers : Headers) (p : PathText) (a b : CopyHeaders) → AreCopyHeaders headers p a → AreCopyHeaders headers p b → a ≡ b
one_copy_headers headers p a b h k =
    let conditions = one_conditions headers p.prefix (names p) a.conditions b.conditions h.conditions k.conditions in
    let depth = decoded_one IsDepth (get_all headers (codes "depth")) (one_depth (get_all headers (codes "depth"))) a.depth b.depth h.depth k.depth in
    let overwrite = decoded_one IsOverwrite (get_all headers (codes "overwrite")) (one_overwrite (get_all headers (codes "overwrite"))) a.overwrite b.overwrite h.overwrite k.overwrite in
    let destination = names_same p.prefix (get_all headers (codes "destination")) h.destination k.destination in
    λ i. record { conditions = conditions i; depth = depth i; overwrite = overwrite i; destination = destination i }

same_copy : {m : DavMethod} {headers : Headers} {p : PathText} {who : Caller} {one other : MethodPlan Reply} → IsCopyMove m headers p who one → IsCopyMove m headers p who other → one ≡ other
same_copy {m} {headers} {p} {who} (is_copy_move a h) (is_copy_move b k) = ap (λ (x : CopyHeaders). copy_or_move m x p who) (one_copy_headers headers p a b h k)

pub one_copymove_plan : OneCopyMovePlan
one_copymove_plan m headers p who one other h k = same_copy h k

-- ---- PROPFIND and PROPPATCH

one_find_headers : (headers : Headers) (a b : FindHeaders) → AreFindHeaders headers a → AreFindHeaders headers b → a ≡ b
one_find_headers headers a b h k =
    let depth = decoded_one IsDepth (get_all headers (codes "depth")) (one_depth (get_all headers (codes "depth"))) a.depth b.depth h.depth k.depth in
    let test : a.is_test ≡ b.is_test = h.is_test ∙ sym k.is_test in
    λ i. record { depth = depth i; is_test = test i }

same_propfind : {headers : Headers} {p : PathText} {content : Body} {who : Caller} {one other : MethodPlan Reply} → IsPropfind headers p content who one → IsPropfind headers p content who other → one ≡ other
same_propfind {headers} {p} {content} {who} (is_propfind a h) (is_propfind b k) = ap (λ (x : FindHeaders). propfind x headers p content who) (one_find_headers headers a b h k)

pub one_propfind_plan : OnePropfindPlan
one_propfind_plan headers p content who one other h k = same_propfind h k

same_proppatch : {headers : Headers} {p : PathText} {content : Body} {who : Caller} {one other : MethodPlan Reply} → IsProppatch headers p content who one → IsProppatch headers p content who other → one ≡ other
same_proppatch {headers} {p} {content} {who} (is_proppatch a h) (is_proppatch b k) = ap (λ (x : Conditions). proppatch x p content who) (one_conditions headers p.prefix (names p) a b h k)

pub one_proppatch_plan : OneProppatchPlan
one_proppatch_plan headers p content who one other h k = same_proppatch h k
