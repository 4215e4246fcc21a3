-- How code asks a store for properties and for its quota.
use Rattle.std.proofs.Common.{◌≡◌, ℕ, Bool, true, false, List, [], ◌∷◌, ◌++◌, Option, Some, None, Result, Ok, Err, refl, sym, ap, subst, ◌∙◌}
use Rattle.std.proofs.lemmas.List.{append-nil}
use Rattle.std.proofs.lemmas.List.Elements.{filter_map-append}
use Rattle.std.specs.List.{filter_map}
use Rattle.std.specs.Option.{unwrap_or}
use Rattle.std.specs.Result.{result_ok, result_unwrap_or}
use Rattle.dav_core.specs.declared.errors.FsError.{FsError}
use Rattle.dav_core.specs.Asking.{StoreState, Asks, HaveProps, GetProps, GetProp, GetQuota}
use Rattle.dav_core.specs.Element.{ElementTree}
use Rattle.dav_core.specs.Path.{PathText, names}
use Rattle.dav_core.specs.Property.{Property, PropertyKey}
use Rattle.dav_engine.specs.Plan.{Cut, Ran, ran_done, ran_ask}
use Rattle.dav_engine.specs.Properties.{Quota, Requested, all_kept, stored_properties, has_properties, kept_elements, kept_if, kept_property, key_of, cached_quota}
use Rattle.dav_engine.proofs.CutPlans.{cut_first, cut_ask, cut_bind}
use Rattle.dav_engine.proofs.Following.{ran_at, ran_bind}
use Rattle.dav_engine.proofs.PartLemmas.{GaveAny, StoppedAny}

pub quota_known : (quota : Quota) {s : StoreState} → GaveAny (cached_quota (Some quota)) s quota s
quota_known quota ls = ran_done

pub quota_asked : (answer : Result (ℕ × Option ℕ) FsError) (quota : Quota) {old new : StoreState} → quota ≡ result_ok answer → Asks GetQuota old answer new → GaveAny (cached_quota None) old quota new
quota_asked answer quota is one ls = ran_ask one (ran_at (ap Ok is))

unwrapped : (answer : Result Bool FsError) → result_unwrap_or answer false ≡ unwrap_or (result_ok answer) false
unwrapped (Ok b) = refl
unwrapped (Err e) = refl

pub properties_asked : (p : PathText) (has : Bool) (answer : Result Bool FsError) {old new : StoreState} → Asks (HaveProps (names p)) old answer new → has ≡ result_unwrap_or answer false
    → GaveAny (has_properties p) old has new
properties_asked p has answer one is ls = ran_ask one (ran_at (ap Ok (is ∙ unwrapped answer)))

-- ---- all properties

pub none_kept : (p : PathText) (has : Bool) {old new : StoreState} → has ≡ false → GaveAny (has_properties p) old has new → GaveAny (all_kept p) old [] new
none_kept p has {old} {new} gone one ls = ran_bind (stored_properties p) (one ls) (subst (λ b. Ran Asks (stored_properties p b) new ls (Ok []) new ls) (sym gone) ran_done)

pub kept_asked : (p : PathText) (has : Bool) (answer : Result (List Property) FsError) (es : List ElementTree) {old mid new : StoreState} → has ≡ true
    → GaveAny (has_properties p) old has mid → Asks (GetProps (names p) true) mid answer new → es ≡ kept_elements (result_ok answer) → GaveAny (all_kept p) old es new
kept_asked p has answer es {mid = mid} {new = new} there one two is ls =
    ran_bind (stored_properties p) (one ls) (subst (λ b. Ran Asks (stored_properties p b) mid ls (Ok es) new ls) (sym there) (ran_ask two (ran_at (ap Ok is))))

pub kept_stopped : (p : PathText) (has : Bool) (answer : Result (List Property) FsError) {old mid new : StoreState} → has ≡ true
    → GaveAny (has_properties p) old has mid → Asks (GetProps (names p) true) mid answer new → StoppedAny (all_kept p) old new
kept_stopped p has answer {mid = mid} {new = new} there one two ls =
    cut_bind (stored_properties p) (one ls) (subst (λ b. Cut Asks ls (stored_properties p b) mid ls new ls) (sym there) (cut_ask answer two cut_first))

-- ---- one property

pub one_not_kept : (p : PathText) (e : ElementTree) (has : Bool) {old new : StoreState} → has ≡ false → GaveAny (has_properties p) old has new → GaveAny (kept_property Requested p e) old None new
one_not_kept p e has {old} {new} gone one ls = ran_bind (kept_if p e) (one ls) (subst (λ b. Ran Asks (kept_if p e b) new ls (Ok None) new ls) (sym gone) ran_done)

pub one_asked : (p : PathText) (e : ElementTree) (has : Bool) (key : PropertyKey) (answer : Result ElementTree FsError) (kept : Option ElementTree) {old mid new : StoreState} → has ≡ true
    → GaveAny (has_properties p) old has mid → key ≡ key_of e → Asks (GetProp (names p) key) mid answer new → kept ≡ result_ok answer → GaveAny (kept_property Requested p e) old kept new
one_asked p e has key answer kept {mid = mid} {new = new} there one same two is ls =
    ran_bind (kept_if p e) (one ls) (subst (λ b. Ran Asks (kept_if p e b) mid ls (Ok kept) new ls) (sym there)
    (ran_ask (subst (λ k. Asks (GetProp (names p) k) mid answer new) same two) (ran_at (ap Ok is))))

pub one_stopped : (p : PathText) (e : ElementTree) (has : Bool) {old mid : StoreState} → GaveAny (has_properties p) old has mid → StoppedAny (kept_property Requested p e) old mid
one_stopped p e has one ls = cut_bind (kept_if p e) (one ls) cut_first

-- ---- the elements of properties

pub element_more : (ps : List Property) (p : Property) (x : ElementTree) {old new : List ElementTree} → p.xml ≡ Some x → old ≡ filter_map (λ (q : Property). q.xml) ps → new ≡ old ++ x ∷ []
    → new ≡ filter_map (λ (q : Property). q.xml) (ps ++ p ∷ [])
element_more ps p x is so_far more = more ∙ ap (λ l. l ++ x ∷ []) so_far ∙ sym (filter_map-append (λ (q : Property). q.xml) ps (p ∷ []) ∙ (rw is refl))

pub element_same : (ps : List Property) (p : Property) {old new : List ElementTree} → p.xml ≡ None → old ≡ filter_map (λ (q : Property). q.xml) ps → new ≡ old
    → new ≡ filter_map (λ (q : Property). q.xml) (ps ++ p ∷ [])
element_same ps p is so_far same = same ∙ so_far ∙ sym (filter_map-append (λ (q : Property). q.xml) ps (p ∷ []) ∙ (rw is (append-nil (filter_map (λ (q : Property). q.xml) ps))))
