-- Where the conditions of a request hold, what is at its path has the tag that they ask for.
use Rattle.std.proofs.Common.{◌≡◌, ◌⊎◌, inl, inr, ℕ, zero, suc, Bool, true, false, true≢false, not, if◌then◌else◌, List, [], ◌∷◌, Contains, Option, Some, None, Result, Ok, Err, refl, sym, subst, ◌∙◌, arith}
use Rattle.std.specs.Option.{is_some}
use Rattle.std.specs.Result.{result_ok}
use Rattle.dav_core.specs.declared.errors.FsError.{FsError}
use Rattle.dav_core.specs.declared.errors.DavError.{DavError}
use Rattle.dav_core.specs.declared.fs.DavMetaData.{DavMetaData}
use Rattle.dav_core.specs.declared.method.DavMethod.{DavMethod}
use Rattle.dav_core.specs.Asking.{Metadata, meaning, StoreState, Asks as Asking}
use Rattle.dav_core.specs.Metadata.{tag_of}
use Rattle.dav_core.specs.Path.{Path}
use Rattle.dav_core.specs.World.{World, Node, node_at}
use Rattle.dav_headers.specs.ETag.{EntityTag, tag_text}
use Rattle.dav_headers.specs.ETagList.{TagList, tags}
use Rattle.dav_headers.specs.If.{Item, state_token, entity_tag, Condition}
use Rattle.dav_engine.specs.Conditions.{Conditions, Addressed, matches, tag_found, http_conditions, tag_holds, has_tag, item_holds, and_then, or_else, condition_holds, all_hold, some_holds, if_holds, submitted, unless, if_match_get_tokens, status_as, guarded}
use Rattle.dav_engine.specs.Method.{MethodPlan, ◌>>=◌, gives}
use Rattle.dav_engine.specs.Plan.{Locks, Done, Ran, ran_ask}
use Rattle.dav_engine.specs.WorldLaws.{IsReading, reads_done, reads_ask, reads_look}
use Rattle.dav_engine.proofs.Theorems.{Did, did, ran_split, ran_outcome}
use Rattle.dav_server.proofs.GetWorld.{told_of, gone_on, looked}
use Rattle.dav_server.proofs.NotModified.{matched}

-- At the path there is something with the number that the tag holds.
pub record HasTag (w : World) (p : Path) (tag : List ℕ) : Type 0 where
  pub node : Node
  pub there : node_at w p ≡ Some node
  pub tag_is : tag ≡ tag_of node.number

abbrev pub text_of : EntityTag → List ℕ
text_of tag = tag_text tag.weak tag.tag

pub ok_same : {A E : Type 0} {a b : A} → ◌≡◌ {A = Result A E} (Ok a) (Ok b) → a ≡ b
ok_same same = cc

-- the tag that the store reports of a path, where it matches
pub matched_there : (w new : World) (p : Path) (tag : EntityTag) (exists : Bool) (answer : Result DavMetaData FsError)
    → Did (meaning (Metadata p) w) w answer new → matches (tags (tag ∷ [])) exists (tag_found (result_ok answer)) ≡ true → HasTag w p (text_of tag)
matched_there w new p tag exists (Err e) one is = absurd (true≢false (sym is))
matched_there w new p tag exists (Ok d) one is =
    let (n, there, about) = told_of w new p (Ok d) d one refl in
    record { node = n; there = there; tag_is = matched tag n.number (subst (λ (x : DavMetaData). matches (tags (tag ∷ [])) exists (tag_found (Some x)) ≡ true) about is) }

-- ---- a part that ended well, and the rest

pub record Went {A B : Type 0} (plan : MethodPlan A) (f : A → MethodPlan B) (old : StoreState) (ls : Locks) (b : B) (new : StoreState) (ms : Locks) : Type 0 where
  pub value : A
  pub mid : StoreState
  pub ks : Locks
  pub first : Ran Asking plan old ls (Ok value) mid ks
  pub rest : Ran Asking (f value) mid ks (Ok b) new ms

pub went : {A B : Type 0} (plan : MethodPlan A) (f : A → MethodPlan B) {old new : StoreState} {ls ms : Locks} {b : B}
    → Ran Asking (plan >>= f) old ls (Ok b) new ms → Went plan f old ls b new ms
went plan f {old} {ls = ls} ran =
    let parts = ran_split plan f ran in
    let (value, outcome, rest) = gone_on parts.outcome f parts.rest in
    record { value = value; mid = parts.mid; ks = parts.ks; first = subst (λ o. Ran Asking plan old ls o parts.mid parts.ks) outcome parts.first; rest = rest }

-- ---- If

-- the condition that the resource has the tag
abbrev asks_tag : EntityTag → Condition
asks_tag tag = record { negated = false; item = entity_tag tag }

item_reads : (p : Option Path) (i : Item) → IsReading (item_holds p i)
item_reads None i = reads_done
item_reads (Some p) (state_token t) = reads_look (λ ls. reads_done)
item_reads (Some p) (entity_tag e) = reads_ask tt (λ answer. reads_done)

kept : (b : Bool) (next : MethodPlan Bool) {old new : StoreState} {ls ms : Locks} → Ran Asking (and_then b next) old ls (Ok true) new ms → (b ≡ true) × Ran Asking next old ls (Ok true) new ms
kept true next ran = (refl, ran)
kept false next ran = let clash = ran_outcome ran in cc

tag_held : (p : Path) (tag : EntityTag) (w : World) (holds : Bool) {old new : StoreState} {ls ms : Locks}
    → old.world ≡ w → Ran Asking (has_tag p tag) old ls (Ok holds) new ms → holds ≡ true → HasTag w p (text_of tag)
tag_held p tag w holds same (ran_ask {old = old} {mid = mid} {answer = answer} one rest) is =
    let told : tag_holds tag answer ≡ true = sym (ok_same (ran_outcome rest)) ∙ is in
    subst (λ (v : World). HasTag v p (text_of tag)) same (matched_there old.world mid.world p tag true answer (did one) told)

item_held : (p : Path) (tag : EntityTag) (c : Condition) (w : World) (holds : Bool) {old new : StoreState} {ls ms : Locks}
    → c ≡ asks_tag tag → old.world ≡ w → Ran Asking (item_holds (Some p) c.item) old ls (Ok holds) new ms → condition_holds c.negated holds ≡ true → HasTag w p (text_of tag)
item_held p tag c w holds {old} {new} {ls} {ms} same at ran is =
    tag_held p tag w holds at (subst (λ (x : Condition). Ran Asking (item_holds (Some p) x.item) old ls (Ok holds) new ms) same ran)
    (subst (λ (x : Condition). condition_holds x.negated holds ≡ true) same is)

all_held : (p : Path) (tag : EntityTag) (cs : List Condition) (w : World) {old new : StoreState} {ls ms : Locks}
    → Contains cs (asks_tag tag) → old.world ≡ w → Ran Asking (all_hold (Some p) cs) old ls (Ok true) new ms → HasTag w p (text_of tag)
all_held p tag [] w (k, within, is) at ran = absurd (omega (arith, within))
all_held p tag (c ∷ cs) w (zero, within, is) at ran =
    let more = looked (item_holds (Some p) c.item) _ (item_reads (Some p) c.item) ran in
    item_held p tag c w more.value is at more.first (kept (condition_holds c.negated more.value) (all_hold (Some p) cs) more.rest).0
all_held p tag (c ∷ cs) w (suc k, within, is) at ran =
    let more = looked (item_holds (Some p) c.item) _ (item_reads (Some p) c.item) ran in
    all_held p tag cs w (k, omega (arith, within), is) (more.same ∙ at) (kept (condition_holds c.negated more.value) (all_hold (Some p) cs) more.rest).1

only_list : (holds : Bool) {old new : StoreState} {ls ms : Locks} → Ran Asking (or_else holds (some_holds [])) old ls (Ok true) new ms → holds ≡ true
only_list true ran = refl
only_list false ran = let clash = ran_outcome ran in cc

-- one list, of the request's own path
abbrev pub own_list : Path → List Condition → List Addressed
own_list p cs = record { path = Some p; conditions = cs } ∷ []

list_held : (p : Path) (tag : EntityTag) (cs : List Condition) (w : World) {old new : StoreState} {ls ms : Locks}
    → Contains cs (asks_tag tag) → old.world ≡ w → Ran Asking (some_holds (own_list p cs)) old ls (Ok true) new ms → HasTag w p (text_of tag)
list_held p tag cs w {old} {ls = ls} among at ran =
    let more = went (all_hold (Some p) cs) _ ran in
    all_held p tag cs w among at (subst (λ (b : Bool). Ran Asking (all_hold (Some p) cs) old ls (Ok b) more.mid more.ks) (only_list more.value more.rest) more.first)

-- ---- all conditions

-- the conditions ask for the tag: If-Match alone, or a list of the request's own path
abbrev pub AskForTag : Conditions → Path → EntityTag → Type 0
AskForTag c p tag =
    (c.if_match ≡ Some (tags (tag ∷ [])))
    ⊎ ((cs : List Condition) × (c.lists ≡ Some (own_list p cs)) × Contains cs (record { negated = false; item = entity_tag tag }))

passed : (b : Bool) (rest : Option ℕ) → (if not b then Some 412 else rest) ≡ None → b ≡ true
passed true rest h = refl
passed false rest h = cc

match_held : (m : DavMethod) (none_match : Option TagList) (found : Option DavMetaData) (tag : EntityTag)
    → http_conditions m (Some (tags (tag ∷ []))) none_match found ≡ None → matches (tags (tag ∷ [])) (is_some found) (tag_found found) ≡ true
match_held m none_match found tag h = passed (matches (tags (tag ∷ [])) (is_some found) (tag_found found)) _ h

held : {A : Type 0} (b : Bool) (a c : A) → ◌≡◌ {A = Result A ℕ} (Ok c) (if b then Ok a else Err 412) → b ≡ true
held true a c h = refl
held false a c h = cc

-- what the conditions are, and what they say of a world
module _ (m : DavMethod) (c : Conditions) (found : Option DavMetaData) (w : World) (p : Path) (tag : EntityTag)
    (asks : AskForTag c p tag) (here : matches (tags (tag ∷ [])) (is_some found) (tag_found found) ≡ true → HasTag w p (text_of tag)) where
  both_held : {old new : StoreState} {ls ms : Locks} → old.world ≡ w → http_conditions m c.if_match c.if_none_match found ≡ None
      → Ran Asking (if_holds c.lists) old ls (Ok true) new ms → HasTag w p (text_of tag)
  both_held {old} {new} {ls} {ms} at none ran = elim asks [
    | inl says ↦ here (match_held m c.if_none_match found tag (subst (λ (o : Option TagList). http_conditions m o c.if_none_match found ≡ None) says none))
    | inr (cs, says, among) ↦ list_held p tag cs w among at (subst (λ (o : Option (List Addressed)). Ran Asking (if_holds o) old ls (Ok true) new ms) says ran)
  ]

  tokens_held : (verdict : Option ℕ) (tokens : List (List ℕ)) {old new : StoreState} {ls ms : Locks} → old.world ≡ w → http_conditions m c.if_match c.if_none_match found ≡ verdict
      → Ran Asking (unless verdict (if_holds c.lists >>= (λ holds. gives (if holds then Ok (submitted c.lists) else Err 412)))) old ls (Ok (Ok tokens)) new ms → HasTag w p (text_of tag)
  tokens_held (Some status) tokens at is ran = let clash = ran_outcome ran in cc
  tokens_held None tokens {old} {ls = ls} at is ran =
      let more = went (if_holds c.lists) _ ran in
      let holds = held more.value (submitted c.lists) tokens (ok_same (ran_outcome more.rest)) in
      both_held at is (subst (λ (b : Bool). Ran Asking (if_holds c.lists) old ls (Ok b) more.mid more.ks) holds more.first)

  status_held : (verdict : Result (List (List ℕ)) ℕ) (f : ℕ → DavError) (tokens : List (List ℕ)) {old mid new : StoreState} {ls ks ms : Locks} → old.world ≡ w
      → Ran Asking (if_match_get_tokens m c found) old ls (Ok verdict) mid ks → Ran Asking (Done (status_as f verdict)) mid ks (Ok tokens) new ms → HasTag w p (text_of tag)
  status_held (Ok granted) f tokens at ran rest = tokens_held (http_conditions m c.if_match c.if_none_match found) granted at refl ran
  status_held (Err status) f tokens at ran rest = let clash = ran_outcome rest in cc

  -- where the conditions hold, the tag is that of what is there
  pub guard_held : (f : ℕ → DavError) (tokens : List (List ℕ)) {old new : StoreState} {ls ms : Locks} → old.world ≡ w
      → Ran Asking (guarded f m c found) old ls (Ok tokens) new ms → HasTag w p (text_of tag)
  guard_held f tokens at ran =
      let more = went (if_match_get_tokens m c found) _ ran in
      status_held more.value f tokens at more.first more.rest
