-- How code follows the plans that evaluate conditions.
use Rattle.std.proofs.Common.{◌≡◌, ◌==◌, ◌++◌, ◌&&◌, not, ℕ, ◌+◌, ◌<◌, Bool, true, false, true≢false, List, [], ◌∷◌, map, drop, length, get_or, codes, string_bytes, Option, Some, None, Result, Ok, Err, refl, sym, subst, ap, ◌∙◌, String, ◌≤◌, append-nil, append_assoc}
use Rattle.std.proofs.Math.Bool.{or-false}
use Rattle.std.specs.List.{starts_with}
use Rattle.std.specs.Option.{option_map}
use Rattle.std.specs.Global.{Global}
use Rattle.std.proofs.lemmas.List.{drop_all, map_push}
use mathlib.Core.Bool.{beq}
use denote.Ref.{Bor}
use Rattle.dav_core.specs.declared.errors.DavError.{DavError}
use Rattle.dav_core.specs.declared.errors.DavError.TheVariants as dav
use Rattle.dav_core.specs.Asking.{StoreState}
use Rattle.dav_core.specs.Locks.{Lock, requester_of, is_free}
use Rattle.dav_core.specs.Path.{Path, PathText, names}
use Rattle.dav_headers.specs.ETag.{EntityTag, is_strong_match}
use Rattle.dav_headers.specs.ETagList.{tags}
use Rattle.dav_headers.specs.If.{Item, Condition, ConditionList, tokens_among}
use Rattle.dav_headers.specs.IfView.{item_value, condition_value, list_value}
use Rattle.dav_headers.specs.declared.if_header.IfList.{IfList}
use Rattle.dav_headers.specs.declared.if_header.IfItem.{IfItem}
use Rattle.dav_headers.specs.declared.if_header.IfCondition.{IfCondition}
use Rattle.dav_headers.specs.declared.if_header.IfItem.TheVariants.{StateToken, ETag}
use Rattle.dav_engine.specs.Plan.{Locks, ran_look}
use Rattle.dav_engine.specs.Method.{MethodPlan}
use Rattle.dav_engine.specs.Follows.{Follows, followed}
use Rattle.dav_engine.specs.Conditions as spec
use Rattle.dav_engine.specs.Conditions.{Addressed, AreAddressed, SpeaksOf, and_then, or_else, condition_holds, all_hold, some_holds, item_holds}
use Rattle.dav_engine.specs.ConditionView.{locks_in, list_of}
use Rattle.dav_engine.specs.declared.conditions.Addressed as listed
use Rattle.dav_headers.proofs.Theorems.{drop_turn}
use Rattle.dav_engine.proofs.Following.{ran_at, follows_done, follows_then, follows_err}

-- ---- items of a list

-- a token outside the namespace `DAV:`, of a path that is or isn't locked against a requester who submits it
pub token_free : {L : Type 0} (locks : L → List Lock) (ls : Option (Bor L)) (l : Bor L) (token : List ℕ) (p : Path) (b : Bool)
    → ls ≡ Some l → starts_with ◌==◌ token (codes "DAV:") ≡ false → b ≡ is_free (requester_of (token ∷ []) true None) p (locks l.now)
    → b ≡ spec.token_holds token p (locks_in locks ls)
token_free locks ls l token p b is other same =
    same ∙ ap (λ d. not d && is_free (requester_of (token ∷ []) true None) p (locks l.now)) (sym other) ∙ ap (λ x. spec.token_holds token p (locks_in locks x)) (sym is)

-- one tag equals another exactly where it is the only tag of a list that matches it
pub one_tag : (b : Bool) (e f : EntityTag) → b ≡ is_strong_match e f → b ≡ spec.matches (tags (e ∷ [])) true (Some f)
one_tag b e f is = is ∙ sym (or-false (is_strong_match e f))

-- where there is no path, no item is true
pub item_of_none : (path : Option PathText) (i : Item) {s : StoreState} {ls : Locks} → path ≡ None → Follows (λ (b : Bool). b) (item_holds (option_map names path) i) s ls (Ok false) s ls
item_of_none path i is = rw is (follows_done refl)

-- whether a state token is true of a path
pub item_of_token : (path : Option PathText) (p : PathText) (item : IfItem) (t : String Global) (b : Bool) {s : StoreState} {ls : Locks}
    → path ≡ Some p → item ≡ StateToken t → b ≡ spec.token_holds (string_bytes t) (names p) ls
    → Follows (λ (b : Bool). b) (item_holds (option_map names path) (item_value item)) s ls (Ok b) s ls
item_of_token path p item t b is holds same = rw (is, holds) (followed (ran_look (ran_at (ap Ok same))))

-- whether an entity tag is true of a path, as the store answers
pub item_of_tag : (path : Option PathText) (p : PathText) (item : IfItem) (e : EntityTag) {s t : StoreState} {ls : Locks} {r : Result Bool DavError}
    → path ≡ Some p → item ≡ ETag e → Follows (λ (b : Bool). b) (spec.has_tag (names p) e) s ls r t ls
    → Follows (λ (b : Bool). b) (item_holds (option_map names path) (item_value item)) s ls r t ls
item_of_tag path p item e is holds more = rw (is, holds) more

-- ---- all conditions of a list

settled : (negated b : Bool) → beq b negated ≡ true → condition_holds negated b ≡ false
settled true true is = refl
settled true false is = sym is
settled false true is = sym is
settled false false is = refl

goes_on : (negated b : Bool) → beq b negated ≡ false → condition_holds negated b ≡ true
goes_on true true other = sym other
goes_on true false other = refl
goes_on false true other = refl
goes_on false false other = sym other

-- an item was evaluated, and then the rest of the list
pub all_hold_more : (p : Option Path) (c : Condition) (cs : List Condition) (b : Bool) {s t u : StoreState} {ls : Locks} {r : Result Bool DavError}
    → Follows (λ (b : Bool). b) (item_holds p c.item) s ls (Ok b) t ls
    → Follows (λ (b : Bool). b) (and_then (condition_holds c.negated b) (all_hold p cs)) t ls r u ls
    → Follows (λ (b : Bool). b) (all_hold p (c ∷ cs)) s ls r u ls
all_hold_more p c cs b one rest = follows_then (λ holds. and_then (condition_holds c.negated holds) (all_hold p cs)) one rest

-- Whatever the rest of a plan results in, the whole plan results in.
abbrev pub Leads : MethodPlan Bool → StoreState → MethodPlan Bool → StoreState → Locks → Type 0
Leads whole s rest t ls = (r : Result Bool DavError) (end : StoreState) → Follows (λ (b : Bool). b) rest t ls r end ls → Follows (λ (b : Bool). b) whole s ls r end ls

-- the rest of a list of conditions, from this place on
pub all_hold_at : (p : Option Path) (cs : List IfCondition) (i : ℕ) (c : IfCondition) {s : StoreState} {ls : Locks} {r : Result Bool DavError} {end : StoreState}
    → i < length cs → c ≡ get_or cs i c
    → Follows (λ (b : Bool). b) (all_hold p (condition_value c ∷ map condition_value (drop (i + 1) cs))) s ls r end ls
    → Follows (λ (b : Bool). b) (all_hold p (map condition_value (drop i cs))) s ls r end ls
all_hold_at p cs i c {s} {ls} {r} {end} lt is more =
    subst (λ (rest : List IfCondition). Follows (λ (b : Bool). b) (all_hold p (map condition_value rest)) s ls r end ls) (sym (drop_turn cs i c lt is)) more

pub some_holds_at : (xs : List listed.Addressed) (i : ℕ) (x : listed.Addressed) {s : StoreState} {ls : Locks} {r : Result Bool DavError} {end : StoreState}
    → i < length xs → x ≡ get_or xs i x
    → Follows (λ (b : Bool). b) (some_holds (list_of x ∷ map list_of (drop (i + 1) xs))) s ls r end ls
    → Follows (λ (b : Bool). b) (some_holds (map list_of (drop i xs))) s ls r end ls
some_holds_at xs i x {s} {ls} {r} {end} lt is more =
    subst (λ (rest : List listed.Addressed). Follows (λ (b : Bool). b) (some_holds (map list_of rest)) s ls r end ls) (sym (drop_turn xs i x lt is)) more

-- a condition holds: those after it decide
pub condition_held : (p : Option Path) (c : Condition) (cs : List Condition) (b : Bool) {s t u : StoreState} {ls : Locks} {r : Result Bool DavError}
    → beq b c.negated ≡ false → Follows (λ (b : Bool). b) (item_holds p c.item) s ls (Ok b) t ls
    → Follows (λ (b : Bool). b) (all_hold p cs) t ls r u ls
    → Follows (λ (b : Bool). b) (all_hold p (c ∷ cs)) s ls r u ls
condition_held p c cs b {s} {t} {u} {ls} {r} other one rest =
    all_hold_more p c cs b one (subst (λ (d : Bool). Follows (λ (b : Bool). b) (and_then d (all_hold p cs)) t ls r u ls) (sym (goes_on c.negated b other)) rest)

-- a condition doesn't hold: nor does the list
pub condition_failed : (p : Option Path) (c : Condition) (cs : List Condition) (b : Bool) {s t : StoreState} {ls : Locks}
    → beq b c.negated ≡ true → Follows (λ (b : Bool). b) (item_holds p c.item) s ls (Ok b) t ls
    → Follows (λ (b : Bool). b) (all_hold p (c ∷ cs)) s ls (Ok false) t ls
condition_failed p c cs b {s} {t} {ls} is one =
    all_hold_more p c cs b one (subst (λ (d : Bool). Follows (λ (b : Bool). b) (and_then d (all_hold p cs)) t ls (Ok false) t ls) (sym (settled c.negated b is)) (follows_done refl))

-- memory ran out at a condition
pub condition_stopped : (p : Option Path) (c : Condition) (cs : List Condition) {s t : StoreState} {ls : Locks}
    → Follows (λ (b : Bool). b) (item_holds p c.item) s ls (Err dav.Memory) t ls
    → Follows (λ (b : Bool). b) (all_hold p (c ∷ cs)) s ls (Err dav.Memory) t ls
condition_stopped p c cs one = follows_err (λ holds. and_then (condition_holds c.negated holds) (all_hold p cs)) dav.Memory one

-- ---- lists

-- a list was evaluated, and then the other lists
pub some_holds_more : (l : Addressed) (more : List Addressed) (b : Bool) {s t u : StoreState} {ls : Locks} {r : Result Bool DavError}
    → Follows (λ (b : Bool). b) (all_hold l.path l.conditions) s ls (Ok b) t ls
    → Follows (λ (b : Bool). b) (or_else b (some_holds more)) t ls r u ls
    → Follows (λ (b : Bool). b) (some_holds (l ∷ more)) s ls r u ls
some_holds_more l more b one rest = follows_then (λ holds. or_else holds (some_holds more)) one rest

-- a borrowed list and its conditions have the same outcome
lent_list : (x : listed.Addressed) (cs : List IfCondition) {s t : StoreState} {ls : Locks} {r : Result Bool DavError} → cs ≡ x.conditions.items
    → Follows (λ (b : Bool). b) (all_hold (option_map names x.path) (map condition_value cs)) s ls r t ls
    → Follows (λ (b : Bool). b) (all_hold (option_map names x.path) (map condition_value x.conditions.items)) s ls r t ls
lent_list x cs {s} {t} {ls} {r} is one =
    subst (λ (ds : List IfCondition). Follows (λ (b : Bool). b) (all_hold (option_map names x.path) (map condition_value ds)) s ls r t ls) is one

-- a list holds: so do the lists
pub list_held : (x : listed.Addressed) (cs : List IfCondition) (more : List Addressed) (b : Bool) {s t : StoreState} {ls : Locks} → cs ≡ x.conditions.items → b ≡ true
    → Follows (λ (b : Bool). b) (all_hold (option_map names x.path) (map condition_value cs)) s ls (Ok b) t ls
    → Follows (λ (b : Bool). b) (some_holds (list_of x ∷ more)) s ls (Ok true) t ls
list_held x cs more true same is one = some_holds_more (list_of x) more true (lent_list x cs same one) (follows_done refl)
list_held x cs more false same is one = absurd (true≢false (sym is))

-- a list doesn't hold: those after it decide
pub list_failed : (x : listed.Addressed) (cs : List IfCondition) (more : List Addressed) (b : Bool) {s t u : StoreState} {ls : Locks} {r : Result Bool DavError} → cs ≡ x.conditions.items → b ≡ false
    → Follows (λ (b : Bool). b) (all_hold (option_map names x.path) (map condition_value cs)) s ls (Ok b) t ls
    → Follows (λ (b : Bool). b) (some_holds more) t ls r u ls
    → Follows (λ (b : Bool). b) (some_holds (list_of x ∷ more)) s ls r u ls
list_failed x cs more false same is one rest = some_holds_more (list_of x) more false (lent_list x cs same one) rest
list_failed x cs more true same is one rest = absurd (true≢false is)

-- memory ran out at a list
pub list_stopped : (x : listed.Addressed) (cs : List IfCondition) (more : List Addressed) {s t : StoreState} {ls : Locks} → cs ≡ x.conditions.items
    → Follows (λ (b : Bool). b) (all_hold (option_map names x.path) (map condition_value cs)) s ls (Err dav.Memory) t ls
    → Follows (λ (b : Bool). b) (some_holds (list_of x ∷ more)) s ls (Err dav.Memory) t ls
list_stopped x cs more same one = follows_err (λ holds. or_else holds (some_holds more)) dav.Memory (lent_list x cs same one)

-- ---- the ends of loops

pub all_hold_end : (p : Option Path) (cs : List IfCondition) (i : ℕ) {s : StoreState} {ls : Locks} → length cs ≤ i
    → Follows (λ (b : Bool). b) (all_hold p (map condition_value (drop i cs))) s ls (Ok true) s ls
all_hold_end p cs i {s} {ls} le =
    subst (λ (rest : List IfCondition). Follows (λ (b : Bool). b) (all_hold p (map condition_value rest)) s ls (Ok true) s ls) (sym (drop_all i cs le)) (follows_done refl)

pub some_holds_end : (xs : List listed.Addressed) (i : ℕ) {s : StoreState} {ls : Locks} → length xs ≤ i
    → Follows (λ (b : Bool). b) (some_holds (map list_of (drop i xs))) s ls (Ok false) s ls
some_holds_end xs i {s} {ls} le =
    subst (λ (rest : List listed.Addressed). Follows (λ (b : Bool). b) (some_holds (map list_of rest)) s ls (Ok false) s ls) (sym (drop_all i xs le)) (follows_done refl)

-- ---- tokens

-- the tokens of the lists from this place on: those of the list there, and of those after it
pub submitted_at : (tokens : List (List ℕ)) (more : List (List ℕ)) (xs : List listed.Addressed) (i : ℕ) (x : listed.Addressed) (all : List (List ℕ))
    → i < length xs → x ≡ get_or xs i x
    → more ≡ tokens ++ tokens_among (map condition_value x.conditions.items)
    → tokens ++ spec.submitted (Some (map list_of (drop i xs))) ≡ all
    → more ++ spec.submitted (Some (map list_of (drop (i + 1) xs))) ≡ all
submitted_at tokens more xs i x all lt is added before =
    ap (λ ts. ts ++ spec.submitted (Some (map list_of (drop (i + 1) xs)))) added
    ∙ append_assoc tokens (tokens_among (map condition_value x.conditions.items)) (spec.submitted (Some (map list_of (drop (i + 1) xs))))
    ∙ ap (λ rest. tokens ++ spec.submitted (Some (map list_of rest))) (sym (drop_turn xs i x lt is))
    ∙ before

pub submitted_end : (tokens : List (List ℕ)) (xs : List listed.Addressed) (i : ℕ) (all : List (List ℕ))
    → length xs ≤ i → tokens ++ spec.submitted (Some (map list_of (drop i xs))) ≡ all → tokens ≡ all
submitted_end tokens xs i all le before =
    sym (append-nil tokens) ∙ ap (λ rest. tokens ++ spec.submitted (Some (map list_of rest))) (sym (drop_all i xs le)) ∙ before

-- ---- the paths that lists apply to

-- one more list
AreAddressed-push : (prefix : List ℕ) (own : Path) (ls : List ConditionList) (lists : List Addressed) (l : ConditionList) (q : Option Path)
    → AreAddressed prefix own ls lists → SpeaksOf prefix own l.resource q
    → AreAddressed prefix own (ls ++ l ∷ []) (lists ++ record { path = q; conditions = l.conditions } ∷ [])
AreAddressed-push prefix own [] lists l q none speaks =
    (q, [], speaks, ap (λ xs. xs ++ record { path = q; conditions = l.conditions } ∷ []) none, refl)
AreAddressed-push prefix own (m ∷ ms) lists l q some speaks = (
  some.0,
  some.1 ++ record { path = q; conditions = l.conditions } ∷ [],
  some.2,
  ap (λ xs. xs ++ record { path = q; conditions = l.conditions } ∷ []) some.3,
  AreAddressed-push prefix own ms some.1 l q some.4 speaks,
)

pub addressed_more : (prefix : List ℕ) (own : Path) (read : List IfList) (x : IfList) (items new : List listed.Addressed) (path : Option PathText)
    → new ≡ items ++ record { path = path; conditions = x.conditions } ∷ [] → SpeaksOf prefix own x.resource_tag (option_map names path)
    → AreAddressed prefix own (map list_value read) (map list_of items)
    → AreAddressed prefix own (map list_value (read ++ x ∷ [])) (map list_of new)
addressed_more prefix own read x items new path is speaks before =
    let added : listed.Addressed = record { path = path; conditions = x.conditions } in
    rw (is, map_push list_value read x, map_push list_of items added) (AreAddressed-push prefix own (map list_value read) (map list_of items) (list_value x) (option_map names path) before speaks)
