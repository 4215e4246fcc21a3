-- Naming is decided: what the code of naming finds, and nothing else, is said.
use Rattle.std.proofs.Common.{◌≡◌, ◌↔◌, ◌||◌, ◌+◌, ◌<◌, ◌≤◌, ℕ, Bool, true, false, IsTrue, List, length, map, drop, get_or, Contains, codes, bytes_eq, Result, Ok, Err, IfOk, OnErr, refl, sym, ap, subst, ◌∙◌}
use Rattle.std.specs.Cmp.{decided}
use Rattle.std.specs.List.{list_any, flat_map}
use Rattle.std.proofs.lemmas.List.{drop_all}
use Rattle.std.proofs.lemmas.List.Folds.{list_any-append}
use Rattle.std.proofs.lemmas.Map.Views.{Contains-from_any, list_any-from_Contains}
use Rattle.std.proofs.lemmas.Slice.Eq.{bytes_eq-Decides}
use Rattle.http_header.specs.HeaderMap.{get_all}
use Rattle.http_header.specs.FieldValue.{FieldValue}
use Rattle.dav_headers.specs.If.{ConditionList, IsIf, IsIfHeader, tokens_of}
use Rattle.dav_headers.proofs.Theorems.{drop_turn, says_one}
use Rattle.dav_engine.specs.Headers.{Headers}
use Rattle.dav_server.specs.Head.{Request, IsHead}
use Rattle.dav_server.specs.Headers.{headers_of}
use Rattle.dav_server.specs.Machine.{Exchange}
use Rattle.dav_engine.specs.LockToken.{SaysLockToken}
use Rattle.dav_engine.proofs.Theorems.{one_lock_token}
use Rattle.dav_server.specs.Naming.{SaysIfToken, NamesToken, by_if, by_lock_token}
use Rattle.dav_server.proofs.HeadLemmas.{one_head}

-- ---- loops that look for one of the things that elements give

module _ {X Y Z : Type 0} (p : Z → Bool) (g : Y → List Z) (v : X → Y) where
  any_turn : (xs : List X) (i : ℕ) (x : X) → i < length xs → x ≡ get_or xs i x
      → list_any p (flat_map g (map v (drop i xs))) ≡ (list_any p (g (v x)) || list_any p (flat_map g (map v (drop (i + 1) xs))))
  any_turn xs i x lt is = ap (λ rest. list_any p (flat_map g (map v rest))) (drop_turn xs i x lt is) ∙ list_any-append p (g (v x)) (flat_map g (map v (drop (i + 1) xs)))

  pub any_found : (xs : List X) (i : ℕ) (x : X) (whole : Bool) → i < length xs → x ≡ get_or xs i x
      → list_any p (flat_map g (map v (drop i xs))) ≡ whole → list_any p (g (v x)) ≡ true → true ≡ whole
  any_found xs i x whole lt is before here =
      sym (ap (λ b. b || list_any p (flat_map g (map v (drop (i + 1) xs)))) here) ∙ sym (any_turn xs i x lt is) ∙ before

  pub any_passed : (xs : List X) (i : ℕ) (x : X) (whole : Bool) → i < length xs → x ≡ get_or xs i x
      → list_any p (flat_map g (map v (drop i xs))) ≡ whole → list_any p (g (v x)) ≡ false → list_any p (flat_map g (map v (drop (i + 1) xs))) ≡ whole
  any_passed xs i x whole lt is before here =
      sym (ap (λ b. b || list_any p (flat_map g (map v (drop (i + 1) xs)))) here) ∙ sym (any_turn xs i x lt is) ∙ before

  pub any_end : (xs : List X) (i : ℕ) (whole : Bool) → length xs ≤ i → list_any p (flat_map g (map v (drop i xs))) ≡ whole → false ≡ whole
  any_end xs i whole le before = ap (λ rest. list_any p (flat_map g (map v rest))) (sym (drop_all i xs le)) ∙ before

-- ---- what the headers say

pub if_ok_at : {T E : Type 0} (P : T → Type 0) (r : Result T E) (x : T) → r ≡ Ok x → IfOk r P → P x
if_ok_at P r x is holds = subst (λ q. IfOk q P) is holds

module _ (headers : Headers) (token : List ℕ) where
  pub lock_token_of : (said : List ℕ) (r : Bool) → SaysLockToken headers said → r ≡ bytes_eq said token → IsTrue r ↔ SaysLockToken headers token
  lock_token_of said r says is = (
    (λ yes. subst (SaysLockToken headers) ((bytes_eq-Decides said token).0 (sym is ∙ yes)) says),
    (λ also. is ∙ (bytes_eq-Decides said token).1 (one_lock_token headers said token says also)),
  )

  pub no_lock_token : ((said : List ℕ) → ¬ SaysLockToken headers said) → IsTrue false ↔ SaysLockToken headers token
  no_lock_token none = ((λ yes. cc), (λ says. absurd (none token says)))

  one_if : (values : List FieldValue) (ls ms : List ConditionList) → IsIfHeader values ls → IsIfHeader values ms → ls ≡ ms
  one_if values ls ms (v, e, is) (w, f, also) =
      let same : v ≡ w = ap (λ xs. get_or xs 0 v) (sym e ∙ f) in says_one v.bytes ls ms is (subst (λ z. IsIf z.bytes ms) (sym same) also)

  pub if_token_of : (ls : List ConditionList) (r : Bool) → IsIfHeader (get_all headers (codes "if")) ls → r ≡ list_any (bytes_eq token) (tokens_of ls) → IsTrue r ↔ SaysIfToken headers token
  if_token_of ls r is found = (
    (λ yes. (ls, is, Contains-from_any (λ a b. (bytes_eq-Decides a b).0) token (tokens_of ls) (sym found ∙ yes))),
    (λ (ms, also, contains). found ∙ list_any-from_Contains (decided bytes_eq bytes_eq-Decides) token (tokens_of ls) (subst (λ l. Contains (tokens_of l) token) (one_if (get_all headers (codes "if")) ms ls also is) contains)),
  )

  pub no_if_token : ((ls : List ConditionList) → ¬ IsIfHeader (get_all headers (codes "if")) ls) → IsTrue false ↔ SaysIfToken headers token
  no_if_token none = ((λ yes. cc), (λ (ms, also, contains). absurd (none ms also)))

-- ---- what the request names

module _ (x : Exchange) (token : List ℕ) where
  none_named : ((r : Request) → ¬ IsHead x.head r) → NamesToken x token → IsTrue false
  none_named none (by_if r is said) = absurd (none r is)
  none_named none (by_lock_token r is said) = absurd (none r is)

  pub unnamed : ((r : Request) → ¬ IsHead x.head r) → IsTrue false ↔ NamesToken x token
  unnamed none = ((λ yes. cc), none_named none)

  module _ (r : Request) (is : IsHead x.head r) where
    same_headers : (q : Request) → IsHead x.head q → headers_of q.fields ≡ headers_of r.fields
    same_headers q also = ap (λ (z : Request). headers_of z.fields) (one_head x.head q r also is)

    pub lock_named : SaysLockToken (headers_of r.fields) token → IsTrue true ↔ NamesToken x token
    lock_named said = ((λ yes. by_lock_token r is said), (λ named. refl))

    said_by_if : ¬ SaysLockToken (headers_of r.fields) token → NamesToken x token → SaysIfToken (headers_of r.fields) token
    said_by_if other (by_if q also said) = subst (λ h. SaysIfToken h token) (same_headers q also) said
    said_by_if other (by_lock_token q also said) = absurd (other (subst (λ h. SaysLockToken h token) (same_headers q also) said))

    pub if_named : (b : Bool) → ¬ SaysLockToken (headers_of r.fields) token → IsTrue b ↔ SaysIfToken (headers_of r.fields) token → IsTrue b ↔ NamesToken x token
    if_named b other decides = ((λ yes. by_if r is (decides.0 yes)), (λ named. decides.1 (said_by_if other named)))

    -- what is found by the If of a request whose Lock-Token is another is what it names
    pub named_by_if : {E : Type 0} (headers : Headers) (result : Result Bool E) → headers ≡ headers_of r.fields → ¬ SaysLockToken headers token
        → IfOk result (λ said. IsTrue said ↔ SaysIfToken headers token) → IfOk result (λ named. IsTrue named ↔ NamesToken x token)
    named_by_if headers (Ok b) same other decides = if_named b (subst (λ h. ¬ SaysLockToken h token) same other) (subst (λ h. IsTrue b ↔ SaysIfToken h token) same decides)
    named_by_if headers (Err e) same other decides = tt

    pub with_head : {E : Type 0} (result : Result Bool E) → OnErr result ((q : Request) × IsHead x.head q)
    with_head (Ok b) = tt
    with_head (Err e) = (r, is)
