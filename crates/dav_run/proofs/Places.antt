-- The place of a request with a token.
use Rattle.std.proofs.Common.{◌≡◌, ◌<◌, ℕ, zero, suc, List, [], ◌∷◌, map, length, Option, Some, None, IsSome, IfSome, IsSomeAnd, subst, sym, ◌∙◌, refl, arith}
use Rattle.std.specs.Prelude.{option_and_then}
use Rattle.serde_json.specs.Data.{Data, Items, no_items, item}
use Rattle.serde_json.specs.Find.{as_array, as_str}
use Rattle.dav_run.specs.declared.request.Request as request
use Rattle.dav_run.specs.declared.script.Script as script
use Rattle.dav_run.specs.Script.{ScriptRequest, AreItems, IsListOf, IsRequest, IsTextOrNone, HasToken, IsAlone, IsScriptValue, script_request, script_content}

-- a member is one text, or none
one_text_or_none : (o : Option Data) (a b : Option (List ℕ)) → IsTextOrNone o a → IsTextOrNone o b → a ≡ b
one_text_or_none None a b one two = one ∙ sym two
one_text_or_none (Some d) None None one two = refl
one_text_or_none (Some d) None (Some t) one two = let none : None ≡ Some t = subst (λ (e : Data). as_str e ≡ Some t) one two in cc
one_text_or_none (Some d) (Some s) None one two = let none : None ≡ Some s = subst (λ (e : Data). as_str e ≡ Some s) two one in cc
one_text_or_none (Some d) (Some s) (Some t) one two = sym one ∙ two

-- the same items are requests with the same tokens
tokens_kept : (ds : Items) (rs ss : List ScriptRequest) (k : ℕ) → AreItems IsRequest ds rs → AreItems IsRequest ds ss → HasToken rs k → HasToken ss k
tokens_kept no_items [] [] k are also has = has
tokens_kept no_items [] (s ∷ ss) k are also has = absurd also
tokens_kept no_items (r ∷ rs) ss k are also has = absurd are
tokens_kept (item d ds) [] ss k are also has = absurd are
tokens_kept (item d ds) (r ∷ rs) [] k are also has = absurd also
tokens_kept (item d ds) (r ∷ rs) (s ∷ ss) zero are also has = subst (λ (t : Option (List ℕ)). IsSome t) (one_text_or_none _ r.token s.token are.0.token.0 also.0.token.0) has
tokens_kept (item d ds) (r ∷ rs) (s ∷ ss) (suc k) are also has = tokens_kept ds rs ss k are.1 also.1 has

-- so they have the same places
pub place_kept : (o : Option Data) (ds : Items) (rs ss : List ScriptRequest) (alone : Option ℕ) → AreItems IsRequest ds rs → AreItems IsRequest ds ss → IsAlone o rs alone → IsAlone o ss alone
place_kept None ds rs ss alone are also is = is
place_kept (Some d) ds rs ss None are also is = absurd is
place_kept (Some d) ds rs ss (Some k) are also is = (is.0, tokens_kept ds rs ss k are also is.1)

-- the items of the list of requests
pub items_listed : (o : Option Data) (ds : Items) (rs : List ScriptRequest) → option_and_then as_array o ≡ Some ds → IsSomeAnd o (λ list. IsListOf IsRequest list rs) → AreItems IsRequest ds rs
items_listed None ds rs is are = absurd are
items_listed (Some d) ds rs is are = subst (λ (a : Option Items). IsSomeAnd a (λ l. AreItems IsRequest l rs)) is are

-- a place is that of a request
has_place : (rs : List request.Request) (k : ℕ) → HasToken (map script_request rs) k → k < length rs
has_place [] k has = absurd has
has_place (r ∷ rs) zero has = omega arith
has_place (r ∷ rs) (suc k) has = let more = has_place rs k has in omega arith

in_list : (o : Option Data) (rs : List request.Request) (alone : Option ℕ) → IsAlone o (map script_request rs) alone → IfSome alone (λ place. place < length rs)
in_list None rs alone is = subst (λ (a : Option ℕ). IfSome a (λ place. place < length rs)) (sym is) tt
in_list (Some d) rs None is = absurd is
in_list (Some d) rs (Some k) is = has_place rs k is.1

pub place_there : (o : Option Data) (s : script.Script) → IsSomeAnd o (λ d. IsScriptValue d (script_content s)) → IfSome s.alone (λ place. place < length s.requests.items)
place_there None s is = absurd is
place_there (Some d) s is = in_list _ s.requests.items s.alone is.alone
