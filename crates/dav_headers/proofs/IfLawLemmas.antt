-- A text has at most one meaning as an If header, with conditions, and with tokens in UTF-8.
use Rattle.std.proofs.Common.{◌≡◌, ◌≢◌, ℕ, ◌<◌, ◌++◌, Bool, true, false, List, [], ◌∷◌, length, Option, Some, None, refl, sym, ◌∙◌, ap, subst, arith, drop, get_or, All}
use Rattle.std.specs.Prelude.{Ok, IsUtf8}
use Rattle.std.specs.List.{AllZip, flat_map}
use Rattle.std.proofs.lemmas.List.{append_cancel_right}
use Rattle.std.proofs.lemmas.List.Elements.{All-nil, All-cons, All-append}
use Rattle.url.specs.Parser.{Parsed}
use Rattle.url.specs.Parts.{Parts}
use Rattle.dav_headers.specs.ETag.{EntityTag, tag_text, IsEntityTag}
use Rattle.dav_headers.specs.IfTokens.{IsWhiteSpace, IsInside, Spells, Token, open_list, close_list, negation, angle, square, word}
use Rattle.dav_headers.specs.If.{Item, state_token, entity_tag, Condition, ConditionList, IsItem, AreConditions, IsList, AreLists, IsIf, tokens_in, tokens_of}
use Rattle.dav_headers.specs.IfWritten.{WrittenItem, written_token, written_tag, WrittenCondition, WrittenList, SaysItem, SaysCondition, SaysResource, SaysList}
use Rattle.dav_headers.specs.IfLaws.{asks_for}
use Rattle.dav_headers.proofs.IfMeaningLemmas.{if_written, if_says}

-- ---- one meaning

zip_one : {A B : Type 0} (R : A → B → Type 0) → ((x : A) (y z : B) → R x y → R x z → y ≡ z) → (xs : List A) (ys zs : List B) → AllZip R xs ys → AllZip R xs zs → ys ≡ zs
zip_one R one [] [] [] h k = refl
zip_one R one [] (y ∷ ys) zs h k = absurd h
zip_one R one [] [] (z ∷ zs) h k = absurd k
zip_one R one (x ∷ xs) [] zs h k = absurd h
zip_one R one (x ∷ xs) (y ∷ ys) [] h k = absurd k
zip_one R one (x ∷ xs) (y ∷ ys) (z ∷ zs) (h, more) (k, others) =
    let first = one x y z h k in let tail = zip_one R one xs ys zs more others in cc (first, tail)

same_inner : (s t : List ℕ) → 34 ∷ (s ++ 34 ∷ []) ≡ 34 ∷ (t ++ 34 ∷ []) → s ≡ t
same_inner s t e = append_cancel_right s t (34 ∷ []) (ap (drop 1) e)

same_weak : (s t : List ℕ) → tag_text true s ≡ tag_text true t → s ≡ t
same_weak s t e = same_inner s t (ap (drop 2) e)

never_both : (s t : List ℕ) → tag_text true s ≢ tag_text false t
never_both s t e = let first : ◌≡◌ {A = ℕ} 87 34 = ap (λ (x : List ℕ). get_or x 0 0) e in omega arith

same_text : (v w : Bool) (s t : List ℕ) → tag_text v s ≡ tag_text w t → (v ≡ w) × (s ≡ t)
same_text true true s t e = (refl, same_weak s t e)
same_text false false s t e = (refl, same_inner s t e)
same_text true false s t e = absurd (never_both s t e)
same_text false true s t e = absurd (never_both t s (sym e))

pub entity_tag_one : (text : List ℕ) (d e : EntityTag) → IsEntityTag text d → IsEntityTag text e → d ≡ e
entity_tag_one text d e h k =
    let same = same_text d.weak e.weak d.tag e.tag (sym h.1 ∙ k.1) in
    let first : Bool → EntityTag = λ x. record { weak = x; tag = d.tag } in
    let second : List ℕ → EntityTag = λ x. record { weak = e.weak; tag = x } in
    ap first same.0 ∙ ap second same.1

item_one : (w : WrittenItem) (i j : Item) → SaysItem w i → SaysItem w j → i ≡ j
item_one (written_token t) i j (_, e) (_, f) = e ∙ sym f
item_one (written_tag t) i j (d, _, h, is) (e, _, k, also) = is ∙ ap entity_tag (entity_tag_one t d e h k) ∙ sym also

condition_one : (w : WrittenCondition) (c d : Condition) → SaysCondition w c → SaysCondition w d → c ≡ d
condition_one w c d (m, h) (n, k) =
    let first : Bool → Condition = λ x. record { negated = x; item = c.item } in
    let second : Item → Condition = λ x. record { negated = d.negated; item = x } in
    ap first (m ∙ sym n) ∙ ap second (item_one w.item c.item d.item h k)

resource_one : (r : Option (List ℕ)) (u v : Option Parts) → SaysResource r u → SaysResource r v → u ≡ v
resource_one None None None h k = refl
resource_one None None (Some v) h k = absurd k
resource_one None (Some u) v h k = absurd h
resource_one (Some t) None v h k = absurd h
resource_one (Some t) (Some u) None h k = absurd k
resource_one (Some t) (Some u) (Some v) (_, e) (_, f) =
    let two : ◌≡◌ {A = Parsed Parts} (Ok u) (Ok v) = sym e ∙ f in cc

list_one : (w : WrittenList) (l m : ConditionList) → SaysList w l → SaysList w m → l ≡ m
list_one w l m (r, h) (s, k) =
    let first : Option Parts → ConditionList = λ x. record { resource = x; conditions = l.conditions } in
    let second : List Condition → ConditionList = λ x. record { resource = m.resource; conditions = x } in
    ap first (resource_one w.resource l.resource m.resource r s)
    ∙ ap second (zip_one SaysCondition condition_one w.conditions l.conditions m.conditions h k)

pub says_one : (text : List ℕ) (ls ms : List ConditionList) → IsIf text ls → IsIf text ms → ls ≡ ms
says_one text ls ms (ts, spells, are, some) h =
    let (ws, at, says, _) = if_written text ts ls spells (ts, spells, are, some) in
    let (also, _) = if_says text ts ws ms spells at h in
    zip_one SaysList list_one ws ls ms says also

-- ---- conditions and tokens

each_has_conditions : (ts : List Token) (ls : List ConditionList) → AreLists ts ls → All (λ l. 0 < length l.conditions) ls
each_has_conditions ts [] h = All-nil (λ l. 0 < length l.conditions)
each_has_conditions ts (l ∷ ls) (front, rest, (tag, inner, idle, resource, some, are, split), cut, more) =
    All-cons (λ l. 0 < length l.conditions) l ls some (each_has_conditions rest ls more)

pub some_conditions : (text : List ℕ) (ls : List ConditionList) → IsIf text ls → (0 < length ls) × All (λ l. 0 < length l.conditions) ls
some_conditions text ls (ts, spells, are, some) = (some, each_has_conditions ts ls are)

utf8_token : (t : List ℕ) (i : Item) → IsUtf8 t → i ≡ state_token t → All IsUtf8 (tokens_in i)
utf8_token t i utf8 e =
    let P : Item → Type 0 = λ x. All IsUtf8 (tokens_in x) in
    subst P (sym e) (All-cons IsUtf8 t [] utf8 (All-nil IsUtf8))

utf8_item : (t : Token) (i : Item) → IsItem t i → All IsUtf8 (tokens_in i)
utf8_item (angle t) i (utf8, e) = utf8_token t i utf8 e
utf8_item (word t) i (utf8, e) = utf8_token t i utf8 e
utf8_item (square t) i (e, utf8, is, same) = let P : Item → Type 0 = λ x. All IsUtf8 (tokens_in x) in subst P (sym same) (All-nil IsUtf8)
utf8_item open_list i h = absurd h
utf8_item close_list i h = absurd h
utf8_item negation i h = absurd h

utf8_conditions : (ts : List Token) (cs : List Condition) → AreConditions ts cs → All IsUtf8 (flat_map (λ c. tokens_in c.item) cs)
utf8_conditions ts [] h = All-nil IsUtf8
utf8_conditions ts (c ∷ cs) (t, more, is, e, are) =
    All-append IsUtf8 (tokens_in c.item) (flat_map (λ c. tokens_in c.item) cs) (utf8_item t c.item is) (utf8_conditions more cs are)

utf8_lists : (ts : List Token) (ls : List ConditionList) → AreLists ts ls → All IsUtf8 (tokens_of ls)
utf8_lists ts [] h = All-nil IsUtf8
utf8_lists ts (l ∷ ls) (front, rest, (tag, inner, idle, resource, some, are, split), cut, more) =
    All-append IsUtf8 (flat_map (λ c. tokens_in c.item) l.conditions) (tokens_of ls) (utf8_conditions inner l.conditions are) (utf8_lists rest ls more)

pub utf8_tokens : (text : List ℕ) (ls : List ConditionList) → IsIf text ls → All IsUtf8 (tokens_of ls)
utf8_tokens text ls (ts, spells, are, some) = utf8_lists ts ls are

-- ---- a single token

pub asked_for : (token : List ℕ) → IsInside 62 false token → IsUtf8 token → IsIf (40 ∷ 60 ∷ (token ++ 62 ∷ 41 ∷ [])) (asks_for token ∷ []) × (tokens_of (asks_for token ∷ []) ≡ token ∷ [])
asked_for token inside utf8 =
    let white_spaces = All-nil IsWhiteSpace in
    let last : Spells (41 ∷ []) (close_list ∷ []) = ([], 41 ∷ [], [], white_spaces, refl, refl, white_spaces) in
    let middle : Spells (60 ∷ (token ++ 62 ∷ 41 ∷ [])) (angle token ∷ close_list ∷ []) =
    ([], 60 ∷ (token ++ 62 ∷ 41 ∷ []), 41 ∷ [], white_spaces, refl, (inside, refl), last) in
    let all : Spells (40 ∷ 60 ∷ (token ++ 62 ∷ 41 ∷ [])) (open_list ∷ angle token ∷ close_list ∷ []) =
    ([], 40 ∷ 60 ∷ (token ++ 62 ∷ 41 ∷ []), 60 ∷ (token ++ 62 ∷ 41 ∷ []), white_spaces, refl, refl, middle) in
    let conditions : AreConditions (angle token ∷ []) ((asks_for token).conditions) = (angle token, [], (utf8, refl), refl, refl) in
    let list : IsList (open_list ∷ angle token ∷ close_list ∷ []) (asks_for token) = ([], angle token ∷ [], false, refl, omega arith, conditions, refl) in
    ((open_list ∷ angle token ∷ close_list ∷ [], all, (open_list ∷ angle token ∷ close_list ∷ [], [], list, refl, refl), omega arith), refl)
