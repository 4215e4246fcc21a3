-- The functions that read lists agree with the grammar, both ways.
use Rattle.std.proofs.Common.{◌≡◌, ◌≢◌, ℕ, ◌+◌, ◌-◌, ◌<◌, ◌≤◌, ◌++◌, Bool, true, false, cond, List, [], ◌∷◌, length, take, drop, map, Option, Some, None, refl, sym, ◌∙◌, ap, subst, arith, append_assoc, length-drop}
use Rattle.std.specs.Prelude.{Err, Result, IsErrOf}
use Rattle.std.specs.List.{AllZip}
use Rattle.std.proofs.lemmas.List.{append-nil, take_all, drop-map, drop-drop, length-map}
use Rattle.std.proofs.lemmas.Slice.Zip.{AllZip-long}
use Rattle.url.specs.Parts.{Parts}
use Rattle.dav_headers.specs.IfTokens.{Token, open_list, close_list, negation, angle, square, word}
use Rattle.dav_headers.specs.If.{Item, Condition, ConditionList, IsItem, AreConditions, IsResourceTag, list_end, IsList, AreLists}
use Rattle.dav_headers.proofs.IfTokenLemmas.{same_pair}
use Rattle.dav_headers.specs.IfWritten.{WrittenItem, written_token, written_tag, WrittenCondition, WrittenList, item_at, Read, with_front, one, conditions_at, front_at, ListAt, NoList, ListsAt, SaysItem, SaysCondition, SaysResource, SaysList}
use Rattle.dav_headers.specs.IfParts.{part_view}
use Rattle.dav_headers.specs.IfTexts.{condition_view, StepsAs}
use Rattle.dav_headers.specs.declared.errors.HeaderError.{HeaderError}
use Rattle.dav_headers.specs.declared.if_header.tokens.Part.{Part}
use Rattle.dav_headers.specs.declared.if_header.written.ConditionText.{ConditionText}

-- ---- what is read, and what follows it

pub with_front_more : (cs ds : List WrittenCondition) (r : Read) → with_front cs (with_front ds r) ≡ with_front (cs ++ ds) r
with_front_more cs ds None = refl
with_front_more cs ds (Some x) = ap (λ (l : List WrittenCondition). let p : Read = Some (l, x.1) in p) (sym (append_assoc cs ds x.0))

-- what is there from a place on
pub from : {A B : Type 0} (f : A → B) (n : ℕ) (xs : List A) → n ≤ length xs → map f (take (length xs - n) (drop n xs)) ≡ drop n (map f xs)
from f n xs h = ap (map f) (take_all (length xs - n) (drop n xs) (omega (arith, length-drop n xs))) ∙ sym (drop-map f n xs)

same_list : (ts : List Token) (l m : WrittenList) (r s : List Token) → ListAt ts l r → ListAt ts m s → (l ≡ m) × (r ≡ s)
same_list ts l m r s (us, f, some, c) (vs, g, more, d) =
    let front = same_pair l.resource m.resource us vs (sym f ∙ g) in
    let back = same_pair l.conditions m.conditions r s (sym c ∙ ap conditions_at front.1 ∙ d) in
    let first : Option (List ℕ) → WrittenList = λ x. record { resource = x; conditions = l.conditions } in
    let second : List WrittenCondition → WrittenList = λ x. record { resource = m.resource; conditions = x } in
    (ap first front.0 ∙ ap second back.0, back.1)

-- the error that a `?` returns
pub same_error : {T : Type 0} {w : HeaderError} (r : Result T HeaderError) (y z : HeaderError) → r ≡ Err y → y ≡ z → IsErrOf r w → z ≡ w
same_error r y z e f h = cc

-- tokens are at most one list of lists
pub lists_same : (ts : List Token) (ls ms : List WrittenList) → ListsAt ts ls → ListsAt ts ms → ls ≡ ms
lists_same ts [] [] h k = refl
lists_same ts [] (m ∷ ms) none (rest, (us, f, some, c), more) =
    let wrong : ◌≡◌ {A = Option (Option (List ℕ) × List Token)} None (Some (m.resource, us)) = ap front_at (sym none) ∙ f in absurd (cc)
lists_same ts (l ∷ ls) [] (rest, (us, f, some, c), more) none =
    let wrong : ◌≡◌ {A = Option (Option (List ℕ) × List Token)} None (Some (l.resource, us)) = ap front_at (sym none) ∙ f in absurd (cc)
lists_same ts (l ∷ ls) (m ∷ ms) (rest, at, more) (after, is, others) =
    let same = same_list ts l m rest after at is in
    let P : List Token → Type 0 = λ x. ListsAt x ls in
    let tail = lists_same after ls ms (subst P same.1 more) others in
    cc (same.0, tail)

-- ---- the conditions so far

pub step_more : (ts : List Token) (o : Option ConditionText) (n : ℕ) (x : ConditionText) → StepsAs ts (Some (o, n)) → o ≡ Some x → (0 < n) × (n ≤ length ts) × (conditions_at ts ≡ with_front (condition_view x ∷ []) (conditions_at (drop n ts)))
step_more ts None n x h e = absurd (cc)
step_more ts (Some y) n x h e =
    let same : y ≡ x = cc in
    let P : ConditionText → Type 0 = λ z. (0 < n) × (n ≤ length ts) × (conditions_at ts ≡ with_front (condition_view z ∷ []) (conditions_at (drop n ts))) in
    subst P same h

pub step_end : (ts : List Token) (o : Option ConditionText) (n : ℕ) → StepsAs ts (Some (o, n)) → o ≡ None → (0 < n) × (n ≤ length ts) × (conditions_at ts ≡ Some ([], drop n ts))
step_end ts None n h e = h
step_end ts (Some y) n h e = absurd (cc)

pub read_on : (ts : List Token) (at n : ℕ) (found : List WrittenCondition) (c : WrittenCondition) → with_front found (conditions_at (drop at ts)) ≡ conditions_at ts → conditions_at (drop at ts) ≡ with_front (c ∷ []) (conditions_at (drop n (drop at ts))) → with_front (found ++ c ∷ []) (conditions_at (drop (at + n) ts)) ≡ conditions_at ts
read_on ts at n found c so_far here =
    ap (λ x. with_front (found ++ c ∷ []) (conditions_at x)) (sym (drop-drop n at ts))
    ∙ sym (with_front_more found (c ∷ []) _) ∙ ap (with_front found) (sym here) ∙ so_far

pub read_end : (ts : List Token) (at n : ℕ) (found : List WrittenCondition) → with_front found (conditions_at (drop at ts)) ≡ conditions_at ts → conditions_at (drop at ts) ≡ Some ([], drop n (drop at ts)) → conditions_at ts ≡ Some (found, drop (at + n) ts)
read_end ts at n found so_far here =
    sym so_far ∙ ap (with_front found) here
    ∙ ap (λ (x : List WrittenCondition). let r : Read = Some (x, drop n (drop at ts)) in r) (append-nil found)
    ∙ ap (λ (x : List Token). let r : Read = Some (found, x) in r) (drop-drop n at ts)

pub within : (ps : List Part) (at n : ℕ) → at ≤ length ps → n ≤ length (drop at (map part_view ps)) → at + n ≤ length ps
within ps at n h k = omega (arith, length-drop at (map part_view ps), length-map ps part_view)

pub within_slice : (ps : List Part) (at n : ℕ) → at ≤ length ps → n ≤ length (take (length ps - at) (drop at ps)) → at + n ≤ length ps
within_slice ps at n h k = omega (arith, ap length (take_all (length ps - at) (drop at ps) (omega (arith, length-drop at ps))), length-drop at ps)

-- ---- the list that the tokens begin with

-- the conditions that are read from a place on
pub found_after : (ps : List Part) (at n : ℕ) (cs : List WrittenCondition) → at ≤ length ps → (let us = map part_view (take (length ps - at) (drop at ps)) in conditions_at us ≡ Some (cs, drop n us)) → conditions_at (drop at (map part_view ps)) ≡ Some (cs, drop (at + n) (map part_view ps))
found_after ps at n cs h read =
    let P : List Token → Type 0 = λ x. conditions_at x ≡ Some (cs, drop n x) in
    subst P (from part_view at ps h) read
    ∙ ap (λ (x : List Token). let r : Read = Some (cs, x) in r) (drop-drop n at (map part_view ps))

pub no_conditions : (ts us : List Token) (r : Option (List ℕ)) → front_at ts ≡ Some (r, us) → conditions_at us ≡ None → NoList ts
no_conditions ts us r f none l rest (vs, g, some, at) =
    let same = same_pair r l.resource us vs (sym f ∙ g) in
    let wrong : ◌≡◌ {A = Read} None (Some (l.conditions, rest)) = sym none ∙ ap conditions_at same.1 ∙ at in cc

pub empty_list : (ts us rest : List Token) (r : Option (List ℕ)) (cs : List WrittenCondition) → front_at ts ≡ Some (r, us) → conditions_at us ≡ Some (cs, rest) → cs ≡ [] → NoList ts
empty_list ts us rest r cs f found none l after (vs, g, some, at) =
    let same = same_pair r l.resource us vs (sym f ∙ g) in
    let back = same_pair cs l.conditions rest after (sym found ∙ ap conditions_at same.1 ∙ at) in
    omega (arith, ap length back.0, ap length none)

-- ---- the lists so far

-- the lists so far: the tokens are these, and then the lists of the rest
pub record ListsSoFar (ts rest : List Token) (ls : List WrittenList) : Type 0 where
  pub found : (more : List WrittenList) → ListsAt rest more → ListsAt ts (ls ++ more)
  pub only : (all : List WrittenList) → ListsAt ts all → (more : List WrittenList) × (all ≡ ls ++ more) × ListsAt rest more

only_next : (rest after : List Token) (ls : List WrittenList) (l : WrittenList) (all more : List WrittenList) → ListAt rest l after → all ≡ ls ++ more → ListsAt rest more → (later : List WrittenList) × (all ≡ (ls ++ l ∷ []) ++ later) × ListsAt after later
only_next rest after ls l all [] (us, f, some, c) e none =
    let wrong : ◌≡◌ {A = Option (Option (List ℕ) × List Token)} None (Some (l.resource, us)) = ap front_at (sym none) ∙ f in absurd (cc)
only_next rest after ls l all (m ∷ more) at e (tail, is, lists) =
    let same = same_list rest m l tail after is at in
    let P : List Token → Type 0 = λ x. ListsAt x more in
    (more, e ∙ ap (λ x. ls ++ x ∷ more) same.0 ∙ sym (append_assoc ls (l ∷ []) more), subst P same.1 lists)

pub ListsSoFar-step : (ts rest after : List Token) (ls : List WrittenList) (l : WrittenList) → ListsSoFar ts rest ls → ListAt rest l after → ListsSoFar ts after (ls ++ l ∷ [])
ListsSoFar-step ts rest after ls l sofar at = record {
  found = λ more h.
      let P : List WrittenList → Type 0 = λ x. ListsAt ts x in
      subst P (sym (append_assoc ls (l ∷ []) more)) (sofar.found (l ∷ more) (after, at, h));
  only = λ all h. let (more, e, lists) = sofar.only all h in only_next rest after ls l all more at e lists;
}

pub ListsSoFar-end : (ts rest : List Token) (ls : List WrittenList) → ListsSoFar ts rest ls → rest ≡ [] → ListsAt ts ls
ListsSoFar-end ts rest ls sofar e =
    let P : List WrittenList → Type 0 = λ x. ListsAt ts x in
    subst P (append-nil ls) (sofar.found [] e)

stuck : (rest : List Token) (more : List WrittenList) → rest ≢ [] → NoList rest → ¬ ListsAt rest more
stuck rest [] some none = λ h. some h
stuck rest (l ∷ more) some none = λ (tail, is, lists). none l tail is

pub ListsSoFar-stuck : (ts rest : List Token) (ls : List WrittenList) → ListsSoFar ts rest ls → rest ≢ [] → NoList rest → (all : List WrittenList) → ¬ ListsAt ts all
ListsSoFar-stuck ts rest ls sofar some none all h =
    let (more, e, later) = sofar.only all h in stuck rest more some none later

-- ---- what is written means what is meant

item_found : (t : Token) (w : WrittenItem) (i : Item) → item_at t ≡ Some w → SaysItem w i → IsItem t i
item_found (angle t) w i e h = let P : WrittenItem → Type 0 = λ x. SaysItem x i in let same : w ≡ written_token t = cc in subst P same h
item_found (word t) w i e h = let P : WrittenItem → Type 0 = λ x. SaysItem x i in let same : w ≡ written_token t = cc in subst P same h
item_found (square t) w i e h = let P : WrittenItem → Type 0 = λ x. SaysItem x i in let same : w ≡ written_tag t = cc in subst P same h
item_found open_list w i e h = absurd (cc)
item_found close_list w i e h = absurd (cc)
item_found negation w i e h = absurd (cc)

item_only : (t : Token) (i : Item) → IsItem t i → (w : WrittenItem) × (item_at t ≡ Some w) × SaysItem w i
item_only (angle t) i h = (written_token t, refl, h)
item_only (word t) i h = (written_token t, refl, h)
item_only (square t) i h = (written_tag t, refl, h)
item_only open_list i h = absurd h
item_only close_list i h = absurd h
item_only negation i h = absurd h

-- the tokens of the conditions, the end of the list, and the rest
abbrev Shape : List Token → List Condition → List Token → Type 0
Shape ts cs rest =
    (inner : List Token) × (idle : Bool) × AreConditions inner cs × (ts ≡ inner ++ (list_end idle ++ rest))

front_cases : (negated : Bool) (w : WrittenItem) (r : Read) (ws : List WrittenCondition) (rest : List Token) → with_front (one negated w) r ≡ Some (ws, rest) → (vs : List WrittenCondition) × (r ≡ Some (vs, rest)) × (ws ≡ one negated w ++ vs)
front_cases negated w None ws rest e = absurd (cc)
front_cases negated w (Some x) ws rest e =
    let same = same_pair (one negated w ++ x.0) ws x.1 rest e in
    let back : List Token → Read = λ z. Some (x.0, z) in
    (x.0, ap back same.1, sym same.0)

shape_moved : (ts us : List Token) (cs : List Condition) (rest : List Token) → us ≡ ts → Shape ts cs rest → Shape us cs rest
shape_moved ts us cs rest e (inner, idle, are, split) = (inner, idle, are, e ∙ split)

-- a condition at the start
in_front : (m : Bool) (t : Token) (ts inner back : List Token) → ts ≡ inner ++ back → cond m (negation ∷ t ∷ ts) (t ∷ ts) ≡ cond m (negation ∷ t ∷ inner) (t ∷ inner) ++ back
in_front true t ts inner back e = ap (λ x. negation ∷ t ∷ x) e
in_front false t ts inner back e = ap (λ x. t ∷ x) e

one_more : (negated : Bool) (t : Token) (w : WrittenItem) (ts rest : List Token) (vs : List WrittenCondition) (cs : List Condition) → item_at t ≡ Some w → AllZip SaysCondition (one negated w ++ vs) cs → ((ds : List Condition) → AllZip SaysCondition vs ds → Shape ts ds rest) → Shape (cond negated (negation ∷ t ∷ ts) (t ∷ ts)) cs rest
one_more negated t w ts rest vs [] at h again = absurd h
one_more negated t w ts rest vs (c ∷ cs) at (says, more) again =
    let (inner, idle, are, split) = again cs more in
    let same : cond negated (negation ∷ t ∷ ts) (t ∷ ts) ≡ cond c.negated (negation ∷ t ∷ ts) (t ∷ ts) = ap (λ m. cond m (negation ∷ t ∷ ts) (t ∷ ts)) (sym says.0) in (
      cond c.negated (negation ∷ t ∷ inner) (t ∷ inner),
      idle,
      (t, inner, item_found t w c.item at says.1, refl, are),
      same ∙ in_front c.negated t ts inner (list_end idle ++ rest) split,
    )

read_more : (negated : Bool) (t : Token) (w : WrittenItem) (ts rest : List Token) (ws : List WrittenCondition) (cs : List Condition) → item_at t ≡ Some w → with_front (one negated w) (conditions_at ts) ≡ Some (ws, rest) → AllZip SaysCondition ws cs → ((vs : List WrittenCondition) (ds : List Condition) → conditions_at ts ≡ Some (vs, rest) → AllZip SaysCondition vs ds → Shape ts ds rest) → Shape (cond negated (negation ∷ t ∷ ts) (t ∷ ts)) cs rest
read_more negated t w ts rest ws cs at e h again =
    let (vs, is, split) = front_cases negated w (conditions_at ts) ws rest e in
    let P : List WrittenCondition → Type 0 = λ x. AllZip SaysCondition x cs in
    one_more negated t w ts rest vs cs at (subst P split h) (λ ds k. again vs ds is k)

-- no conditions are left
at_end : (idle : Bool) (ts rest : List Token) (ws : List WrittenCondition) (cs : List Condition) → ◌≡◌ {A = Read} (Some ([], ts)) (Some (ws, rest)) → AllZip SaysCondition ws cs → Shape (list_end idle ++ ts) cs rest
at_end idle ts rest ws [] e h =
    let same = same_pair [] ws ts rest e in
    ([], idle, refl, ap (λ x. list_end idle ++ x) same.1)
at_end idle ts rest ws (c ∷ cs) e h =
    let same = same_pair [] ws ts rest e in
    let P : List WrittenCondition → Type 0 = λ x. AllZip SaysCondition x (c ∷ cs) in
    absurd (subst P (sym same.0) h)

pub conditions_found : (ts rest : List Token) (ws : List WrittenCondition) (cs : List Condition) → conditions_at ts ≡ Some (ws, rest) → AllZip SaysCondition ws cs → Shape ts cs rest
conditions_found [] rest ws cs e h = absurd (cc)
conditions_found (open_list ∷ ts) rest ws cs e h = absurd (cc)
conditions_found (close_list ∷ ts) rest ws cs e h = at_end false ts rest ws cs e h
conditions_found (angle a ∷ ts) rest ws cs e h = read_more false (angle a) (written_token a) ts rest ws cs refl e h (λ vs ds. conditions_found ts rest vs ds)
conditions_found (word a ∷ ts) rest ws cs e h = read_more false (word a) (written_token a) ts rest ws cs refl e h (λ vs ds. conditions_found ts rest vs ds)
conditions_found (square a ∷ ts) rest ws cs e h = read_more false (square a) (written_tag a) ts rest ws cs refl e h (λ vs ds. conditions_found ts rest vs ds)
conditions_found (negation ∷ []) rest ws cs e h = absurd (cc)
conditions_found (negation ∷ open_list ∷ ts) rest ws cs e h = absurd (cc)
conditions_found (negation ∷ negation ∷ ts) rest ws cs e h = absurd (cc)
conditions_found (negation ∷ close_list ∷ ts) rest ws cs e h = at_end true ts rest ws cs e h
conditions_found (negation ∷ angle a ∷ ts) rest ws cs e h = read_more true (angle a) (written_token a) ts rest ws cs refl e h (λ vs ds. conditions_found ts rest vs ds)
conditions_found (negation ∷ word a ∷ ts) rest ws cs e h = read_more true (word a) (written_token a) ts rest ws cs refl e h (λ vs ds. conditions_found ts rest vs ds)
conditions_found (negation ∷ square a ∷ ts) rest ws cs e h = read_more true (square a) (written_tag a) ts rest ws cs refl e h (λ vs ds. conditions_found ts rest vs ds)

-- what is meant was written
condition_first : (m : Bool) (t : Token) (w : WrittenItem) (us : List Token) → item_at t ≡ Some w → conditions_at (cond m (negation ∷ t ∷ us) (t ∷ us)) ≡ with_front (one m w) (conditions_at us)
condition_first true (angle a) w us e = let same : written_token a ≡ w = cc in ap (λ x. with_front (one true x) (conditions_at us)) same
condition_first true (word a) w us e = let same : written_token a ≡ w = cc in ap (λ x. with_front (one true x) (conditions_at us)) same
condition_first true (square a) w us e = let same : written_tag a ≡ w = cc in ap (λ x. with_front (one true x) (conditions_at us)) same
condition_first true open_list w us e = absurd (cc)
condition_first true close_list w us e = absurd (cc)
condition_first true negation w us e = absurd (cc)
condition_first false (angle a) w us e = let same : written_token a ≡ w = cc in ap (λ x. with_front (one false x) (conditions_at us)) same
condition_first false (word a) w us e = let same : written_token a ≡ w = cc in ap (λ x. with_front (one false x) (conditions_at us)) same
condition_first false (square a) w us e = let same : written_tag a ≡ w = cc in ap (λ x. with_front (one false x) (conditions_at us)) same
condition_first false open_list w us e = absurd (cc)
condition_first false close_list w us e = absurd (cc)
condition_first false negation w us e = absurd (cc)

at_list_end : (idle : Bool) (rest : List Token) → conditions_at (list_end idle ++ rest) ≡ Some ([], rest)
at_list_end true rest = refl
at_list_end false rest = refl

after_front : (m : Bool) (t : Token) (more back : List Token) → cond m (negation ∷ t ∷ more) (t ∷ more) ++ back ≡ cond m (negation ∷ t ∷ (more ++ back)) (t ∷ (more ++ back))
after_front true t more back = refl
after_front false t more back = refl

pub conditions_only : (inner rest : List Token) (idle : Bool) (cs : List Condition) → AreConditions inner cs → (ws : List WrittenCondition) × AllZip SaysCondition ws cs × (conditions_at (inner ++ (list_end idle ++ rest)) ≡ Some (ws, rest))
conditions_only inner rest idle [] e = ([], tt, ap (λ x. conditions_at (x ++ (list_end idle ++ rest))) e ∙ at_list_end idle rest)
conditions_only inner rest idle (c ∷ cs) (t, more, is, e, are) =
    let (vs, says, at) = conditions_only more rest idle cs are in
    let (w, here, meant) = item_only t c.item is in
    let back : List Token = list_end idle ++ rest in
    let read : conditions_at (inner ++ back) ≡ with_front (one c.negated w) (conditions_at (more ++ back)) =
    ap (λ x. conditions_at (x ++ back)) e ∙ ap conditions_at (after_front c.negated t more back) ∙ condition_first c.negated t w (more ++ back) here in
    (one c.negated w ++ vs, ((refl, meant), says), read ∙ ap (with_front (one c.negated w)) at)

-- ---- one list

no_resource : (u : Option Parts) → SaysResource None u → IsResourceTag [] u
no_resource None h = refl
no_resource (Some u) h = absurd h

a_resource : (a : List ℕ) (u : Option Parts) → SaysResource (Some a) u → IsResourceTag (angle a ∷ []) u
a_resource a None h = absurd h
a_resource a (Some u) (utf8, parsed) = (a, utf8, parsed, refl)

front_found : (ts us : List Token) (r : Option (List ℕ)) (u : Option Parts) → front_at ts ≡ Some (r, us) → SaysResource r u → (tag : List Token) × IsResourceTag tag u × (ts ≡ tag ++ open_list ∷ us)
front_found [] us r u e h = absurd (cc)
front_found (open_list ∷ ts) us r u e h =
    let same = same_pair None r ts us e in
    let P : Option (List ℕ) → Type 0 = λ x. SaysResource x u in
    ([], no_resource u (subst P (sym same.0) h), ap (λ x. open_list ∷ x) same.1)
front_found (angle a ∷ open_list ∷ ts) us r u e h =
    let same = same_pair (Some a) r ts us e in
    let P : Option (List ℕ) → Type 0 = λ x. SaysResource x u in
    (angle a ∷ [], a_resource a u (subst P (sym same.0) h), ap (λ x. angle a ∷ open_list ∷ x) same.1)
front_found (t ∷ ts) us r u e h = absurd (cc)

pub list_found : (ts rest : List Token) (w : WrittenList) (l : ConditionList) → ListAt ts w rest → SaysList w l → (front : List Token) × IsList front l × (ts ≡ front ++ rest)
list_found ts rest w l (us, front, some, at) (resource, conditions) =
    let (tag, is, split) = front_found ts us w.resource l.resource front resource in
    let (inner, idle, are, cut) = conditions_found us rest w.conditions l.conditions at conditions in
    let many : 0 < length l.conditions = omega (arith, AllZip-long SaysCondition w.conditions l.conditions conditions) in (
      tag ++ open_list ∷ (inner ++ list_end idle),
      (tag, inner, idle, is, many, are, refl),
      split ∙ ap (λ x. tag ++ open_list ∷ x) (cut ∙ sym (append_assoc inner (list_end idle) rest)) ∙ sym (append_assoc tag (open_list ∷ (inner ++ list_end idle)) rest),
    )

front_only : (tag us : List Token) (u : Option Parts) → IsResourceTag tag u → (r : Option (List ℕ)) × SaysResource r u × (front_at (tag ++ open_list ∷ us) ≡ Some (r, us))
front_only tag us None e = (None, tt, ap (λ x. front_at (x ++ open_list ∷ us)) e)
front_only tag us (Some u) (t, utf8, parsed, e) = (Some t, (utf8, parsed), ap (λ x. front_at (x ++ open_list ∷ us)) e)

pub list_only : (front rest : List Token) (l : ConditionList) → IsList front l → (w : WrittenList) × ListAt (front ++ rest) w rest × SaysList w l
list_only front rest l (tag, inner, idle, is, some, are, split) =
    let back : List Token = inner ++ (list_end idle ++ rest) in
    let (r, resource, at) = front_only tag back l.resource is in
    let (ws, says, read) = conditions_only inner rest idle l.conditions are in
    let whole : front ++ rest ≡ tag ++ open_list ∷ back =
    ap (λ x. x ++ rest) split ∙ append_assoc tag (open_list ∷ (inner ++ list_end idle)) rest
    ∙ ap (λ x. tag ++ open_list ∷ x) (append_assoc inner (list_end idle) rest) in
    let many : 0 < length ws = omega (arith, AllZip-long SaysCondition ws l.conditions says) in
    (record { resource = r; conditions = ws }, (back, ap front_at whole ∙ at, many, read), (resource, says))

-- ---- all lists

pub lists_found : (ts : List Token) (ws : List WrittenList) (ls : List ConditionList) → ListsAt ts ws → AllZip SaysList ws ls → AreLists ts ls
lists_found ts [] [] e h = e
lists_found ts [] (l ∷ ls) e h = absurd h
lists_found ts (w ∷ ws) [] e h = absurd h
lists_found ts (w ∷ ws) (l ∷ ls) (rest, at, more) (says, others) =
    let (front, is, split) = list_found ts rest w l at says in
    (front, rest, is, split, lists_found rest ws ls more others)

pub lists_only : (ts : List Token) (ls : List ConditionList) → AreLists ts ls → (ws : List WrittenList) × ListsAt ts ws × AllZip SaysList ws ls
lists_only ts [] e = ([], e, tt)
lists_only ts (l ∷ ls) (front, rest, is, split, more) =
    let (ws, at, says) = lists_only rest ls more in
    let (w, here, meant) = list_only front rest l is in
    let P : List Token → Type 0 = λ x. ListAt x w rest in
    (w ∷ ws, (rest, subst P (sym split) here, at), (meant, says))
