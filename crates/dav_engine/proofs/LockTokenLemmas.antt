-- A Lock-Token says one token at most, and what the code finds is it.
use Rattle.std.proofs.Common.{◌≡◌, ◌≢◌, ◌++◌, inl, inr, ℕ, List, [], ◌∷◌, drop, get_or, All, codes, Option, Some, None, refl, sym, ap, subst, ◌∙◌}
use Rattle.std.specs.Option.{MatchOption, IfNone, option_copied, option_map}
use denote.Ref.{Bor}
use Rattle.std.proofs.lemmas.List.{append_assoc}
use Rattle.std.proofs.lemmas.List.Elements.{All-nil, All-head, All-tail, All-cons, All-push}
use Rattle.http_header.specs.HeaderMap.{get_all}
use Rattle.dav_headers.specs.Value.{IsOnlyText}
use Rattle.dav_engine.specs.Headers.{Headers, Decodes}
use Rattle.dav_engine.specs.LockToken.{IsAngle, BeginsBare, EndsBare, IsBetweenAngles, SaysLockToken}
use Rattle.dav_engine.specs.LockTokenCode.{IsAfterAngle, IsBeforeAngle, IsAfterAngles, IsBeforeAngles, IsTokenIn}

-- ---- text between angle brackets

pub begins_bare : (text rest : List ℕ) (b : ℕ) → text ≡ b ∷ rest → ¬ IsAngle b → BeginsBare text
begins_bare text rest b is other c more same angle = let e : c ∷ more ≡ b ∷ rest = sym same ∙ is in other (subst IsAngle (ap (λ x. get_or x 0 0) e) angle)

pub nothing_begins : (text : List ℕ) → text ≡ [] → BeginsBare text
nothing_begins text is c more same angle = let e : ◌≡◌ {A = List ℕ} [] (c ∷ more) = sym is ∙ same in cc

no_push : (xs : List ℕ) (c : ℕ) → ◌≢◌ {A = List ℕ} [] (xs ++ c ∷ [])
no_push [] c e = cc
no_push (x ∷ xs) c e = cc

pub last_is : (front more : List ℕ) (b c : ℕ) → front ++ b ∷ [] ≡ more ++ c ∷ [] → b ≡ c
last_is [] [] b c e = ap (λ x. get_or x 0 0) e
last_is [] (m ∷ more) b c e = absurd (no_push more c (ap (drop 1) e))
last_is (f ∷ front) [] b c e = absurd (no_push front b (sym (ap (drop 1) e)))
last_is (f ∷ front) (m ∷ more) b c e = last_is front more b c (ap (drop 1) e)

pub ends_bare : (text front : List ℕ) (b : ℕ) → text ≡ front ++ b ∷ [] → ¬ IsAngle b → EndsBare text
ends_bare text front b is other more c same angle = other (subst IsAngle (last_is more front c b (sym same ∙ is)) angle)

pub nothing_ends : (text : List ℕ) → text ≡ [] → EndsBare text
nothing_ends text is more c same angle = absurd (no_push more c (sym is ∙ same))

pub between : (text middle token : List ℕ) → IsAfterAngles text middle → IsBeforeAngles middle token → IsBetweenAngles text token
between text middle token a b = record {
  front = a.front;
  back = b.back;
  opening = a.opening;
  closing = b.closing;
  whole = a.whole ∙ ap (λ x. a.front ++ x) b.whole;
  begins = λ c rest is. a.bare c (rest ++ b.back) (b.whole ∙ ap (λ x. x ++ b.back) is);
  ends = b.bare;
}

-- all bytes of what doesn't end with an angle bracket are angle brackets only where there are none
none_left : (token : List ℕ) → EndsBare token → All IsAngle token → token ≡ []
none_left [] ends all = refl
none_left (b ∷ []) ends all = absurd (ends [] b refl (All-head IsAngle b [] all))
none_left (b ∷ c ∷ token) ends all =
    let e = none_left (c ∷ token) (λ front d is. ends (b ∷ front) d (ap (λ x. b ∷ x) is)) (All-tail IsAngle b (c ∷ token) all) in
    let f : ◌≡◌ {A = List ℕ} (c ∷ token) [] = e in cc

all_left : (xs ys : List ℕ) → All IsAngle (xs ++ ys) → All IsAngle xs
all_left [] ys all = All-nil IsAngle
all_left (x ∷ xs) ys all = All-cons IsAngle x xs (All-head IsAngle x (xs ++ ys) all) (all_left xs ys (All-tail IsAngle x (xs ++ ys) all))

same_ends : (t u back rest : List ℕ) → EndsBare t → EndsBare u → All IsAngle back → All IsAngle rest → t ++ back ≡ u ++ rest → t ≡ u
same_ends [] u back rest ends also all others e = sym (none_left u also (all_left u rest (subst (All IsAngle) e all)))
same_ends (b ∷ t) [] back rest ends also all others e = none_left (b ∷ t) ends (all_left (b ∷ t) back (subst (All IsAngle) (sym e) others))
same_ends (b ∷ t) (c ∷ u) back rest ends also all others e =
    let first : b ≡ c = ap (λ x. get_or x 0 0) e in
    let more = same_ends t u back rest (λ front d is. ends (b ∷ front) d (ap (λ x. b ∷ x) is)) (λ front d is. also (c ∷ front) d (ap (λ x. c ∷ x) is)) all others (ap (drop 1) e) in
    cc (first, more)

all_right : (xs ys : List ℕ) → All IsAngle (xs ++ ys) → All IsAngle ys
all_right [] ys all = all
all_right (x ∷ xs) ys all = all_right xs ys (All-tail IsAngle x (xs ++ ys) all)

begins_later : (f : ℕ) (front t back u rest : List ℕ) → IsAngle f → BeginsBare u → All IsAngle rest → EndsBare t → f ∷ (front ++ (t ++ back)) ≡ u ++ rest → All IsAngle (f ∷ front) → All IsAngle back → t ≡ u
begins_later f front t back [] rest angle bare others ends e all closing =
    let angles : All IsAngle (f ∷ (front ++ (t ++ back))) = subst (All IsAngle) (sym e) others in
    none_left t ends (all_left t back (all_right (f ∷ front) (t ++ back) angles))
begins_later f front t back (c ∷ u) rest angle bare others ends e all closing = absurd (bare c u refl (subst IsAngle (ap (λ x. get_or x 0 0) e) angle))

module _ (t u : List ℕ) (begins : BeginsBare t) (ends : EndsBare t) (starts : BeginsBare u) (stops : EndsBare u) where
  same_between : (front more back rest : List ℕ) → All IsAngle front → All IsAngle more → All IsAngle back → All IsAngle rest
      → front ++ (t ++ back) ≡ more ++ (u ++ rest) → t ≡ u
  same_between [] [] back rest opening other closing last e = same_ends t u back rest ends stops closing last e
  same_between (f ∷ front) [] back rest opening other closing last e =
      begins_later f front t back u rest (All-head IsAngle f front opening) starts last ends e opening closing
  same_between [] (m ∷ more) back rest opening other closing last e =
      sym (begins_later m more u rest t back (All-head IsAngle m more other) begins closing stops (sym e) other last)
  same_between (f ∷ front) (m ∷ more) back rest opening other closing last e =
      same_between front more back rest (All-tail IsAngle f front opening) (All-tail IsAngle m more other) closing last (ap (drop 1) e)

-- a text has one token between angle brackets
pub one_between : (text t u : List ℕ) → IsBetweenAngles text t → IsBetweenAngles text u → t ≡ u
one_between text t u a b = same_between t u a.begins a.ends b.begins b.ends a.front b.front a.back b.back a.opening b.opening a.closing b.closing (sym a.whole ∙ b.whole)

-- ---- what the header says

pub one_lock_token : (headers : Headers) (t u : List ℕ) → SaysLockToken headers t → SaysLockToken headers u → t ≡ u
one_lock_token headers t u (text, is, a) (other, also, b) =
    let same : other ≡ text = let e : Some other ≡ Some text = sym also ∙ is in cc in
    one_between text t u a (subst (λ x. IsBetweenAngles x u) same b)

said_by : (headers : Headers) (said token : Option (List ℕ)) → Decodes IsOnlyText (get_all headers (codes "lock-token")) said → IsTokenIn said token → Decodes SaysLockToken headers token
said_by headers None None none is = λ token says. none says.0 says.1
said_by headers None (Some token) none is = absurd is
said_by headers (Some text) None one is = absurd is
said_by headers (Some text) (Some token) one is = (text, one, is)

lent_text : {A : Type 0} (f : A → List ℕ) (lent : Option (Bor A)) (said : Option A) → option_copied lent ≡ said → option_map (λ t. f t.now) lent ≡ option_map f said
lent_text f None said is = ap (option_map f) is
lent_text f (Some t) said is = ap (option_map f) is

-- what is decoded of the header, and the token in it
pub token_said : {A : Type 0} (headers : Headers) (f : A → List ℕ) (lent : Option (Bor A)) (said : Option A) (token : Option (List ℕ)) → option_copied lent ≡ said
    → Decodes IsOnlyText (get_all headers (codes "lock-token")) (option_map f said) → IsTokenIn (option_map (λ t. f t.now) lent) token → Decodes SaysLockToken headers token
token_said headers f lent said token same decoded is = said_by headers (option_map f said) token decoded (subst (λ o. IsTokenIn o token) (lent_text f lent said same) is)

-- ---- the code

pub begins_bare_by : (text : List ℕ) → ((rest : List ℕ) → text ≢ 60 ∷ rest) → ((rest : List ℕ) → text ≢ 62 ∷ rest) → BeginsBare text
begins_bare_by text one other b rest is (inl e) = one rest (is ∙ ap (λ x. x ∷ rest) e)
begins_bare_by text one other b rest is (inr e) = other rest (is ∙ ap (λ x. x ∷ rest) e)

pub ends_bare_by : (text : List ℕ) → ((front : List ℕ) → text ≢ front ++ 60 ∷ []) → ((front : List ℕ) → text ≢ front ++ 62 ∷ []) → EndsBare text
ends_bare_by text one other front b is (inl e) = one front (is ∙ ap (λ x. front ++ x ∷ []) e)
ends_bare_by text one other front b is (inr e) = other front (is ∙ ap (λ x. front ++ x ∷ []) e)

pub no_opening : (text : List ℕ) (one other : Option (Bor (List ℕ))) → one ≡ None
    → MatchOption one ((rest : List ℕ) → text ≢ 60 ∷ rest) (λ x. text ≡ 60 ∷ x.now) → MatchOption other ((rest : List ℕ) → text ≢ 62 ∷ rest) (λ x. text ≡ 62 ∷ x.now)
    → IfNone other (BeginsBare text)
no_opening text None None is none neither = begins_bare_by text none neither
no_opening text None (Some x) is none found = tt
no_opening text (Some x) other is found rest = absurd (cc)

pub no_closing : (text : List ℕ) (one other : Option (Bor (List ℕ))) → one ≡ None
    → MatchOption one ((front : List ℕ) → text ≢ front ++ 60 ∷ []) (λ x. text ≡ x.now ++ 60 ∷ []) → MatchOption other ((front : List ℕ) → text ≢ front ++ 62 ∷ []) (λ x. text ≡ x.now ++ 62 ∷ [])
    → IfNone other (EndsBare text)
no_closing text None None is none neither = ends_bare_by text none neither
no_closing text None (Some x) is none found = tt
no_closing text (Some x) other is found rest = absurd (cc)

-- one more angle bracket was passed over
pub passed_opening : (text rest more : List ℕ) → ((front : List ℕ) × All IsAngle front × (text ≡ front ++ rest)) → IsAfterAngle rest more → (front : List ℕ) × All IsAngle front × (text ≡ front ++ more)
passed_opening text rest more (front, angles, whole) (b, angle, is) = (front ++ b ∷ [], All-push IsAngle front b angles angle, whole ∙ ap (λ x. front ++ x) is ∙ sym (append_assoc front (b ∷ []) more))

pub passed_closing : (text rest more : List ℕ) → ((back : List ℕ) × All IsAngle back × (text ≡ rest ++ back)) → IsBeforeAngle rest more → (back : List ℕ) × All IsAngle back × (text ≡ more ++ back)
passed_closing text rest more (back, angles, whole) (b, angle, is) = (b ∷ back, All-cons IsAngle b back angle angles, whole ∙ ap (λ x. x ++ back) is ∙ append_assoc more (b ∷ []) back)

pub after_all : (text rest : List ℕ) → ((front : List ℕ) × All IsAngle front × (text ≡ front ++ rest)) → BeginsBare rest → IsAfterAngles text rest
after_all text rest (front, angles, whole) bare = record { front = front; opening = angles; whole = whole; bare = bare }

pub before_all : (text rest : List ℕ) → ((back : List ℕ) × All IsAngle back × (text ≡ rest ++ back)) → EndsBare rest → IsBeforeAngles text rest
before_all text rest (back, angles, whole) bare = record { back = back; closing = angles; whole = whole; bare = bare }
