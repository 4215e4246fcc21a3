-- The functions that read tokens agree with the grammar, both ways.
use Rattle.std.proofs.Common.{◌≡◌, ◌≢◌, ℕ, ◌+◌, ◌<◌, ◌≤◌, ◌++◌, inl, inr, Bool, true, false, cond, List, [], ◌∷◌, length, take, drop, suc, All, Option, Some, None, refl, sym, ◌∙◌, ap, subst, arith, append_assoc, ◌==◌, not, ◌&&◌}
use Rattle.std.specs.Prelude.{nat_eq}
use Rattle.std.specs.Option.{option_map}
use Rattle.std.specs.List.{starts_with}
use Rattle.std.proofs.lemmas.Bool.{cond-true, cond-false, cases_Bool, false_from_ne_true}
use Rattle.std.proofs.lemmas.Bool.Decides.{nat_tests, Decides-eqb}
use Rattle.std.proofs.lemmas.Slice.Eq.{starts_is}
use Rattle.std.proofs.lemmas.List.{take-append-drop, append-nil}
use Rattle.std.proofs.lemmas.List.Elements.{All-nil, All-cons, All-head, All-tail, All-append}
use Rattle.std.proofs.lemmas.List.Folds.{length-prefix_len}
use Rattle.std.proofs.Math.Seq.{drop-append_seam, drop-append-add, take-append_seam}
use Rattle.dav_headers.specs.IfTokens.{IsWhiteSpace, IsWordByte, IsInside, Token, open_list, close_list, negation, angle, square, word, EndsWord, Begins, Spells}
use Rattle.dav_headers.specs.IfTokenMachine.{is_white_space, is_word_byte, skip, inside_len, Split, bracketed, word_len, word_at, token_at}

-- ---- bytes

white_space : (b : ℕ) → is_white_space b ≡ true → IsWhiteSpace b
white_space b e = grind (arith, nat_tests)

not_white_space : (b : ℕ) → is_white_space b ≡ false → ¬ IsWhiteSpace b
not_white_space b e = λ h. grind (arith, nat_tests)

white_space_test : (b : ℕ) → IsWhiteSpace b → is_white_space b ≡ true
white_space_test b h = grind (arith, nat_tests)

no_white_space_test : (b : ℕ) → ¬ IsWhiteSpace b → is_white_space b ≡ false
no_white_space_test b h = false_from_ne_true (is_white_space b) (λ e. h (white_space b e))

word_byte : (b : ℕ) → is_word_byte b ≡ true → IsWordByte b
word_byte b e = grind (arith, nat_tests)

word_byte_test : (b : ℕ) → IsWordByte b → is_word_byte b ≡ true
word_byte_test b h = grind (arith, nat_tests)

not_word_byte : (b : ℕ) → is_word_byte b ≡ false → ¬ IsWordByte b
not_word_byte b e = λ h. cc (word_byte_test b h)

no_word_test : (b : ℕ) → ¬ IsWordByte b → is_word_byte b ≡ false
no_word_test b h = false_from_ne_true (is_word_byte b) (λ e. h (word_byte b e))

-- ---- what is in brackets

abbrev Found : ℕ → Bool → List ℕ → ℕ → Type 0
Found close quoted text n =
    (t : List ℕ) × (rest : List ℕ) × IsInside close quoted t × (text ≡ t ++ close ∷ rest) × (length t ≡ n)

one_more : (o : Option ℕ) (n : ℕ) → option_map (λ k. k + 1) o ≡ Some n → (m : ℕ) × (o ≡ Some m) × (n ≡ m + 1)
one_more None n e = absurd (cc)
one_more (Some m) n e = (m, refl, cc)

quote_is_open : (b close : ℕ) (quoted : Bool) → (b == close && not quoted) ≡ false → b ≡ close → quoted ≡ true
quote_is_open b close true e same = refl
quote_is_open b close false e same = grind (arith, nat_tests)

closes : (b close : ℕ) (quoted : Bool) → (b == close && not quoted) ≡ true → (b ≡ close) × (quoted ≡ false)
closes b close quoted e = grind (arith, nat_tests)

stays_open : (b close : ℕ) (quoted : Bool) → (b ≡ close → quoted ≡ true) → (b == close && not quoted) ≡ false
stays_open b close quoted h = grind (arith, nat_tests)

found_next : (close : ℕ) (quoted : Bool) (b : ℕ) (bs : List ℕ) (n : ℕ) → is_white_space b ≡ false → cond (b == close && not quoted) (Some 0) (option_map (λ k. k + 1) (inside_len close (cond (b == 34) (not quoted) quoted) bs)) ≡ Some n → ((q : Bool) (m : ℕ) → inside_len close q bs ≡ Some m → Found close q bs m) → Found close quoted (b ∷ bs) n
found_next close quoted b bs n clean e again = elim (cases_Bool (b == close && not quoted)) [
  | inl y ↦ let c = closes b close quoted y in let zero : 0 ≡ n = (let h = sym (cond-true _ _ _ y) ∙ e in cc) in ([], bs, c.1, ap (λ x. x ∷ bs) c.0, zero)
  | inr k ↦
      let (m, is, e2) = one_more _ n (sym (cond-false _ _ _ k) ∙ e) in
      let (t, rest, inside, split, len) = again _ m is in
      (b ∷ t, rest, (not_white_space b clean, quote_is_open b close quoted k, inside), ap (λ xs. b ∷ xs) split, omega (arith, len, e2))
]

pub inside_found : (close : ℕ) (quoted : Bool) (text : List ℕ) (n : ℕ) → inside_len close quoted text ≡ Some n → Found close quoted text n
inside_found close quoted [] n e = absurd (cc)
inside_found close quoted (b ∷ bs) n e = elim (cases_Bool (is_white_space b)) [
  | inl y ↦ let h = sym (cond-true _ _ _ y) ∙ e in absurd (cc)
  | inr clean ↦ found_next close quoted b bs n clean (sym (cond-false _ _ _ clean) ∙ e) (λ q m h. inside_found close q bs m h)
]

pub inside_only : (close : ℕ) (quoted : Bool) (t rest : List ℕ) → is_white_space close ≡ false → IsInside close quoted t → inside_len close quoted (t ++ close ∷ rest) ≡ Some (length t)
inside_only close quoted [] rest fits end =
    let shut : (close == close && not quoted) ≡ true = grind (arith, nat_tests) in
    cond-false _ _ _ fits ∙ cond-true _ _ _ shut
inside_only close quoted (b ∷ t) rest fits (clean, quotes, inside) =
    cond-false _ _ _ (no_white_space_test b clean) ∙ cond-false _ _ _ (stays_open b close quoted quotes)
    ∙ ap (option_map (λ k. k + 1)) (inside_only close (cond (b == 34) (not quoted) quoted) t rest fits inside) ∙ ap Some (omega arith)

-- ---- one token

pub same_pair : {A B : Type 0} (t u : A) (r s : B) → ◌≡◌ {A = Option (A × B)} (Some (t, r)) (Some (u, s)) → (t ≡ u) × (r ≡ s)
same_pair {A = A} {B = B} t u r s e =
    let p : ◌≡◌ {A = A × B} (t, r) (u, s) = cc in (ap (λ x. x.0) p, ap (λ x. x.1) p)

moved : (text : List ℕ) (t u : Token) (r s : List ℕ) → ◌≡◌ {A = Split} (Some (t, r)) (Some (u, s)) → Begins text t r → Begins text u s
moved text t u r s e h =
    let same = same_pair t u r s e in
    let P : List ℕ → Type 0 = λ z. Begins text t z in
    let Q : Token → Type 0 = λ z. Begins text z s in
    subst Q same.0 (subst P same.1 h)

in_front : (text p : List ℕ) → starts_with nat_eq text p ≡ true → text ≡ p ++ drop (length p) text
in_front text p e = (starts_is Decides-eqb text p _ refl).0 e

not_in_front : (text p : List ℕ) → ((more : List ℕ) → text ≢ p ++ more) → starts_with nat_eq text p ≡ false
not_in_front text p h = false_from_ne_true _ (λ e. h _ (in_front text p e))

never_in_front : (text p : List ℕ) → starts_with nat_eq text p ≡ false → (more : List ℕ) → text ≢ p ++ more
never_in_front text p e more h = let y = (starts_is Decides-eqb text p _ refl).1 more h in cc

-- what is before and after a byte
seam : (xs : List ℕ) (x : ℕ) (ys : List ℕ) (n : ℕ) → length xs ≡ n → (take n (xs ++ x ∷ ys) ≡ xs) × (drop (n + 1) (xs ++ x ∷ ys) ≡ ys)
seam xs x ys n e =
    let P : ℕ → Type 0 = λ k. (take k (xs ++ x ∷ ys) ≡ xs) × (drop (k + 1) (xs ++ x ∷ ys) ≡ ys) in
    subst P e (take-append_seam xs (x ∷ ys), drop-append-add xs (x ∷ ys) 1)

bracketed_cases : (make : List ℕ → Token) (text : List ℕ) (t : Token) (rest : List ℕ) (o : Option ℕ) → ◌≡◌ {A = Split} (option_map {T = List ℕ × List ℕ} (λ x. (make x.0, x.1)) (option_map (λ n. (take n text, drop (n + 1) text)) o)) (Some (t, rest)) → (n : ℕ) × (o ≡ Some n) × (make (take n text) ≡ t) × (drop (n + 1) text ≡ rest)
bracketed_cases make text t rest None e = absurd (cc)
bracketed_cases make text t rest (Some n) e =
    let same = same_pair (make (take n text)) t (drop (n + 1) text) rest e in (n, refl, same.0, same.1)

bracketed_found : (make : List ℕ → Token) (close : ℕ) (text : List ℕ) (t : Token) (rest : List ℕ) → bracketed make close text ≡ Some (t, rest) → (inside : List ℕ) × (make inside ≡ t) × IsInside close false inside × (text ≡ inside ++ close ∷ rest)
bracketed_found make close text t rest e =
    let (n, is, made, behind) = bracketed_cases make text t rest _ e in
    let (inside, after, ok, split, len) = inside_found close false text n is in
    let at = seam inside close after n len in
    let front : take n text ≡ inside = ap (take n) split ∙ at.0 in
    let back : drop (n + 1) text ≡ after = ap (drop (n + 1)) split ∙ at.1 in
    (inside, ap make (sym front) ∙ made, ok, split ∙ ap (λ x. inside ++ close ∷ x) (sym back ∙ behind))

bracketed_only : (make : List ℕ → Token) (close : ℕ) (inside rest : List ℕ) → is_white_space close ≡ false → IsInside close false inside → bracketed make close (inside ++ close ∷ rest) ≡ Some (make inside, rest)
bracketed_only make close inside rest fits ok =
    let at = seam inside close rest (length inside) refl in
    rw (inside_only close false inside rest fits ok, at.0, at.1) refl

len_true : (b : ℕ) (bs : List ℕ) → is_word_byte b ≡ true → word_len (b ∷ bs) ≡ suc (word_len bs)
len_true b bs y = cond-true _ _ _ y ∙ omega arith

len_false : (b : ℕ) (bs : List ℕ) → is_word_byte b ≡ false → word_len (b ∷ bs) ≡ 0
len_false b bs n = cond-false _ _ _ n

word_inside : (text : List ℕ) → All IsWordByte (take (word_len text) text)
word_inside [] = All-nil IsWordByte
word_inside (b ∷ bs) = elim (cases_Bool (is_word_byte b)) [
  | inl y ↦
      let e : take (word_len (b ∷ bs)) (b ∷ bs) ≡ b ∷ take (word_len bs) bs = ap (λ n. take n (b ∷ bs)) (len_true b bs y) in
      subst (All IsWordByte) (sym e) (All-cons IsWordByte b (take (word_len bs) bs) (word_byte b y) (word_inside bs))
  | inr n ↦
      let e : take (word_len (b ∷ bs)) (b ∷ bs) ≡ [] = ap (λ n. take n (b ∷ bs)) (len_false b bs n) in
      subst (All IsWordByte) (sym e) (All-nil IsWordByte)
]

word_ends : (text : List ℕ) → EndsWord (drop (word_len text) text)
word_ends [] = tt
word_ends (b ∷ bs) = elim (cases_Bool (is_word_byte b)) [
  | inl y ↦
      let e : drop (word_len (b ∷ bs)) (b ∷ bs) ≡ drop (word_len bs) bs = ap (λ n. drop n (b ∷ bs)) (len_true b bs y) in
      subst EndsWord (sym e) (word_ends bs)
  | inr n ↦
      let e : drop (word_len (b ∷ bs)) (b ∷ bs) ≡ b ∷ bs = ap (λ n. drop n (b ∷ bs)) (len_false b bs n) in
      subst EndsWord (sym e) (not_word_byte b n)
]

word_len_at : (w rest : List ℕ) → All IsWordByte w → EndsWord rest → word_len (w ++ rest) ≡ length w
word_len_at [] [] h k = refl
word_len_at [] (b ∷ bs) h k = cond-false _ _ _ (no_word_test b k)
word_len_at (b ∷ w) rest h k =
    cond-true _ _ _ (word_byte_test b (All-head IsWordByte b w h))
    ∙ ap (λ n. 1 + n) (word_len_at w rest (All-tail IsWordByte b w h) k) ∙ omega arith

word_found : (text : List ℕ) (t : Token) (rest : List ℕ) → starts_with nat_eq text (78 ∷ 111 ∷ 116 ∷ []) ≡ false → word_at text ≡ Some (t, rest) → Begins text t rest
word_found text t rest no_not e = elim (cases_Bool (word_len text == 0)) [
  | inl y ↦ let h = sym (cond-true _ _ _ y) ∙ e in absurd (cc)
  | inr n ↦
      let some : 0 < word_len text = grind (arith, nat_tests) in
      let long : 0 < length (take (word_len text) text) = omega (arith, length-prefix_len is_word_byte text) in
      moved text (word (take (word_len text) text)) t (drop (word_len text) text) rest (sym (cond-false _ _ _ n) ∙ e)
      (long, word_inside text, word_ends text, sym (take-append-drop (word_len text) text), λ more. never_in_front text (78 ∷ 111 ∷ 116 ∷ []) no_not more)
]

word_only : (w rest : List ℕ) → 0 < length w → All IsWordByte w → EndsWord rest → word_at (w ++ rest) ≡ Some (word w, rest)
word_only w rest some inside ends =
    let len = word_len_at w rest inside ends in
    let long : (word_len (w ++ rest) == 0) ≡ false = grind (arith, nat_tests) in
    cond-false _ _ _ long ∙ rw (len, take-append_seam, drop-append_seam) refl

bracket_begins : (text : List ℕ) (b close : ℕ) (make : List ℕ → Token) (t : Token) (rest : List ℕ) → starts_with nat_eq text (b ∷ []) ≡ true → bracketed make close (drop 1 text) ≡ Some (t, rest) → (inside : List ℕ) × (make inside ≡ t) × IsInside close false inside × (text ≡ b ∷ (inside ++ close ∷ rest))
bracket_begins text b close make t rest y e =
    let (inside, is, ok, split) = bracketed_found make close (drop 1 text) t rest e in
    (inside, is, ok, in_front text (b ∷ []) y ∙ ap (λ x. b ∷ x) split)

pub token_found : (text : List ℕ) (t : Token) (rest : List ℕ) → token_at text ≡ Some (t, rest) → Begins text t rest
token_found text t rest e = elim (cases_Bool (starts_with nat_eq text (40 ∷ []))) [
  | inl y ↦ moved text open_list t (drop 1 text) rest (sym (cond-true _ _ _ y) ∙ e) (in_front text (40 ∷ []) y)
  | inr n ↦ let e1 = sym (cond-false _ _ _ n) ∙ e in elim (cases_Bool (starts_with nat_eq text (41 ∷ []))) [
    | inl y ↦ moved text close_list t (drop 1 text) rest (sym (cond-true _ _ _ y) ∙ e1) (in_front text (41 ∷ []) y)
    | inr n ↦ let e2 = sym (cond-false _ _ _ n) ∙ e1 in elim (cases_Bool (starts_with nat_eq text (78 ∷ 111 ∷ 116 ∷ []))) [
      | inl y ↦ moved text negation t (drop 3 text) rest (sym (cond-true _ _ _ y) ∙ e2) (in_front text (78 ∷ 111 ∷ 116 ∷ []) y)
      | inr k ↦ let e3 = sym (cond-false _ _ _ k) ∙ e2 in elim (cases_Bool (starts_with nat_eq text (60 ∷ []))) [
        | inl y ↦
            let (inside, is, ok, split) = bracket_begins text 60 62 angle t rest y (sym (cond-true _ _ _ y) ∙ e3) in
            let P : Token → Type 0 = λ u. Begins text u rest in subst P is (ok, split)
        | inr n ↦ let e4 = sym (cond-false _ _ _ n) ∙ e3 in elim (cases_Bool (starts_with nat_eq text (91 ∷ []))) [
          | inl y ↦
              let (inside, is, ok, split) = bracket_begins text 91 93 square t rest y (sym (cond-true _ _ _ y) ∙ e4) in
              let P : Token → Type 0 = λ u. Begins text u rest in subst P is (ok, split)
          | inr n ↦ word_found text t rest k (sym (cond-false _ _ _ n) ∙ e4)
        ]
      ]
    ]
  ]
]

-- a text that begins with no other sign is read as a bare word
pub token_at-word : (text : List ℕ) (b : ℕ) (rest : List ℕ) → text ≡ b ∷ rest → b ≢ 40 → b ≢ 41 → b ≢ 60 → b ≢ 91 → starts_with nat_eq text (78 ∷ 111 ∷ 116 ∷ []) ≡ false → token_at text ≡ word_at text
token_at-word text b rest e no_open no_close no_angle no_square no_not =
    let front = λ (c : ℕ) (h : b ≢ c). not_in_front text (c ∷ []) (λ more k. h (let p : b ∷ rest ≡ c ∷ more = sym e ∙ k in cc)) in
    cond-false _ _ _ (front 40 no_open) ∙ cond-false _ _ _ (front 41 no_close) ∙ cond-false _ _ _ no_not
    ∙ cond-false _ _ _ (front 60 no_angle) ∙ cond-false _ _ _ (front 91 no_square)

pub token_at-none : (text : List ℕ) → length text ≡ 0 → token_at text ≡ word_at text
token_at-none [] e = refl
token_at-none (b ∷ bs) e = absurd (omega arith)

pub token_only : (text : List ℕ) (t : Token) (rest : List ℕ) → Begins text t rest → token_at text ≡ Some (t, rest)
token_only text open_list rest h = rw h refl
token_only text close_list rest h = rw h refl
token_only text negation rest h = rw h refl
token_only text (angle t) rest (inside, e) = rw e (bracketed_only angle 62 t rest refl inside)
token_only text (square t) rest (inside, e) = rw e (bracketed_only square 93 t rest refl inside)
token_only text (word []) rest (some, _, _, _, _) = absurd (omega arith)
token_only text (word (b ∷ w)) rest (some, inside, ends, e, no_not) =
    let first = All-head IsWordByte b w inside in
    token_at-word text b (w ++ rest) e first.3 first.4 first.1 first.5 (not_in_front text (78 ∷ 111 ∷ 116 ∷ []) no_not)
    ∙ rw e (word_only (b ∷ w) rest some inside ends)

pub token_at-not : (text : List ℕ) → starts_with nat_eq text (78 ∷ 111 ∷ 116 ∷ []) ≡ true → token_at text ≡ Some (negation, drop 3 text)
token_at-not text y = token_only text negation (drop 3 text) (in_front text (78 ∷ 111 ∷ 116 ∷ []) y)

-- a text that begins with this byte, and how it is read
pub token_at-first : (text : List ℕ) (b c : ℕ) (rest : List ℕ) → text ≡ b ∷ rest → b ≡ c → token_at text ≡ token_at (c ∷ rest)
token_at-first text b c rest e f = ap token_at (e ∙ ap (λ x. x ∷ rest) f)

-- ---- white space

-- the white space that is skipped
skipped : (text : List ℕ) → (gap : List ℕ) × All IsWhiteSpace gap × (text ≡ gap ++ skip text)
skipped [] = ([], All-nil IsWhiteSpace, refl)
skipped (b ∷ bs) = elim (cases_Bool (is_white_space b)) [
  | inl y ↦
      let (gap, white_spaces, split) = skipped bs in
      let e : skip (b ∷ bs) ≡ skip bs = cond-true _ _ _ y in
      (b ∷ gap, All-cons IsWhiteSpace b gap (white_space b y) white_spaces, ap (λ x. b ∷ x) (split ∙ ap (λ x. gap ++ x) (sym e)))
  | inr n ↦
      let e : skip (b ∷ bs) ≡ b ∷ bs = cond-false _ _ _ n in
      ([], All-nil IsWhiteSpace, sym e)
]

skip_over : (gap inner : List ℕ) → All IsWhiteSpace gap → skip (gap ++ inner) ≡ skip inner
skip_over [] inner h = refl
skip_over (b ∷ gap) inner h =
    cond-true _ _ _ (white_space_test b (All-head IsWhiteSpace b gap h)) ∙ skip_over gap inner (All-tail IsWhiteSpace b gap h)

skip_all : (text : List ℕ) → All IsWhiteSpace text → skip text ≡ []
skip_all text h = ap skip (sym (append-nil text)) ∙ skip_over text [] h

skip_twice : (text : List ℕ) → skip (skip text) ≡ skip text
skip_twice text = let (gap, white_spaces, split) = skipped text in sym (skip_over gap (skip text) white_spaces) ∙ ap skip (sym split)

word_skips : (w rest : List ℕ) → 0 < length w → All IsWordByte w → skip (w ++ rest) ≡ w ++ rest
word_skips [] rest some inside = absurd (omega arith)
word_skips (b ∷ w) rest some inside =
    let first = All-head IsWordByte b w inside in
    let plain : is_white_space b ≡ false = no_white_space_test b (λ h. grind arith) in
    cond-false _ _ _ plain

-- a token doesn't begin with white space
begins_at_once : (text : List ℕ) (t : Token) (rest : List ℕ) → Begins text t rest → skip text ≡ text
begins_at_once text open_list rest e = rw e refl
begins_at_once text close_list rest e = rw e refl
begins_at_once text negation rest e = rw e refl
begins_at_once text (angle t) rest (ok, e) = rw e refl
begins_at_once text (square t) rest (ok, e) = rw e refl
begins_at_once text (word w) rest (some, inside, ends, e, no_not) = rw e (word_skips w rest some inside)

pub skip_is_no_longer : (text : List ℕ) → length (skip text) ≤ length text
skip_is_no_longer [] = omega arith
skip_is_no_longer (b ∷ bs) = elim (cases_Bool (is_white_space b)) [
  | inl y ↦
      let e : skip (b ∷ bs) ≡ skip bs = cond-true _ _ _ y in
      omega (arith, ap length e, skip_is_no_longer bs)
  | inr n ↦
      let e : skip (b ∷ bs) ≡ b ∷ bs = cond-false _ _ _ n in
      omega (arith, ap length e)
]

-- white space at the start makes no difference
pub spells_skipped : (text : List ℕ) (ts : List Token) → Spells text ts → Spells (skip text) ts
spells_skipped text [] h = subst (All IsWhiteSpace) (sym (skip_all text h)) (All-nil IsWhiteSpace)
spells_skipped text (t ∷ ts) (gap, inner, rest, white_spaces, split, begins, more) =
    let e : skip text ≡ inner = ap skip split ∙ skip_over gap inner white_spaces ∙ begins_at_once inner t rest begins in
    ([], inner, rest, All-nil IsWhiteSpace, e, begins, more)

pub spells_behind : (text : List ℕ) (ts : List Token) → Spells (skip text) ts → Spells text ts
spells_behind text [] h =
    let (gap, white_spaces, split) = skipped text in
    subst (All IsWhiteSpace) (sym split) (All-append IsWhiteSpace gap (skip text) white_spaces h)
spells_behind text (t ∷ ts) (gap, inner, rest, white_spaces, split, begins, more) =
    let (front, fronts, cut) = skipped text in
    (front ++ gap, inner, rest, All-append IsWhiteSpace front gap fronts white_spaces, cut ∙ ap (λ x. front ++ x) split ∙ sym (append_assoc front gap inner), begins, more)

-- ---- the tokens so far

-- the tokens so far: the text is these, and then those of the rest, which doesn't begin with white space
pub record ReadSoFar (text rest : List ℕ) (ts : List Token) : Type 0 where
  pub clean : skip rest ≡ rest
  pub found : (more : List Token) → Spells rest more → Spells text (ts ++ more)
  pub only : (all : List Token) → Spells text all → (more : List Token) × (all ≡ ts ++ more) × Spells rest more

pub ReadSoFar-start : (text rest : List ℕ) (ts : List Token) → rest ≡ skip text → ts ≡ [] → ReadSoFar text rest ts
ReadSoFar-start text rest ts e none = rw (e, none) (record {
  clean = skip_twice text;
  found = λ more h. spells_behind text more h;
  only = λ all h. (all, refl, spells_skipped text all h);
})

-- the first token of the rest is the one that is read there
first_is : (rest : List ℕ) (t m : Token) (after : List ℕ) (ms : List Token) → skip rest ≡ rest → token_at rest ≡ Some (t, after) → Spells rest (m ∷ ms) → (m ≡ t) × Spells after ms
first_is rest t m after ms clean at (gap, inner, behind, white_spaces, split, begins, more) =
    let e : rest ≡ inner = sym clean ∙ ap skip split ∙ skip_over gap inner white_spaces ∙ begins_at_once inner m behind begins in
    let two : ◌≡◌ {A = Split} (Some (m, behind)) (Some (t, after)) = sym (token_only inner m behind begins) ∙ ap token_at (sym e) ∙ at in
    let same = same_pair m t behind after two in
    let P : List ℕ → Type 0 = λ x. Spells x ms in
    (same.0, subst P same.1 more)

only_next : (rest : List ℕ) (t : Token) (after : List ℕ) (ts all more : List Token) → skip rest ≡ rest → token_at rest ≡ Some (t, after) → all ≡ ts ++ more → Spells rest more → (later : List Token) × (all ≡ (ts ++ t ∷ []) ++ later) × Spells (skip after) later
only_next rest t after ts all [] clean at e h =
    let none : rest ≡ [] = sym clean ∙ skip_all rest h in
    let wrong : ◌≡◌ {A = Split} None (Some (t, after)) = ap token_at (sym none) ∙ at in absurd (cc)
only_next rest t after ts all (m ∷ more) clean at e h =
    let (same, later) = first_is rest t m after more clean at h in
    (more, e ∙ ap (λ x. ts ++ x ∷ more) same ∙ sym (append_assoc ts (t ∷ []) more), spells_skipped after more later)

pub ReadSoFar-step : (text rest after : List ℕ) (ts : List Token) (t : Token) → ReadSoFar text rest ts → token_at rest ≡ Some (t, after) → ReadSoFar text (skip after) (ts ++ t ∷ [])
ReadSoFar-step text rest after ts t sofar at = record {
  clean = skip_twice after;
  found = λ more h.
      let here : Spells rest (t ∷ more) = ([], rest, after, All-nil IsWhiteSpace, refl, token_found rest t after at, spells_behind after more h) in
      let P : List Token → Type 0 = λ x. Spells text x in
      subst P (sym (append_assoc ts (t ∷ []) more)) (sofar.found (t ∷ more) here);
  only = λ all h.
      let (more, e, later) = sofar.only all h in only_next rest t after ts all more sofar.clean at e later;
}

pub ReadSoFar-end : (text : List ℕ) (rest : List ℕ) (ts : List Token) → ReadSoFar text rest ts → rest ≡ [] → Spells text ts
ReadSoFar-end text rest ts sofar e =
    let P : List Token → Type 0 = λ x. Spells text x in
    let none : Spells rest [] = subst (All IsWhiteSpace) (sym e) (All-nil IsWhiteSpace) in
    subst P (append-nil ts) (sofar.found [] none)

stuck : (rest : List ℕ) (more : List Token) → skip rest ≡ rest → rest ≢ [] → token_at rest ≡ None → ¬ Spells rest more
stuck rest [] clean some none = λ h. some (sym clean ∙ skip_all rest h)
stuck rest (m ∷ more) clean some none = λ (gap, inner, behind, white_spaces, split, begins, later).
    let e : rest ≡ inner = sym clean ∙ ap skip split ∙ skip_over gap inner white_spaces ∙ begins_at_once inner m behind begins in
    let two : ◌≡◌ {A = Split} (Some (m, behind)) None = sym (token_only inner m behind begins) ∙ ap token_at (sym e) ∙ none in cc

pub ReadSoFar-stuck : (text rest : List ℕ) (ts : List Token) → ReadSoFar text rest ts → rest ≢ [] → token_at rest ≡ None → (all : List Token) → ¬ Spells text all
ReadSoFar-stuck text rest ts sofar some none all h =
    let (more, e, later) = sofar.only all h in stuck rest more sofar.clean some none later

pub empty_from_test : {A : Type 0} (xs : List A) (r : Bool) → r ≡ (length xs == 0) → r ≡ true → xs ≡ []
empty_from_test [] r e h = refl
empty_from_test (x ∷ xs) r e h = absurd (grind (arith, nat_tests))

pub some_from_test : {A : Type 0} (xs : List A) (r : Bool) → r ≡ (length xs == 0) → r ≡ false → xs ≢ []
some_from_test [] r e h = λ k. grind (arith, nat_tests)
some_from_test (x ∷ xs) r e h = λ k. cc

pub none_from_test : {A : Type 0} (xs : List A) (r : Bool) (n : ℕ) → r ≡ (n == 0) → r ≡ true → length xs ≡ n → xs ≡ []
none_from_test xs r n e h len = empty_from_test xs r (e ∙ ap (λ k. k == 0) (sym len)) h

pub many_from_test : {A : Type 0} (xs : List A) (r : Bool) (n : ℕ) → r ≡ (n == 0) → r ≡ false → length xs ≡ n → 0 < length xs
many_from_test xs r n e h len = grind (arith, nat_tests)

-- ---- one reading

first_cut : (text : List ℕ) (t u : Token) (r s : List ℕ) → Begins text t r → Begins text u s → (t ≡ u) × (r ≡ s)
first_cut text t u r s h k = same_pair t u r s (sym (token_only text t r h) ∙ token_only text u s k)

-- a text is at most one list of tokens
pub spells_one : (text : List ℕ) (ts us : List Token) → Spells text ts → Spells text us → ts ≡ us
spells_one text [] [] h k = refl
spells_one text [] (u ∷ us) h (gap, inner, rest, white_spaces, split, begins, more) =
    let e : inner ≡ [] = sym (begins_at_once inner u rest begins) ∙ sym (skip_over gap inner white_spaces) ∙ ap skip (sym split) ∙ skip_all text h in
    let two : ◌≡◌ {A = Split} (Some (u, rest)) None = sym (token_only inner u rest begins) ∙ ap token_at e in absurd (cc)
spells_one text (t ∷ ts) [] (gap, inner, rest, white_spaces, split, begins, more) k =
    let e : inner ≡ [] = sym (begins_at_once inner t rest begins) ∙ sym (skip_over gap inner white_spaces) ∙ ap skip (sym split) ∙ skip_all text k in
    let two : ◌≡◌ {A = Split} (Some (t, rest)) None = sym (token_only inner t rest begins) ∙ ap token_at e in absurd (cc)
spells_one text (t ∷ ts) (u ∷ us) (gap, inner, rest, white_spaces, split, begins, more) (gap2, inner2, rest2, white_spaces2, split2, begins2, more2) =
    let e : inner ≡ inner2 = sym (begins_at_once inner t rest begins) ∙ sym (skip_over gap inner white_spaces) ∙ ap skip (sym split ∙ split2) ∙ skip_over gap2 inner2 white_spaces2 ∙ begins_at_once inner2 u rest2 begins2 in
    let P : List ℕ → Type 0 = λ x. Begins x t rest in
    let same = first_cut inner2 t u rest rest2 (subst P e begins) begins2 in
    let Q : List ℕ → Type 0 = λ x. Spells x ts in
    let tail = spells_one rest2 ts us (subst Q same.1 more) more2 in
    cc (same.0, tail)
