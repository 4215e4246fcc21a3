-- The text of the fields that are kept, and the head that it is.
use Rattle.std.proofs.Common.{◌≡◌, ◌≢◌, ◌⊎◌, inl, inr, ℕ, suc, ◌+◌, ◌/◌, ◌%◌, ◌^◌, ◌<◌, ◌≤◌, Bool, true, false, ◌&&◌, nat_le, IsTrue, IsUtf8, List, [], ◌∷◌, ◌++◌, codes, length, length-append, map, filter, All, take, take-suc, get_or, flat_map, reverse, Option, append-nil, append_assoc, refl, subst, sym, ap, ◌∙◌, arith}
use Rattle.std.specs.Fmt.{decimal}
use Rattle.std.specs.List.{list_all}
use Rattle.std.proofs.lemmas.Bool.{and_from, and_parts, cases_lt, cond-false, cond-true}
use Rattle.std.proofs.lemmas.Bool.Decides.{nat_tests}
use Rattle.std.proofs.lemmas.Fmt.{decimal_digit, decimal_step}
use Rattle.std.proofs.lemmas.Grind.{flat_map-append}
use Rattle.std.proofs.lemmas.List.{map-append, reverse-append, reverse-reverse}
use Rattle.std.proofs.lemmas.List.Elements.{All-nil, All-cons, All-head, All-tail, All-append, All-filter, filter-append}
use Rattle.std.proofs.lemmas.List.Folds.{list_all-append}
use Rattle.http_header.specs.HeaderMap.{get_all}
use Rattle.httparse.specs.Grammar.{AllPass, Field, IsField, IsToken, RequestHead, crlf, is_ows, is_token_byte, is_uri_byte, is_value_byte, print_field, print_request, skip_ows, trim_ows}
use Rattle.httparse.specs.Spans.{name_and_value}
use Rattle.httparse.proofs.GrammarLemmas.{cons-append}
use Rattle.httparse.proofs.TrimLemmas.{AllPass-trim_ows, skip_ows_no, skip_ows_yes}
use Rattle.dav_headers.specs.Timeout.{IsTimeout}
use Rattle.dav_headers.specs.Value.{Decodes}
use Rattle.dav_headers.specs.declared.timeout.DavTimeout.{DavTimeout}
use Rattle.dav_engine.specs.LockHeaders.{preferred}
use Rattle.dav_server.specs.Head.{IsHead, Request, is_same_name}
use Rattle.dav_server.specs.Headers.{headers_of}
use Rattle.dav_http.specs.HeadText.{field_line, head_text}
use Rattle.dav_http.specs.Kept.{GetsDepth, IsKeptOf, Says, addressed, depth_field, depthless, is_kept, kept_field, kept_fields, lock, lowered, other, timeout_field}
use Rattle.dav_http.proofs.Addressed.{bytes_pass, front_stays, last_or_none, last_stays, values_of_printed}
use Rattle.dav_http.proofs.Printed.{decimal_printed}

-- a field: its name and its value
abbrev pub Pair : Type 0
Pair = List ℕ × List ℕ

-- the lines of the fields that are kept
abbrev pub lines : Bool → List Pair → List ℕ
lines is_lock fields = flat_map field_line (kept_fields is_lock fields)

lines_append : (is_lock : Bool) (xs ys : List Pair) → lines is_lock (xs ++ ys) ≡ lines is_lock xs ++ lines is_lock ys
lines_append is_lock xs ys =
    let test = λ (f : Pair). is_kept is_lock f.0 in
    ap (λ (fs : List Pair). flat_map field_line (map kept_field fs)) (filter-append test xs ys)
    ∙ ap (flat_map field_line) (map-append kept_field (filter test xs) (filter test ys))
    ∙ flat_map-append field_line (kept_fields is_lock xs) (kept_fields is_lock ys)

one_kept : (is_lock : Bool) (f : Pair) → is_kept is_lock f.0 ≡ true → lines is_lock (f ∷ []) ≡ field_line (kept_field f)
one_kept is_lock f is =
    ap (λ (fs : List Pair). flat_map field_line (map kept_field fs)) (cond-true (is_kept is_lock f.0) (f ∷ []) [] is) ∙ append-nil (field_line (kept_field f))

one_left : (is_lock : Bool) (f : Pair) → is_kept is_lock f.0 ≡ false → lines is_lock (f ∷ []) ≡ []
one_left is_lock f is = ap (λ (fs : List Pair). flat_map field_line (map kept_field fs)) (cond-false (is_kept is_lock f.0) (f ∷ []) [] is)

lines_next : (is_lock : Bool) (fields : List Pair) (i : ℕ) (d : Pair) → i < length fields
    → lines is_lock (take (suc i) fields) ≡ lines is_lock (take i fields) ++ lines is_lock (get_or fields i d ∷ [])
lines_next is_lock fields i d less = ap (lines is_lock) (take-suc fields i d less) ∙ lines_append is_lock (take i fields) (get_or fields i d ∷ [])

-- ---- values without white space at their ends

passes : (b : ℕ) (bs : List ℕ) → is_ows b ≡ true → skip_ows (b ∷ bs) ≡ skip_ows bs
passes b bs is = skip_ows_yes {b = b} {all = b ∷ bs} {rest = bs} refl (sym is)

stays : (b : ℕ) (bs : List ℕ) → is_ows b ≡ false → skip_ows (b ∷ bs) ≡ b ∷ bs
stays b bs is = skip_ows_no {b = b} {all = b ∷ bs} {rest = bs} refl (sym is)

skip_again : (xs : List ℕ) → skip_ows (skip_ows xs) ≡ skip_ows xs
skip_again [] = refl
skip_again (b ∷ bs) = by_test (skip_again bs) (is_ows b) refl
  where
    by_test : skip_ows (skip_ows bs) ≡ skip_ows bs → (t : Bool) → is_ows b ≡ t → skip_ows (skip_ows (b ∷ bs)) ≡ skip_ows (b ∷ bs)
    by_test later true is = ap skip_ows (passes b bs is) ∙ later ∙ sym (passes b bs is)
    by_test later false is = ap skip_ows (stays b bs is)

-- what is skipped stands in front
skipped : (xs : List ℕ) → (front : List ℕ) × (xs ≡ front ++ skip_ows xs)
skipped [] = ([], refl)
skipped (b ∷ bs) = by_test (skipped bs) (is_ows b) refl
  where
    by_test : (front : List ℕ) × (bs ≡ front ++ skip_ows bs) → (t : Bool) → is_ows b ≡ t → (front : List ℕ) × (b ∷ bs ≡ front ++ skip_ows (b ∷ bs))
    by_test (front, e) true is = (b ∷ front, ap (λ (xs : List ℕ). b ∷ xs) e ∙ ap (λ (s : List ℕ). b ∷ (front ++ s)) (sym (passes b bs is)))
    by_test later false is = ([], sym (stays b bs is))

first_stays : (b : ℕ) (bs : List ℕ) → skip_ows (b ∷ bs) ≡ b ∷ bs → is_ows b ≡ false
first_stays b bs same = by_test (is_ows b) refl
  where
    by_test : (t : Bool) → is_ows b ≡ t → is_ows b ≡ false
    by_test false is = is
    by_test true is =
        let parts = skipped bs in
        absurd (omega (arith, ap length (sym same ∙ passes b bs is), ap length parts.1, length-append parts.0 (skip_ows bs)))

part_stays : (t rest : List ℕ) → skip_ows (t ++ rest) ≡ t ++ rest → skip_ows t ≡ t
part_stays [] rest same = refl
part_stays (b ∷ bs) rest same = stays b bs (first_stays b (bs ++ rest) same)

-- the ends of a trimmed value have no white space
trimmed_front : (xs : List ℕ) → skip_ows (trim_ows xs) ≡ trim_ows xs
unfolding trim_ows
trimmed_front xs =
    let y = skip_ows xs in
    let parts = skipped (reverse y) in
    let whole : y ≡ reverse (skip_ows (reverse y)) ++ reverse parts.0 =
    sym (reverse-reverse y) ∙ ap reverse parts.1 ∙ reverse-append parts.0 (skip_ows (reverse y)) in
    part_stays (reverse (skip_ows (reverse y))) (reverse parts.0) (ap skip_ows (sym whole) ∙ skip_again xs ∙ whole)

trimmed_back : (xs : List ℕ) → skip_ows (reverse (trim_ows xs)) ≡ reverse (trim_ows xs)
unfolding trim_ows
trimmed_back xs =
    let z = skip_ows (reverse (skip_ows xs)) in
    ap skip_ows (reverse-reverse z) ∙ skip_again (reverse (skip_ows xs)) ∙ sym (reverse-reverse z)

trims_by : (v : List ℕ) → skip_ows v ≡ v → skip_ows (reverse v) ≡ reverse v → trim_ows v ≡ v
unfolding trim_ows
trims_by v front back = rw (front, back, reverse-reverse v) refl

trims_again : (xs : List ℕ) → trim_ows (trim_ows xs) ≡ trim_ows xs
trims_again xs = trims_by (trim_ows xs) (trimmed_front xs) (trimmed_back xs)

-- ---- fields as they are written

-- a name and a value that may be written as a field line
pub record IsPlain (f : Pair) : Type 0 where
  pub name : IsToken f.0
  pub value : AllPass is_value_byte f.1
  pub trimmed : trim_ows f.1 ≡ f.1

plain_field : (f : Field) → IsField f → IsPlain (name_and_value f)
plain_field f is = record { name = is.name; value = AllPass-trim_ows is_value_byte f.raw is.raw; trimmed = trims_again f.raw }

plain_fields : (fs : List Field) → All IsField fs → All IsPlain (map name_and_value fs)
plain_fields [] all = All-nil IsPlain
plain_fields (f ∷ fs) all =
    All-cons IsPlain (name_and_value f) (map name_and_value fs) (plain_field f (All-head IsField f fs all)) (plain_fields fs (All-tail IsField f fs all))

abbrev field_of : Pair → Field
field_of p = record { name = p.0; raw = p.1; end = crlf }

fields_written : (ps : List Pair) → flat_map print_field (map field_of ps) ≡ flat_map field_line ps
fields_written [] = refl
fields_written (p ∷ ps) = ap (λ (rest : List ℕ). print_field (field_of p) ++ rest) (fields_written ps)

fields_said : (ps : List Pair) → All IsPlain ps → map name_and_value (map field_of ps) ≡ ps
fields_said [] all = refl
fields_said ((n, v) ∷ ps) all =
    ap (λ (x : List ℕ). (n, x) ∷ map name_and_value (map field_of ps)) (All-head IsPlain (n, v) ps all).trimmed
    ∙ ap (λ (rest : List Pair). (n, v) ∷ rest) (fields_said ps (All-tail IsPlain (n, v) ps all))

fields_are : (ps : List Pair) → All IsPlain ps → All IsField (map field_of ps)
fields_are [] all = All-nil IsField
fields_are (p ∷ ps) all =
    let one = All-head IsPlain p ps all in
    All-cons IsField (field_of p) (map field_of ps) (record { name = one.name; raw = one.value }) (fields_are ps (All-tail IsPlain p ps all))

-- ---- heads as they are written

-- a request of HTTP's grammar
record IsPlainRequest (r : Request) : Type 0 where
  method : IsToken r.method
  target : (0 < length r.target) × AllPass is_uri_byte r.target
  text : IsUtf8 r.target
  fields : All IsPlain r.fields

plain_request : (bytes : List ℕ) (r : Request) → IsHead bytes r → IsPlainRequest r
plain_request bytes r (short, h, reads, few, same) =
    subst IsPlainRequest (sym same) (record { method = reads.0.method; target = reads.0.target; text = reads.0.target_text; fields = plain_fields h.fields reads.0.fields })

abbrev head_of : Request → RequestHead
head_of r = record { blank = []; method = r.method; target = r.target; minor = 1; line_end = crlf; fields = map field_of r.fields; last = crlf }

head_written : (r : Request) → head_text r.method r.target r.fields ≡ print_request (head_of r)
unfolding print_request
head_written r = rw (fields_written r.fields) (simp (append_assoc, cons-append))

says_request : (r : Request) → IsPlainRequest r → Says (head_text r.method r.target r.fields) r
says_request r is = (
  head_of r,
  (
    record { method = is.method; target = is.target; target_text = is.text; minor = omega arith; fields = fields_are r.fields is.fields },
    head_written r ∙ sym (append-nil (print_request (head_of r))),
  ),
  ap (λ (fields : List Pair). record r { fields = fields }) (sym (fields_said r.fields is.fields)),
)

-- an If whose addresses are whole URLs has no white space at its ends, as the one before
addressed_trimmed : (v : List ℕ) → trim_ows v ≡ v → trim_ows (addressed false v) ≡ addressed false v
addressed_trimmed v trimmed = by (last_or_none v)
  where
    front : skip_ows v ≡ v
    front = ap skip_ows (sym trimmed) ∙ trimmed_front v ∙ trimmed

    back : skip_ows (reverse v) ≡ reverse v
    back = ap (λ (t : List ℕ). skip_ows (reverse t)) (sym trimmed) ∙ trimmed_back v ∙ ap reverse trimmed

    first : (w : List ℕ) → skip_ows w ≡ w → skip_ows (addressed false w) ≡ addressed false w
    first [] same = refl
    first (b ∷ bs) same = front_stays false b bs (first_stays b bs same)

    last : (w : List ℕ) (xs : List ℕ) (b : ℕ) → is_ows b ≡ false → w ≡ xs ++ b ∷ [] → skip_ows (reverse w) ≡ reverse w
    last w xs b plain same = subst (λ (ys : List ℕ). skip_ows (reverse ys) ≡ reverse ys) (sym same) (skip_ows_no (reverse-append xs (b ∷ [])) (sym plain))

    by : (v ≡ []) ⊎ ((xs : List ℕ) × (b : ℕ) × (v ≡ xs ++ b ∷ [])) → trim_ows (addressed false v) ≡ addressed false v
    by (inl none) = subst (λ (w : List ℕ). trim_ows (addressed false w) ≡ addressed false w) (sym none) (trims_by [] refl refl)
    by (inr (xs, b, same)) =
        let turned : reverse v ≡ b ∷ reverse xs = ap reverse same ∙ reverse-append xs (b ∷ []) in
        let plain : is_ows b ≡ false = first_stays b (reverse xs) (ap skip_ows (sym turned) ∙ back ∙ turned) in
        let (more, kept) = last_stays false xs b in
        trims_by (addressed false v) (first v front) (last (addressed false v) more b plain (ap (addressed false) same ∙ kept))

field_plain : (f : Pair) → IsPlain f → IsPlain (kept_field f)
field_plain f is = by_test (is_same_name f.0 (codes "if")) refl
  where
    by_test : (t : Bool) → is_same_name f.0 (codes "if") ≡ t → IsPlain (kept_field f)
    by_test true named =
        subst IsPlain (sym (cond-true (is_same_name f.0 (codes "if")) (f.0, addressed false f.1) f named))
        (record { name = is.name; value = bytes_pass false f.1 is.value; trimmed = addressed_trimmed f.1 is.trimmed })
    by_test false named = subst IsPlain (sym (cond-false (is_same_name f.0 (codes "if")) (f.0, addressed false f.1) f named)) is

fields_plain : (fs : List Pair) → All IsPlain fs → All IsPlain (map kept_field fs)
fields_plain [] all = All-nil IsPlain
fields_plain (f ∷ fs) all =
    All-cons IsPlain (kept_field f) (map kept_field fs) (field_plain f (All-head IsPlain f fs all)) (fields_plain fs (All-tail IsPlain f fs all))

kept_plain : (is_lock : Bool) (fields : List Pair) → All IsPlain fields → All IsPlain (kept_fields is_lock fields)
kept_plain is_lock fields all =
    let test = λ (f : Pair). is_kept is_lock f.0 in
    fields_plain (filter test fields) (All-filter test IsPlain fields all)

-- ---- a Timeout

each_passes : (test : ℕ → Bool) (bs : List ℕ) → list_all test bs ≡ true → AllPass test bs
each_passes test [] is = All-nil (λ b. IsTrue (test b))
each_passes test (b ∷ bs) is =
    let both = and_parts _ _ is in
    All-cons (λ b. IsTrue (test b)) b bs both.0 (each_passes test bs both.1)

no_space : (b : ℕ) → 48 ≤ b → b < 58 → is_ows b ≡ false
no_space b low high = grind (arith, nat_tests)

back_stays : (front : List ℕ) (b : ℕ) → 48 ≤ b → b < 58 → skip_ows (reverse (front ++ b ∷ [])) ≡ reverse (front ++ b ∷ [])
back_stays front b low high = skip_ows_no (reverse-append front (b ∷ [])) (sym (no_space b low high))

decimal_stays : (text : List ℕ) (n : ℕ) → n < 2 ^ 64 → skip_ows (reverse (text ++ decimal n)) ≡ reverse (text ++ decimal n)
decimal_stays text n small = by_size (cases_lt n 10)
  where
    by_size : (n < 10) ⊎ (10 ≤ n) → skip_ows (reverse (text ++ decimal n)) ≡ reverse (text ++ decimal n)
    by_size (inl one) =
        subst (λ (ds : List ℕ). skip_ows (reverse (text ++ ds)) ≡ reverse (text ++ ds)) (sym (decimal_digit n one)) (back_stays text (48 + n) (omega arith) (omega (arith, one)))
    by_size (inr more) =
        subst (λ (ds : List ℕ). skip_ows (reverse (text ++ ds)) ≡ reverse (text ++ ds)) (sym (decimal_step n more small))
        (subst (λ (xs : List ℕ). skip_ows (reverse xs) ≡ reverse xs) (append_assoc text (decimal (n / 10)) ((48 + n % 10) ∷ []))
        (back_stays (text ++ decimal (n / 10)) (48 + n % 10) (omega arith) (omega arith)))

timeout_token : IsToken (codes "timeout")
unfolding is_token_byte
timeout_token = (omega arith, each_passes is_token_byte (codes "timeout") refl)

timeout_plain : (n : ℕ) → n < 2 ^ 64 → IsPlain (timeout_field n)
timeout_plain n small =
    record {
      name = timeout_token;
      value = values_of_printed (codes "Second-" ++ decimal n)
          (list_all-append (λ b. nat_le 32 b && nat_le b 126) (codes "Second-") (decimal n) ∙ and_from _ _ refl (decimal_printed n).all);
      trimmed = trims_by (codes "Second-" ++ decimal n) refl (decimal_stays (codes "Second-") n small);
    }

-- ---- what is kept of a head

pub kept_other : (most : ℕ) (strict : Bool) (bytes : List ℕ) (came : Request) → IsHead bytes came → came.method ≢ codes "LOCK" → ¬ GetsDepth strict came
    → (r : Request) × IsKeptOf most strict came r × Says (head_text came.method came.target (kept_fields false came.fields)) r
kept_other most strict bytes came is not told =
    let plain = plain_request bytes came is in
    let kept : Request = record came { fields = kept_fields false came.fields } in
    (kept, other not told, says_request kept (record { method = plain.method; target = plain.target; text = plain.text; fields = kept_plain false came.fields plain.fields }))

depth_plain : IsPlain depth_field
unfolding is_token_byte
depth_plain = record { name = (omega arith, each_passes is_token_byte (codes "depth") refl); value = values_of_printed (codes "1") refl; trimmed = trims_by (codes "1") refl refl }

pub kept_depthless : (most : ℕ) (strict : Bool) (bytes : List ℕ) (came : Request) → IsHead bytes came → GetsDepth strict came
    → (r : Request) × IsKeptOf most strict came r × Says (head_text came.method came.target (kept_fields false came.fields ++ depth_field ∷ [])) r
kept_depthless most strict bytes came is silent =
    let plain = plain_request bytes came is in
    let kept : Request = record came { fields = kept_fields false came.fields ++ depth_field ∷ [] } in
    let all : All IsPlain kept.fields =
    All-append IsPlain (kept_fields false came.fields) (depth_field ∷ []) (kept_plain false came.fields plain.fields)
    (All-cons IsPlain depth_field [] depth_plain (All-nil IsPlain)) in
    (kept, depthless silent, says_request kept (record { method = plain.method; target = plain.target; text = plain.text; fields = all }))

pub kept_lock : (most n : ℕ) (strict : Bool) (bytes : List ℕ) (came : Request) (times : Option (List DavTimeout)) → IsHead bytes came → came.method ≡ codes "LOCK"
    → Decodes IsTimeout (get_all (headers_of came.fields) (codes "timeout")) times → n ≡ lowered most (preferred times) → n < 2 ^ 64
    → (r : Request) × IsKeptOf most strict came r × Says (head_text came.method came.target (kept_fields true came.fields ++ timeout_field n ∷ [])) r
kept_lock most n strict bytes came times is named reads n_is small =
    let plain = plain_request bytes came is in
    let kept : Request = record came { fields = kept_fields true came.fields ++ timeout_field n ∷ [] } in
    let all : All IsPlain kept.fields =
    All-append IsPlain (kept_fields true came.fields) (timeout_field n ∷ []) (kept_plain true came.fields plain.fields)
    (All-cons IsPlain (timeout_field n) [] (timeout_plain n small) (All-nil IsPlain)) in (
      kept,
      subst (λ (k : ℕ). IsKeptOf most strict came (record came { fields = kept_fields true came.fields ++ timeout_field k ∷ [] })) (sym n_is) (lock named times reads),
      says_request kept (record { method = plain.method; target = plain.target; text = plain.text; fields = all }),
    )

pub answers_other : (most : ℕ) (strict : Bool) (bytes method text : List ℕ) (view came : Request) → IsHead bytes view → view ≡ came → method ≡ came.method → method ≢ codes "LOCK"
    → ¬ GetsDepth strict came → text ≡ head_text view.method view.target (kept_fields false view.fields) → (r : Request) × IsKeptOf most strict came r × Says text r
answers_other most strict bytes method text view came is same named not told text_is =
    let (r, kept, says) = kept_other most strict bytes came (subst (IsHead bytes) same is) (λ locks. not (named ∙ locks)) told in
    (r, kept, subst (λ (t : List ℕ). Says t r) (sym (text_is ∙ ap (λ (q : Request). head_text q.method q.target (kept_fields false q.fields)) same)) says)

pub answers_depthless : (most : ℕ) (strict : Bool) (bytes text : List ℕ) (view came : Request) → IsHead bytes view → view ≡ came → GetsDepth strict came
    → text ≡ head_text view.method view.target (kept_fields false view.fields ++ depth_field ∷ []) → (r : Request) × IsKeptOf most strict came r × Says text r
answers_depthless most strict bytes text view came is same silent text_is =
    let (r, kept, says) = kept_depthless most strict bytes came (subst (IsHead bytes) same is) silent in
    (r, kept, subst (λ (t : List ℕ). Says t r) (sym (text_is ∙ ap (λ (q : Request). head_text q.method q.target (kept_fields false q.fields ++ depth_field ∷ [])) same)) says)

pub answers_lock : (most n : ℕ) (strict : Bool) (bytes method text : List ℕ) (view came : Request) → IsHead bytes view → view ≡ came → method ≡ came.method → method ≡ codes "LOCK"
    → (times : Option (List DavTimeout)) × Decodes IsTimeout (get_all (headers_of view.fields) (codes "timeout")) times × (n ≡ lowered most (preferred times)) → n < 2 ^ 64
    → text ≡ head_text view.method view.target (kept_fields true view.fields ++ timeout_field n ∷ []) → (r : Request) × IsKeptOf most strict came r × Says text r
answers_lock most n strict bytes method text view came is same named locks (times, reads, n_is) small text_is =
    let (r, kept, says) =
    kept_lock most n strict bytes came times (subst (IsHead bytes) same is) (sym named ∙ locks)
    (subst (λ (q : Request). Decodes IsTimeout (get_all (headers_of q.fields) (codes "timeout")) times) same reads) n_is small in
    (r, kept, subst (λ (t : List ℕ). Says t r) (sym (text_is ∙ ap (λ (q : Request). head_text q.method q.target (kept_fields true q.fields ++ timeout_field n ∷ [])) same)) says)
