-- Texts at the start of bytes are read back.
use Rattle.std.proofs.Common.{◌≡◌, true≢false, false, Result, Ok, Err, ◌++◌, ◌-◌, ◌^◌, ◌<◌, ℕ, zero, suc, List, [], ◌∷◌, Option, Some, None, length, take, drop, get_or, refl, sym, ap, ◌∙◌, arith, append_assoc, length-drop}
use Rattle.std.proofs.lemmas.List.{append_cancel_left, take-append-drop, take_all, take_at}
use Rattle.std.proofs.lemmas.Nat.{be_bytes_2, be_bytes_8, from_be_bytes-to_be_bytes_2, from_be_bytes-to_be_bytes_8}
use Rattle.std.specs.Prelude.{IfSome, MatchResult, is_ok}
use Rattle.std.specs.Int.{w16, w64, to_be_bytes, from_be_bytes}
use Rattle.std.specs.List.{slice_range}
use Rattle.dav_kept.specs.Records.{IsRecord, IsRecordText, RecordView, RequestView, optional_bytes, record_bytes, sized_bytes}

-- bytes stay bytes in a front
pub small_take : (n : ℕ) (xs : List ℕ) → ((i : ℕ) → get_or xs i 0 < 256) → (i : ℕ) → get_or (take n xs) i 0 < 256
small_take zero xs small i = omega arith
small_take (suc n) [] small i = omega arith
small_take (suc n) (x ∷ xs) small zero = small 0
small_take (suc n) (x ∷ xs) small (suc i) = small_take n xs (λ j. small (suc j)) i

-- a front and the rest
pub parts : (k : ℕ) (bs front rest : List ℕ) → front ≡ slice_range bs 0 k → rest ≡ slice_range bs k (length bs) → bs ≡ front ++ rest
parts k bs front rest is after =
    let tail : rest ≡ drop k bs = after ∙ take_all (length bs - k) (drop k bs) (omega (arith, length-drop k bs)) in
    let head : front ≡ take k bs = is ∙ ap (λ (n : ℕ). take n bs) (omega arith) in
    sym (take-append-drop k bs) ∙ ap (λ (ys : List ℕ). take k bs ++ ys) (sym tail) ∙ ap (λ (ys : List ℕ). ys ++ rest) (sym head)

pub text_read : (bs front rest text more : List ℕ) (n len : ℕ)
    → ((i : ℕ) → get_or bs i 0 < 256) → front ≡ slice_range bs 0 8 → length front ≡ 8 → n ≡ from_be_bytes w64 front → len ≡ n
    → rest ≡ slice_range bs 8 (length bs) → text ≡ slice_range rest 0 len → length text ≡ len → more ≡ slice_range rest len (length rest)
    → bs ≡ sized_bytes text ++ more
text_read bs front rest text more n len small is eight number same after told long left =
    let sizes : to_be_bytes w64 (length text) ≡ front =
    be_bytes_8 front (length text) eight (λ i. rw is (small_take 8 bs small i)) (long ∙ same ∙ number) in
    parts 8 bs front rest is after ∙ ap (λ (ys : List ℕ). front ++ ys) (parts len rest text more told left)
    ∙ ap (λ (ys : List ℕ). ys ++ (text ++ more)) (sym sizes) ∙ sym (append_assoc (to_be_bytes w64 (length text)) text more)

-- ---- bytes begin with one text

as_sent : (a r : List ℕ) → take 8 (sized_bytes a ++ r) ≡ to_be_bytes w64 (length a)
as_sent a r = refl

pub one_text : (a b r s : List ℕ) → length a < 2 ^ 64 → length b < 2 ^ 64 → sized_bytes a ++ r ≡ sized_bytes b ++ s → (a ≡ b) × (r ≡ s)
one_text a b r s small other e =
    let sizes : to_be_bytes w64 (length a) ≡ to_be_bytes w64 (length b) = sym (as_sent a r) ∙ ap (take 8) e ∙ as_sent b s in
    let same : length a ≡ length b =
    sym (from_be_bytes-to_be_bytes_8 (length a) small) ∙ ap (from_be_bytes w64) sizes ∙ from_be_bytes-to_be_bytes_8 (length b) other in
    let tails : a ++ r ≡ b ++ s = ap (drop 8) e in
    let is : a ≡ b = sym (take_at a r (length a) refl) ∙ ap (take (length a)) tails ∙ take_at b s (length a) (sym same) in
    (is, append_cancel_left b r s (ap (λ (xs : List ℕ). xs ++ r) (sym is) ∙ tails))

-- and with one that may be missing
pub one_optional : (x y : Option (List ℕ)) (r s : List ℕ) → IfSome x (λ t. IsRecordText t) → IfSome y (λ t. IsRecordText t)
    → optional_bytes x ++ r ≡ optional_bytes y ++ s → (x ≡ y) × (r ≡ s)
one_optional None None r s small other e = (refl, cc)
one_optional None (Some b) r s small other e = let bad : ◌≡◌ {A = ℕ} 0 1 = cc in absurd (omega (arith, bad))
one_optional (Some a) None r s small other e = let bad : ◌≡◌ {A = ℕ} 1 0 = cc in absurd (omega (arith, bad))
one_optional (Some a) (Some b) r s small other e =
    let (is, rest) = one_text a b r s small.1 other.1 (ap (drop 1) e) in
    (ap Some is, rest)

-- of a result that is an error
pub of_error : {X E P : Type 0} (Q : X → Type 0) (R : E → Type 0) (r : Result X E) → MatchResult r Q (λ e. P × R e) → false ≡ is_ok r → P
of_error Q R (Ok x) m e = absurd (true≢false (sym e))
of_error Q R (Err x) m e = m.0

-- ---- numbers in front of bytes

small_drop : (n : ℕ) (xs : List ℕ) → ((i : ℕ) → get_or xs i 0 < 256) → (i : ℕ) → get_or (drop n xs) i 0 < 256
small_drop zero xs small i = small i
small_drop (suc n) [] small i = omega arith
small_drop (suc n) (x ∷ xs) small i = small_drop n xs (λ j. small (suc j)) i

pub when_read : (bs front rest next more : List ℕ) (m s : ℕ)
    → ((i : ℕ) → get_or bs i 0 < 256) → front ≡ slice_range bs 0 8 → length front ≡ 8 → m ≡ from_be_bytes w64 front
    → rest ≡ slice_range bs 8 (length bs) → next ≡ slice_range rest 0 2 → length next ≡ 2 → s ≡ from_be_bytes w16 next → more ≡ slice_range rest 2 (length rest)
    → bs ≡ to_be_bytes w64 m ++ (to_be_bytes w16 s ++ more)
when_read bs front rest next more m s small is eight number after told two status left =
    let moment : to_be_bytes w64 m ≡ front = be_bytes_8 front m eight (λ i. rw is (small_take 8 bs small i)) number in
    let kept : (i : ℕ) → get_or rest i 0 < 256 = λ i. rw after (small_take (length bs - 8) (drop 8 bs) (small_drop 8 bs small) i) in
    let state : to_be_bytes w16 s ≡ next = be_bytes_2 next s two (λ i. rw told (small_take 2 rest kept i)) status in
    parts 8 bs front rest is after ∙ ap (λ (ys : List ℕ). front ++ ys) (parts 2 rest next more told left)
    ∙ ap (λ (ys : List ℕ). ys ++ (next ++ more)) (sym moment) ∙ ap (λ (ys : List ℕ). to_be_bytes w64 m ++ (ys ++ more)) (sym state)

one_moment : (m n : ℕ) (r s : List ℕ) → m < 2 ^ 64 → n < 2 ^ 64 → to_be_bytes w64 m ++ r ≡ to_be_bytes w64 n ++ s → (m ≡ n) × (r ≡ s)
one_moment m n r s small other e =
    let same : to_be_bytes w64 m ≡ to_be_bytes w64 n = ap (take 8) e in
    (sym (from_be_bytes-to_be_bytes_8 m small) ∙ ap (from_be_bytes w64) same ∙ from_be_bytes-to_be_bytes_8 n other, ap (drop 8) e)

one_status : (m n : ℕ) (r s : List ℕ) → m < 2 ^ 16 → n < 2 ^ 16 → to_be_bytes w16 m ++ r ≡ to_be_bytes w16 n ++ s → (m ≡ n) × (r ≡ s)
one_status m n r s small other e =
    let same : to_be_bytes w16 m ≡ to_be_bytes w16 n = ap (take 2) e in
    (sym (from_be_bytes-to_be_bytes_2 m small) ∙ ap (from_be_bytes w16) same ∙ from_be_bytes-to_be_bytes_2 n other, ap (drop 2) e)

-- ---- bytes begin with one record

regrouped : (a b c d rest : List ℕ) → (a ++ (b ++ (c ++ d))) ++ rest ≡ a ++ (b ++ (c ++ (d ++ rest)))
regrouped a b c d rest =
    append_assoc a (b ++ (c ++ d)) rest ∙ ap (λ (ys : List ℕ). a ++ ys) (append_assoc b (c ++ d) rest ∙ ap (λ (ys : List ℕ). b ++ ys) (append_assoc c d rest))

-- a record, and what follows it
pub in_order : (r : RecordView) (rest : List ℕ)
    → record_bytes r ++ rest
    ≡ to_be_bytes w64 r.request.moment ++ (to_be_bytes w16 r.status ++ (optional_bytes r.request.principal ++ (optional_bytes r.request.token ++ (sized_bytes r.request.head ++ (sized_bytes r.request.body ++ rest)))))
in_order r rest =
    ap (λ (ys : List ℕ). to_be_bytes w64 r.request.moment ++ (to_be_bytes w16 r.status ++ ys))
    (regrouped (optional_bytes r.request.principal) (optional_bytes r.request.token) (sized_bytes r.request.head) (sized_bytes r.request.body) rest)

-- when and by whom, of a record that is at the start of bytes
pub record Whose (r : RecordView) (rest : List ℕ) (m s : ℕ) (p t : Option (List ℕ)) (left : List ℕ) : Type 0 where
  pub moment : m ≡ r.request.moment
  pub status : s ≡ r.status
  pub principal : p ≡ r.request.principal
  pub token : t ≡ r.request.token
  pub behind : left ≡ sized_bytes r.request.head ++ (sized_bytes r.request.body ++ rest)

pub whose : (r : RecordView) (rest bs : List ℕ) (m s : ℕ) (p t : Option (List ℕ)) (after left : List ℕ)
    → IsRecord r → bs ≡ record_bytes r ++ rest
    → (bs ≡ to_be_bytes w64 m ++ (to_be_bytes w16 s ++ after)) × (m < 2 ^ 64) × (s < 2 ^ 16)
    → IfSome p (λ x. IsRecordText x) → IfSome t (λ x. IsRecordText x) → after ≡ optional_bytes p ++ (optional_bytes t ++ left)
    → Whose r rest m s p t left
whose r rest bs m s p t after left fits e when named tokened who =
    let whole = sym when.0 ∙ e ∙ in_order r rest in
    let (moment, more) = one_moment m r.request.moment (to_be_bytes w16 s ++ after) _ when.1 fits.request.moment_fits whole in
    let (status, names) = one_status s r.status after _ when.2 fits.status_fits more in
    let (principal, tokens) = one_optional p r.request.principal (optional_bytes t ++ left) _ named fits.request.principal_is_text (sym who ∙ names) in
    let (token, texts) = one_optional t r.request.token left _ tokened fits.request.token_is_text tokens in
    record { moment = moment; status = status; principal = principal; token = token; behind = texts }

same_request : (r : RequestView) {m : ℕ} {p t : Option (List ℕ)} {h b : List ℕ}
    → m ≡ r.moment → p ≡ r.principal → t ≡ r.token → h ≡ r.head → b ≡ r.body
    → ◌≡◌ {A = RequestView} (record { moment = m; principal = p; token = t; head = h; body = b }) r
same_request r {m} {p} {t} {h} {b} e1 e3 e4 e5 e6 =
    ap (λ (x : ℕ). record { moment = x; principal = p; token = t; head = h; body = b }) e1
    ∙ ap (λ (x : Option (List ℕ)). record { moment = r.moment; principal = x; token = t; head = h; body = b }) e3
    ∙ ap (λ (x : Option (List ℕ)). record { moment = r.moment; principal = r.principal; token = x; head = h; body = b }) e4
    ∙ ap (λ (x : List ℕ). record { moment = r.moment; principal = r.principal; token = r.token; head = x; body = b }) e5
    ∙ ap (λ (x : List ℕ). record { moment = r.moment; principal = r.principal; token = r.token; head = r.head; body = x }) e6

pub same_record : (r : RecordView) {q : RequestView} {s : ℕ} → q ≡ r.request → s ≡ r.status → ◌≡◌ {A = RecordView} (record { request = q; status = s }) r
same_record r {q} {s} e1 e2 =
    ap (λ (x : RequestView). record { request = x; status = s }) e1 ∙ ap (λ (x : ℕ). record { request = r.request; status = x }) e2

-- what was read is the record
pub is_read : (r : RecordView) (rest : List ℕ) {m s : ℕ} {p t : Option (List ℕ)} {left : List ℕ} (h b more : List ℕ)
    → IsRecord r → length h < 2 ^ 64 → length b < 2 ^ 64
    → Whose r rest m s p t left → left ≡ sized_bytes h ++ (sized_bytes b ++ more)
    → (◌≡◌ {A = RecordView} (record { request = record { moment = m; principal = p; token = t; head = h; body = b }; status = s }) r) × (more ≡ rest)
is_read r rest {left = left} h b more fits small short is what =
    let (head, bodies) = one_text h r.request.head (sized_bytes b ++ more) _ small fits.request.head_fits (sym what ∙ is.behind) in
    let (body, after) = one_text b r.request.body more rest short fits.request.body_fits bodies in
    (same_record r (same_request r.request is.moment is.principal is.token head body) is.status, after)

-- bytes begin with one record
pub one_record : (r q : RecordView) (rest more : List ℕ) → IsRecord r → IsRecord q
    → record_bytes r ++ rest ≡ record_bytes q ++ more → (r ≡ q) × (rest ≡ more)
one_record r q rest more is other e =
    let left : List ℕ = sized_bytes r.request.head ++ (sized_bytes r.request.body ++ rest) in
    let who = whose q more (record_bytes r ++ rest) r.request.moment r.status r.request.principal r.request.token
    (optional_bytes r.request.principal ++ (optional_bytes r.request.token ++ left)) left other e (in_order r rest, is.request.moment_fits, is.status_fits)
    is.request.principal_is_text is.request.token_is_text refl in
    is_read q more r.request.head r.request.body rest other is.request.head_fits is.request.body_fits who refl

-- a number, and what follows it
pub number_read : (bs front rest : List ℕ) (n : ℕ) → ((i : ℕ) → get_or bs i 0 < 256) → front ≡ slice_range bs 0 8 → length front ≡ 8 → n ≡ from_be_bytes w64 front → rest ≡ slice_range bs 8 (length bs)
    → bs ≡ to_be_bytes w64 n ++ rest
number_read bs front rest n small is eight number after =
    parts 8 bs front rest is after ∙ ap (λ (ys : List ℕ). ys ++ rest) (sym (be_bytes_8 front n eight (λ i. rw is (small_take 8 bs small i)) number))

-- bytes that were added, and what follows
pub joins : (x y z rest : List ℕ) → y ≡ x ++ z → y ++ rest ≡ x ++ (z ++ rest)
joins x y z rest is = ap (λ (l : List ℕ). l ++ rest) is ∙ append_assoc x z rest
