-- The text of a path in a URL, and that it is read as that path again.
use Rattle.std.proofs.Common.{◌≡◌, ◌≢◌, ℕ, ◌<◌, ◌≤◌, ◌==◌, ◌&&◌, Bool, true, false, not, List, [], ◌∷◌, ◌++◌, length, map, All, refl, sym, ◌∙◌, ap, subst, arith, inl, inr, append_assoc, if◌then◌else◌, nat_le}
use Rattle.std.specs.Bool.{⊤}
use Rattle.std.specs.List.{slice_split, onto_first, position_or_len}
use Rattle.std.proofs.lemmas.Bool.{cases_Bool, cases_lt, agree_below, agree_below_at}
use Rattle.std.proofs.lemmas.Bool.Decides.{nat_tests}
use Rattle.std.proofs.lemmas.List.Sums.{position_or_len_is}
use Rattle.std.proofs.lemmas.Grind.{flat_map-append}
use Rattle.std.proofs.lemmas.List.{append-nil, map-append, take_all, same_from_push}
use Rattle.std.proofs.lemmas.List.Elements.{All-nil, All-cons, All-head, All-tail, All-append, All-weaker, All-map, All-take, All-contains, Contains-push}
use Rattle.percent_encoding.specs.AsciiSet.{contains, should_percent_encode}
use Rattle.percent_encoding.specs.Percent.{percent_encode, percent_encode_byte, percent_decode}
use Rattle.percent_encoding.proofs.PercentLemmas.{IsByte, IsEscapeByte, percent_encode-nil, percent_encode_kept, percent_encode_escaped, All-percent_encode_byte, All-percent_decode, percent_decode-nil, percent_encode_nonempty, round_trip}
use Rattle.dav_core.specs.declared.davpath.url_text.TheConstants.{ESCAPED}
use Rattle.dav_core.specs.Path.{Path, IsName, joined, path_bytes, names_of}
use Rattle.dav_core.specs.Target.{Cancels, Leaves, IsTextByte, EndsInSlash, IsClosed, NamesPath, Reads, before_query, pieces_of, nothing, blank}
use Rattle.dav_core.specs.UrlText.{is_url_byte, url_text, IsTextOf}
use Rattle.dav_core.proofs.Tests.{no_slash}
use Rattle.dav_core.proofs.TargetLemmas.{ending, last_pieces, HasNoSlash, split_joined, name_no_slash, Leaves-names, names_kept}
use Rattle.dav_core.proofs.BufferLemmas.{snoc_cases, joined_push}

-- ---- one byte

-- the set of bytes that are escaped
escaped_below : agree_below (should_percent_encode ESCAPED) (λ b. not (is_url_byte b)) 128 ≡ true
unfolding should_percent_encode
escaped_below = refl

escaped_above : (b : ℕ) → 128 ≤ b → should_percent_encode ESCAPED b ≡ not (is_url_byte b)
unfolding should_percent_encode
escaped_above b big = grind (arith, nat_tests)

escaped_is : (b : ℕ) → should_percent_encode ESCAPED b ≡ not (is_url_byte b)
escaped_is b =
    elim (cases_lt b 128) [
      | inl small ↦ agree_below_at (should_percent_encode ESCAPED) (λ b. not (is_url_byte b)) 128 b escaped_below small
      | inr big ↦ escaped_above b big
    ]

percent_escaped : contains ESCAPED 37 ≡ true
percent_escaped = refl

-- the crate `percent_encoding` escapes bytes in this way
pub encoded : (bs : List ℕ) → percent_encode ESCAPED bs ≡ url_text bs
unfolding url_text
encoded [] = percent_encode-nil ESCAPED
encoded (b ∷ bs) =
    elim (cases_Bool (is_url_byte b)) [
      | inl e ↦ percent_encode_kept ESCAPED b bs (escaped_is b ∙ ap not e) ∙ rw e (ap (λ xs. b ∷ xs) (encoded bs))
      | inr e ↦ percent_encode_escaped ESCAPED b bs (escaped_is b ∙ ap not e) ∙ rw e (ap (λ xs. percent_encode_byte b ++ xs) (encoded bs))
    ]

-- a byte of a text without a query
abbrev pub IsPathByte : ℕ → Type 0
IsPathByte b = IsTextByte b × ((b == 63) ≡ false)

url_byte_below : (b : ℕ) → is_url_byte b ≡ true → b < 128
url_byte_below b e = grind (arith, nat_tests)

-- the test of such a byte
abbrev is_path_byte : ℕ → Bool
is_path_byte b = nat_le 32 b && (nat_le b 126 && (not (b == 35) && not (b == 63)))

url_bytes_below : agree_below (λ b. is_url_byte b && not (is_path_byte b)) (λ b. false) 128 ≡ true
url_bytes_below = refl

path_byte : (b : ℕ) → is_path_byte b ≡ true → IsPathByte b
path_byte b e =
    ((grind (arith, nat_tests), grind (arith, nat_tests), grind (arith, nat_tests)), grind (arith, nat_tests))

url_byte : (b : ℕ) → is_url_byte b ≡ true → IsPathByte b
url_byte b e =
    let none : (is_url_byte b && not (is_path_byte b)) ≡ false = agree_below_at (λ b. is_url_byte b && not (is_path_byte b)) (λ b. false) 128 b url_bytes_below (url_byte_below b e) in
    let some : is_path_byte b ≡ true = elim (cases_Bool (is_path_byte b)) [
      | inl h ↦ h
      | inr h ↦ let two : (is_url_byte b && not (is_path_byte b)) ≡ true = rw (e, h) refl in cc
    ] in
    path_byte b some

escape_byte : (b : ℕ) → IsEscapeByte b → IsPathByte b × ((b == 47) ≡ false)
escape_byte b h =
    (((grind (arith, nat_tests), grind (arith, nat_tests), grind (arith, nat_tests)), grind (arith, nat_tests)), grind (arith, nat_tests))

-- ---- a text

-- what holds of each byte that is kept, and of those of an escape, holds of the text
All-url_text : (P Q : ℕ → Type 0) → ((b : ℕ) → Q b → is_url_byte b ≡ true → P b) → ((b : ℕ) → IsEscapeByte b → P b) → (bs : List ℕ) → All Q bs → All P (url_text bs)
unfolding url_text
All-url_text P Q kept escape [] h = All-nil P
All-url_text P Q kept escape (b ∷ bs) h =
    let rest : All P (url_text bs) = All-url_text P Q kept escape bs (All-tail Q b bs h) in
    elim (cases_Bool (is_url_byte b)) [
      | inl e ↦ rw e (All-cons P b (url_text bs) (kept b (All-head Q b bs h) e) rest)
      | inr e ↦ rw e (All-append P (percent_encode_byte b) (url_text bs) (All-weaker IsEscapeByte P escape (percent_encode_byte b) (All-percent_encode_byte b)) rest)
    ]

All-path_byte : (bs : List ℕ) → All IsPathByte (url_text bs)
All-path_byte bs =
    All-url_text IsPathByte (λ b. ⊤) (λ b h. url_byte b) (λ b h. (escape_byte b h).0) bs (λ k d h. tt)

no_slash_text : (n : List ℕ) → HasNoSlash n → HasNoSlash (url_text n)
no_slash_text n h = record {
  no_slash = All-url_text (λ b. (b == 47) ≡ false) (λ b. (b == 47) ≡ false) (λ b clean e. clean) (λ b e. (escape_byte b e).1) n h.no_slash;
}

-- a text without a query is read whole
whole_text : (bs : List ℕ) → All (λ b. (b == 63) ≡ false) bs → before_query bs ≡ bs
whole_text bs h =
    let all : position_or_len (λ b. b == 63) bs ≡ length bs = position_or_len_is (λ b. b == 63) bs (length bs) 0 (omega arith) (λ k within. h k 0 within) (λ past. absurd (omega (arith, past))) in
    rw all (take_all (length bs) bs (omega arith))

-- the text of a path is that of its names
url_joined : (ns : Path) → url_text (joined ns) ≡ joined (map url_text ns)
unfolding url_text
url_joined [] = refl
url_joined (n ∷ ns) =
    flat_map-append (λ b. if is_url_byte b then b ∷ [] else percent_encode_byte b) (47 ∷ n) (joined ns)
    ∙ ap (λ xs. 47 ∷ (url_text n ++ xs)) (url_joined ns)

url_ending : (closed : Bool) → url_text (ending closed) ≡ ending closed
unfolding url_text
url_ending true = refl
url_ending false = refl

url_path : (ns : Path) (closed : Bool) → url_text (joined ns ++ ending closed) ≡ joined (map url_text ns) ++ ending closed
unfolding url_text
url_path ns closed =
    flat_map-append (λ b. if is_url_byte b then b ∷ [] else percent_encode_byte b) (joined ns) (ending closed)
    ∙ ap (λ xs. xs ++ url_text (ending closed)) (url_joined ns)
    ∙ ap (λ xs. joined (map url_text ns) ++ xs) (url_ending closed)

-- each text is decoded to its bytes
decoded : (bs : List ℕ) → All IsByte bs → percent_decode (url_text bs) ≡ bs
decoded bs small =
    ap percent_decode (sym (encoded bs)) ∙ round_trip ESCAPED bs percent_escaped small

decoded_all : (ns : Path) → All (All IsByte) ns → map percent_decode (map url_text ns) ≡ ns
decoded_all [] small = refl
decoded_all (n ∷ ns) small =
    ap (λ xs. xs ∷ map percent_decode (map url_text ns)) (decoded n (All-head (All IsByte) n ns small))
    ∙ ap (λ ms. n ∷ ms) (decoded_all ns (All-tail (All IsByte) n ns small))

-- ---- its pieces

-- names in a row are left
leaves_row : (ns : Path) (more : List (List ℕ)) → All IsName ns → Cancels more → Leaves (ns ++ more) ns
leaves_row [] more names cs = cs
leaves_row (n ∷ ns) more names cs =
    ([], ns ++ more, nothing, All-head IsName n ns names, refl, leaves_row ns more (All-tail IsName n ns names) cs)

last_cancels : (closed : Bool) → Cancels (last_pieces closed)
last_cancels true = blank (inl refl) nothing
last_cancels false = nothing

-- also after the empty piece before the first slash
leaves_path : (n : List ℕ) (ns : Path) (closed : Bool) → All IsName (n ∷ ns) → Leaves ([] ∷ n ∷ (ns ++ last_pieces closed)) (n ∷ ns)
leaves_path n ns closed names = (
  [] ∷ [],
  ns ++ last_pieces closed,
  blank (inl refl) nothing,
  All-head IsName n ns names,
  refl,
  leaves_row ns (last_pieces closed) (All-tail IsName n ns names) (last_cancels closed),
)

-- pieces without escapes are decoded to themselves
decoded_last : (closed : Bool) → map percent_decode (last_pieces closed) ≡ last_pieces closed
decoded_last true = ap (λ p. p ∷ []) percent_decode-nil
decoded_last false = refl

no_slash_texts : (ns : Path) → All IsName ns → All HasNoSlash (map url_text ns)
no_slash_texts ns names =
    All-map HasNoSlash url_text ns (All-weaker IsName (λ n. HasNoSlash (url_text n)) (λ n h. no_slash_text n (name_no_slash n h)) ns names)

-- the pieces of the text of a path
pieces_of_path : (n : List ℕ) (ns : Path) (closed : Bool) → All IsName (n ∷ ns) → All (All IsByte) (n ∷ ns) → pieces_of (url_text (path_bytes (n ∷ ns) closed)) ≡ [] ∷ n ∷ (ns ++ last_pieces closed)
pieces_of_path n ns closed names small =
    let whole = whole_text (url_text (path_bytes (n ∷ ns) closed)) (All-weaker IsPathByte (λ b. (b == 63) ≡ false) (λ b h. h.1) _ (All-path_byte (path_bytes (n ∷ ns) closed))) in
    let clean = no_slash_texts (n ∷ ns) names in
    let split = split_joined (url_text n) (map url_text ns) closed (All-head HasNoSlash (url_text n) (map url_text ns) clean) (All-tail HasNoSlash (url_text n) (map url_text ns) clean) in
    let first = decoded n (All-head (All IsByte) n ns small) in
    let others = decoded_all ns (All-tail (All IsByte) n ns small) in
    ap (λ t. map percent_decode (slice_split (λ b. b == 47) t)) (whole ∙ url_path (n ∷ ns) closed)
    ∙ ap (λ t. percent_decode [] ∷ map percent_decode (slice_split (λ b. b == 47) t)) (append_assoc (url_text n) (joined (map url_text ns)) (ending closed))
    ∙ ap (λ ps. percent_decode [] ∷ map percent_decode ps) split
    ∙ ap (λ ps. percent_decode [] ∷ percent_decode (url_text n) ∷ ps) (map-append percent_decode (map url_text ns) (last_pieces closed))
    ∙ rw (percent_decode-nil, first, others, decoded_last closed) refl

-- ---- its end

-- texts that are not empty and have no slash
pub record IsPiece (p : List ℕ) : Type 0 where
  pub some : p ≢ []
  pub clean : HasNoSlash p

name_some : (n : List ℕ) → IsName n → 0 < length n
name_some [] name = absurd (name.not_blank (inl refl))
name_some (b ∷ n) name = omega arith

url_piece : (n : List ℕ) → IsName n → IsPiece (url_text n)
url_piece n name = record {
  some = λ e.
      let long = percent_encode_nonempty ESCAPED n (name_some n name) in
      omega (arith, long, ap length (encoded n ∙ e));
  clean = no_slash_text n (name_no_slash n name);
}

url_pieces : (ns : Path) → All IsName ns → All IsPiece (map url_text ns)
url_pieces ns names =
    All-map IsPiece url_text ns (All-weaker IsName (λ n. IsPiece (url_text n)) url_piece ns names)

-- there is no slash after a last piece
piece_ends : (p front back : List ℕ) → IsPiece p → front ++ 47 ∷ p ≢ back ++ 47 ∷ []
piece_ends p front back piece e =
    elim (snoc_cases p) [
      | inl h ↦ piece.some h
      | inr (init, last, h) ↦
          let whole : (front ++ 47 ∷ init) ++ last ∷ [] ≡ back ++ 47 ∷ [] = append_assoc front (47 ∷ init) (last ∷ []) ∙ ap (λ q. front ++ 47 ∷ q) (sym h) ∙ e in
          let same = same_from_push (front ++ 47 ∷ init) back last 47 whole in
          no_slash last (All-contains (λ b. (b == 47) ≡ false) p last piece.clean.no_slash (rw h (Contains-push init last))) same.1
    ]

open_end : (m : List ℕ) (ms : List (List ℕ)) → All IsPiece (m ∷ ms) → ¬ EndsInSlash (joined (m ∷ ms))
open_end m ms pieces (front, e) =
    elim (snoc_cases (m ∷ ms)) [
      | inl h ↦ cc
      | inr (init, last, h) ↦
          let is : joined (m ∷ ms) ≡ joined init ++ 47 ∷ last = ap joined h ∙ joined_push init last in
          let piece : IsPiece last = All-contains IsPiece (init ++ last ∷ []) last (subst (All IsPiece) h pieces) (Contains-push init last) in
          piece_ends last (joined init) front piece (sym is ∙ e)
    ]

closed_end : (m : List ℕ) (ms : List (List ℕ)) (closed : Bool) → All IsPiece (m ∷ ms) → IsClosed (joined (m ∷ ms) ++ ending closed) closed
closed_end m ms true pieces = (joined (m ∷ ms), refl)
closed_end m ms false pieces = λ ends. open_end m ms pieces (subst EndsInSlash (append-nil (joined (m ∷ ms))) ends)

-- ---- read again

text_whole : (bs : List ℕ) → before_query (url_text bs) ≡ url_text bs
text_whole bs =
    whole_text (url_text bs) (All-weaker IsPathByte (λ b. (b == 63) ≡ false) (λ b h. h.1) (url_text bs) (All-path_byte bs))

text_bytes : (bs : List ℕ) → All IsTextByte (url_text bs)
text_bytes bs = All-weaker IsPathByte IsTextByte (λ b h. h.0) (url_text bs) (All-path_byte bs)

root_again : NamesPath (47 ∷ []) [] true
root_again = record {
  rooted = record {
    text = All-cons IsTextByte 47 [] (omega arith, omega arith, omega arith) (All-nil IsTextByte);
    rooted = ([], refl);
  };
  leaves = rw percent_decode-nil (blank (inl refl) (blank (inl refl) nothing));
  closed_if = ([], refl);
}

-- The text of a path is read as this path again.
pub names_again : (ns : Path) (closed : Bool) → All IsName ns → All (All IsByte) ns → Reads (url_text (path_bytes ns closed)) (path_bytes ns closed)
unfolding url_text
names_again [] closed names small = inr ([], true, root_again, refl)
names_again (n ∷ ns) closed names small =
    let text = url_text (path_bytes (n ∷ ns) closed) in
    inr (
      n ∷ ns,
      closed,
      record {
        rooted = record {
          text = text_bytes (path_bytes (n ∷ ns) closed);
          rooted = ((url_text n ++ joined (map url_text ns)) ++ ending closed, url_path (n ∷ ns) closed);
        };
        leaves = rw (pieces_of_path n ns closed names small) (leaves_path n ns closed names);
        closed_if = subst (λ t. IsClosed t closed) (sym (text_whole (path_bytes (n ∷ ns) closed) ∙ url_path (n ∷ ns) closed)) (closed_end (url_text n) (map url_text ns) closed (url_pieces (n ∷ ns) names));
      },
      refl,
    )

-- ---- what is read is bytes

All-back : (P : List ℕ → Type 0) (xs ys : List (List ℕ)) → All P (xs ++ ys) → All P ys
All-back P [] ys h = h
All-back P (x ∷ xs) ys h = All-back P xs ys (All-tail P x (xs ++ ys) h)

-- what holds of the pieces holds of the names that they leave
Leaves-all : (P : List ℕ → Type 0) (ps : List (List ℕ)) (ns : Path) → Leaves ps ns → All P ps → All P ns
Leaves-all P ps [] h all = All-nil P
Leaves-all P ps (n ∷ ns) h all =
    let here : All P (n ∷ h.1) = All-back P h.0 (n ∷ h.1) (subst (All P) h.4 all) in
    All-cons P n ns (All-head P n h.1 here) (Leaves-all P h.1 ns h.5 (All-tail P n h.1 here))

All-onto_first : (P : ℕ → Type 0) (b : ℕ) (ps : List (List ℕ)) → P b → All (All P) ps → All (All P) (onto_first b ps)
All-onto_first P b [] h all =
    All-cons (All P) (b ∷ []) [] (All-cons P b [] h (All-nil P)) (All-nil (All P))
All-onto_first P b (p ∷ ps) h all =
    All-cons (All P) (b ∷ p) ps (All-cons P b p h (All-head (All P) p ps all)) (All-tail (All P) p ps all)

All-slice_split : (P : ℕ → Type 0) (bs : List ℕ) → All P bs → All (All P) (slice_split (λ b. b == 47) bs)
All-slice_split P [] h = All-cons (All P) [] [] (All-nil P) (All-nil (All P))
All-slice_split P (b ∷ bs) h =
    let rest = All-slice_split P bs (All-tail P b bs h) in
    elim (cases_Bool (b == 47)) [
      | inl e ↦ rw e (All-cons (All P) [] (slice_split (λ b. b == 47) bs) (All-nil P) rest)
      | inr e ↦ rw e (All-onto_first P b (slice_split (λ b. b == 47) bs) (All-head P b bs h) rest)
    ]

-- the pieces of a text hold bytes
pieces_small : (src : List ℕ) → All IsTextByte src → All (All IsByte) (pieces_of src)
pieces_small src text =
    let small : All IsByte src = All-weaker IsTextByte IsByte (λ b h. omega arith) src text in
    let pieces = All-slice_split IsByte (before_query src) (All-take IsByte _ src small) in
    All-map (All IsByte) percent_decode (slice_split (λ b. b == 47) (before_query src)) (All-weaker (All IsByte) (λ p. All IsByte (percent_decode p)) All-percent_decode _ pieces)

-- For each path that was read, its text is read as this path again.
pub reads_again : (src bytes written : List ℕ) → Reads src bytes → IsTextOf bytes written → Reads written bytes
reads_again src bytes written h (inl (e, f)) = inl (f, e)
reads_again src bytes written (inl h) (inr (no_star, e)) = absurd (no_star h.1)
reads_again src bytes written (inr (ns, c, h, is)) (inr (no_star, e)) =
    let names = Leaves-names (pieces_of src) ns h.leaves in
    let small = Leaves-all (All IsByte) (pieces_of src) ns h.leaves (pieces_small src h.rooted.text) in
    rw (e, is) (names_again ns c names small)

-- the names that a text is read as are bytes
pub Reads-bytes : (src a : List ℕ) → Reads src a → All (All IsByte) (names_of a)
Reads-bytes src a (inl (e, is)) = subst (λ (b : List ℕ). All (All IsByte) (names_of b)) (sym is) (λ k d h. absurd (omega arith))
Reads-bytes src a (inr (ns, c, h, is)) =
    let names = Leaves-names (pieces_of src) ns h.leaves in
    let small = Leaves-all (All IsByte) (pieces_of src) ns h.leaves (pieces_small src h.rooted.text) in
    subst (λ (p : Path). All (All IsByte) p) (sym (ap names_of is ∙ names_kept ns c names)) small
