-- The names in the bytes of any path are segments, and a segment that is added is the last.
use Rattle.std.proofs.Common.{◌≡◌, ◌≢◌, ℕ, ◌==◌, ◌-◌, ◌≤◌, suc, Bool, true, false, List, [], ◌∷◌, ◌++◌, length, take, All, cond, inl, inr, refl, sym, ap, ◌∙◌, arith, append_assoc}
use Rattle.std.specs.List.{filter, slice_split, onto_first}
use Rattle.std.specs.Str.{bytes_eq}
use Rattle.std.proofs.lemmas.Bool.{cases_Bool}
use Rattle.std.proofs.lemmas.Bool.Decides.{nat_tests, Decides-eqb}
use Rattle.std.proofs.lemmas.Slice.Eq.{bytes_eq-Decides, ends_is}
use Rattle.std.proofs.lemmas.List.{append-nil}
use Rattle.std.proofs.lemmas.List.Elements.{filter-append, All-weaker, All-head, All-tail, All-cons, All-nil}
use Rattle.std.proofs.lemmas.List.Splits.{slice_split_none}
use Rattle.dav_core.specs.Path.{IsSegment, is_nonempty, is_collection, end_for, star, names_in, names_of, with_slash}
use Rattle.dav_core.specs.Laws.{AddsSegment, SlashAddsNoName, MemberIsNoStar, FewNames, NamesAreSegments, NameIsSegment}

pub name_is_segment : NameIsSegment
name_is_segment n name = (λ e. name.not_blank (inl e), All-weaker (λ b. (b ≢ 0) × (b ≢ 47)) (λ b. b ≢ 47) (λ b h. h.1) n name.clean)

abbrev Clean : List ℕ → Type 0
Clean = All (λ b. b ≢ 47)

abbrev split : List ℕ → List (List ℕ)
split = slice_split (λ b. b == 47)

clean_first : (b : ℕ) → b ≢ 47 → (parts : List (List ℕ)) → All Clean parts → All Clean (onto_first b parts)
clean_first b other [] all = All-cons Clean (b ∷ []) [] (All-cons (λ c. c ≢ 47) b [] other (All-nil (λ c. c ≢ 47))) (All-nil Clean)
clean_first b other (p ∷ ps) all = All-cons Clean (b ∷ p) ps (All-cons (λ c. c ≢ 47) b p other (All-head Clean p ps all)) (All-tail Clean p ps all)

clean_step : (b : ℕ) (parts : List (List ℕ)) (c : Bool) → (b == 47) ≡ c → All Clean parts → All Clean (cond c ([] ∷ parts) (onto_first b parts))
clean_step b parts true is all = All-cons Clean [] parts (All-nil (λ c. c ≢ 47)) all
clean_step b parts false is all = clean_first b (λ e. grind (arith, nat_tests)) parts all

-- a piece has no slash in it
clean_pieces : (bytes : List ℕ) → All Clean (split bytes)
clean_pieces [] = All-cons Clean [] [] (All-nil (λ c. c ≢ 47)) (All-nil Clean)
clean_pieces (b ∷ bs) = clean_step b (split bs) (b == 47) refl (clean_pieces bs)

segments_step : (p : List ℕ) (rest : List (List ℕ)) → Clean p → All IsSegment rest → All IsSegment (cond (is_nonempty p) (p ∷ rest) rest)
segments_step [] rest clean all = all
segments_step (b ∷ p) rest clean all = All-cons IsSegment (b ∷ p) rest (λ e. cc, clean) all

segments : (parts : List (List ℕ)) → All Clean parts → All IsSegment (filter is_nonempty parts)
segments [] all = All-nil IsSegment
segments (p ∷ ps) all = segments_step p (filter is_nonempty ps) (All-head Clean p ps all) (segments ps (All-tail Clean p ps all))

segments_by : (bytes : List ℕ) (c : Bool) → All IsSegment (cond c [] (names_in bytes))
segments_by bytes true = All-nil IsSegment
segments_by bytes false = segments (split bytes) (clean_pieces bytes)

pub names_are_segments : NamesAreSegments
names_are_segments bytes = segments_by bytes (bytes_eq bytes star)

-- ---- a slash in the middle

put_first : (b : ℕ) (parts more : List (List ℕ)) → parts ≢ [] → onto_first b (parts ++ more) ≡ onto_first b parts ++ more
put_first b [] more some = absurd (some refl)
put_first b (p ∷ ps) more some = refl

some_first : (b : ℕ) (parts : List (List ℕ)) → onto_first b parts ≢ []
some_first b [] e = cc
some_first b (p ∷ ps) e = cc

some_step : (b : ℕ) (parts : List (List ℕ)) (c : Bool) → cond c ([] ∷ parts) (onto_first b parts) ≢ []
some_step b parts true e = cc
some_step b parts false e = some_first b parts e

some_pieces : (bytes : List ℕ) → split bytes ≢ []
some_pieces [] e = cc
some_pieces (b ∷ bs) e = some_step b (split bs) (b == 47) e

split_step : (b : ℕ) (whole parts more : List (List ℕ)) (c : Bool) → whole ≡ parts ++ more → parts ≢ [] → cond c ([] ∷ whole) (onto_first b whole) ≡ cond c ([] ∷ parts) (onto_first b parts) ++ more
split_step b whole parts more true ih some = ap (λ ps. [] ∷ ps) ih
split_step b whole parts more false ih some = ap (onto_first b) ih ∙ put_first b parts more some

-- the pieces before a slash and those after it
split_at : (xs ys : List ℕ) → split (xs ++ 47 ∷ ys) ≡ split xs ++ split ys
split_at [] ys = refl
split_at (x ∷ xs) ys = split_step x (split (xs ++ 47 ∷ ys)) (split xs) (split ys) (x == 47) (split_at xs ys) (some_pieces xs)

pub names_at : (xs ys : List ℕ) → names_in (xs ++ 47 ∷ ys) ≡ names_in xs ++ names_in ys
names_at xs ys = ap (filter is_nonempty) (split_at xs ys) ∙ filter-append is_nonempty (split xs) (split ys)

no_slash : (n : List ℕ) → Clean n → All (λ b. (b == 47) ≡ false) n
no_slash n clean = All-weaker (λ b. b ≢ 47) (λ b. (b == 47) ≡ false) (λ b h. grind (arith, nat_tests, h)) n clean

-- the bytes of a segment have one name, the segment
pub one_name : (n : List ℕ) → IsSegment n → names_in n ≡ n ∷ []
one_name [] segment = absurd (segment.0 refl)
one_name (b ∷ n) segment = ap (filter is_nonempty) (slice_split_none (λ c. c == 47) (b ∷ n) (no_slash (b ∷ n) segment.1))

pub names_other : (bytes : List ℕ) → bytes ≢ star → names_of bytes ≡ names_in bytes
names_other bytes other =
    elim (cases_Bool (bytes_eq bytes star)) [
      | inl e ↦ absurd (other ((bytes_eq-Decides bytes star).0 e))
      | inr e ↦ rw e refl
    ]

never_empty : (xs ys : List ℕ) → xs ++ 47 ∷ ys ≢ []
never_empty [] ys e = cc
never_empty (x ∷ xs) ys e = cc

pub not_star_at : (xs ys : List ℕ) → xs ++ 47 ∷ ys ≢ star
not_star_at [] ys e = let same : ◌≡◌ {A = ℕ} 47 42 = cc in absurd (omega (arith, same))
not_star_at (x ∷ xs) ys e = let rest : xs ++ 47 ∷ ys ≡ [] = cc in never_empty xs ys rest

no_star_by : (bytes n : List ℕ) (closed : Bool) → is_collection bytes ≡ closed → (bytes ++ end_for closed) ++ n ≢ star
no_star_by bytes n false is e = not_star_at bytes n (sym (append_assoc bytes (47 ∷ []) n) ∙ e)
no_star_by bytes n true is e =
    let front = take (length bytes - 1) bytes in
    let parts : bytes ≡ front ++ 47 ∷ [] = (ends_is Decides-eqb bytes (47 ∷ []) (is_collection bytes) refl).0 is in
    not_star_at front n (sym (append_assoc front (47 ∷ []) n) ∙ ap (λ xs. xs ++ n) (sym parts ∙ sym (append-nil bytes)) ∙ e)

pub member_is_no_star : MemberIsNoStar
member_is_no_star bytes n e = no_star_by bytes n (is_collection bytes) refl e

joined_by : (bytes n : List ℕ) (closed : Bool) → is_collection bytes ≡ closed → names_in ((bytes ++ end_for closed) ++ n) ≡ names_in bytes ++ names_in n
joined_by bytes n false is = ap names_in (append_assoc bytes (47 ∷ []) n) ∙ names_at bytes n
joined_by bytes n true is =
    let front = take (length bytes - 1) bytes in
    let parts : bytes ≡ front ++ 47 ∷ [] = (ends_is Decides-eqb bytes (47 ∷ []) (is_collection bytes) refl).0 is in
    let before : names_in bytes ≡ names_in front = ap names_in parts ∙ names_at front [] ∙ append-nil (names_in front) in
    ap (λ xs. names_in (xs ++ n)) (append-nil bytes ∙ parts) ∙ ap names_in (append_assoc front (47 ∷ []) n) ∙ names_at front n ∙ ap (λ ns. ns ++ names_in n) (sym before)

-- what follows a slash adds its own names
pub names_joined : (bytes n : List ℕ) → bytes ≢ star → names_of (with_slash bytes ++ n) ≡ names_of bytes ++ names_in n
names_joined bytes n other =
    names_other (with_slash bytes ++ n) (member_is_no_star bytes n) ∙ joined_by bytes n (is_collection bytes) refl ∙ ap (λ ns. ns ++ names_in n) (sym (names_other bytes other))

-- a segment is one more name
pub adds_segment : AddsSegment
adds_segment bytes n segment other = names_joined bytes n other ∙ ap (λ ns. names_of bytes ++ ns) (one_name n segment)

slash_added : (bytes : List ℕ) (closed : Bool) → is_collection bytes ≡ closed → bytes ≢ star → names_of (bytes ++ end_for closed) ≡ names_of bytes
slash_added bytes true is other = ap names_of (append-nil bytes)
slash_added bytes false is other = names_other (bytes ++ 47 ∷ []) (not_star_at bytes []) ∙ names_at bytes [] ∙ append-nil (names_in bytes) ∙ sym (names_other bytes other)

pub slash_adds_no_name : SlashAddsNoName
slash_adds_no_name bytes other = slash_added bytes (is_collection bytes) refl other

-- a path has no more names than bytes
few_step : (b : ℕ) (parts : List (List ℕ)) (c : Bool) → length (filter is_nonempty (cond c ([] ∷ parts) (onto_first b parts))) ≤ suc (length (filter is_nonempty parts))
few_step b parts true = omega arith
few_step b [] false = omega arith
few_step b ([] ∷ ps) false = omega arith
few_step b ((x ∷ p) ∷ ps) false = omega arith

few_in : (bytes : List ℕ) → length (names_in bytes) ≤ length bytes
few_in [] = omega arith
few_in (b ∷ bs) =
    let one = few_step b (split bs) (b == 47) in
    let more = few_in bs in
    omega (arith, one, more)

few_by : (bytes : List ℕ) (is_star : Bool) → length (cond is_star [] (names_in bytes)) ≤ length bytes
few_by bytes true = omega arith
few_by bytes false = few_in bytes

pub few_names : FewNames
few_names bytes = few_by bytes (bytes_eq bytes star)
