-- The parent of a path: what the code takes off is the last segment, and the slashes after it.
use Rattle.std.proofs.Common.{◌≡◌, ◌≢◌, ℕ, ◌==◌, Bool, true, false, not, cond, if◌then◌else◌, List, [], ◌∷◌, ◌++◌, All, ◌⊎◌, inl, inr, refl, sym, ap, subst, ◌∙◌, arith, append_assoc, bytes_eq}
use Rattle.std.proofs.lemmas.Bool.{cases_Bool, eqb-true}
use Rattle.std.proofs.lemmas.Bool.Decides.{nat_tests}
use Rattle.std.proofs.lemmas.List.{append-nil}
use Rattle.std.proofs.lemmas.List.Elements.{All-contains, All-weaker, All-head, All-tail, All-cons, All-nil, Contains-push}
use Rattle.dav_core.specs.Path.{Path, IsName, IsSegment, joined, path_bytes, is_collection, is_nonempty, is_root, parent_of, star, names_in, names_of, IsAbove, IsParent}
use Rattle.dav_core.specs.PathEnds.{onto_end, without_end, before_last_name, parent_by, parent_bytes}
use Rattle.dav_core.specs.Laws.{ParentOfNames, ParentHasNames, OneParent}
use Rattle.dav_core.proofs.TargetLemmas.{ending}
use Rattle.dav_core.proofs.BufferLemmas.{snoc_cases, joined_push}
use Rattle.dav_core.proofs.EndLemmas.{without_end_more, without_end_stop}
use Rattle.dav_core.proofs.PathLemmas.{closed_at, open_at}
use Rattle.dav_core.proofs.AddedLemmas.{name_is_segment, names_at, names_other, not_star_at, one_name}
use Rattle.dav_core.proofs.Tests.{no_slash}

-- what is taken off the end of a text, and what the rest ends in
record Ends (p : ℕ → Bool) (xs kept : List ℕ) : Type 0 where
  rest : List ℕ
  all : All (λ b. p b ≡ true) rest
  whole : xs ≡ kept ++ rest
  last : (kept ≡ []) ⊎ ((front : List ℕ) × (c : ℕ) × (kept ≡ front ++ c ∷ []) × (p c ≡ false))

ends_step : (p : ℕ → Bool) (x : ℕ) (xs kept : List ℕ) (t : Bool) → p x ≡ t → Ends p xs kept → Ends p (x ∷ xs) (onto_end p x kept)
ends_step p x xs [] true is h =
    subst (Ends p (x ∷ xs)) (ap (λ b. cond b [] (x ∷ [])) (sym is))
    (record { rest = x ∷ h.rest; all = All-cons (λ b. p b ≡ true) x h.rest is h.all; whole = ap (λ ys. x ∷ ys) h.whole; last = inl refl })
ends_step p x xs [] false is h =
    subst (Ends p (x ∷ xs)) (ap (λ b. cond b [] (x ∷ [])) (sym is))
    (record { rest = h.rest; all = h.all; whole = ap (λ ys. x ∷ ys) h.whole; last = inr ([], x, refl, is) })
ends_step p x xs (y ∷ kept) t is h = record {
  rest = h.rest;
  all = h.all;
  whole = ap (λ ys. x ∷ ys) h.whole;
  last = elim h.last [ inl e ↦ cc | inr (front, c, e, f) ↦ inr (x ∷ front, c, ap (λ ys. x ∷ ys) e, f) ];
}

ends : (p : ℕ → Bool) (xs : List ℕ) → Ends p xs (without_end p xs)
ends p [] = record { rest = []; all = All-nil (λ b. p b ≡ true); whole = refl; last = inl refl }
ends p (x ∷ xs) = ends_step p x xs (without_end p xs) (p x) refl (ends p xs)

-- bytes at the end that all pass are left out
without_end_all : (p : ℕ → Bool) (xs ys : List ℕ) → All (λ b. p b ≡ true) ys → without_end p (xs ++ ys) ≡ without_end p xs
without_end_all p xs [] all = ap (without_end p) (append-nil xs)
without_end_all p xs (y ∷ ys) all =
    ap (without_end p) (sym (append_assoc xs (y ∷ []) ys))
    ∙ without_end_all p (xs ++ y ∷ []) ys (All-tail (λ b. p b ≡ true) y ys all)
    ∙ without_end_more p xs y (All-head (λ b. p b ≡ true) y ys all)

is_slash : (b : ℕ) → b ≡ 47 → (b == 47) ≡ true
is_slash b h = grind (arith, nat_tests)

not_slash : (b : ℕ) → b ≢ 47 → not (b == 47) ≡ true
not_slash b h = grind (arith, nat_tests)

none_is_slash : (b : ℕ) → not (b == 47) ≡ true → b ≢ 47
none_is_slash b h = grind (arith, nat_tests)

differs : (b : ℕ) → b ≢ 47 → (b == 47) ≡ false
differs b h = grind (arith, nat_tests)

slash_from : (b : ℕ) → not (b == 47) ≡ false → b ≡ 47
slash_from b h = grind (arith, nat_tests)

some_slash : (xs : List ℕ) → is_nonempty (xs ++ 47 ∷ []) ≡ true
some_slash [] = refl
some_slash (x ∷ xs) = refl

-- without the slashes at its end, a path that ends in a segment ends in the segment
ends_in_segment : (q segment : List ℕ) → segment ≢ [] → All (λ b. b ≢ 47) segment → without_end (λ b. b == 47) (q ++ segment) ≡ q ++ segment
ends_in_segment q segment some clean =
    elim (snoc_cases segment) [
      | inl e ↦ absurd (some e)
      | inr (front, c, e) ↦
          let apart : c ≢ 47 = All-contains (λ b. b ≢ 47) (front ++ c ∷ []) c (subst (All (λ b. b ≢ 47)) e clean) (Contains-push front c) in
          let is : q ++ segment ≡ (q ++ front) ++ c ∷ [] = ap (λ xs. q ++ xs) e ∙ sym (append_assoc q front (c ∷ [])) in
          ap (without_end (λ b. b == 47)) is ∙ without_end_stop (λ b. b == 47) (q ++ front) c (differs c apart) ∙ sym is
    ]

-- what is left before the last segment is the parent
above_is : (q bytes : List ℕ) → IsAbove q bytes → before_last_name bytes ≡ q
above_is q bytes h =
    let slashes = All-weaker (λ b. b ≡ 47) (λ b. (b == 47) ≡ true) is_slash h.slashes h.closing in
    let others = All-weaker (λ b. b ≢ 47) (λ b. not (b == 47) ≡ true) not_slash h.segment h.named.1 in
    let opened : without_end (λ b. b == 47) bytes ≡ q ++ h.segment =
    ap (without_end (λ b. b == 47)) h.whole ∙ without_end_all (λ b. b == 47) (q ++ h.segment) h.slashes slashes ∙ ends_in_segment q h.segment h.named.0 h.named.1 in
    ap (without_end (λ b. not (b == 47))) opened ∙ without_end_all (λ b. not (b == 47)) q h.segment others
    ∙ ap (without_end (λ b. not (b == 47))) h.ends ∙ without_end_stop (λ b. not (b == 47)) h.front 47 refl ∙ sym h.ends

-- where nothing is left, there is no slash before a segment
none_above : (bytes : List ℕ) → is_nonempty (before_last_name bytes) ≡ false → (q : List ℕ) → ¬ IsAbove q bytes
none_above bytes none q h =
    let clash : true ≡ false = sym (some_slash h.front) ∙ ap is_nonempty (sym (above_is q bytes h ∙ h.ends)) ∙ none in
    cc

-- a text that ends in a slash doesn't end in another byte
ends_once : (xs ys : List ℕ) (c : ℕ) → c ≢ 47 → xs ++ 47 ∷ [] ≡ ys ++ c ∷ [] → ⊥
ends_once xs ys c apart e = let clash : true ≡ false = sym (closed_at xs 47 refl) ∙ ap is_collection e ∙ open_at ys c apart in cc

above_by : (bytes : List ℕ) (a : Ends (λ b. b == 47) bytes (without_end (λ b. b == 47) bytes)) (b : Ends (λ b. not (b == 47)) (without_end (λ b. b == 47) bytes) (before_last_name bytes))
    → (front : List ℕ) → before_last_name bytes ≡ front ++ 47 ∷ [] → IsAbove (before_last_name bytes) bytes
above_by bytes a b front is = record {
  front = front;
  segment = b.rest;
  slashes = a.rest;
  ends = is;
  named = (
    λ empty.
        let bare : without_end (λ c. c == 47) bytes ≡ front ++ 47 ∷ [] = b.whole ∙ ap (λ ys. before_last_name bytes ++ ys) empty ∙ append-nil (before_last_name bytes) ∙ is in
        elim a.last [
          | inl none ↦ let clash : true ≡ false = sym (some_slash front) ∙ ap is_nonempty (sym bare ∙ none) in cc
          | inr (other, c, e, apart) ↦ ends_once front other c (no_slash c apart) (sym bare ∙ e)
        ],
    All-weaker (λ c. not (c == 47) ≡ true) (λ c. c ≢ 47) none_is_slash b.rest b.all,
  );
  closing = All-weaker (λ c. (c == 47) ≡ true) (λ c. c ≡ 47) (λ c e. eqb-true c 47 e) a.rest a.all;
  whole = a.whole ∙ ap (λ ys. ys ++ a.rest) b.whole;
}

-- else what is left is the parent
above_found : (bytes : List ℕ) → is_nonempty (before_last_name bytes) ≡ true → IsAbove (before_last_name bytes) bytes
above_found bytes some =
    let a = ends (λ b. b == 47) bytes in
    let b = ends (λ b. not (b == 47)) (without_end (λ b. b == 47) bytes) in
    elim b.last [
      | inl none ↦ let clash : true ≡ false = sym some ∙ ap is_nonempty none in cc
      | inr (front, c, e, slash) ↦ above_by bytes a b front (e ∙ ap (λ d. front ++ d ∷ []) (slash_from c slash))
    ]

empty_by : (xs : List ℕ) → is_nonempty xs ≡ false → xs ≡ []
empty_by [] e = refl
empty_by (x ∷ xs) e = cc

-- where nothing is above, by whether the path has names
alone_by : (bytes : List ℕ) → is_nonempty (before_last_name bytes) ≡ false → (root : Bool) → parent_by root bytes ≡ (if root then bytes else [])
alone_by bytes none true = rw none refl
alone_by bytes none false = rw none (empty_by (before_last_name bytes) none)

pub parent_is : (bytes : List ℕ) → IsParent bytes (parent_bytes bytes)
parent_is bytes =
    elim (cases_Bool (is_nonempty (before_last_name bytes))) [
      | inl some ↦ rw some (inl (above_found bytes some))
      | inr none ↦ inr (alone_by bytes none (is_root (names_of bytes)), none_above bytes none)
    ]

pub one_parent : OneParent
one_parent bytes a b (inl h) (inl k) = sym (above_is a bytes h) ∙ above_is b bytes k
one_parent bytes a b (inl h) (inr k) = absurd (k.1 a h)
one_parent bytes a b (inr h) (inl k) = absurd (h.1 b k)
one_parent bytes a b (inr h) (inr k) = h.0 ∙ sym k.0

-- what is lent as the parent of a text
pub parent_as : (bytes lent parent given : List ℕ) → lent ≡ bytes → given ≡ parent → IsParent lent parent → given ≡ parent_bytes bytes
parent_as bytes lent parent given same is h =
    is ∙ one_parent bytes parent (parent_bytes bytes) (subst (λ (x : List ℕ). IsParent x parent) same h) (parent_is bytes)

-- ---- of names

-- without the last name
parent_of_push : (init : Path) (last : List ℕ) → parent_of (init ++ last ∷ []) ≡ init
parent_of_push [] last = refl
parent_of_push (x ∷ []) last = refl
parent_of_push (x ∷ y ∷ init) last = ap (λ p. x ∷ p) (parent_of_push (y ∷ init) last)

only_slashes : (bs : List ℕ) → All (λ b. b ≡ 47) bs → names_in bs ≡ []
only_slashes [] all = refl
only_slashes (b ∷ bs) all =
    ap (λ (c : ℕ). names_in (c ∷ bs)) (All-head (λ c. c ≡ 47) b bs all) ∙ names_at [] bs ∙ only_slashes bs (All-tail (λ c. c ≡ 47) b bs all)

-- slashes after a text add no name
slashes_after : (n bs : List ℕ) → All (λ b. b ≡ 47) bs → names_in (n ++ bs) ≡ names_in n
slashes_after n [] all = ap names_in (append-nil n)
slashes_after n (b ∷ bs) all =
    ap (λ (c : ℕ). names_in (n ++ c ∷ bs)) (All-head (λ c. c ≡ 47) b bs all) ∙ names_at n bs
    ∙ ap (λ ns. names_in n ++ ns) (only_slashes bs (All-tail (λ c. c ≡ 47) b bs all)) ∙ append-nil (names_in n)

one_is_last : (n : List ℕ) → IsSegment n → parent_of (names_in n) ≡ []
one_is_last n segment = ap parent_of (one_name n segment)

-- a text without slashes has one name at most
few_at : (n : List ℕ) → All (λ b. b ≢ 47) n → parent_of (names_in n) ≡ []
few_at [] clean = refl
few_at (b ∷ n) clean = one_is_last (b ∷ n) ((λ e. cc), clean)

few_names_in : (bytes : List ℕ) → is_nonempty (before_last_name bytes) ≡ false → parent_of (names_in bytes) ≡ []
few_names_in bytes none =
    let a = ends (λ b. b == 47) bytes in
    let b = ends (λ b. not (b == 47)) (without_end (λ b. b == 47) bytes) in
    let whole : bytes ≡ b.rest ++ a.rest = a.whole ∙ ap (λ ys. ys ++ a.rest) (b.whole ∙ ap (λ ys. ys ++ b.rest) (empty_by (before_last_name bytes) none)) in
    ap (λ ys. parent_of (names_in ys)) whole
    ∙ ap parent_of (slashes_after b.rest a.rest (All-weaker (λ c. (c == 47) ≡ true) (λ c. c ≡ 47) (λ c e. eqb-true c 47 e) a.rest a.all))
    ∙ few_at b.rest (All-weaker (λ c. not (c == 47) ≡ true) (λ c. c ≢ 47) none_is_slash b.rest b.all)

-- where nothing is above, there is one name at most
few_by : (bytes : List ℕ) → parent_of (names_in bytes) ≡ [] → (is_star : Bool) → parent_of (cond is_star [] (names_in bytes)) ≡ []
few_by bytes few true = refl
few_by bytes few false = few

nothing_above : (bytes : List ℕ) → ((q : List ℕ) → ¬ IsAbove q bytes) → parent_of (names_of bytes) ≡ []
nothing_above bytes none =
    elim (cases_Bool (is_nonempty (before_last_name bytes))) [
      | inl some ↦ absurd (none (before_last_name bytes) (above_found bytes some))
      | inr empty ↦ few_by bytes (few_names_in bytes empty) (bytes_eq bytes star)
    ]

no_names_by : (ns : Path) → is_root ns ≡ true → ns ≡ []
no_names_by [] e = refl
no_names_by (n ∷ ns) e = cc

alone_names : (bytes parent : List ℕ) (root : Bool) → is_root (names_of bytes) ≡ root → parent ≡ (if root then bytes else []) → names_of parent ≡ []
alone_names bytes parent true root is = ap names_of is ∙ no_names_by (names_of bytes) root
alone_names bytes parent false root is = ap names_of is

above_names : (bytes parent : List ℕ) → IsAbove parent bytes → names_of parent ≡ parent_of (names_of bytes)
above_names bytes parent h =
    let whole : bytes ≡ h.front ++ 47 ∷ (h.segment ++ h.slashes) = h.whole ∙ append_assoc parent h.segment h.slashes ∙ ap (λ ys. ys ++ (h.segment ++ h.slashes)) h.ends ∙ append_assoc h.front (47 ∷ []) (h.segment ++ h.slashes) in
    let last : names_in (h.segment ++ h.slashes) ≡ h.segment ∷ [] = slashes_after h.segment h.slashes h.closing ∙ one_name h.segment h.named in
    let all : names_of bytes ≡ names_in h.front ++ h.segment ∷ [] =
    ap names_of whole ∙ names_other (h.front ++ 47 ∷ (h.segment ++ h.slashes)) (not_star_at h.front (h.segment ++ h.slashes)) ∙ names_at h.front (h.segment ++ h.slashes)
    ∙ ap (λ ns. names_in h.front ++ ns) last in
    ap names_of h.ends ∙ names_other (h.front ++ 47 ∷ []) (not_star_at h.front []) ∙ names_at h.front [] ∙ append-nil (names_in h.front)
    ∙ sym (ap parent_of all ∙ parent_of_push (names_in h.front) h.segment)

-- the parent has all names but the last
pub parent_names : ParentHasNames
parent_names bytes parent (inl h) = above_names bytes parent h
parent_names bytes parent (inr h) = alone_names bytes parent (is_root (names_of bytes)) refl h.0 ∙ sym (nothing_above bytes h.1)

slashes : (closed : Bool) → All (λ b. b ≡ 47) (ending closed)
slashes true = All-cons (λ b. b ≡ 47) 47 [] refl (All-nil (λ b. b ≡ 47))
slashes false = All-nil (λ b. b ≡ 47)

-- names with a slash at the end
closed_path : (init : Path) → path_bytes init true ≡ joined init ++ 47 ∷ []
closed_path [] = refl
closed_path (n ∷ ns) = refl

any_path : (init : Path) (last : List ℕ) (closed : Bool) → path_bytes (init ++ last ∷ []) closed ≡ joined (init ++ last ∷ []) ++ ending closed
any_path [] last closed = refl
any_path (n ∷ ns) last closed = refl

-- the parent of a path of names is that of all names but the last
pub names_parent : ParentOfNames
names_parent ns closed names =
    elim (snoc_cases ns) [
      | inl e ↦ rw e (inr (refl, none_above (47 ∷ []) refl))
      | inr (init, last, e) ↦
          let name : IsName last = All-contains IsName (init ++ last ∷ []) last (subst (All IsName) e names) (Contains-push init last) in
          let above : path_bytes (parent_of ns) true ≡ joined init ++ 47 ∷ [] = ap (λ p. path_bytes p true) (ap parent_of e ∙ parent_of_push init last) ∙ closed_path init in
          inl (record {
            front = joined init;
            segment = last;
            slashes = ending closed;
            ends = above;
            named = name_is_segment last name;
            closing = slashes closed;
            whole = ap (λ p. path_bytes p closed) e ∙ any_path init last closed ∙ ap (λ xs. xs ++ ending closed) (joined_push init last) ∙ ap (λ xs. xs ++ ending closed) (sym (append_assoc (joined init) (47 ∷ []) last) ∙ ap (λ xs. xs ++ last) (sym above));
          })
    ]
