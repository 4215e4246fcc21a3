-- Plain paths: their members, and when two after one prefix are equal.
use Rattle.std.proofs.Common.{◌≡◌, ◌≢◌, ℕ, ◌==◌, ◌-◌, nat_lt, Bool, true, false, List, [], ◌∷◌, ◌++◌, All, if◌then◌else◌, length, take, ◌⊎◌, inl, inr, refl, sym, ap, subst, ◌∙◌, arith, append_assoc}
use Rattle.std.specs.Str.{bytes_eq}
use Rattle.std.proofs.lemmas.Bool.{cases_Bool}
use Rattle.std.proofs.lemmas.Bool.Decides.{nat_tests, Decides-eqb}
use Rattle.std.proofs.lemmas.Slice.Eq.{bytes_eq-Decides, ends_is}
use Rattle.std.proofs.lemmas.List.{append-nil, append_cancel_left, drop_at, length_push, length-append}
use Rattle.std.proofs.lemmas.List.Elements.{All-contains, All-push, Contains-push}
use Rattle.std.proofs.Math.Seq.{take-append_seam}
use Rattle.dav_core.specs.Path.{Path, PathText, IsName, joined, path_bytes, star, end_for, with_slash, without_slash, with_bytes, trimmed, full_bytes, are_equal, is_collection, names, names_in, names_of}
use Rattle.dav_core.proofs.Theorems.{names_kept, names_joined, member_is_no_star}
use Rattle.dav_engine.specs.Copied.{IsPlain}
use Rattle.dav_engine.specs.Folder.{closed, child_of}
use Rattle.dav_engine.proofs.CopyHeaderLemmas.{plain_other}

-- ---- slashes at the end

pub closed_at : (xs : List ℕ) → is_collection (xs ++ 47 ∷ []) ≡ true
closed_at xs =
    let at = drop_at xs (47 ∷ []) (length (xs ++ 47 ∷ []) - 1) (omega (arith, length_push xs 47)) in
    rw at refl

open_at : (xs : List ℕ) (c : ℕ) → c ≢ 47 → is_collection (xs ++ c ∷ []) ≡ false
open_at xs c h =
    let at = drop_at xs (c ∷ []) (length (xs ++ c ∷ []) - 1) (omega (arith, length_push xs c)) in
    let differ : (47 == c) ≡ false = grind (arith, nat_tests) in
    rw (at, differ) refl

-- a list is empty, or has a last element
last_cases : {X : Type 0} (xs : List X) → (xs ≡ []) ⊎ ((init : List X) × (last : X) × (xs ≡ init ++ last ∷ []))
last_cases [] = inl refl
last_cases (x ∷ xs) =
    elim (last_cases xs) [
      | inl e ↦ inr ([], x, ap (λ ys. x ∷ ys) e)
      | inr h ↦ inr (x ∷ h.0, h.1, ap (λ ys. x ∷ ys) h.2)
    ]

last_byte : (n : List ℕ) → IsName n → (front : List ℕ) × (c : ℕ) × (n ≡ front ++ c ∷ []) × (c ≢ 47)
last_byte n name =
    elim (last_cases n) [
      | inl e ↦ absurd (name.not_blank (inl e))
      | inr (front, c, e) ↦
          let clean = All-contains (λ b. (b ≢ 0) × (b ≢ 47)) n c name.clean (rw e (Contains-push front c)) in
          (front, c, e, clean.1)
    ]

joined_last : (ns : Path) (n : List ℕ) → joined (ns ++ n ∷ []) ≡ joined ns ++ 47 ∷ n
joined_last [] n = append-nil (47 ∷ n)
joined_last (m ∷ ns) n = ap (λ xs. 47 ∷ (m ++ xs)) (joined_last ns n) ∙ sym (append_assoc (47 ∷ m) (joined ns) (47 ∷ n))

-- names don't end in a slash, whatever is before them
pub open_names : (prefix n : List ℕ) (ns : Path) → All IsName (n ∷ ns) → is_collection (prefix ++ joined (n ∷ ns)) ≡ false
open_names prefix n ns all =
    elim (last_cases (n ∷ ns)) [
      | inl e ↦ cc
      | inr (init, last, e) ↦
          let name : IsName last = All-contains IsName (init ++ last ∷ []) last (subst (All IsName) e all) (Contains-push init last) in
          let (front, c, f, other) = last_byte last name in
          let is : joined (n ∷ ns) ≡ (joined init ++ 47 ∷ front) ++ c ∷ [] = ap joined e ∙ joined_last init last ∙ ap (λ xs. joined init ++ 47 ∷ xs) f ∙ sym (append_assoc (joined init) (47 ∷ front) (c ∷ [])) in
          ap (λ xs. is_collection (prefix ++ xs)) is
          ∙ ap is_collection (sym (append_assoc prefix (joined init ++ 47 ∷ front) (c ∷ []))) ∙ open_at (prefix ++ (joined init ++ 47 ∷ front)) c other
    ]

slash_added : (ns : Path) (c : Bool) → All IsName ns → with_slash (path_bytes ns c) ≡ path_bytes ns true
slash_added [] c all = refl
slash_added (n ∷ ns) true all = rw (closed_at (joined (n ∷ ns))) (append-nil (joined (n ∷ ns) ++ 47 ∷ []))
slash_added (n ∷ ns) false all = ap with_slash (append-nil (joined (n ∷ ns))) ∙ ap (λ b. joined (n ∷ ns) ++ end_for b) (open_names [] n ns all)

name_added : (ns : Path) (c : Bool) (n : List ℕ) → All IsName ns → with_slash (path_bytes ns c) ++ n ≡ path_bytes (ns ++ n ∷ []) false
name_added [] c n all = sym (append-nil (47 ∷ (n ++ [])) ∙ ap (λ xs. 47 ∷ xs) (append-nil n))
name_added (m ∷ ns) c n all =
    ap (λ xs. xs ++ n) (slash_added (m ∷ ns) c all)
    ∙ append_assoc (joined (m ∷ ns)) (47 ∷ []) n
    ∙ sym (joined_last (m ∷ ns) n)
    ∙ sym (append-nil (joined ((m ∷ ns) ++ n ∷ [])))

-- ---- members of plain paths, and plain paths with a slash at the end

plain_by : (p : PathText) (ns : Path) (c : Bool) → All IsName ns → p.bytes ≡ path_bytes ns c → IsPlain p
plain_by p ns c all is =
    let path : names p ≡ ns = ap names_of is ∙ names_kept ns c all in
    record { are_names = subst (All IsName) (sym path) all; is_closed = c; bytes_are = is ∙ ap (λ (ms : Path). path_bytes ms c) (sym path) }

pub closed_plain : (wanted : Bool) (p : PathText) → IsPlain p → IsPlain (closed wanted p)
closed_plain false p plain = plain
closed_plain true p plain = plain_by (closed true p) (names p) true plain.are_names (ap with_slash plain.bytes_are ∙ slash_added (names p) plain.is_closed plain.are_names)

pub closed_prefix : (wanted : Bool) (p : PathText) → (closed wanted p).prefix ≡ p.prefix
closed_prefix true p = refl
closed_prefix false p = refl

pub plain_child : (p : PathText) (name : List ℕ) (dir : Bool) → IsPlain p → IsName name → IsPlain (child_of p name dir)
plain_child p name dir plain one =
    closed_plain dir (with_bytes p (with_slash p.bytes ++ name))
    (plain_by (with_bytes p (with_slash p.bytes ++ name)) (names p ++ name ∷ []) false (All-push IsName (names p) name plain.are_names one)
    (ap (λ bytes. with_slash bytes ++ name) plain.bytes_are ∙ name_added (names p) plain.is_closed name plain.are_names))

pub child_prefix : (p : PathText) (name : List ℕ) (dir : Bool) → (child_of p name dir).prefix ≡ p.prefix
child_prefix p name true = refl
child_prefix p name false = refl

-- ---- equal paths have the same names

names_other : (bytes : List ℕ) → bytes ≢ star → names_of bytes ≡ names_in bytes
names_other bytes other =
    elim (cases_Bool (bytes_eq bytes star)) [
      | inl e ↦ absurd (other ((bytes_eq-Decides bytes star).0 e))
      | inr e ↦ rw e refl
    ]

at_by : (xs ys : List ℕ) (c : Bool) → is_collection xs ≡ c → xs ≢ star → names_in (xs ++ 47 ∷ ys) ≡ names_in xs ++ names_in ys
at_by xs ys true is other =
    let whole : with_slash xs ++ 47 ∷ ys ≡ xs ++ 47 ∷ ys = ap (λ b. (xs ++ end_for b) ++ 47 ∷ ys) is ∙ ap (λ zs. zs ++ 47 ∷ ys) (append-nil xs) in
    ap names_in (sym whole) ∙ sym (names_other (with_slash xs ++ 47 ∷ ys) (member_is_no_star xs (47 ∷ ys))) ∙ names_joined xs (47 ∷ ys) other
    ∙ ap (λ (ns : Path). ns ++ names_in ys) (names_other xs other)
at_by xs ys false is other =
    let whole : with_slash xs ++ ys ≡ xs ++ 47 ∷ ys = ap (λ b. (xs ++ end_for b) ++ ys) is ∙ append_assoc xs (47 ∷ []) ys in
    ap names_in (sym whole) ∙ sym (names_other (with_slash xs ++ ys) (member_is_no_star xs ys)) ∙ names_joined xs ys other
    ∙ ap (λ (ns : Path). ns ++ names_in ys) (names_other xs other)

-- names before a slash, and those after it
names_at : (xs ys : List ℕ) → names_in (xs ++ 47 ∷ ys) ≡ names_in xs ++ names_in ys
names_at xs ys =
    elim (cases_Bool (bytes_eq xs star)) [
      | inl e ↦ subst (λ (zs : List ℕ). names_in (zs ++ 47 ∷ ys) ≡ names_in zs ++ names_in ys) (sym ((bytes_eq-Decides xs star).0 e)) refl
      | inr e ↦ at_by xs ys (is_collection xs) refl (λ same. let is : bytes_eq xs star ≡ true = (bytes_eq-Decides xs star).1 same in cc)
    ]

first_slash : (ns : Path) (c : Bool) → (tail : List ℕ) × (path_bytes ns c ≡ 47 ∷ tail)
first_slash [] c = ([], refl)
first_slash (n ∷ ns) c = ((n ++ joined ns) ++ (if c then 47 ∷ [] else []), refl)

without_names : (bytes : List ℕ) (c : Bool) → is_collection bytes ≡ c → names_in (if c then take (length bytes - 1) bytes else bytes) ≡ names_in bytes
without_names bytes false is = refl
without_names bytes true is =
    let front = take (length bytes - 1) bytes in
    let parts : bytes ≡ front ++ 47 ∷ [] = (ends_is Decides-eqb bytes (47 ∷ []) (is_collection bytes) refl).0 is in
    sym (ap names_in parts ∙ names_at front [] ∙ append-nil (names_in front))

trimmed_by : (bytes : List ℕ) (b : Bool) → names_in (if b then without_slash bytes else bytes) ≡ names_in bytes
trimmed_by bytes true = without_names bytes (is_collection bytes) refl
trimmed_by bytes false = refl

trimmed_names : (bytes : List ℕ) → names_in (trimmed bytes) ≡ names_in bytes
trimmed_names bytes = trimmed_by bytes (nat_lt 1 (length bytes))

full_names : (p : PathText) → IsPlain p → names_in (full_bytes p) ≡ names_in p.prefix ++ names p
full_names p plain =
    let (tail, is) = first_slash (names p) plain.is_closed in
    let starts : p.bytes ≡ 47 ∷ tail = plain.bytes_are ∙ is in
    let own : names p ≡ names_in tail = names_other p.bytes (plain_other p plain) ∙ ap names_in starts ∙ names_at [] tail in
    ap (λ bytes. names_in (p.prefix ++ bytes)) starts ∙ names_at p.prefix tail ∙ ap (λ (ns : Path). names_in p.prefix ++ ns) (sym own)

pub equal_names : (p q : PathText) → p.prefix ≡ q.prefix → IsPlain p → IsPlain q → are_equal p q ≡ true → names p ≡ names q
equal_names p q prefix plain other equal =
    let same : trimmed (full_bytes p) ≡ trimmed (full_bytes q) = (bytes_eq-Decides (trimmed (full_bytes p)) (trimmed (full_bytes q))).0 equal in
    append_cancel_left (names_in p.prefix) (names p) (names q)
    (sym (full_names p plain) ∙ sym (trimmed_names (full_bytes p)) ∙ ap names_in same ∙ trimmed_names (full_bytes q) ∙ full_names q other
    ∙ ap (λ bytes. names_in bytes ++ names q) (sym prefix))

-- ---- plain paths with the same names are equal

trimmed_open : (xs : List ℕ) (b : Bool) → is_collection xs ≡ false → (if b then without_slash xs else xs) ≡ xs
trimmed_open xs true is = ap (λ c. if c then take (length xs - 1) xs else xs) is
trimmed_open xs false is = refl

one_less : (xs : List ℕ) → take (length (xs ++ 47 ∷ []) - 1) (xs ++ 47 ∷ []) ≡ xs
one_less xs =
    let count : length (xs ++ 47 ∷ []) - 1 ≡ length xs = omega (arith, length_push xs 47) in
    ap (λ k. take k (xs ++ 47 ∷ [])) count ∙ take-append_seam xs (47 ∷ [])

-- more than one byte
long : (prefix : List ℕ) (x : ℕ) (xs : List ℕ) → nat_lt 1 (length ((prefix ++ x ∷ xs) ++ 47 ∷ [])) ≡ true
long prefix x xs =
    let one = length_push (prefix ++ x ∷ xs) 47 in
    let two = length-append prefix (x ∷ xs) in
    grind (arith, nat_tests, one, two)

trimmed_closed : (prefix : List ℕ) (x : ℕ) (xs : List ℕ) → trimmed ((prefix ++ x ∷ xs) ++ 47 ∷ []) ≡ prefix ++ x ∷ xs
trimmed_closed prefix x xs =
    let all = prefix ++ x ∷ xs in
    ap (λ b. if b then without_slash (all ++ 47 ∷ []) else all ++ 47 ∷ []) (long prefix x xs)
    ∙ ap (λ c. if c then take (length (all ++ 47 ∷ []) - 1) (all ++ 47 ∷ []) else all ++ 47 ∷ []) (closed_at all)
    ∙ one_less all

-- the slash at the end makes no difference
any_end : (prefix : List ℕ) (ns : Path) (c : Bool) → All IsName ns → trimmed (prefix ++ path_bytes ns c) ≡ trimmed (prefix ++ path_bytes ns true)
any_end prefix ns true all = refl
any_end prefix [] false all = refl
any_end prefix (n ∷ ns) false all =
    ap (λ xs. trimmed (prefix ++ xs)) (append-nil (joined (n ∷ ns)))
    ∙ trimmed_open (prefix ++ joined (n ∷ ns)) (nat_lt 1 (length (prefix ++ joined (n ∷ ns)))) (open_names prefix n ns all)
    ∙ sym (ap trimmed (sym (append_assoc prefix (joined (n ∷ ns)) (47 ∷ []))) ∙ trimmed_closed prefix 47 (n ++ joined ns))

end_of : (p : PathText) → IsPlain p → trimmed (full_bytes p) ≡ trimmed (p.prefix ++ path_bytes (names p) true)
end_of p plain = ap (λ bytes. trimmed (p.prefix ++ bytes)) plain.bytes_are ∙ any_end p.prefix (names p) plain.is_closed plain.are_names

pub names_equal : (p q : PathText) → p.prefix ≡ q.prefix → IsPlain p → IsPlain q → names p ≡ names q → are_equal p q ≡ true
names_equal p q prefix plain other same =
    (bytes_eq-Decides (trimmed (full_bytes p)) (trimmed (full_bytes q))).1
    (end_of p plain ∙ ap (λ bytes. trimmed (bytes ++ path_bytes (names p) true)) prefix ∙ ap (λ (ns : Path). trimmed (q.prefix ++ path_bytes ns true)) same ∙ sym (end_of q other))
