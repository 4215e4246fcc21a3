-- What pieces leave, that a text is read in one way, and that a path keeps its names.
use Rattle.std.proofs.Common.{◌≡◌, ◌≢◌, ℕ, ◌==◌, Bool, true, false, List, [], ◌∷◌, ◌++◌, All, refl, sym, ◌∙◌, ap, subst, arith, inl, inr, ◌⊎◌, append_assoc, if◌then◌else◌}
use Rattle.std.proofs.lemmas.List.{append-nil}
use Rattle.std.proofs.lemmas.Bool.Decides.{nat_tests}
use Rattle.std.proofs.lemmas.List.Elements.{All-weaker, All-nil, All-cons, All-head, All-tail, All-contains}
use Rattle.std.specs.List.{filter, slice_split}
use Rattle.std.proofs.lemmas.List.Splits.{slice_split_at, slice_split_none}
use Rattle.dav_core.specs.declared.errors.ParseError.TheVariants.{InvalidPath, ForbiddenPath}
use Rattle.dav_core.specs.Path.{Path, parent_piece, IsBlank, IsBad, IsName, joined, path_bytes, star, is_nonempty, names_of}
use Rattle.dav_core.specs.Target.{Cancels, Leaves, Climbs, HasBadPiece, pieces_of, before_query, IsRooted, IsClosed, Reads, IsRefused, nothing, blank, pair}

-- ---- one more piece

-- two lists that cancel cancel together
pub Cancels-append : {xs ys : List (List ℕ)} → Cancels xs → Cancels ys → Cancels (xs ++ ys)
Cancels-append nothing rest = rest
Cancels-append (blank b cs) rest = blank b (Cancels-append cs rest)
Cancels-append {ys = ys} (pair {n = n} {inside = inside} {after = after} name cs ds) rest =
    rw append_assoc (pair {n = n} {inside = inside} {after = after ++ ys} name cs (Cancels-append ds rest))

-- pieces that cancel change nothing of what is left
pub Leaves-append : (ps qs : List (List ℕ)) (ns : Path) → Leaves ps ns → Cancels qs → Leaves (ps ++ qs) ns
Leaves-append ps qs [] h cs = Cancels-append h cs
Leaves-append ps qs (n ∷ ns) h cs =
    (h.0, h.1 ++ qs, h.2, h.3, ap (λ xs. xs ++ qs) h.4 ∙ append_assoc h.0 (n ∷ h.1) qs, Leaves-append h.1 qs ns h.5 cs)

-- a blank piece changes nothing
pub Leaves-blank : (ps : List (List ℕ)) (ns : Path) (p : List ℕ) → Leaves ps ns → IsBlank p → Leaves (ps ++ p ∷ []) ns
Leaves-blank ps ns p h b = Leaves-append ps (p ∷ []) ns h (blank b nothing)

-- a name is left
pub Leaves-name : (ps : List (List ℕ)) (ns : Path) (n : List ℕ) → Leaves ps ns → IsName n → Leaves (ps ++ n ∷ []) (ns ++ n ∷ [])
Leaves-name ps [] n h name = (ps, [], h, name, refl, nothing)
Leaves-name ps (m ∷ ns) n h name =
    (h.0, h.1 ++ n ∷ [], h.2, h.3, ap (λ xs. xs ++ n ∷ []) h.4 ∙ append_assoc h.0 (m ∷ h.1) (n ∷ []), Leaves-name h.1 ns n h.5 name)

-- `..` removes the last name
pub Leaves-parent : (ps : List (List ℕ)) (ns : Path) (n : List ℕ) → Leaves ps (ns ++ n ∷ []) → Leaves (ps ++ parent_piece ∷ []) ns
Leaves-parent ps [] n h =
    let cs : Cancels (h.0 ++ n ∷ (h.1 ++ parent_piece ∷ [])) = Cancels-append h.2 (pair h.3 h.5 nothing) in
    rw (h.4, append_assoc) cs
Leaves-parent ps (m ∷ ns) n h =
    (h.0, h.1 ++ parent_piece ∷ [], h.2, h.3, ap (λ xs. xs ++ parent_piece ∷ []) h.4 ∙ append_assoc h.0 (m ∷ h.1) (parent_piece ∷ []), Leaves-parent h.1 ns n h.5)

-- what is left is names
pub Leaves-names : (ps : List (List ℕ)) (ns : Path) → Leaves ps ns → All IsName ns
Leaves-names ps [] h = All-nil IsName
Leaves-names ps (n ∷ ns) h = All-cons IsName n ns h.3 (Leaves-names h.1 ns h.5)

-- ---- kinds of pieces exclude each other

-- a byte that a name may hold
abbrev IsCleanByte : ℕ → Type 0
IsCleanByte b = (b ≢ 0) × (b ≢ 47)

clean_no_bad : (p : List ℕ) → All IsCleanByte p → ¬ IsBad p
clean_no_bad p clean (b, barred, at) =
    let h : IsCleanByte b = All-contains IsCleanByte p b clean at in
    elim barred [ inl e ↦ h.0 e | inr e ↦ h.1 e ]

dot_clean : IsCleanByte 46
dot_clean = (omega arith, omega arith)

pub blank_no_parent : ¬ IsBlank parent_piece
blank_no_parent (inl e) = cc
blank_no_parent (inr e) = cc

blank_no_bad : (p : List ℕ) → IsBlank p → ¬ IsBad p
blank_no_bad p (inl e) bad = clean_no_bad [] (All-nil IsCleanByte) (subst IsBad e bad)
blank_no_bad p (inr e) bad =
    clean_no_bad (46 ∷ []) (All-cons IsCleanByte 46 [] dot_clean (All-nil IsCleanByte)) (subst IsBad e bad)

parent_no_bad : (p : List ℕ) → p ≡ parent_piece → ¬ IsBad p
parent_no_bad p e bad =
    clean_no_bad parent_piece (All-cons IsCleanByte 46 (46 ∷ []) dot_clean (All-cons IsCleanByte 46 [] dot_clean (All-nil IsCleanByte))) (subst IsBad e bad)

-- ---- the pieces read from left to right, with the names so far on a stack

data Run : Path → List (List ℕ) → Path → Type 0 where
  ends : {stack : Path} → Run stack [] stack
  skips : {stack out : Path} {ps : List (List ℕ)} {p : List ℕ} → IsBlank p → Run stack ps out → Run stack (p ∷ ps) out
  pushes : {stack out : Path} {ps : List (List ℕ)} {n : List ℕ} → IsName n → Run (n ∷ stack) ps out → Run stack (n ∷ ps) out
  pops : {stack out : Path} {ps : List (List ℕ)} {n p : List ℕ} → p ≡ parent_piece → Run stack ps out → Run (n ∷ stack) (p ∷ ps) out

-- a name goes onto the stack
push_back : {stack out : Path} {ps : List (List ℕ)} {n : List ℕ} → IsName n → Run stack (n ∷ ps) out → Run (n ∷ stack) ps out
push_back name (skips b r) = absurd (name.not_blank b)
push_back name (pushes x r) = r
push_back name (pops e r) = absurd (name.not_parent e)

-- `..` takes one off the stack
pop_back : {stack out : Path} {ps : List (List ℕ)} {n p : List ℕ} → p ≡ parent_piece → Run (n ∷ stack) (p ∷ ps) out → Run stack ps out
pop_back e (skips b r) = absurd (blank_no_parent (subst IsBlank e b))
pop_back e (pushes x r) = absurd (x.not_parent e)
pop_back e (pops f r) = r

-- and there must be one
no_pop : {out : Path} {ps : List (List ℕ)} {p : List ℕ} → p ≡ parent_piece → ¬ Run [] (p ∷ ps) out
no_pop e (skips b r) = blank_no_parent (subst IsBlank e b)
no_pop e (pushes x r) = x.not_parent e

-- a bad piece stops it
no_bad : {stack out : Path} {ps : List (List ℕ)} {p : List ℕ} → IsBad p → ¬ Run stack (p ∷ ps) out
no_bad bad (skips b r) = blank_no_bad _ b bad
no_bad bad (pushes x r) = clean_no_bad _ x.clean bad
no_bad bad (pops e r) = parent_no_bad _ e bad

-- pieces that cancel can be put before a run, and taken off it
Cancels-run : {ps rest : List (List ℕ)} {stack out : Path} → Cancels ps → Run stack rest out → Run stack (ps ++ rest) out
Cancels-run nothing r = r
Cancels-run (blank b cs) r = skips b (Cancels-run cs r)
Cancels-run (pair name cs ds) r =
    rw append_assoc (pushes name (Cancels-run cs (pops refl (Cancels-run ds r))))

Cancels-strip : {ps rest : List (List ℕ)} {stack out : Path} → Cancels ps → Run stack (ps ++ rest) out → Run stack rest out
Cancels-strip nothing r = r
Cancels-strip (blank b cs) (skips x r) = Cancels-strip cs r
Cancels-strip (blank b cs) (pushes x r) = absurd (x.not_blank b)
Cancels-strip (blank b cs) (pops x r) = absurd (blank_no_parent (subst IsBlank x b))
Cancels-strip (pair name cs ds) r =
    Cancels-strip ds (pop_back refl (Cancels-strip cs (push_back name (rw append_assoc at r))))

-- names put onto a stack one by one
rev_onto : Path → Path → Path
rev_onto [] stack = stack
rev_onto (n ∷ ns) stack = rev_onto ns (n ∷ stack)

rev_back : (ns stack more : Path) → rev_onto (rev_onto ns stack) more ≡ rev_onto stack (ns ++ more)
unfolding rev_onto
rev_back [] stack more = refl
rev_back (n ∷ ns) stack more = rev_back ns (n ∷ stack) more

-- and back
rev_one : (a b : Path) → rev_onto a [] ≡ rev_onto b [] → a ≡ b
unfolding rev_onto
rev_one a b e =
    sym (append-nil a) ∙ sym (rev_back a [] []) ∙ ap (λ s. rev_onto s []) e ∙ rev_back b [] []
    ∙ append-nil b

-- pieces that leave names run to them
Leaves-run : (ps : List (List ℕ)) (ns stack : Path) → Leaves ps ns → Run stack ps (rev_onto ns stack)
unfolding rev_onto
Leaves-run ps [] stack h = subst (λ qs. Run stack qs stack) (append-nil ps) (Cancels-run h ends)
Leaves-run ps (n ∷ ns) stack h =
    rw h.4 (Cancels-run h.2 (pushes h.3 (Leaves-run h.1 ns (n ∷ stack) h.5)))

Leaves-strip : (ps : List (List ℕ)) (ns stack : Path) (rest : List (List ℕ)) (out : Path) → Leaves ps ns → Run stack (ps ++ rest) out → Run (rev_onto ns stack) rest out
unfolding rev_onto
Leaves-strip ps [] stack rest out h r = Cancels-strip h r
Leaves-strip ps (n ∷ ns) stack rest out h r =
    Leaves-strip h.1 ns (n ∷ stack) rest out h.5 (push_back h.3 (Cancels-strip h.2 (rw (h.4, append_assoc) at r)))

ends_one : {stack out : Path} → Run stack [] out → stack ≡ out
ends_one ends = refl

-- ---- one reading of the pieces

pub Leaves-one : (ps : List (List ℕ)) (a b : Path) → Leaves ps a → Leaves ps b → a ≡ b
Leaves-one ps a b h k =
    rev_one a b (ends_one (Leaves-strip ps a [] [] _ h (subst (λ qs. Run [] qs (rev_onto b [])) (sym (append-nil ps)) (Leaves-run ps b [] k))))

pub Leaves-allowed : (ps : List (List ℕ)) (a : Path) → Leaves ps a → ¬ Climbs ps
Leaves-allowed ps a h (front, back, cancels, e) =
    no_pop refl (Cancels-strip cancels (subst (λ qs. Run [] qs (rev_onto a [])) e (Leaves-run ps a [] h)))

pub Leaves-valid : (ps : List (List ℕ)) (a : Path) → Leaves ps a → ¬ HasBadPiece ps
Leaves-valid ps a h (front, names, bad, back, leaves, is_bad, e) =
    no_bad is_bad (Leaves-strip front names [] (bad ∷ back) _ leaves (subst (λ qs. Run [] qs (rev_onto a [])) e (Leaves-run ps a [] h)))

-- of two ways to cut a list at an element one cuts earlier, or they are the same
abbrev Cuts : List (List ℕ) → List ℕ → List (List ℕ) → List ℕ → Type 0
Cuts xs x ys y =
    (x ≡ y) ⊎ (((m : List (List ℕ)) × (ys ≡ xs ++ x ∷ m)) ⊎ ((m : List (List ℕ)) × (xs ≡ ys ++ y ∷ m)))

cuts : (xs ys : List (List ℕ)) (x y : List ℕ) (us vs : List (List ℕ)) → xs ++ x ∷ us ≡ ys ++ y ∷ vs → Cuts xs x ys y
cuts [] [] x y us vs e = inl (cc)
cuts [] (z ∷ ys) x y us vs e = inr (inl (ys, cc))
cuts (z ∷ xs) [] x y us vs e = inr (inr (xs, cc))
cuts (z ∷ xs) (w ∷ ys) x y us vs e =
    let same : z ≡ w = cc in
    let rest : xs ++ x ∷ us ≡ ys ++ y ∷ vs = cc in
    elim (cuts xs ys x y us vs rest) [
      | inl h ↦ inl h
      | inr h ↦ elim h [ inl p ↦ inr (inl (p.0, cc)) | inr p ↦ inr (inr (p.0, cc)) ]
    ]

pub Climbs-valid : (ps : List (List ℕ)) → Climbs ps → ¬ HasBadPiece ps
Climbs-valid ps (front, back, cancels, e) (first, names, bad, rest, leaves, is_bad, f) =
    elim (cuts front first parent_piece bad back rest (sym e ∙ f)) [
      | inl h ↦ parent_no_bad bad (sym h) is_bad
      | inr h ↦ elim h [
        | inl p ↦ Leaves-allowed first names leaves (front, p.0, cancels, p.1)
        | inr p ↦ Leaves-valid front [] cancels (first, names, bad, p.0, leaves, is_bad, p.1)
      ]
    ]

-- ---- one reading of a text

-- a text of a path isn't the star
pub not_star : (src rest : List ℕ) → src ≡ 47 ∷ rest → src ≢ star
not_star src rest e s = cc

rooted_not_star : (src : List ℕ) → IsRooted src → src ≢ star
rooted_not_star src rooted = not_star src rooted.rooted.0 rooted.rooted.1

closed_one : (text : List ℕ) (a b : Bool) → IsClosed text a → IsClosed text b → a ≡ b
closed_one text true true h k = refl
closed_one text true false h k = absurd (k h)
closed_one text false true h k = absurd (h k)
closed_one text false false h k = refl

-- A text is read as one path at most.
pub Reads-one : (src a b : List ℕ) → Reads src a → Reads src b → a ≡ b
Reads-one src a b (inl h) (inl k) = h.1 ∙ sym k.1
Reads-one src a b (inl h) (inr k) = absurd (rooted_not_star src k.2.rooted h.0)
Reads-one src a b (inr h) (inl k) = absurd (rooted_not_star src h.2.rooted k.0)
Reads-one src a b (inr (ns, c, h, e)) (inr (ms, d, k, f)) =
    let names : ns ≡ ms = Leaves-one (pieces_of src) ns ms h.leaves k.leaves in
    let closed : c ≡ d = closed_one (before_query src) c d h.closed_if k.closed_if in
    e ∙ ap (λ xs. path_bytes xs c) names ∙ ap (path_bytes ms) closed ∙ sym f

-- A text that is read is not refused as invalid,
pub Reads-valid : (src a : List ℕ) → Reads src a → ¬ (IsRefused src InvalidPath)
Reads-valid src a (inl h) (no_star, why) = no_star h.0
Reads-valid src a (inr (ns, c, h, e)) (no_star, inl why) = why h.rooted
Reads-valid src a (inr (ns, c, h, e)) (no_star, inr why) =
    Leaves-valid (pieces_of src) ns h.leaves why

-- and not as forbidden.
pub Reads-allowed : (src a : List ℕ) → Reads src a → ¬ (IsRefused src ForbiddenPath)
Reads-allowed src a (inl h) why = rooted_not_star src why.0 h.0
Reads-allowed src a (inr (ns, c, h, e)) why = Leaves-allowed (pieces_of src) ns h.leaves why.1

-- What is refused as invalid is not refused as forbidden.
pub refused_once : (src : List ℕ) → IsRefused src InvalidPath → ¬ (IsRefused src ForbiddenPath)
refused_once src (no_star, inl why) forbidden = why forbidden.0
refused_once src (no_star, inr why) forbidden =
    Climbs-valid (pieces_of src) forbidden.1 why

-- ---- a path keeps its names

-- what comes after the last name
abbrev pub ending : Bool → List ℕ
ending closed = if closed then 47 ∷ [] else []

-- and the pieces there
abbrev pub last_pieces : Bool → List (List ℕ)
last_pieces closed = if closed then [] ∷ [] else []

-- there is no slash in it
pub record HasNoSlash (p : List ℕ) : Type 0 where
  pub no_slash : All (λ b. (b == 47) ≡ false) p

-- texts without slashes are the pieces of the path that they make
pub split_joined : (x : List ℕ) (ms : List (List ℕ)) (closed : Bool) → HasNoSlash x → All HasNoSlash ms → slice_split (λ b. b == 47) (x ++ (joined ms ++ ending closed)) ≡ x ∷ (ms ++ last_pieces closed)
split_joined x [] true h hs = slice_split_at (λ b. b == 47) x 47 [] h.no_slash refl
split_joined x [] false h hs = rw (append-nil x) (slice_split_none (λ b. b == 47) x h.no_slash)
split_joined x (m ∷ ms) closed h hs =
    let rest = split_joined m ms closed (All-head HasNoSlash m ms hs) (All-tail HasNoSlash m ms hs) in
    let cut = slice_split_at (λ b. b == 47) x 47 (m ++ (joined ms ++ ending closed)) h.no_slash refl in
    rw append_assoc (cut ∙ ap (λ ps. x ∷ ps) rest)

-- there is no slash in a name
pub name_no_slash : (n : List ℕ) → IsName n → HasNoSlash n
name_no_slash n name = record {
  no_slash = All-weaker IsCleanByte (λ b. (b == 47) ≡ false) (λ b h. grind (arith, nat_tests, h)) n name.clean;
}

names_no_slash : (ns : Path) → All IsName ns → All HasNoSlash ns
names_no_slash ns names = All-weaker IsName HasNoSlash name_no_slash ns names

keep_name : (n : List ℕ) (ns : List (List ℕ)) → IsName n → filter is_nonempty (n ∷ ns) ≡ n ∷ filter is_nonempty ns
keep_name [] ns name = absurd (name.not_blank (inl refl))
keep_name (b ∷ n) ns name = refl

keep_names : (ns : Path) (closed : Bool) → All IsName ns → filter is_nonempty (ns ++ last_pieces closed) ≡ ns
keep_names [] true names = refl
keep_names [] false names = refl
keep_names (n ∷ ns) closed names =
    keep_name n (ns ++ last_pieces closed) (All-head IsName n ns names)
    ∙ ap (λ ms. n ∷ ms) (keep_names ns closed (All-tail IsName n ns names))

-- The names in the bytes of a path are its names.
pub names_kept : (ns : Path) (closed : Bool) → All IsName ns → names_of (path_bytes ns closed) ≡ ns
names_kept [] closed names = refl
names_kept (n ∷ ns) closed names =
    let no_slash = names_no_slash (n ∷ ns) names in
    let split = split_joined n ns closed (All-head HasNoSlash n ns no_slash) (All-tail HasNoSlash n ns no_slash) in
    ap (λ xs. filter is_nonempty (slice_split (λ b. b == 47) xs)) (append_assoc n (joined ns) (ending closed))
    ∙ ap (filter is_nonempty) split ∙ keep_names (n ∷ ns) closed names

-- The names of a path that was read are names.
pub Reads-names : (src a : List ℕ) → Reads src a → All IsName (names_of a)
Reads-names src a (inl h) = rw h.1 (All-nil IsName)
Reads-names src a (inr (ns, c, h, e)) =
    let names = Leaves-names (pieces_of src) ns h.leaves in
    rw (e, names_kept ns c names) names
