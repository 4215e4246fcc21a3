-- A path of names that is cut after a prefix.
use Rattle.std.proofs.Common.{◌≡◌, ◌≢◌, ℕ, Bool, true, false, List, [], ◌∷◌, ◌++◌, All, refl, sym, ap, subst, ◌∙◌, append_assoc}
use Rattle.std.proofs.lemmas.List.{append-nil}
use Rattle.std.proofs.lemmas.List.Elements.{All-head, All-tail, All-cons, All-nil}
use Rattle.dav_core.specs.Path.{Path, PathText, IsName, joined, path_bytes, names_of, IsCut, at_start, at_slash, at_end}
use Rattle.dav_core.specs.Laws.{CutsAtNames, CutKeepsNames}
use Rattle.dav_core.proofs.TargetLemmas.{ending, names_kept}

-- ---- after names

joined-append : (ps ns : Path) → joined (ps ++ ns) ≡ joined ps ++ joined ns
joined-append [] ns = refl
joined-append (p ∷ ps) ns = ap (λ xs. (47 ∷ p) ++ xs) (joined-append ps ns) ∙ sym (append_assoc (47 ∷ p) (joined ps) (joined ns))

rest_of : (p : List ℕ) (ns : Path) (closed : Bool) → p ≢ [] → IsCut p (p ++ (joined ns ++ ending closed)) (record { prefix = p; bytes = path_bytes ns closed })
rest_of p [] true some = at_slash refl refl
rest_of p [] false some = at_end some (append-nil p) refl
rest_of p (n ∷ ns) closed some = at_slash refl refl

pub cuts_at_names : CutsAtNames
cuts_at_names [] ns closed = at_start refl refl
cuts_at_names (p ∷ ps) ns closed =
    let whole : path_bytes (p ∷ (ps ++ ns)) closed ≡ joined (p ∷ ps) ++ (joined ns ++ ending closed) = ap (λ xs. xs ++ ending closed) (joined-append (p ∷ ps) ns) ∙ append_assoc (joined (p ∷ ps)) (joined ns) (ending closed) in
    subst (λ xs. IsCut (joined (p ∷ ps)) xs (record { prefix = joined (p ∷ ps); bytes = path_bytes ns closed })) (sym whole)
    (rest_of (joined (p ∷ ps)) ns closed (λ e. cc))

-- ---- after any prefix

-- a text that begins with a name, and with bytes that a slash follows: the bytes begin with the name
past_name : (n t p bs : List ℕ) → All (λ b. (b ≢ 0) × (b ≢ 47)) n → n ++ t ≡ p ++ 47 ∷ bs → (q : List ℕ) × (p ≡ n ++ q) × (t ≡ q ++ 47 ∷ bs)
past_name [] t p bs clean e = (p, refl, e)
past_name (x ∷ n) t [] bs clean e =
    let same : x ≡ 47 = cc in
    absurd ((All-head (λ b. (b ≢ 0) × (b ≢ 47)) x n clean).1 same)
past_name (x ∷ n) t (y ∷ p) bs clean e =
    let head : x ≡ y = cc in
    let tail : n ++ t ≡ p ++ 47 ∷ bs = cc in
    let (q, front, rest) = past_name n t p bs (All-tail (λ b. (b ≢ 0) × (b ≢ 47)) x n clean) tail in
    (q, λ i. sym head i ∷ front i, rest)

-- names that are cut before a slash are cut between two names
record Parted (ns : Path) (closed : Bool) (p bs : List ℕ) : Type 0 where
  front : Path
  back : Path
  all : ns ≡ front ++ back
  is : p ≡ joined front
  rest : 47 ∷ bs ≡ path_bytes back closed

bare_end : (closed : Bool) (bs : List ℕ) → ending closed ≡ 47 ∷ bs → 47 ∷ bs ≡ path_bytes [] closed
bare_end true bs e = sym e
bare_end false bs e = cc

no_more : (closed : Bool) (b : ℕ) (p bs : List ℕ) → ending closed ≡ b ∷ (p ++ 47 ∷ bs) → ⊥
no_more true b [] bs e = cc
no_more true b (c ∷ p) bs e = cc
no_more false b p bs e = cc

parted_more : (n : List ℕ) (ns : Path) (closed : Bool) (b : ℕ) (p q bs : List ℕ) → 47 ≡ b → p ≡ n ++ q → Parted ns closed q bs → Parted (n ∷ ns) closed (b ∷ p) bs
parted_more n ns closed b p q bs slash begins more = record {
  front = n ∷ more.front;
  back = more.back;
  all = ap (λ (ms : Path). n ∷ ms) more.all;
  is = (λ i. sym slash i ∷ begins i) ∙ ap (λ xs. 47 ∷ (n ++ xs)) more.is;
  rest = more.rest;
}

parted : (ns : Path) (closed : Bool) (p bs : List ℕ) → All IsName ns → joined ns ++ ending closed ≡ p ++ 47 ∷ bs → Parted ns closed p bs
parted [] closed [] bs names e = record { front = []; back = []; all = refl; is = refl; rest = bare_end closed bs e }
parted (n ∷ ns) closed [] bs names e = record { front = []; back = n ∷ ns; all = refl; is = refl; rest = sym e }
parted [] closed (b ∷ p) bs names e = absurd (no_more closed b p bs e)
parted (n ∷ ns) closed (b ∷ p) bs names e =
    let slash : 47 ≡ b = cc in
    let tail : (n ++ joined ns) ++ ending closed ≡ p ++ 47 ∷ bs = cc in
    let (q, front, rest) = past_name n (joined ns ++ ending closed) p bs (All-head IsName n ns names).clean (sym (append_assoc n (joined ns) (ending closed)) ∙ tail) in
    parted_more n ns closed b p q bs slash front (parted ns closed q bs (All-tail IsName n ns names) rest)

front_all : (ps ns : Path) → All IsName (ps ++ ns) → All IsName ps
front_all [] ns all = All-nil IsName
front_all (p ∷ ps) ns all = All-cons IsName p ps (All-head IsName p (ps ++ ns) all) (front_all ps ns (All-tail IsName p (ps ++ ns) all))

-- the names in joined names
names_joined : (ps : Path) → All IsName ps → names_of (joined ps) ≡ ps
names_joined [] names = refl
names_joined (p ∷ ps) names = ap names_of (sym (append-nil (joined (p ∷ ps)))) ∙ names_kept (p ∷ ps) false names

abbrev CutBetween : Path → List ℕ → PathText → Type 0
CutBetween names prefix cut = (ns : Path) × (end : Bool) × (names ≡ names_of prefix ++ ns) × (cut.bytes ≡ path_bytes ns end)

cut_bytes : (p bytes : List ℕ) (cut : PathText) → cut ≡ record { prefix = p; bytes = bytes } → cut.bytes ≡ bytes
cut_bytes p bytes cut h = ap (λ (t : PathText). t.bytes) h

-- a path of names as its names and what comes after the last
ended : (names : Path) (closed : Bool) → (end : Bool) × (path_bytes names closed ≡ joined names ++ ending end)
ended [] closed = (true, refl)
ended (n ∷ ns) closed = (closed, refl)

pub cut_keeps_names : CutKeepsNames
cut_keeps_names names closed prefix cut are (at_start empty is) =
    (names, closed, ap (λ p. names_of p ++ names) (sym empty), cut_bytes [] (path_bytes names closed) cut is)
cut_keeps_names names closed prefix cut are (at_slash {rest} whole is) =
    let (end, path) = ended names closed in
    let parts : Parted names end prefix rest = parted names end prefix rest are (sym path ∙ whole) in
    let front : names_of prefix ≡ parts.front = ap names_of parts.is ∙ names_joined parts.front (front_all parts.front parts.back (subst (All IsName) parts.all are)) in (
      parts.back,
      end,
      parts.all ∙ ap (λ (x : Path). x ++ parts.back) (sym front),
      cut_bytes prefix (47 ∷ rest) cut is ∙ parts.rest,
    )
cut_keeps_names names closed prefix cut are (at_end some whole is) =
    ([], false, sym (append-nil (names_of prefix) ∙ ap names_of (sym whole) ∙ names_kept names closed are), cut_bytes prefix (47 ∷ []) cut is)
