-- What one more piece does to the buffer of a path's names.
use Rattle.std.proofs.Common.{rules, ◌≡◌, ◌≢◌, ℕ, ◌+◌, ◌-◌, ◌<◌, ◌==◌, List, [], ◌∷◌, map, ◌++◌, length, get_or, take, drop, All, Bool, Some, None, position, unwrap_or, refl, sym, ◌∙◌, ap, subst, arith, inl, inr, ◌⊎◌, append_assoc, length-append}
use Rattle.std.specs.List.{position_or_len, slice_split}
use Rattle.percent_encoding.specs.Percent.{percent_decode}
use Rattle.std.proofs.lemmas.List.{append-nil, map-append, get_or_at, get_or-append_right, take_all, take_at, drop_at, length_push}
use Rattle.std.proofs.lemmas.List.Sums.{prefix_len-le-length}
use Rattle.std.proofs.lemmas.List.Elements.{All-get_or, All-weaker}
use Rattle.std.proofs.lemmas.Grind.{common_steps}
use Rattle.dav_core.specs.declared.errors.ParseError.{ParseError}
use Rattle.dav_core.specs.declared.errors.ParseError.TheVariants.{InvalidPath, PrefixMismatch, ForbiddenPath, Memory}
use Rattle.dav_core.specs.Path.{Path, parent_piece, IsName, IsBlank, joined}
use Rattle.dav_core.specs.Target.{Cancels, Leaves, IsRooted, IsRefused, pieces_of, before_query}
use Rattle.dav_core.specs.Buffer.{Kept, Refuses, IsRefusedBy, IsLastSlash}
use Rattle.dav_core.proofs.TargetLemmas.{Leaves-blank, Leaves-name, Leaves-parent, not_star}

-- where the last slash of a buffer is
no_other_place : (front back buf : List ℕ) (i : ℕ) → buf ≡ front ++ 47 ∷ back → All (λ b. b ≢ 47) back → i < length buf → get_or buf i 0 ≡ 47 → ((k : ℕ) → i < k → k < length buf → get_or buf k 0 ≢ 47) → (length front < i → ⊥) × (i < length front → ⊥)
no_other_place front back buf i e clean within here beyond =
    let len : length buf ≡ length front + length (47 ∷ back) = ap length e ∙ length-append front (47 ∷ back) in
    let at : get_or buf (length front) 0 ≡ 47 = ap (λ xs. get_or xs (length front) 0) e ∙ get_or_at front 47 back 0 (length front) refl in (
      λ more.
          let behind : i - length front - 1 < length back = omega (arith, len) in
          let back_at : get_or buf i 0 ≡ get_or (47 ∷ back) (i - length front) 0 = ap (λ xs. get_or xs i 0) e ∙ get_or-append_right front (47 ∷ back) (length front) i 0 refl (omega arith) in
          let step : get_or (47 ∷ back) (i - length front) 0 ≡ get_or back (i - length front - 1) 0 = grind (arith, common_steps) in
          All-get_or (λ b. b ≢ 47) back (i - length front - 1) 0 behind clean (sym step ∙ sym back_at ∙ here),
      λ less. beyond (length front) less (omega (arith, len)) at,
    )

pub last_place : (front back buf : List ℕ) (i : ℕ) → buf ≡ front ++ 47 ∷ back → All (λ b. b ≢ 47) back → i < length buf → get_or buf i 0 ≡ 47 → ((k : ℕ) → i < k → k < length buf → get_or buf k 0 ≢ 47) → i ≡ length front
last_place front back buf i e clean within here beyond =
    let h = no_other_place front back buf i e clean within here beyond in
    omega (arith, h.0, h.1)

-- there is a slash
pub some_place : (front back buf : List ℕ) → buf ≡ front ++ 47 ∷ back → (length front < length buf) × (get_or buf (length front) 0 ≡ 47)
some_place front back buf e = (
  omega (arith, ap length e, length-append front (47 ∷ back)),
  ap (λ xs. get_or xs (length front) 0) e ∙ get_or_at front 47 back 0 (length front) refl,
)

-- the first place, or the length where there is none
pub place_or_len : (p : ℕ → Bool) (xs : List ℕ) → unwrap_or (position p xs) (length xs) ≡ position_or_len p xs
place_or_len p xs = search (rules, prefix_len-le-length)

-- the front and the back of a buffer at a slash
pub back_of : (xs ys new : List ℕ) (n : ℕ) → new ≡ xs ++ 47 ∷ ys → n ≡ length xs → take (length new - (n + 1)) (drop (n + 1) new) ≡ ys
back_of xs ys new n e at =
    let e' : new ≡ (xs ++ 47 ∷ []) ++ ys = e ∙ sym (append_assoc xs (47 ∷ []) ys) in
    let len : length (xs ++ 47 ∷ []) ≡ n + 1 = length_push xs 47 ∙ ap (λ k. k + 1) (sym at) in
    let back : drop (n + 1) new ≡ ys = rw e' (drop_at (xs ++ 47 ∷ []) ys (n + 1) len) in
    rw back (take_all _ ys (omega (arith, ap length e', length-append (xs ++ 47 ∷ []) ys)))

pub front_of : (xs ys new : List ℕ) (n : ℕ) → new ≡ xs ++ 47 ∷ ys → n ≡ length xs → take n new ≡ xs
front_of xs ys new n e at = rw e (take_at xs (47 ∷ ys) n (sym at))

-- one more name
pub joined_push : (ns : Path) (n : List ℕ) → joined (ns ++ n ∷ []) ≡ joined ns ++ 47 ∷ n
joined_push [] n = append-nil (47 ∷ n)
joined_push (m ∷ ns) n =
    ap (λ xs. 47 ∷ (m ++ xs)) (joined_push ns n) ∙ sym (append_assoc (47 ∷ m) (joined ns) (47 ∷ n))

-- a list is empty, or has a last item
pub snoc_cases : {X : Type 0} (xs : List X) → (xs ≡ []) ⊎ ((init : List X) × (last : X) × (xs ≡ init ++ last ∷ []))
snoc_cases [] = inl refl
snoc_cases (x ∷ xs) =
    elim (snoc_cases xs) [
      | inl e ↦ inr ([], x, ap (λ ys. x ∷ ys) e)
      | inr h ↦ inr (x ∷ h.0, h.1, ap (λ ys. x ∷ ys) h.2)
    ]

-- the last of the names that are left
Leaves-last : (ps : List (List ℕ)) (ns : Path) (n : List ℕ) → Leaves ps (ns ++ n ∷ []) → IsName n
Leaves-last ps [] n h = h.3
Leaves-last ps (m ∷ ns) n h = Leaves-last h.1 ns n h.5

-- the buffer has a last name
pub record LastName (ps : List (List ℕ)) (buf : List ℕ) : Type 0 where
  pub init : Path
  pub name : List ℕ
  pub leaves : Leaves ps (init ++ name ∷ [])
  pub clean : All (λ b. b ≢ 47) name
  pub is : buf ≡ joined init ++ 47 ∷ name

pub Kept_cases : (ps : List (List ℕ)) (buf : List ℕ) → Kept ps buf → (Cancels ps × (buf ≡ [])) ⊎ LastName ps buf
Kept_cases ps buf (ns, leaves, is) =
    elim (snoc_cases ns) [
      | inl e ↦ inl (subst (Leaves ps) e leaves, is ∙ ap joined e)
      | inr (init, name, e) ↦
          let last : Leaves ps (init ++ name ∷ []) = subst (Leaves ps) e leaves in
          let is_name : IsName name = Leaves-last ps init name last in
          inr (record {
            init = init;
            name = name;
            leaves = last;
            clean = All-weaker (λ b. (b ≢ 0) × (b ≢ 47)) (λ b. b ≢ 47) (λ b h. h.1) name is_name.clean;
            is = is ∙ ap joined e ∙ joined_push init name;
          })
    ]

-- the buffer cut at its last slash has all names but the last
pub drops_last : (ps : List (List ℕ)) (buf : List ℕ) (i : ℕ) → IsLastSlash buf (Some i) → Kept ps buf → Kept (ps ++ parent_piece ∷ []) (take i buf)
drops_last ps buf i at kept =
    elim (Kept_cases ps buf kept) [
      | inl e ↦ let no : Some i ≡ None = at.none e.1 in cc
      | inr l ↦
          let same : Some i ≡ Some (length (joined l.init)) = at.last (joined l.init) l.name l.is l.clean in
          let place : i ≡ length (joined l.init) = cc in
          (l.init, Leaves-parent ps l.init l.name l.leaves, front_of (joined l.init) l.name buf i l.is place)
    ]

-- without a slash the pieces cancel
pub drops_none : (ps : List (List ℕ)) (buf : List ℕ) → IsLastSlash buf None → Kept ps buf → Cancels ps
drops_none ps buf at kept =
    elim (Kept_cases ps buf kept) [
      | inl e ↦ e.0
      | inr l ↦
          let no : None ≡ Some (length (joined l.init)) = at.last (joined l.init) l.name l.is l.clean in
          cc
    ]

-- a name after a slash is one more name
pub adds_name : (ps : List (List ℕ)) (buf p new : List ℕ) → new ≡ buf ++ 47 ∷ p → IsName p → Kept ps buf → Kept (ps ++ p ∷ []) new
adds_name ps buf p new e name k =
    (k.0 ++ p ∷ [], Leaves-name ps k.0 p k.1 name, e ∙ ap (λ xs. xs ++ 47 ∷ p) k.2 ∙ sym (joined_push k.0 p))

-- a blank piece that was cut off again changes nothing
pub adds_blank : (ps : List (List ℕ)) (buf p new : List ℕ) (n : ℕ) → new ≡ buf ++ 47 ∷ p → n ≡ length buf → IsBlank p → Kept ps buf → Kept (ps ++ p ∷ []) (take n new)
adds_blank ps buf p new n e at b k =
    (k.0, Leaves-blank ps k.0 p k.1 b, front_of buf p new n e at ∙ k.2)

-- a piece that is refused is why all the pieces are refused
pub Refuses_first : (ps rest : List (List ℕ)) (p : List ℕ) (e : ParseError) (buf : List ℕ) → Kept ps buf → Refuses ps p e → IsRefusedBy (ps ++ p ∷ rest) e
Refuses_first ps rest p InvalidPath buf k h = (ps, k.0, p, rest, k.1, h, refl)
Refuses_first ps rest p PrefixMismatch buf k h = h
Refuses_first ps rest p ForbiddenPath buf k h = (ps, rest, h.0, rw h.1 refl)
Refuses_first ps rest p Memory buf k h = tt

-- a piece of a text that is refused is why the pieces of the text are refused
pub refused_at : (src text : List ℕ) (before rest : List (List ℕ)) (p : List ℕ) (e : ParseError) (buf : List ℕ) → text ≡ before_query src → slice_split (λ b. b == 47) text ≡ before ++ p ∷ rest → Kept (map percent_decode before) buf → Refuses (map percent_decode before) (percent_decode p) e → IsRefusedBy (pieces_of src) e
refused_at src text before rest p e buf is split kept why =
    let pieces : pieces_of src ≡ map percent_decode before ++ percent_decode p ∷ map percent_decode rest = ap (λ t. map percent_decode (slice_split (λ b. b == 47) t)) (sym is) ∙ ap (map percent_decode) split ∙ map-append percent_decode before (p ∷ rest) in
    subst (λ ps. IsRefusedBy ps e) (sym pieces) (Refuses_first (map percent_decode before) (map percent_decode rest) (percent_decode p) e buf kept why)

-- all pieces of a text are kept
pub kept_at_end : (src text : List ℕ) (all : List (List ℕ)) (buf : List ℕ) → text ≡ before_query src → all ≡ slice_split (λ b. b == 47) text → Kept (map percent_decode all) buf → Kept (pieces_of src) buf
kept_at_end src text all buf is split kept =
    let pieces : map percent_decode all ≡ pieces_of src = ap (map percent_decode) split ∙ ap (λ t. map percent_decode (slice_split (λ b. b == 47) t)) is in
    subst (λ ps. Kept ps buf) pieces kept

-- why a text of a path is refused
pub refused : (src : List ℕ) (e : ParseError) → IsRooted src → IsRefusedBy (pieces_of src) e → IsRefused src e
refused src InvalidPath rooted h = (not_star src rooted.rooted.0 rooted.rooted.1, inr h)
refused src PrefixMismatch rooted h = h
refused src ForbiddenPath rooted h = (rooted, h)
refused src Memory rooted h = inr rooted
