-- No text is neither read nor refused.
use Rattle.std.proofs.Common.{◌≢◌, ℕ, true, false, List, [], ◌∷◌, ◌++◌, Contains, refl, sym, ap, subst, inl, inr, append_assoc}
use Rattle.std.proofs.lemmas.List.{append-nil}
use Rattle.std.proofs.lemmas.List.Elements.{All-weaker, All-contains_itself}
use Rattle.dav_core.specs.Laws.{ReadOrRefused}
use Rattle.dav_core.specs.Path.{Path, parent_piece, IsBlank, IsBad, IsName, path_bytes, star}
use Rattle.dav_core.specs.Target.{Leaves, Climbs, HasBadPiece, pieces_of, before_query, IsRooted, EndsInSlash, nothing}
use Rattle.dav_core.proofs.BufferLemmas.{snoc_cases}
use Rattle.dav_core.proofs.TargetLemmas.{Leaves-blank, Leaves-name, Leaves-parent}

-- a piece that isn't blank, isn't `..` and isn't bad is a name
other_name : (p : List ℕ) → ¬ IsBlank p → p ≢ parent_piece → ¬ IsBad p → IsName p
other_name p filled apart good = record {
  clean = All-weaker (Contains p) (λ b. (b ≢ 0) × (b ≢ 47)) (λ b at. (λ zero. good (b, inl zero, at), λ slash. good (b, inr slash, at))) p (All-contains_itself p);
  not_blank = filled;
  not_parent = apart;
}

-- the pieces leave no path, none of them is bad, and none climbs
abbrev LacksOutcome : List (List ℕ) → Type 0
LacksOutcome ps = ((ns : Path) → ¬ Leaves ps ns) × ¬ HasBadPiece ps × ¬ Climbs ps

-- that can't be, whatever the first of them leave
pieces_decide : (front rest : List (List ℕ)) (ns : Path) → Leaves front ns → ¬ LacksOutcome (front ++ rest)
pieces_decide front [] ns leaves lacks =
    lacks.0 ns (subst (λ (ps : List (List ℕ)). Leaves ps ns) (sym (append-nil front)) leaves)
pieces_decide front (p ∷ rest) ns leaves lacks =
    let on : (ms : Path) → ¬ Leaves (front ++ p ∷ []) ms = λ ms more. pieces_decide (front ++ p ∷ []) rest ms more (subst LacksOutcome (sym (append_assoc front (p ∷ []) rest)) lacks) in
    let filled : ¬ IsBlank p = λ is. on ns (Leaves-blank front ns p leaves is) in
    let apart : p ≢ parent_piece = λ is.
    elim (snoc_cases ns) [
      | inl none ↦ lacks.2 (front, rest, subst (Leaves front) none leaves, ap (λ (q : List ℕ). front ++ q ∷ rest) is)
      | inr (init, last, same) ↦
          on init (subst (λ (q : List ℕ). Leaves (front ++ q ∷ []) init) (sym is) (Leaves-parent front init last (subst (Leaves front) same leaves)))
    ] in
    let good : ¬ IsBad p = λ bad. lacks.1 (front, ns, p, rest, leaves, bad, refl) in
    on (ns ++ p ∷ []) (Leaves-name front ns p leaves (other_name p filled apart good))

pub read_or_refused : ReadOrRefused
read_or_refused src unread valid allowed =
    let apart : src ≢ star = λ is. unread star (inl (is, refl)) in
    let unrooted : ¬ IsRooted src = λ rooted.
    let unleft : (ns : Path) → ¬ Leaves (pieces_of src) ns = λ ns leaves.
    let open_end : ¬ EndsInSlash (before_query src) = λ slash. unread (path_bytes ns true) (inr (ns, true, record { rooted = rooted; leaves = leaves; closed_if = slash }, refl)) in
    unread (path_bytes ns false) (inr (ns, false, record { rooted = rooted; leaves = leaves; closed_if = open_end }, refl)) in
    pieces_decide [] (pieces_of src) [] nothing (unleft, λ bad. valid (apart, inr bad), λ climbs. allowed (rooted, climbs)) in
    valid (apart, inl unrooted)
