-- The turns of the loops over members.
use Rattle.std.proofs.Common.{◌≡◌, ◌+◌, ◌<◌, ◌++◌, ℕ, List, [], ◌∷◌, map, take, false, length, get_or, suc, take-suc, arith, refl, sym, ap, subst, ◌∙◌, append_assoc, append-nil}
use Rattle.std.proofs.lemmas.List.{map-append}
use Rattle.dav_core.specs.Element.{ElementTree, with_child}
use Rattle.dav_core.specs.Path.{PathText}
use Rattle.dav_engine.specs.Caller.{Caller}
use Rattle.dav_engine.specs.Folder.{child_of}
use Rattle.dav_engine.specs.Multistatus.{multistatus}
use Rattle.dav_engine.proofs.MultistatusLemmas.{child_more, one_mapped}
use Rattle.dav_server.specs.Server.{Server}
use Rattle.dav_access.specs.Rules.{Rules}
use Rattle.dav_seen.specs.Told.{way_response}
use Rattle.dav_seen.specs.Ways.{AreTold, IsMemberTold}

one_more : (i : ℕ) → i + 1 ≡ suc i
one_more i = omega arith

-- the paths up to this one
taken_more : (paths : List PathText) (i : ℕ) (p : PathText) → i < length paths → p ≡ get_or paths i p → take (i + 1) paths ≡ take i paths ++ p ∷ []
taken_more paths i p within at = ap (λ k. take k paths) (one_more i) ∙ take-suc paths i p within ∙ ap (λ q. take i paths ++ q ∷ []) (sym at)

-- one response more
pub way_turn : (paths : List PathText) (i : ℕ) (p : PathText) (old new child : ElementTree) → i < length paths → p ≡ get_or paths i p
    → old ≡ multistatus (map way_response (take i paths)) → child ≡ way_response p → new ≡ with_child old child
    → new ≡ multistatus (map way_response (take (i + 1) paths))
way_turn paths i p old new child within at so_far one added =
    child_more (multistatus []) (map way_response (take i paths)) child so_far added
    ∙ ap (λ t. multistatus (map way_response (take i paths) ++ t ∷ [])) one
    ∙ ap multistatus (one_mapped way_response (take i paths) p)
    ∙ ap (λ ps. multistatus (map way_response ps)) (sym (taken_more paths i p within at))

-- what is told of one member more
told_more : (rules : Rules) (s : Server) (bytes : List ℕ) (who : Caller) (p : PathText) (members : List (List ℕ)) (name : List ℕ) (told one : List ElementTree)
    → AreTold rules s bytes who p members told → IsMemberTold rules s bytes who (child_of p name false) one → AreTold rules s bytes who p (members ++ name ∷ []) (told ++ one)
told_more rules s bytes who p [] name told one none is =
    (one, [], is, refl, ap (λ ts. ts ++ one) none ∙ sym (append-nil one))
told_more rules s bytes who p (n ∷ members) name told one (first, others, member, more, told_is) is =
    (first, others ++ one, member, told_more rules s bytes who p members name others one more is, ap (λ ts. ts ++ one) told_is ∙ append_assoc first others one)

-- what is told after one turn more
pub told_turn : {A : Type 0} (f : A → List ℕ) (ms : List A) (i : ℕ) (d : A) (rules : Rules) (s t : Server) (bytes : List ℕ) (who : Caller) (p q : PathText)
    (olds more news : List ElementTree) → i < length ms → AreTold rules s bytes who p (map f (take i ms)) olds → t ≡ s → q ≡ child_of p (f (get_or ms i d)) false
    → IsMemberTold rules t bytes who q more → news ≡ olds ++ more → AreTold rules s bytes who p (map f (take (i + 1) ms)) news
told_turn f ms i d rules s t bytes who p q olds more news within so_far same at one all =
    let names_more : map f (take (i + 1) ms) ≡ map f (take i ms) ++ f (get_or ms i d) ∷ [] =
    ap (λ k. map f (take k ms)) (one_more i) ∙ ap (map f) (take-suc ms i d within) ∙ map-append f (take i ms) (get_or ms i d ∷ []) in
    let told : IsMemberTold rules s bytes who (child_of p (f (get_or ms i d)) false) more =
    subst (λ (u : Server). IsMemberTold rules u bytes who (child_of p (f (get_or ms i d)) false) more) same (subst (λ (x : PathText). IsMemberTold rules t bytes who x more) at one) in
    subst (λ (ns : List (List ℕ)). AreTold rules s bytes who p ns news) (sym names_more)
    (subst (λ (ts : List ElementTree). AreTold rules s bytes who p (map f (take i ms) ++ f (get_or ms i d) ∷ []) ts) (sym all)
    (told_more rules s bytes who p (map f (take i ms)) (f (get_or ms i d)) olds more so_far told))
