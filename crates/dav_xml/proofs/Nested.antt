-- The pieces of a tree are nested to that tree again.
use Rattle.std.proofs.Common.{◌≡◌, ℕ, zero, suc, ◌+◌, ◌<◌, ◌≤◌, Bool, true, false, cond, ◌&&◌, ◌==◌, leb, List, [], ◌∷◌, ◌++◌, length, Option, Some, None, is_some, bytes_eq, Result, Ok, Err, refl, sym, ap, ◌∙◌, append_assoc, arith}
use Rattle.std.proofs.lemmas.Bool.{lt-leb, eq-eqb, ne_eqb}
use Rattle.std.proofs.lemmas.List.{append-nil}
use Rattle.dav_xml.specs.declared.error.Fault.{Fault}
use Rattle.dav_xml.specs.declared.error.Fault.TheVariants.{Malformed, TooDeep}
use Rattle.dav_xml.specs.Read.{◌>>=◌}
use Rattle.dav_xml.specs.Token.{Markup, opens, empty, closes, content}
use Rattle.dav_core.specs.Element.{ElementTree, ElementTrees, element, text, no_trees, tree_then, tree_list, trees}
use Rattle.dav_xml.specs.Nesting.{Open, raw, ended, closed, with_text, text_after, steps, root_of, nested}
use Rattle.dav_xml.specs.Flat.{flat, flats, IsRaw, AreRaw}
use Rattle.dav_xml.specs.Bytes.{is_space}
use Rattle.dav_xml.specs.Spelling.{escaped}
use Rattle.std.specs.List.{list_all}
use Rattle.dav_xml.proofs.ElementLemmas.{tree_list_trees, trees_tree_list}

abbrev is_text_tree : ElementTree → Bool
is_text_tree (element name prefix namespace attributes children) = false
is_text_tree (text bytes) = true

-- a text is the last child
abbrev ends_text : List ElementTree → Bool
ends_text [] = false
ends_text (t ∷ []) = is_text_tree t
ends_text (t ∷ u ∷ us) = ends_text (u ∷ us)

ends_more : (cs : List ElementTree) (t : ElementTree) → ends_text (cs ++ t ∷ []) ≡ is_text_tree t
ends_more [] t = refl
ends_more (c ∷ []) t = refl
ends_more (c ∷ d ∷ ds) t = ends_more (d ∷ ds) t

after_new : (b : List ℕ) (c : ElementTree) (cs : List ElementTree) → ends_text (c ∷ cs) ≡ false → text_after b c cs ≡ c ∷ (cs ++ text b ∷ [])
after_new b (element name prefix namespace attributes children) [] e = refl
after_new b (text bytes) [] e = absurd cc
after_new b c (d ∷ ds) e = ap (λ (ts : List ElementTree). c ∷ ts) (after_new b d ds e)

with_text_new : (b : List ℕ) (cs : List ElementTree) → ends_text cs ≡ false → with_text b cs ≡ cs ++ text b ∷ []
with_text_new b [] e = refl
with_text_new b (c ∷ cs) e = after_new b c cs e

pub same_bytes : (bs : List ℕ) → bytes_eq bs bs ≡ true
same_bytes [] = refl
same_bytes (b ∷ bs) = rw (eq-eqb b b refl) (same_bytes bs)

-- an open element with its children so far
abbrev holding : List ℕ → List (List ℕ × List ℕ) → List ElementTree → ElementTree
holding name attributes cs = element name None None attributes (trees cs)

abbrev opened_by : Bool → Bool → ElementTree → Open → List Markup → Result Open Fault
opened_by second deep e s ts = (cond second (Err Malformed) (cond deep (Err TooDeep) (Ok (e ∷ s.0, s.1)))) >>= λ next. steps next ts

step_opens : (name : List ℕ) (attributes : List (List ℕ × List ℕ)) (es : List ElementTree) (root : Option ElementTree) (ts : List Markup) → length es < 64 → (length es == 0 && is_some root) ≡ false
    → steps (es, root) (opens name attributes ∷ ts) ≡ steps (holding name attributes [] ∷ es, root) ts
unfolding steps
step_opens name attributes es root ts lt e =
    ap (λ (t : Bool). opened_by t (leb 64 (length es)) (raw name attributes) (es, root) ts) e ∙ ap (λ (t : Bool). opened_by false t (raw name attributes) (es, root) ts) (lt-leb 64 (length es) lt)

step_empty : (name : List ℕ) (attributes : List (List ℕ × List ℕ)) (es : List ElementTree) (root : Option ElementTree) (ts : List Markup) → length es < 64 → (length es == 0 && is_some root) ≡ false
    → steps (es, root) (empty name attributes ∷ ts) ≡ steps (ended (holding name attributes []) (es, root)) ts
unfolding steps
step_empty name attributes es root ts lt e =
    ap (λ (t : Bool). ((cond t (Err Malformed) (cond (leb 64 (length es)) (Err TooDeep) (Ok (raw name attributes ∷ es, root)))) >>= closed name) >>= λ next. steps next ts) e
    ∙ ap (λ (t : Bool). ((cond t (Err TooDeep) (Ok (raw name attributes ∷ es, root))) >>= closed name) >>= λ next. steps next ts) (lt-leb 64 (length es) lt)
    ∙ ap (λ (t : Bool). cond t (Ok (ended (raw name attributes) (es, root))) (Err Malformed) >>= λ next. steps next ts) (same_bytes name)

step_closes : (name : List ℕ) (e : ElementTree) (attributes : List (List ℕ × List ℕ)) (children : ElementTrees) (es : List ElementTree) (root : Option ElementTree) (ts : List Markup)
    → steps (element name None None attributes children ∷ es, root) (closes name ∷ ts) ≡ steps (ended (element name None None attributes children) (es, root)) ts
unfolding steps
step_closes name e attributes children es root ts =
    ap (λ (t : Bool). cond t (Ok (ended (element name None None attributes children) (es, root))) (Err Malformed) >>= λ next. steps next ts) (same_bytes name)

step_text : (is_blank : Bool) (b : ℕ) (bs name : List ℕ) (attributes : List (List ℕ × List ℕ)) (cs es : List ElementTree) (root : Option ElementTree) (ts : List Markup) → ends_text cs ≡ false
    → steps (holding name attributes cs ∷ es, root) (content is_blank (b ∷ bs) ∷ ts) ≡ steps (holding name attributes (cs ++ text (b ∷ bs) ∷ []) ∷ es, root) ts
unfolding steps
step_text is_blank b bs name attributes cs es root ts e =
    ap (λ (us : List ElementTree). steps (element name None None attributes (trees us) ∷ es, root) ts) (ap (with_text (b ∷ bs)) (tree_list_trees cs) ∙ with_text_new (b ∷ bs) cs e)

ended_in : (t : ElementTree) (name : List ℕ) (attributes : List (List ℕ × List ℕ)) (cs es : List ElementTree) (root : Option ElementTree) (ts : List Markup)
    → steps (ended t (holding name attributes cs ∷ es, root)) ts ≡ steps (holding name attributes (cs ++ t ∷ []) ∷ es, root) ts
ended_in t name attributes cs es root ts = ap (λ (us : List ElementTree). steps (element name None None attributes (trees (us ++ t ∷ [])) ∷ es, root) ts) (tree_list_trees cs)

not_first : (n : ℕ) (b : Bool) → (suc n == 0 && b) ≡ false
not_first n b = ap (λ (t : Bool). t && b) (ne_eqb (suc n) 0 (λ e. omega arith))

around_children : (name : List ℕ) (attributes : List (List ℕ × List ℕ)) (children : ElementTrees) (es : List ElementTree) (root : Option ElementTree) (ts : List Markup) → length es < 64 → (length es == 0 && is_some root) ≡ false
    → steps (holding name attributes [] ∷ es, root) (flats children ++ (closes name ∷ ts)) ≡ steps (holding name attributes (tree_list children) ∷ es, root) (closes name ∷ ts)
    → steps (es, root) ((opens name attributes ∷ (flats children ++ closes name ∷ [])) ++ ts) ≡ steps (ended (element name None None attributes children) (es, root)) ts
around_children name attributes children es root ts lt e inner =
    step_opens name attributes es root ((flats children ++ closes name ∷ []) ++ ts) lt e
    ∙ ap (steps (holding name attributes [] ∷ es, root)) (append_assoc (flats children) (closes name ∷ []) ts)
    ∙ inner
    ∙ step_closes name (text []) attributes (trees (tree_list children)) es root ts
    ∙ ap (λ (us : ElementTrees). steps (ended (element name None None attributes us) (es, root)) ts) (trees_tree_list children)

around : (name : List ℕ) (attributes : List (List ℕ × List ℕ)) (children : ElementTrees) (es : List ElementTree) (root : Option ElementTree) (ts : List Markup) → length es < 64 → (length es == 0 && is_some root) ≡ false
    → steps (holding name attributes [] ∷ es, root) (flats children ++ (closes name ∷ ts)) ≡ steps (holding name attributes (tree_list children) ∷ es, root) (closes name ∷ ts)
    → steps (es, root) (flat (element name None None attributes children) ++ ts) ≡ steps (ended (element name None None attributes children) (es, root)) ts
around name attributes no_trees es root ts lt e inner = step_empty name attributes es root ts lt e
around name attributes (tree_then u us) es root ts lt e inner = around_children name attributes (tree_then u us) es root ts lt e inner

steps_flats : (n : ℕ) (us : ElementTrees) (texted : Bool) (name : List ℕ) (attributes : List (List ℕ × List ℕ)) (cs es : List ElementTree) (root : Option ElementTree) (ts : List Markup)
    → AreRaw n texted us → ends_text cs ≡ texted → suc (length es) + n ≤ 64
    → steps (holding name attributes cs ∷ es, root) (flats us ++ ts) ≡ steps (holding name attributes (cs ++ tree_list us) ∷ es, root) ts
steps_flats n no_trees texted name attributes cs es root ts h e le =
    ap (λ (xs : List ElementTree). steps (holding name attributes xs ∷ es, root) ts) (sym (append-nil cs))
steps_flats zero (tree_then (element m p s a c) us) texted name attributes cs es root ts h e le = absurd h.0
steps_flats (suc n) (tree_then (element m None None a c) us) texted name attributes cs es root ts h e le =
    let t = element m None None a c in
    let lt : length (holding name attributes cs ∷ es) < 64 = omega arith in
    let room : suc (length (holding name attributes cs ∷ es)) + n ≤ 64 = omega arith in
    ap (steps (holding name attributes cs ∷ es, root)) (append_assoc (flat t) (flats us) ts)
    ∙ around m a c (holding name attributes cs ∷ es) root (flats us ++ ts) lt (not_first (length es) (is_some root))
    (steps_flats n c false m a [] (holding name attributes cs ∷ es) root (closes m ∷ (flats us ++ ts)) h.0 refl room)
    ∙ ended_in t name attributes cs es root (flats us ++ ts)
    ∙ steps_flats (suc n) us false name attributes (cs ++ t ∷ []) es root ts h.1 (ends_more cs t) le
    ∙ ap (λ (xs : List ElementTree). steps (holding name attributes xs ∷ es, root) ts) (append_assoc cs (t ∷ []) (tree_list us))
steps_flats (suc n) (tree_then (element m None (Some q) a c) us) texted name attributes cs es root ts h e le = absurd h.0
steps_flats (suc n) (tree_then (element m (Some p) q a c) us) texted name attributes cs es root ts h e le = absurd h.0
steps_flats n (tree_then (text bytes) us) true name attributes cs es root ts h e le = absurd h
steps_flats n (tree_then (text []) us) false name attributes cs es root ts h e le = absurd h
steps_flats n (tree_then (text (b ∷ bs)) us) false name attributes cs es root ts h e le =
    step_text (list_all is_space (escaped false (b ∷ bs))) b bs name attributes cs es root (flats us ++ ts) e
    ∙ steps_flats n us true name attributes (cs ++ text (b ∷ bs) ∷ []) es root ts h (ends_more cs (text (b ∷ bs))) le
    ∙ ap (λ (xs : List ElementTree). steps (holding name attributes xs ∷ es, root) ts) (append_assoc cs (text (b ∷ bs) ∷ []) (tree_list us))

steps_flat : (n : ℕ) (t : ElementTree) → IsRaw n t → n ≤ 64 → steps ([], None) (flat t ++ []) ≡ steps (ended t ([], None)) []
steps_flat zero (element name prefix namespace attributes children) h le = absurd h
steps_flat zero (text bytes) h le = absurd h
steps_flat (suc n) (text bytes) h le = absurd h
steps_flat (suc n) (element name None (Some q) attributes children) h le = absurd h
steps_flat (suc n) (element name (Some p) q attributes children) h le = absurd h
steps_flat (suc n) (element name None None attributes children) h le =
    around name attributes children [] None [] (omega arith) refl (steps_flats n children false name attributes [] [] None (closes name ∷ []) h refl (omega arith))

end_of : (t : ElementTree) → (steps (ended t ([], None)) [] >>= root_of) ≡ Ok t
unfolding steps
end_of t = refl

pub nested_again : (t : ElementTree) → IsRaw 64 t → nested (flat t) ≡ Ok t
unfolding nested
nested_again t h =
    ap (λ (ts : List Markup). steps ([], None) ts >>= root_of) (sym (append-nil (flat t))) ∙ ap (λ (r : Result Open Fault). r >>= root_of) (steps_flat 64 t h (omega arith)) ∙ end_of t
