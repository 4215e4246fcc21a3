-- Trees that are nested have at most 64 levels, no empty text, and no text behind another.
use Rattle.std.proofs.Common.{◌≡◌, ℕ, zero, suc, ◌+◌, ◌<◌, Bool, true, false, cond, ◌&&◌, ◌==◌, leb, List, [], ◌∷◌, ◌++◌, length, bytes_eq, Option, Some, None, is_some, Result, Ok, Err, refl, sym, ap, subst, arith}
use Rattle.std.proofs.lemmas.Bool.{leb-false}
use Rattle.dav_core.specs.Element.{ElementTree, ElementTrees, element, text, no_trees, tree_then, tree_list, trees, name_of, with_child}
use Rattle.dav_xml.specs.declared.error.Fault.{Fault}
use Rattle.dav_xml.specs.declared.error.Fault.TheVariants.{Malformed, TooDeep}
use Rattle.dav_xml.specs.Read.{◌>>=◌}
use Rattle.dav_xml.specs.Token.{Markup, opens, empty, closes, content, nothing}
use Rattle.dav_xml.specs.Nesting.{Open, raw, opened, ended, closed, with_text, text_after, text_added, text_in, step, steps, root_of, nested}
use Rattle.dav_xml.specs.Flat.{IsRaw, AreRaw}
use Rattle.dav_xml.proofs.Escapes.{by_test}
use Rattle.dav_xml.proofs.ElementLemmas.{trees_tree_list}

-- ---- children

child_added : (n : ℕ) (texted : Bool) (cs : ElementTrees) (m : List ℕ) (a : List (List ℕ × List ℕ)) (c : ElementTrees) → AreRaw n texted cs → IsRaw n (element m None None a c) → AreRaw n texted (trees (tree_list cs ++ element m None None a c ∷ []))
child_added n texted no_trees m a c h k = (k, tt)
child_added n texted (tree_then (element m1 p s a1 c1) us) m a c h k = (h.0, child_added n false us m a c h.1 k)
child_added n true (tree_then (text bytes) us) m a c h k = absurd h
child_added n false (tree_then (text []) us) m a c h k = absurd h
child_added n false (tree_then (text (b ∷ bs)) us) m a c h k = child_added n true us m a c h k

text_kept : (n : ℕ) (texted : Bool) (b : ℕ) (bs : List ℕ) (t : ElementTree) (ts : List ElementTree) → AreRaw n texted (tree_then t (trees ts)) → AreRaw n texted (trees (text_after (b ∷ bs) t ts))
text_kept n texted b bs (element m p s a c) [] h = (h.0, tt)
text_kept n texted b bs (element m p s a c) (u ∷ us) h = (h.0, text_kept n false b bs u us h.1)
text_kept n true b bs (text bytes) ts h = absurd h
text_kept n false b bs (text []) ts h = absurd h
text_kept n false b bs (text (d ∷ ds)) [] h = tt
text_kept n false b bs (text (d ∷ ds)) (u ∷ us) h = text_kept n true b bs u us h

text_put : (n : ℕ) (b : ℕ) (bs : List ℕ) (ts : List ElementTree) → AreRaw n false (trees ts) → AreRaw n false (trees (with_text (b ∷ bs) ts))
text_put n b bs [] h = tt
text_put n b bs (t ∷ ts) h = text_kept n false b bs t ts h

-- ---- open elements

-- an open element whose children have at most n levels
abbrev IsHeld : ℕ → ElementTree → Type 0
IsHeld n (element name None None attributes children) = AreRaw n false children
IsHeld n (element name None (Some q) attributes children) = ⊥
IsHeld n (element name (Some p) q attributes children) = ⊥
IsHeld n (text bytes) = ⊥

-- the open elements, where the innermost may have so many levels of children
abbrev AreHeld : ℕ → List ElementTree → Type 0
AreHeld n [] = n ≡ 64
AreHeld n (e ∷ es) = IsHeld n e × AreHeld (suc n) es

held_levels : (n : ℕ) (es : List ElementTree) → AreHeld n es → n + length es ≡ 64
held_levels n [] h = omega (arith, h)
held_levels n (e ∷ es) h = omega (arith, held_levels (suc n) es h.1)

abbrev IsRoot : Option ElementTree → Type 0
IsRoot None = Unit {0}
IsRoot (Some t) = IsRaw 64 t

record IsSound (s : Open) : Type 0 where
  pub levels : ℕ
  pub held : AreHeld levels s.0
  pub root : IsRoot s.1

abbrev open_or : Open → Result Open Fault → Open
open_or other (Ok s) = s
open_or other (Err f) = other

abbrev open_ok : Open → Result Open Fault
open_ok s = Ok s

held_more : (n : ℕ) (e : ElementTree) (es : List ElementTree) (root : Option ElementTree) → length es < 64 → ((m : ℕ) → IsHeld m e) → AreHeld n es → IsRoot root → IsSound (e ∷ es, root)
held_more zero e es root lt one h r = absurd (omega (arith, held_levels zero es h))
held_more (suc n) e es root lt one h r = record { levels = n; held = (one n, h); root = r }

opens_sound : (name : List ℕ) (attributes : List (List ℕ × List ℕ)) (es : List ElementTree) (root : Option ElementTree) (next : Open) → IsSound (es, root) → opened (raw name attributes) (es, root) ≡ open_ok next → IsSound next
opens_sound name attributes es root next h e =
    by_test (length es == 0 && is_some root) (λ t. cond {A = Result Open Fault} t (Err Malformed) (cond (leb 64 (length es)) (Err TooDeep) (Ok (raw name attributes ∷ es, root))) ≡ open_ok next → IsSound next) (λ f k. absurd cc)
    (λ f k. by_test (leb 64 (length es)) (λ t. leb 64 (length es) ≡ t → cond {A = Result Open Fault} t (Err TooDeep) (Ok (raw name attributes ∷ es, root)) ≡ open_ok next → IsSound next) (λ g j i. absurd cc)
    (λ g j i. subst IsSound (ap (open_or next) i) (held_more h.levels (raw name attributes) es root (leb-false 64 (length es) g) (λ m. tt) h.held h.root)) refl k) e

child_put : (n : ℕ) (e f : ElementTree) → IsHeld n e → IsHeld (suc n) f → IsHeld (suc n) (with_child f e)
child_put n e (text bytes) h k = absurd k
child_put n e (element name (Some p) q attributes children) h k = absurd k
child_put n e (element name None (Some q) attributes children) h k = absurd k
child_put n (text bytes) (element name None None attributes children) h k = absurd h
child_put n (element m (Some p) q a c) (element name None None attributes children) h k = absurd h
child_put n (element m None (Some q) a c) (element name None None attributes children) h k = absurd h
child_put n (element m None None a c) (element name None None attributes children) h k = child_added (suc n) false children m a c k h

root_held : (n : ℕ) (e : ElementTree) → IsHeld n e → suc n ≡ 64 → IsRaw 64 e
root_held n (text bytes) h is = absurd h
root_held n (element m (Some p) q a c) h is = absurd h
root_held n (element m None (Some q) a c) h is = absurd h
root_held n (element m None None a c) h is = subst (λ (k : ℕ). IsRaw k (element m None None a c)) is h

ended_sound : (n : ℕ) (e : ElementTree) (es : List ElementTree) (root : Option ElementTree) → AreHeld n (e ∷ es) → IsRoot root → IsSound (ended e (es, root))
ended_sound n e [] root h r = record { levels = 64; held = refl; root = root_held n e h.0 h.1 }
ended_sound n e (f ∷ fs) root h r = record { levels = suc n; held = (child_put n e f h.0 h.1.0, h.1.1); root = r }

closed_sound : (name : List ℕ) (s next : Open) → IsSound s → closed name s ≡ open_ok next → IsSound next
closed_sound name ([], root) next h e = absurd cc
closed_sound name (t ∷ es, root) next h e = by_test (bytes_eq (name_of t) name) (λ b. cond {A = Result Open Fault} b (Ok (ended t (es, root))) (Err Malformed) ≡ open_ok next → IsSound next)
    (λ f k. subst IsSound (ap (open_or next) k) (ended_sound h.levels t es root h.held h.root)) (λ f k. absurd cc) e

text_held : (n : ℕ) (b : ℕ) (bs : List ℕ) (e : ElementTree) → IsHeld n e → IsHeld n (text_added (b ∷ bs) e)
text_held n b bs (text bytes) h = absurd h
text_held n b bs (element m (Some p) q a c) h = absurd h
text_held n b bs (element m None (Some q) a c) h = absurd h
text_held n b bs (element m None None a c) h = text_put n b bs (tree_list c) (subst (AreRaw n false) (sym (trees_tree_list c)) h)

text_sound : (is_blank : Bool) (bytes : List ℕ) (s next : Open) → IsSound s → text_in is_blank bytes s ≡ open_ok next → IsSound next
text_sound is_blank bytes ([], root) next h e = by_test is_blank (λ t. cond {A = Result Open Fault} t (Ok ([], root)) (Err Malformed) ≡ open_ok next → IsSound next) (λ f k. subst IsSound (ap (open_or next) k) h) (λ f k. absurd cc) e
text_sound is_blank [] (t ∷ es, root) next h e = subst IsSound (ap (open_or next) e) h
text_sound is_blank (b ∷ bs) (t ∷ es, root) next h e =
    subst IsSound (ap (open_or next) e) (record { levels = h.levels; held = (text_held h.levels b bs t h.held.0, h.held.1); root = h.root })

empty_sound : (name : List ℕ) (next : Open) (r : Result Open Fault) → ((s : Open) → r ≡ open_ok s → IsSound s) → (r >>= closed name) ≡ open_ok next → IsSound next
empty_sound name next (Err f) one e = absurd cc
empty_sound name next (Ok s) one e = closed_sound name s next (one s refl) e

step_sound : (s next : Open) (t : Markup) → IsSound s → step s t ≡ open_ok next → IsSound next
step_sound (es, root) next (opens name attributes) h e = opens_sound name attributes es root next h e
step_sound (es, root) next (empty name attributes) h e = empty_sound name next (opened (raw name attributes) (es, root)) (λ s is. opens_sound name attributes es root s h is) e
step_sound s next (closes name) h e = closed_sound name s next h e
step_sound s next (content is_blank bytes) h e = text_sound is_blank bytes s next h e
step_sound s next nothing h e = subst IsSound (ap (open_or next) e) h

on_step : (next : Open) (ts : List Markup) (r : Result Open Fault) → ((s : Open) → r ≡ open_ok s → IsSound s) → ((s : Open) → IsSound s → steps s ts ≡ open_ok next → IsSound next) → (r >>= λ s. steps s ts) ≡ open_ok next → IsSound next
on_step next ts (Err f) one rec e = absurd cc
on_step next ts (Ok s) one rec e = rec s (one s refl) e

steps_sound : (ts : List Markup) (s next : Open) → IsSound s → steps s ts ≡ open_ok next → IsSound next
unfolding steps
steps_sound [] s next h e = subst IsSound (ap (open_or next) e) h
steps_sound (t ∷ ts) s next h e = on_step next ts (step s t) (λ u is. step_sound s u t h is) (λ u k j. steps_sound ts u next k j) e

root_sound : (s : Open) (t : ElementTree) → IsSound s → root_of s ≡ Ok t → IsRaw 64 t
root_sound ([], None) t h e = absurd cc
root_sound ([], Some root) t h e = subst (IsRaw 64) (ap (tree_or t) e) h.root
  where
    tree_or : ElementTree → Result ElementTree Fault → ElementTree
    tree_or other (Ok u) = u
    tree_or other (Err f) = other
root_sound (u ∷ us, root) t h e = absurd cc

on_steps : (t : ElementTree) (r : Result Open Fault) → ((s : Open) → r ≡ open_ok s → IsSound s) → (r >>= root_of) ≡ Ok t → IsRaw 64 t
on_steps t (Err f) one e = absurd cc
on_steps t (Ok s) one e = root_sound s t (one s refl) e

pub nested_raw : (ts : List Markup) (t : ElementTree) → nested ts ≡ Ok t → IsRaw 64 t
unfolding nested
nested_raw ts t e = on_steps t (steps ([], None) ts) (λ s is. steps_sound ts ([], None) s (record { levels = 64; held = refl; root = tt }) is) e
