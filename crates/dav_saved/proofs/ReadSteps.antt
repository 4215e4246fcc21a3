-- Reading a tree, part by part.
use Rattle.std.proofs.Common.{◌≡◌, ℕ, zero, suc, ◌-◌, ◌≤◌, ◌++◌, Bool, true, false, cond, List, [], ◌∷◌, Option, Some, None, Result, Ok, Err, Bor, refl, sym, ap, subst, ◌∙◌, arith}
use Rattle.dav_core.specs.Element.{ElementTree, is_element, depth_of}
use Rattle.dav_core.specs.declared.element.Element.{Element}
use Rattle.std.specs.Prelude.{IfOk}
use Rattle.dav_saved.specs.declared.errors.LoadError.{LoadError}
use Rattle.dav_saved.specs.declared.errors.LoadError.TheVariants.{Memory, NotSaved}
use Rattle.dav_saved.specs.Reading.{Read, ◌>>=◌, Fails, Gives, number_at, many_at, list_at}
use Rattle.dav_saved.specs.Trees.{Front, front_at, tag_at, text_node_at, made, element_by, nothing_at, tagged_at, tree_at, element_from, tree, IsSaveable}
use Rattle.dav_saved.proofs.Fields.{IsBytes, bind_some, test_some}
use Rattle.dav_saved.proofs.TreeLaws.{tree_takes, tree_again}

-- a step that failed, and what it was for
pub stopped : {A B : Type 0} (e : LoadError) (r : Option A) (f : A → Option B) → Fails e r → Fails e (r >>= f)
stopped Memory r f h = tt
stopped NotSaved r f h = rw h refl

pub fails_as : {A : Type 0} (e : LoadError) (r s : Option A) → s ≡ r → Fails e r → Fails e s
fails_as Memory r s is h = tt
fails_as NotSaved r s is h = is ∙ h

pub front_stopped : (child : List ℕ → Read ElementTree) (bytes : List ℕ) (e : LoadError) → Fails e (front_at bytes) → Fails e (element_by child bytes)
unfolding element_by
front_stopped child bytes e h = stopped e (front_at bytes) (λ f. list_at child f.1 >>= λ ts. Some (made f.0 ts.0, ts.1)) h

behind_front : (child : List ℕ → Read ElementTree) (bytes : List ℕ) (f : Front) (rest : List ℕ) → front_at bytes ≡ Some (f, rest)
    → element_by child bytes ≡ (list_at child rest >>= λ ts. Some (made f ts.0, ts.1))
unfolding element_by
behind_front child bytes f rest is = rw is refl

behind_count : (child : List ℕ → Read ElementTree) (bytes : List ℕ) (n : ℕ) (rest : List ℕ) → number_at bytes ≡ Some (n, rest) → list_at child bytes ≡ many_at child n rest
unfolding list_at
behind_count child bytes n rest is = rw is refl

list_stopped : (child : List ℕ → Read ElementTree) (bytes : List ℕ) (e : LoadError) → Fails e (number_at bytes) → Fails e (list_at child bytes)
unfolding list_at
list_stopped child bytes e h = stopped e (number_at bytes) (λ n. many_at child n.0 n.1) h

pub count_stopped : (child : List ℕ → Read ElementTree) (bytes : List ℕ) (f : Front) (rest : List ℕ) (e : LoadError) → front_at bytes ≡ Some (f, rest) → Fails e (number_at rest) → Fails e (element_by child bytes)
count_stopped child bytes f rest e is h =
    fails_as e (list_at child rest >>= λ ts. Some (made f ts.0, ts.1)) (element_by child bytes) (behind_front child bytes f rest is)
    (stopped e (list_at child rest) (λ ts. Some (made f ts.0, ts.1)) (list_stopped child rest e h))

pub children_stopped : (child : List ℕ → Read ElementTree) (bytes : List ℕ) (f : Front) (rest : List ℕ) (n : ℕ) (more : List ℕ) (e : LoadError)
    → front_at bytes ≡ Some (f, rest) → number_at rest ≡ Some (n, more) → Fails e (many_at child n more) → Fails e (element_by child bytes)
children_stopped child bytes f rest n more e is count h =
    fails_as e (list_at child rest >>= λ ts. Some (made f ts.0, ts.1)) (element_by child bytes) (behind_front child bytes f rest is)
    (stopped e (list_at child rest) (λ ts. Some (made f ts.0, ts.1)) (fails_as e (many_at child n more) (list_at child rest) (behind_count child rest n more count) h))

pub element_read : (child : List ℕ → Read ElementTree) (bytes : List ℕ) (f : Front) (rest : List ℕ) (n : ℕ) (more : List ℕ) (ts : List ElementTree) (left : List ℕ) (x : ElementTree)
    → front_at bytes ≡ Some (f, rest) → number_at rest ≡ Some (n, more) → many_at child n more ≡ Some (ts, left) → x ≡ made f ts → element_by child bytes ≡ Some (x, left)
element_read child bytes f rest n more ts left x is count all e =
    behind_front child bytes f rest is ∙ ap (λ (r : Read (List ElementTree)). r >>= λ ts. Some (made f ts.0, ts.1)) (behind_count child rest n more count ∙ all)
    ∙ ap (λ (t : ElementTree). Some (t, left)) (sym e)

-- ---- tags

tagged_none : (inner : List ℕ → Read ElementTree) (bytes : List ℕ) → tag_at bytes ≡ None → tagged_at inner bytes ≡ None
unfolding tag_at tagged_at
tagged_none inner [] h = refl
tagged_none inner (zero ∷ bytes) h = absurd cc
tagged_none inner (suc zero ∷ bytes) h = absurd cc
tagged_none inner (suc (suc b) ∷ bytes) h = refl

tagged_text : (inner : List ℕ → Read ElementTree) (bytes : List ℕ) (b : Bool) (rest : List ℕ) → tag_at bytes ≡ Some (b, rest) → tagged_at inner bytes ≡ cond b (inner rest) (text_node_at rest)
unfolding tag_at tagged_at text_node_at
tagged_text inner [] b rest h = absurd cc
tagged_text inner (zero ∷ bytes) b rest h =
    let is : ◌≡◌ {A = Bool × List ℕ} (true, bytes) (b, rest) = cc in
    ap (λ (p : Bool × List ℕ). cond p.0 (inner p.1) (text_node_at p.1)) is
tagged_text inner (suc zero ∷ bytes) b rest h =
    let is : ◌≡◌ {A = Bool × List ℕ} (false, bytes) (b, rest) = cc in
    ap (λ (p : Bool × List ℕ). cond p.0 (inner p.1) (text_node_at p.1)) is
tagged_text inner (suc (suc c) ∷ bytes) b rest h = absurd cc

pub tag_stopped : (levels : ℕ) (bytes : List ℕ) (e : LoadError) → Fails e (tag_at bytes) → Fails e (tree_at levels bytes)
unfolding tree_at
tag_stopped levels bytes Memory h = tt
tag_stopped zero bytes NotSaved h = tagged_none nothing_at bytes h
tag_stopped (suc levels) bytes NotSaved h = tagged_none (element_by (tree_at levels)) bytes h

pub at_text : (levels : ℕ) (bytes : List ℕ) (b : Bool) (rest : List ℕ) → tag_at bytes ≡ Some (b, rest) → b ≡ false → tree_at levels bytes ≡ text_node_at rest
unfolding tree_at
at_text zero bytes b rest is f = tagged_text nothing_at bytes b rest is ∙ rw f refl
at_text (suc levels) bytes b rest is f = tagged_text (element_by (tree_at levels)) bytes b rest is ∙ rw f refl

pub too_deep : (levels : ℕ) (bytes : List ℕ) (b : Bool) (rest : List ℕ) → tag_at bytes ≡ Some (b, rest) → b ≡ true → levels ≡ 0 → tree_at levels bytes ≡ None
unfolding tree_at
too_deep zero bytes b rest is t h = tagged_text nothing_at bytes b rest is ∙ rw t refl
too_deep (suc levels) bytes b rest is t h = absurd (omega (arith, h))

pub at_element : (levels less : ℕ) (bytes : List ℕ) (b : Bool) (rest : List ℕ) → tag_at bytes ≡ Some (b, rest) → b ≡ true → (levels ≡ 0 → ⊥) → less ≡ levels - 1
    → tree_at levels bytes ≡ element_by (tree_at less) rest
unfolding tree_at
at_element zero less bytes b rest is t h e = absurd (h refl)
at_element (suc levels) less bytes b rest is t h e =
    let same : levels ≡ less = omega (arith, e) in
    tagged_text (element_by (tree_at levels)) bytes b rest is ∙ rw t (ap (λ (k : ℕ). element_by (tree_at k) rest) same)

-- ---- elements

pub element_stopped : (levels : ℕ) (bytes : List ℕ) (e : LoadError) → Fails e (tree_at levels bytes) → Fails e (element_from levels bytes)
unfolding element_from
element_stopped levels bytes e h = stopped e (tree_at levels bytes) (λ x. cond (is_element x.0) (Some x) None) h

pub element_found : (levels : ℕ) (bytes : List ℕ) (x : ElementTree) (rest : List ℕ) → tree_at levels bytes ≡ Some (x, rest) → is_element x ≡ true → element_from levels bytes ≡ Some (x, rest)
unfolding element_from
element_found levels bytes x rest is t = rw (is, t) refl

pub text_refused : (levels : ℕ) (bytes : List ℕ) (x : ElementTree) (rest : List ℕ) → tree_at levels bytes ≡ Some (x, rest) → is_element x ≡ false → element_from levels bytes ≡ None
unfolding element_from
text_refused levels bytes x rest is t = rw (is, t) refl

pub whole_by : (levels : ℕ) (bytes : List ℕ) (x : ElementTree × List ℕ) → IsBytes bytes → element_from levels bytes ≡ Some x → bytes ≡ tree x.0 ++ x.1
unfolding element_from
whole_by levels bytes x fits e =
    let b = bind_some (tree_at levels bytes) (λ y. cond (is_element y.0) (Some y) None) x e in
    let g = test_some (is_element b.0.0) b.0 x b.2 in
    subst (λ (y : ElementTree × List ℕ). bytes ≡ tree y.0 ++ y.1) g.1 (tree_takes levels bytes b.0 fits b.1).parts

pub element_whole : (levels : ℕ) (bytes : List ℕ) (r : Result (Element × Bor (List ℕ)) LoadError) → IsBytes bytes → Gives {Y = ElementTree × List ℕ} (λ x. (x.0, x.1.now)) r (element_from levels bytes)
    → IfOk r (λ x. bytes ≡ tree x.0 ++ x.1.now)
element_whole levels bytes (Ok x) fits e = whole_by levels bytes (x.0, x.1.now) fits e
element_whole levels bytes (Err d) fits e = tt

pub element_again : (t : ElementTree) (levels : ℕ) (rest : List ℕ) → is_element t ≡ true → depth_of t ≤ levels → IsSaveable t → element_from levels (tree t ++ rest) ≡ Some (t, rest)
element_again t levels rest is le fits = element_found levels (tree t ++ rest) t rest (tree_again t levels rest le fits) is

pub rest_by : (levels : ℕ) (bytes : List ℕ) (x : ElementTree × List ℕ) → IsBytes bytes → element_from levels bytes ≡ Some x → IsBytes x.1
unfolding element_from
rest_by levels bytes x fits e =
    let b = bind_some (tree_at levels bytes) (λ y. cond (is_element y.0) (Some y) None) x e in
    let g = test_some (is_element b.0.0) b.0 x b.2 in
    subst (λ (y : ElementTree × List ℕ). IsBytes y.1) g.1 (tree_takes levels bytes b.0 fits b.1).rest_fits
