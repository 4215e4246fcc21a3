-- A tree that is read is the tree that was saved, and what was saved is read again.
use Rattle.std.proofs.Common.{◌≡◌, ℕ, zero, suc, ◌≤◌, List, [], ◌∷◌, ◌++◌, length, Some, refl, sym, ap, subst, ◌∙◌, append_assoc, arith}
use Rattle.std.specs.List.{flat_map}
use Rattle.std.proofs.lemmas.List.Concat.{flat_map-cons}
use Rattle.dav_core.specs.Element.{ElementTree, ElementTrees, element, text, no_trees, tree_then, tree_list, trees, depth_of, depth_among}
use Rattle.dav_saved.specs.Spelling.{number, sized, optional, pair, many}
use Rattle.dav_saved.specs.Reading.{Read, ◌>>=◌, text_at, optional_at, pair_at, many_at, list_at}
use Rattle.dav_saved.specs.Trees.{Front, front, front_at, tree, forest, made, element_by, tagged_at, nothing_at, tree_at, IsPair, IsFront, IsSaveable, AreSaveable}
use Rattle.dav_saved.proofs.Fields.{IsBytes, IsBytes-rest, bind_some, some_is, Takes, Takes-then, TakesBy, AgainBy, number_again, text_takes, text_again, optional_takes, optional_again, pair_takes, pair_again, list_takes, list_again}

trees_back : (ts : ElementTrees) → trees (tree_list ts) ≡ ts
trees_back no_trees = refl
trees_back (tree_then t ts) = ap (λ (us : ElementTrees). tree_then t us) (trees_back ts)

pub list_back : (ts : List ElementTree) → tree_list (trees ts) ≡ ts
list_back [] = refl
list_back (t ∷ ts) = ap (λ (us : List ElementTree). t ∷ us) (list_back ts)

-- ---- fronts

front_takes : TakesBy front front_at
unfolding front front_at
front_takes bytes x fits e =
    let a = bind_some (text_at bytes) (λ n. optional_at n.1 >>= λ p. optional_at p.1 >>= λ s. list_at pair_at s.1 >>= λ a. Some ((n.0, (p.0, (s.0, a.0))), a.1)) x e in
    let b = bind_some (optional_at a.0.1) (λ p. optional_at p.1 >>= λ s. list_at pair_at s.1 >>= λ k. Some ((a.0.0, (p.0, (s.0, k.0))), k.1)) x a.2 in
    let c = bind_some (optional_at b.0.1) (λ s. list_at pair_at s.1 >>= λ k. Some ((a.0.0, (b.0.0, (s.0, k.0))), k.1)) x b.2 in
    let d = bind_some (list_at pair_at c.0.1) (λ k. Some ((a.0.0, (b.0.0, (c.0.0, k.0))), k.1)) x c.2 in
    let t1 = text_takes bytes a.0 fits a.1 in
    let t2 = optional_takes a.0.1 b.0 t1.rest_fits b.1 in
    let t3 = optional_takes b.0.1 c.0 t2.rest_fits c.1 in
    let t4 = list_takes pair pair_at pair_takes c.0.1 d.0 t3.rest_fits d.1 in
    let e3 = Takes-then b.0.1 (optional c.0.0) c.0.1 (many pair d.0.0) d.0.1 t3 t4 in
    let e2 = Takes-then a.0.1 (optional b.0.0) b.0.1 (optional c.0.0 ++ many pair d.0.0) d.0.1 t2 e3 in
    let e1 = Takes-then bytes (sized a.0.0) a.0.1 (optional b.0.0 ++ (optional c.0.0 ++ many pair d.0.0)) d.0.1 t1 e2 in
    let value : Front × List ℕ = ((a.0.0, (b.0.0, (c.0.0, d.0.0))), d.0.1) in
    subst (λ (y : Front × List ℕ). Takes bytes (sized y.0.0 ++ (optional y.0.1.0 ++ (optional y.0.1.1.0 ++ many pair y.0.1.1.1))) y.1) (some_is value x d.2) e1

regrouped4 : (a b c d rest : List ℕ) → (a ++ (b ++ (c ++ d))) ++ rest ≡ a ++ (b ++ (c ++ (d ++ rest)))
regrouped4 a b c d rest =
    append_assoc a (b ++ (c ++ d)) rest ∙ ap (λ (ys : List ℕ). a ++ ys) (append_assoc b (c ++ d) rest ∙ ap (λ (ys : List ℕ). b ++ ys) (append_assoc c d rest))

front_again : AgainBy IsFront front front_at
unfolding front front_at
front_again f rest fits =
    let n = sized f.0 in
    let p = optional f.1.0 in
    let s = optional f.1.1.0 in
    let a = many pair f.1.1.1 in
    ap front_at (regrouped4 n p s a rest)
    ∙ rw (
      text_again f.0 (p ++ (s ++ (a ++ rest))) fits.0,
      optional_again f.1.0 (s ++ (a ++ rest)) fits.1.0,
      optional_again f.1.1.0 (a ++ rest) fits.1.1.0,
      list_again IsPair pair pair_at pair_again f.1.1.1 rest fits.1.1.1.0 fits.1.1.1.1,
    ) refl

-- ---- trees

forest_flat : (ts : List ElementTree) → forest (trees ts) ≡ flat_map tree ts
unfolding forest
forest_flat [] = refl
forest_flat (t ∷ ts) = ap (λ (bs : List ℕ). tree t ++ bs) (forest_flat ts) ∙ sym (flat_map-cons tree t ts)

-- an element by its front and its children
pub tree_made : (f : Front) (ts : List ElementTree) → tree (made f ts) ≡ 0 ∷ front f ++ many tree ts
unfolding tree
tree_made f ts = rw (list_back ts, forest_flat ts) refl

element_takes : (child : List ℕ → Read ElementTree) → TakesBy tree child
    → (bytes : List ℕ) (x : ElementTree × List ℕ) → IsBytes bytes → element_by child bytes ≡ Some x → Takes (0 ∷ bytes) (tree x.0) x.1
unfolding element_by
element_takes child takes bytes x fits e =
    let a = bind_some (front_at bytes) (λ f. list_at child f.1 >>= λ ts. Some (made f.0 ts.0, ts.1)) x e in
    let b = bind_some (list_at child a.0.1) (λ ts. Some (made a.0.0 ts.0, ts.1)) x a.2 in
    let t1 = front_takes bytes a.0 fits a.1 in
    let t2 = list_takes tree child takes a.0.1 b.0 t1.rest_fits b.1 in
    let both = Takes-then bytes (front a.0.0) a.0.1 (many tree b.0.0) b.0.1 t1 t2 in
    let whole : 0 ∷ bytes ≡ tree (made a.0.0 b.0.0) ++ b.0.1 = ap (λ (w : List ℕ). 0 ∷ w) both.parts ∙ ap (λ (w : List ℕ). w ++ b.0.1) (sym (tree_made a.0.0 b.0.0)) in
    let value : ElementTree × List ℕ = (made a.0.0 b.0.0, b.0.1) in
    subst (λ (y : ElementTree × List ℕ). Takes (0 ∷ bytes) (tree y.0) y.1) (some_is value x b.2) (record { parts = whole; rest_fits = both.rest_fits })

tagged_takes : (inner : List ℕ → Read ElementTree)
    → ((bytes : List ℕ) (x : ElementTree × List ℕ) → IsBytes bytes → inner bytes ≡ Some x → Takes (0 ∷ bytes) (tree x.0) x.1) → TakesBy tree (tagged_at inner)
unfolding tagged_at tree
tagged_takes inner takes [] x fits e = absurd cc
tagged_takes inner takes (zero ∷ bytes) x fits e = takes bytes x (IsBytes-rest 0 bytes fits) e
tagged_takes inner takes (suc zero ∷ bytes) x fits e =
    let b = bind_some (text_at bytes) (λ t. Some (text t.0, t.1)) x e in
    let t = text_takes bytes b.0 (IsBytes-rest 1 bytes fits) b.1 in
    subst (λ (y : ElementTree × List ℕ). Takes (1 ∷ bytes) (tree y.0) y.1) (some_is (text b.0.0, b.0.1) x b.2) (record { parts = ap (λ (w : List ℕ). 1 ∷ w) t.parts; rest_fits = t.rest_fits })
tagged_takes inner takes (suc (suc b) ∷ bytes) x fits e = absurd cc

pub tree_takes : (levels : ℕ) → TakesBy tree (tree_at levels)
unfolding tree_at
tree_takes zero = tagged_takes nothing_at (λ bytes x fits e. absurd cc)
tree_takes (suc levels) = tagged_takes (element_by (tree_at levels)) (element_takes (tree_at levels) (tree_takes levels))

-- ---- again

mutual
  unfolding tree_at tagged_at element_by list_at many_at tree

  pub tree_again : (t : ElementTree) (levels : ℕ) (rest : List ℕ) → depth_of t ≤ levels → IsSaveable t → tree_at levels (tree t ++ rest) ≡ Some (t, rest)
  tree_again (element n p s a c) zero rest le fits = absurd (omega (arith, le))
  tree_again (element n p s a c) (suc levels) rest le fits =
      let f : Front = (n, (p, (s, a))) in
      let k = length (tree_list c) in
      let regrouped : (front f ++ (number k ++ forest c)) ++ rest ≡ front f ++ (number k ++ (forest c ++ rest)) =
      append_assoc (front f) (number k ++ forest c) rest ∙ ap (λ (w : List ℕ). front f ++ w) (append_assoc (number k) (forest c) rest) in
      let inside : many_at (tree_at levels) k (forest c ++ rest) ≡ Some (tree_list c, rest) = forest_again c levels rest (omega (arith, le)) fits.1.1 in
      ap (element_by (tree_at levels)) regrouped
      ∙ rw (front_again f (number k ++ (forest c ++ rest)) fits.0, number_again k (forest c ++ rest) fits.1.0, inside)
      (ap (λ (us : ElementTrees). Some (element n p s a us, rest)) (trees_back c))
  tree_again (text t) zero rest le fits = rw (text_again t rest fits) refl
  tree_again (text t) (suc levels) rest le fits = rw (text_again t rest fits) refl

  pub forest_again : (ts : ElementTrees) (levels : ℕ) (rest : List ℕ) → depth_among ts ≤ levels → AreSaveable ts → many_at (tree_at levels) (length (tree_list ts)) (forest ts ++ rest) ≡ Some (tree_list ts, rest)
  forest_again no_trees levels rest le fits = refl
  forest_again (tree_then t ts) levels rest le fits =
      let regrouped : (tree t ++ forest ts) ++ rest ≡ tree t ++ (forest ts ++ rest) = append_assoc (tree t) (forest ts) rest in
      ap (many_at (tree_at levels) (suc (length (tree_list ts)))) regrouped
      ∙ rw (tree_again t levels (forest ts ++ rest) (omega (arith, le)) fits.0, forest_again ts levels rest (omega (arith, le)) fits.1) refl
