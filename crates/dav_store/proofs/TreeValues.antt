-- What holds of a tree of names whose node has another value.
use Rattle.std.proofs.Common.{◌≡◌, ℕ, Bool, List, Option, Some, sym, ap, ◌∙◌, ⊎_elim}
use Rattle.std.specs.Option.{is_some}
use Rattle.std.proofs.lemmas.Bool.{cases_eq}
use Rattle.dav_core.specs.Path.{Path}
use Rattle.dav_store.specs.Tree.{Tree, Node, node, value_of, with_value, root_id}
use Rattle.dav_store.specs.Placed.{named, found, IsNamedTree}
use Rattle.dav_store.proofs.TreeLooks as looks
use Rattle.dav_store.proofs.TreePaths.{outside}
use Rattle.dav_store.proofs.TreeCalls.{node_of_value, once_of}

module _ {D : Type 0} {holds : Option D → Bool} {fits : List ℕ → Type 0} (t : Tree (List ℕ) D) (grown : IsNamedTree holds fits t) (m : ℕ) (w v : D) (is : value_of t m ≡ Some w) (same : holds (Some v) ≡ holds (Some w)) where
  abbrev valued : Tree (List ℕ) D
  valued = with_value t m v

  here : (x : Node (List ℕ) D) × (node t m ≡ Some x) × (x.value ≡ w)
  here = node_of_value t m w is

  pub value_here : value_of valued m ≡ Some v
  value_here = looks.value_valued t m v here.0 here.1

  pub value_apart : (q : ℕ) → (q ≡ m → ⊥) → value_of valued q ≡ value_of t q
  value_apart q differ = looks.others_valued t m v here.0 here.1 q differ

  pub some_valued : (q : ℕ) → is_some (value_of valued q) ≡ is_some (value_of t q)
  some_valued q =
      ⊎_elim
      (λ e. ap is_some (ap (value_of valued) e ∙ value_here) ∙ sym (ap is_some (ap (value_of t) e ∙ is)))
      (λ differ. ap is_some (value_apart q differ))
      (cases_eq q m)

  holds_valued : (q : ℕ) → holds (value_of valued q) ≡ holds (value_of t q)
  holds_valued q =
      ⊎_elim
      (λ e. ap holds (ap (value_of valued) e ∙ value_here) ∙ same ∙ sym (ap holds (ap (value_of t) e ∙ is)))
      (λ differ. ap holds (value_apart q differ))
      (cases_eq q m)

  named_same : (q : ℕ) (l : List ℕ) → named valued q l ≡ named t q l
  named_same q l = looks.named_valued t m v here.0 here.1 q l

  pub found_same : (q : Path) → found valued q ≡ found t q
  found_same q = outside t grown valued q (λ a b k n cut there. named_same n k)

  pub grown_valued : IsNamedTree holds fits valued
  grown_valued = record {
    some = grown.some;
    above = looks.none_valued t m v here.0 here.1 grown.above;
    numbers = (looks.once_valued t m v here.0 here.1 (once_of t grown)).numbers;
    names = (looks.once_valued t m v here.0 here.1 (once_of t grown)).names;
    root = holds_valued root_id ∙ grown.root;
    children = λ n k x e.
        let c = grown.children n k x (sym (named_same n k) ∙ e) in
        record {
          not_root = c.not_root;
          there = some_valued x ∙ c.there;
          parent = looks.parent_valued t m v here.0 here.1 x ∙ c.parent;
          name = c.name;
          folder = holds_valued n ∙ c.folder;
        };
    once = λ n k l x a b. grown.once n k l x (sym (named_same n k) ∙ a) (sym (named_same n l) ∙ b);
    reached = λ x some. let r = grown.reached x (sym (some_valued x) ∙ some) in (r.0, found_same r.0 ∙ r.1);
  }
