-- The items of a list, one by one.
use Rattle.std.proofs.Common.{◌≡◌, ◌<◌, ◌+◌, ℕ, zero, suc, List, [], ◌∷◌, ◌++◌, map, length, take, get_or, subst, sym, ap, ◌∙◌, arith, Some, refl}
use Rattle.std.proofs.lemmas.List.{take_more, map-append}
use Rattle.serde_json.specs.Data.{Data, Items, no_items, item}
use Rattle.serde_json.specs.View.{view, items_view}
use Rattle.serde_json.specs.declared.value.Value.{Value}
use Rattle.dav_run.specs.Script.{AreItems, IsText}

module _ {X : Type 0} (Is : Data → X → Type 0) where
  items_pushed : (vs : List Value) (v : Value) (xs : List X) (x : X) → AreItems Is (items_view vs) xs
      → Is (view v) x → AreItems Is (items_view (vs ++ v ∷ [])) (xs ++ x ∷ [])
  items_pushed [] v [] x are is = (is, tt)
  items_pushed [] v (y ∷ xs) x are is = absurd are
  items_pushed (w ∷ vs) v [] x are is = absurd are
  items_pushed (w ∷ vs) v (y ∷ xs) x are is = (are.0, items_pushed vs v xs x are.1 is)

  place_of_item : (vs : List Value) (i : ℕ) (d : Value) (xs : List X) → i < length vs → AreItems Is (items_view vs) xs
      → (x : X) × Is (view (get_or vs i d)) x
  place_of_item [] i d xs below are = absurd (omega (arith, below))
  place_of_item (v ∷ vs) i d [] below are = absurd are
  place_of_item (v ∷ vs) zero d (x ∷ xs) below are = (x, are.0)
  place_of_item (v ∷ vs) (suc i) d (x ∷ xs) below are = place_of_item vs i d xs (omega (arith, below)) are.1

  -- each item of the list is something
  pub item_at : (vs : List Value) (i : ℕ) (v : Value) (xs : List X) → i < length vs → v ≡ get_or vs i v
      → AreItems Is (items_view vs) xs → (x : X) × Is (view v) x
  item_at vs i v xs below at are =
      let (x, is) = place_of_item vs i v xs below are in
      let Of : Value → Type 0 = λ w. Is (view w) x in
      (x, subst Of (sym at) is)

  -- one more item is one more value
  pub items_more : (vs : List Value) (i : ℕ) (v : Value) (xs : List X) (x : X) (more : List X)
      → i < length vs → v ≡ get_or vs i v → more ≡ xs ++ x ∷ [] → AreItems Is (items_view (take i vs)) xs → Is (view v) x
      → AreItems Is (items_view (take (i + 1) vs)) more
  items_more vs i v xs x more below at grown are is =
      let front : take i vs ++ v ∷ [] ≡ take (i + 1) vs = ap (λ w. take i vs ++ w ∷ []) at ∙ sym (take_more vs i v below) in
      let Front : List Value → Type 0 = λ us. AreItems Is (items_view us) (xs ++ x ∷ []) in
      let Back : List X → Type 0 = λ l. AreItems Is (items_view (take (i + 1) vs)) l in
      subst Back (sym grown) (subst Front front (items_pushed (take i vs) v xs x are is))

  -- the same for the views of the list that grew
  pub seen_more : {Y : Type 0} (f : Y → X) (vs : List Value) (i : ℕ) (v : Value) (ys : List Y) (y : Y) (more : List Y)
      → i < length vs → v ≡ get_or vs i v → more ≡ ys ++ y ∷ [] → AreItems Is (items_view (take i vs)) (map f ys) → Is (view v) (f y)
      → AreItems Is (items_view (take (i + 1) vs)) (map f more)
  seen_more f vs i v ys y more below at grown are is =
      items_more vs i v (map f ys) (f y) (map f more) below at (ap (map f) grown ∙ map-append f ys (y ∷ [])) are is

-- a list of texts is only one list of texts
pub texts_same : (ds : Items) (xs ys : List (List ℕ)) → AreItems IsText ds xs → AreItems IsText ds ys → xs ≡ ys
texts_same no_items [] [] are also = refl
texts_same no_items [] (y ∷ ys) are also = absurd also
texts_same no_items (x ∷ xs) ys are also = absurd are
texts_same (item d ds) [] ys are also = absurd are
texts_same (item d ds) (x ∷ xs) [] are also = absurd also
texts_same (item d ds) (x ∷ xs) (y ∷ ys) are also =
    let first : x ≡ y = let e : Some x ≡ Some y = sym are.0 ∙ also.0 in cc in
    let rest = texts_same ds xs ys are.1 also.1 in
    cc
