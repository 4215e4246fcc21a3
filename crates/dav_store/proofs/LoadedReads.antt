-- Reading where only some values are taken.
use Rattle.std.proofs.Common.{◌≡◌, ◌++◌, ◌+◌, ◌-◌, ◌<◌, ℕ, suc, List, [], ◌∷◌, Option, Some, None, Result, Ok, Err, refl, sym, ap, subst, ◌∙◌, arith}
use Rattle.std.specs.Prelude.{IfOk}
use Rattle.std.specs.List.{AllByRecursion}
use Rattle.dav_core.specs.Path.{Path}
use Rattle.dav_core.specs.World.{World, Node, Nodes}
use Rattle.dav_saved.specs.declared.errors.LoadError.{LoadError}
use Rattle.dav_saved.specs.declared.errors.LoadError.TheVariants.{Memory, NotSaved}
use Rattle.dav_saved.specs.Reading.{Read, ◌>>=◌, Fails, Gives, number_at, many_at, list_at}
use Rattle.dav_saved.specs.Parts.{both_at, as_at}
use Rattle.dav_saved.specs.Worlds.{entry_at, world_at, world_of}
use Rattle.dav_saved.proofs.Fields.{bind_some, some_is}
use Rattle.dav_saved.proofs.Loop.{with_front}
use Rattle.dav_store.specs.Loaded.{GivesOnly, Refuses, IsFit}
use Rattle.dav_store.proofs.LoadedNodes.{all_middle}

-- what an error says of one reading it says of another
pub passed_on : {X Y : Type 0} (P : X → Type 0) (Q : Y → Type 0) (e : LoadError) (r : Read X) (s : Read Y) → (((y : X × List ℕ) → r ≡ Some y → ¬ P y.0) → (z : Y × List ℕ) → s ≡ Some z → ¬ Q z.0)
    → Refuses P e r → Refuses Q e s
passed_on P Q Memory r s f h = tt
passed_on P Q NotSaved r s f h = f h

pub none_for : {X Y : Type 0} (Q : Y → Type 0) (e : LoadError) (r : Option X) (s : Read Y) → (r ≡ None → s ≡ None) → Fails e r → Refuses Q e s
none_for Q Memory r s f h = tt
none_for Q NotSaved r s f h = λ z is holds. let clash : None ≡ Some z = sym (f h) ∙ is in cc

-- ---- two parts

module _ {A B : Type 0} (P : A → Type 0) (Q : B → Type 0) (one : List ℕ → Read A) (other : List ℕ → Read B) (bytes : List ℕ) where
  first_by : ((y : A × List ℕ) → one bytes ≡ Some y → ¬ P y.0) → (z : (A × B) × List ℕ) → both_at one other bytes ≡ Some z → ¬ (P z.0.0 × Q z.0.1)
  unfolding both_at
  first_by none z e h =
      let a = bind_some (one bytes) (λ a. other a.1 >>= λ b. Some ((a.0, b.0), b.1)) z e in
      let b = bind_some (other a.0.1) (λ b. Some ((a.0.0, b.0), b.1)) z a.2 in
      let same : ((a.0.0, b.0.0), b.0.1) ≡ z = some_is ((a.0.0, b.0.0), b.0.1) z b.2 in
      none a.0 a.1 (subst (λ (y : (A × B) × List ℕ). P y.0.0) (sym same) h.0)

  pub first_refused : (e : LoadError) → Refuses P e (one bytes) → Refuses (λ z. P z.0 × Q z.1) e (both_at one other bytes)
  first_refused e h = passed_on P (λ (z : A × B). P z.0 × Q z.1) e (one bytes) (both_at one other bytes) first_by h

  module _ (a : A) (rest : List ℕ) (is : one bytes ≡ Some (a, rest)) where
    second_by : ((y : B × List ℕ) → other rest ≡ Some y → ¬ Q y.0) → (z : (A × B) × List ℕ) → both_at one other bytes ≡ Some z → ¬ (P z.0.0 × Q z.0.1)
    unfolding both_at
    second_by none z e h =
        let behind : (other rest >>= λ b. Some ((a, b.0), b.1)) ≡ Some z = sym (ap (λ (r : Read A). r >>= λ a. other a.1 >>= λ b. Some ((a.0, b.0), b.1)) is) ∙ e in
        let b = bind_some (other rest) (λ b. Some ((a, b.0), b.1)) z behind in
        let same : ((a, b.0.0), b.0.1) ≡ z = some_is ((a, b.0.0), b.0.1) z b.2 in
        none b.0 b.1 (subst (λ (y : (A × B) × List ℕ). Q y.0.1) (sym same) h.1)

    pub second_refused : (e : LoadError) → Refuses Q e (other rest) → Refuses (λ z. P z.0 × Q z.1) e (both_at one other bytes)
    second_refused e h = passed_on Q (λ (z : A × B). P z.0 × Q z.1) e (other rest) (both_at one other bytes) second_by h

    pub both_read : (b : B) (after : List ℕ) → other rest ≡ Some (b, after) → both_at one other bytes ≡ Some ((a, b), after)
    unfolding both_at
    both_read b after there = rw (is, there) refl

-- ---- a value that is made of parts

module _ {A B : Type 0} (make : A → B) (one : List ℕ → Read A) (bytes : List ℕ) where
  none_made : one bytes ≡ None → as_at make one bytes ≡ None
  unfolding as_at
  none_made is = rw is refl

  pub parts_failed : (Q : B → Type 0) (e : LoadError) → Fails e (one bytes) → Refuses Q e (as_at make one bytes)
  parts_failed Q e h = none_for Q e (one bytes) (as_at make one bytes) none_made h

  pub made_of : (a : A) (rest : List ℕ) → one bytes ≡ Some (a, rest) → as_at make one bytes ≡ Some (make a, rest)
  unfolding as_at
  made_of a rest is = rw is refl

  pub unfit_made : (Q : B → Type 0) (a : A) (rest : List ℕ) → one bytes ≡ Some (a, rest) → ¬ Q (make a) → (z : B × List ℕ) → as_at make one bytes ≡ Some z → ¬ Q z.0
  unfit_made Q a rest is not z e h =
      let same : (make a, rest) ≡ z = some_is (make a, rest) z (sym (made_of a rest is) ∙ e) in
      not (subst (λ (y : B × List ℕ). Q y.0) (sym same) h)

-- ---- lists

module _ {A : Type 0} (P : A → Type 0) (one : List ℕ → Read A) where
  ends_by : (front : List A) (count i : ℕ) (bytes : List ℕ) (total : Read (List A)) → i < count → ((y : A × List ℕ) → one bytes ≡ Some y → ¬ P y.0)
      → with_front front (many_at one (count - i) bytes) ≡ total → (z : List A × List ℕ) → total ≡ Some z → ¬ AllByRecursion P z.0
  unfolding many_at
  ends_by front count i bytes total lt none so_far z is all =
      let m = count - (i + 1) in
      let k : count - i ≡ suc m = omega arith in
      let whole : with_front front (many_at one (suc m) bytes) ≡ Some z = ap (λ (n : ℕ). with_front front (many_at one n bytes)) (sym k) ∙ so_far ∙ is in
      let x = bind_some (many_at one (suc m) bytes) (λ x. Some (front ++ x.0, x.1)) z whole in
      let a = bind_some (one bytes) (λ first. many_at one m first.1 >>= λ others. Some (first.0 ∷ others.0, others.1)) x.0 x.1 in
      let o = bind_some (many_at one m a.0.1) (λ others. Some (a.0.0 ∷ others.0, others.1)) x.0 a.2 in
      let same : (a.0.0 ∷ o.0.0, o.0.1) ≡ x.0 = some_is (a.0.0 ∷ o.0.0, o.0.1) x.0 o.2 in
      let end : (front ++ x.0.0, x.0.1) ≡ z = some_is (front ++ x.0.0, x.0.1) z x.2 in
      let here : AllByRecursion P (front ++ x.0.0) = subst (λ (y : List A × List ℕ). AllByRecursion P y.0) (sym end) all in
      none a.0 a.1 (all_middle P front a.0.0 o.0.0 (subst (λ (y : List A × List ℕ). AllByRecursion P (front ++ y.0)) (sym same) here))

  pub ends_only : (e : LoadError) (front : List A) (count i : ℕ) (bytes : List ℕ) (total : Read (List A)) → i < count → Refuses P e (one bytes)
      → with_front front (many_at one (count - i) bytes) ≡ total → Refuses (AllByRecursion P) e total
  ends_only e front count i bytes total lt h so_far = passed_on P (AllByRecursion P) e (one bytes) total (λ none. ends_by front count i bytes total lt none so_far) h

  pub behind_count : (bytes : List ℕ) (n : ℕ) (rest : List ℕ) → number_at bytes ≡ Some (n, rest) → list_at one bytes ≡ many_at one n rest
  unfolding list_at
  behind_count bytes n rest is = rw is refl

  no_count : (bytes : List ℕ) → number_at bytes ≡ None → list_at one bytes ≡ None
  unfolding list_at
  no_count bytes is = rw is refl

  pub count_failed : (bytes : List ℕ) (e : LoadError) → Fails e (number_at bytes) → Refuses (AllByRecursion P) e (list_at one bytes)
  count_failed bytes e h = none_for (AllByRecursion P) e (number_at bytes) (list_at one bytes) (no_count bytes) h

-- ---- worlds

-- every node may stand in the world
abbrev pub AreFit : World → Type 0
AreFit w = AllByRecursion (IsFit w.next) w.nodes

module _ (levels : ℕ) (bytes : List ℕ) where
  no_next : number_at bytes ≡ None → world_at levels bytes ≡ None
  unfolding world_at as_at both_at
  no_next is = rw is refl

  pub next_failed : (e : LoadError) → Fails e (number_at bytes) → Refuses AreFit e (world_at levels bytes)
  next_failed e h = none_for AreFit e (number_at bytes) (world_at levels bytes) no_next h

  module _ (next : ℕ) (rest : List ℕ) (is : number_at bytes ≡ Some (next, rest)) where
    none_listed : number_at rest ≡ None → world_at levels bytes ≡ None
    unfolding world_at as_at both_at list_at
    none_listed none = rw (is, none) refl

    pub listed_failed : (e : LoadError) → Fails e (number_at rest) → Refuses AreFit e (world_at levels bytes)
    listed_failed e h = none_for AreFit e (number_at rest) (world_at levels bytes) none_listed h

    module _ (count : ℕ) (more : List ℕ) (there : number_at rest ≡ Some (count, more)) where
      pub nodes_read : (ns : Nodes) (after : List ℕ) → many_at (entry_at levels) count more ≡ Some (ns, after) → world_at levels bytes ≡ Some (record { nodes = ns; next = next }, after)
      unfolding world_at as_at both_at list_at
      nodes_read ns after h = rw (is, there, h) refl

      none_read : many_at (entry_at levels) count more ≡ None → world_at levels bytes ≡ None
      unfolding world_at as_at both_at list_at
      none_read h = rw (is, there, h) refl

      nodes_by : ((y : Nodes × List ℕ) → many_at (entry_at levels) count more ≡ Some y → ¬ AllByRecursion (IsFit next) y.0) → (z : World × List ℕ) → world_at levels bytes ≡ Some z → ¬ AreFit z.0
      nodes_by none z e fit = by (many_at (entry_at levels) count more) refl where
        by : (r : Read Nodes) → many_at (entry_at levels) count more ≡ r → ⊥
        by None h = let clash : None ≡ Some z = sym (none_read h) ∙ e in cc
        by (Some y) h =
            let same : ◌≡◌ {A = World × List ℕ} (record { nodes = y.0; next = next }, y.1) z = some_is (record { nodes = y.0; next = next }, y.1) z (sym (nodes_read y.0 y.1 h) ∙ e) in
            none y h (subst (λ (x : World × List ℕ). AreFit x.0) (sym same) fit)

      pub nodes_refused : (e : LoadError) → Refuses (AllByRecursion (IsFit next)) e (many_at (entry_at levels) count more) → Refuses AreFit e (world_at levels bytes)
      nodes_refused e h = passed_on (AllByRecursion (IsFit next)) AreFit e (many_at (entry_at levels) count more) (world_at levels bytes) nodes_by h

-- ---- what a call that takes only some values ensures

pub whole_only : {X Y : Type 0} (P : Y → Type 0) (spell : Y → List ℕ) (view : X → Y × List ℕ) (r : Result X LoadError) (read : Read Y) (bytes : List ℕ)
    → ((y : Y × List ℕ) → read ≡ Some y → bytes ≡ spell y.0 ++ y.1) → GivesOnly P view r read → IfOk r (λ x. bytes ≡ spell (view x).0 ++ (view x).1)
whole_only P spell view (Ok x) read bytes takes h = takes (view x) h.0
whole_only P spell view (Err e) read bytes takes h = tt

pub back_only : {X Y : Type 0} (P : Y → Type 0) (view : X → Y × List ℕ) (r : Result X LoadError) (read : Read Y) (y : Y × List ℕ) → read ≡ Some y → P y.0 → GivesOnly P view r read → Gives view r (Some y)
back_only P view (Ok x) read y is holds h = sym is ∙ h.0
back_only P view (Err Memory) read y is holds h = tt
back_only P view (Err NotSaved) read y is holds h = absurd (h y is holds)
