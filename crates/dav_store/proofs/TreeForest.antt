-- Where the nodes of a tree hang: their parents, and how often each is listed among the children of another.
use Rattle.std.proofs.Common.{◌≡◌, ◌≢◌, ◌<◌, ℕ, Option, Some, None, Bool, true, false, refl, sym, ap, subst, ◌∙◌, arith, ⊎_elim, inl, inr, ◌⊎◌}
use Rattle.std.specs.Prelude.{◌==◌, if◌then◌else◌}
use Rattle.std.proofs.lemmas.Bool.{cases_Bool, cases_eq, eq-eqb, ne_eqb}

-- 1 where the parent is this one, else 0
abbrev pub hit : Option ℕ → ℕ → ℕ
hit None p = 0
hit (Some q) p = if q == p then 1 else 0

-- n is `top`, or comes to it by steps to the parent
pub data Comes (up : ℕ → Option ℕ) (top : ℕ) : ℕ → Type 0 where
  here : {n : ℕ} → n ≡ top → Comes up top n
  above : {n p : ℕ} → up n ≡ Some p → Comes up top p → Comes up top n

-- the root has no parent, each node is listed once below its parent and nowhere else, and comes to the root
pub record Hangs (up : ℕ → Option ℕ) (listed : ℕ → ℕ → ℕ) : Type 0 where
  pub root : up 1 ≡ Some 0
  pub none : up 0 ≡ None
  pub once : (p n : ℕ) → 0 < p → listed p n ≡ hit (up n) p
  pub reached : (n p : ℕ) → up n ≡ Some p → Comes up 1 n

pub hit_is : (o : Option ℕ) (p : ℕ) → o ≡ Some p → hit o p ≡ 1
hit_is o p e = ap (λ x. hit x p) e ∙ ap (λ b. if b then 1 else 0) (eq-eqb p p refl)

pub hit_zero : (o : Option ℕ) (p : ℕ) → hit o p ≡ 0 → o ≡ Some p → ⊥
hit_zero o p z e = let one : hit o p ≡ 1 = hit_is o p e in absurd (omega (arith, z, one))

pub hit_other : (o : Option ℕ) (p : ℕ) → (o ≡ Some p → ⊥) → hit o p ≡ 0
hit_other None p h = refl
hit_other (Some q) p h = ap (λ b. if b then 1 else 0) (ne_eqb q p (λ e. h (ap (λ x. Some x) e)))

pub same_number : (a b : ℕ) → Some a ≡ Some b → a ≡ b
same_number a b e = cc

pub no_number : {X : Type 0} (o : Option ℕ) (a : ℕ) → o ≡ None → o ≡ Some a → X
no_number o a n s = let e : None ≡ Some a = sym n ∙ s in absurd cc

positive : (n : ℕ) → (n ≡ 0 → ⊥) → 0 < n
positive n h = ⊎_elim (λ e. absurd (h e)) (λ _. omega arith) (cases_eq n 0)

module _ {up : ℕ → Option ℕ} {top : ℕ} where
  pub from_nowhere : {n : ℕ} → up n ≡ None → Comes up top n → n ≡ top
  from_nowhere none (here e) = e
  from_nowhere none (above is c) = no_number _ _ none is

  pub comes_on : {b a : ℕ} → Comes up b a → Comes up top b → Comes up top a
  comes_on (here e) c = subst (λ m. Comes up top m) (sym e) c
  comes_on (above is d) c = above is (comes_on d c)

  -- only a node with children has others below it
  pub leaf_alone : {m : ℕ} → ((n : ℕ) → up n ≡ Some top → ⊥) → Comes up top m → m ≡ top
  leaf_alone none (here e) = e
  leaf_alone none (above is c) = absurd (none _ (is ∙ ap (λ x. Some x) (leaf_alone none c)))

module _ {up : ℕ → Option ℕ} {listed : ℕ → ℕ → ℕ} (h : Hangs up listed) where
  -- a node in whose list nothing stands is nobody's parent
  pub no_parent : (l : ℕ) → 0 < l → ((m : ℕ) → listed l m ≡ 0) → (n : ℕ) → up n ≡ Some l → ⊥
  no_parent l pos bare n is = hit_zero (up n) l (sym (h.once l n pos) ∙ bare n) is

  pub not_zero : (n p : ℕ) → up n ≡ Some p → 0 < n
  not_zero n p is = positive n (λ e. no_number (up 0) p h.none (ap up (sym e) ∙ is))

  not_from_root : (n p a : ℕ) → a ≡ 1 → up a ≡ Some p → Comes up n p → 0 < n → ⊥
  not_from_root n p a e is c pos =
      let zero : p ≡ 0 = same_number p 0 (sym is ∙ ap up e ∙ h.root) in
      let end : 0 ≡ n = from_nowhere h.none (subst (λ m. Comes up n m) zero c) in absurd (omega (arith, end, pos))

  climb_out : (n q : ℕ) → up n ≡ Some q → Comes up n q → {a : ℕ} → Comes up 1 a → Comes up n a → ⊥
  climb_out n q is loop (here e) (here k) = not_from_root n q n (sym k ∙ e) is loop (not_zero n q is)
  climb_out n q is loop (here e) (above is' c) = not_from_root n _ _ e is' c (not_zero n q is)
  climb_out n q is loop (above is' b) (here k) =
      climb_out n q is loop b (subst (λ m. Comes up n m) (same_number q _ (sym is ∙ ap up (sym k) ∙ is')) loop)
  climb_out n q is loop (above is' b) (above is'' c) =
      climb_out n q is loop b (subst (λ m. Comes up n m) (same_number _ _ (sym is'' ∙ is')) c)

  -- the root alone has no parent
  pub parent_there : (n p : ℕ) → up n ≡ Some p → n ≢ 1 → 0 < p
  parent_there n p is ne = positive p (λ e. from_root (h.reached n p is) e) where
    from_root : Comes up 1 n → p ≡ 0 → ⊥
    from_root (here e) z = ne e
    from_root (above is' c) z =
        let zero : _ ≡ 0 = same_number _ p (sym is' ∙ is) ∙ z in
        let end : 0 ≡ 1 = from_nowhere h.none (subst (λ m. Comes up 1 m) zero c) in absurd (omega (arith, end))

  -- no node's parent is below it
  pub no_loop : (n q : ℕ) → up n ≡ Some q → Comes up n q → ⊥
  no_loop n q is c = climb_out n q is c (h.reached n q is) (here refl)

-- what it takes that a node without children goes
pub record Drops (up : ℕ → Option ℕ) (listed : ℕ → ℕ → ℕ) (up' : ℕ → Option ℕ) (listed' : ℕ → ℕ → ℕ) (l : ℕ) : Type 0 where
  pub gone : up' l ≡ None
  pub kept : (m : ℕ) → m ≢ l → up' m ≡ up m
  pub bare : (m : ℕ) → listed l m ≡ 0
  pub empty : (m : ℕ) → listed' l m ≡ 0
  pub dropped : (p : ℕ) → listed' p l ≡ 0
  pub same : (p m : ℕ) → p ≢ l → m ≢ l → listed' p m ≡ listed p m

module _ {up : ℕ → Option ℕ} {listed : ℕ → ℕ → ℕ} {up' : ℕ → Option ℕ} {listed' : ℕ → ℕ → ℕ} (h : Hangs up listed) (l : ℕ) (pos : 0 < l) (d : Drops up listed up' listed' l) where
  not_up : {n p : ℕ} → up n ≡ Some p → p ≡ l → ⊥
  not_up is e = no_parent h l pos d.bare _ (is ∙ ap (λ x. Some x) e)

  pub comes_after_drop : {top m : ℕ} → Comes up top m → m ≢ l → Comes up' top m
  comes_after_drop (here e) ne = here e
  comes_after_drop (above is c) ne = above (d.kept _ ne ∙ is) (comes_after_drop c (not_up is))

  pub comes_before_drop : {top m : ℕ} → Comes up' top m → m ≢ l → Comes up top m
  comes_before_drop (here e) ne = here e
  comes_before_drop (above is c) ne = above (sym (d.kept _ ne) ∙ is) (comes_before_drop c (not_up (sym (d.kept _ ne) ∙ is)))

  once_after : (p n : ℕ) → 0 < p → listed' p n ≡ hit (up' n) p
  once_after p n some =
      ⊎_elim
      (λ e. ap (listed' p) e ∙ d.dropped p ∙ sym (ap (λ o. hit o p) (ap up' e ∙ d.gone)))
      (λ ne. ⊎_elim
      (λ e. ap (λ q. listed' q n) e ∙ d.empty n ∙ sym (ap (λ o. hit o p) (d.kept n ne) ∙ ap (hit (up n)) e ∙ sym (h.once l n pos) ∙ d.bare n))
      (λ other. d.same p n other ne ∙ h.once p n some ∙ sym (ap (λ o. hit o p) (d.kept n ne)))
      (cases_eq p l))
      (cases_eq n l)

  pub hangs_after_drop : l ≢ 1 → Hangs up' listed'
  hangs_after_drop ne = record {
    root = d.kept 1 (λ e. ne (sym e)) ∙ h.root;
    none = d.kept 0 (λ e. absurd (omega (arith, e, pos))) ∙ h.none;
    once = once_after;
    reached = λ n p is.
        let other : n ≢ l = λ e. no_number (up' n) p (ap up' e ∙ d.gone) is in
        comes_after_drop (h.reached n p (sym (d.kept n other) ∙ is)) other;
  }

-- what it takes that a node gets a parent, while others without children go
pub record Puts (up : ℕ → Option ℕ) (listed : ℕ → ℕ → ℕ) (up' : ℕ → Option ℕ) (listed' : ℕ → ℕ → ℕ) (goes : ℕ → Bool) (n p : ℕ) : Type 0 where
  pub at : up' n ≡ Some p
  pub kept : (m : ℕ) → m ≢ n → goes m ≡ false → up' m ≡ up m
  pub gone : (g : ℕ) → goes g ≡ true → up' g ≡ None
  pub bare : (g m : ℕ) → goes g ≡ true → listed g m ≡ 0
  pub empty : (g m : ℕ) → goes g ≡ true → listed' g m ≡ 0
  pub dropped : (a g : ℕ) → goes g ≡ true → listed' a g ≡ 0
  pub same : (a m : ℕ) → goes a ≡ false → goes m ≡ false → m ≢ n → listed' a m ≡ listed a m
  pub seat : (a : ℕ) → goes a ≡ false → listed' a n ≡ hit (Some p) a
  pub stays : (goes n ≡ false) × (goes p ≡ false) × (goes 0 ≡ false) × (goes 1 ≡ false)
  pub apart : Comes up n p → ⊥
  pub there : Comes up 1 p
  pub other : (1 ≢ n) × (0 ≢ n)

module _ {up : ℕ → Option ℕ} {listed : ℕ → ℕ → ℕ} {up' : ℕ → Option ℕ} {listed' : ℕ → ℕ → ℕ} {goes : ℕ → Bool} {n p : ℕ} (h : Hangs up listed) (d : Puts up listed up' listed' goes n p) where
  is_kept : (m : ℕ) → goes m ≡ true → goes m ≡ false → ⊥
  is_kept m t f = let e : true ≡ false = sym t ∙ f in cc

  above_zero : (g : ℕ) → goes g ≡ true → 0 < g
  above_zero g t = positive g (λ e. is_kept 0 (ap goes (sym e) ∙ t) d.stays.2)

  -- no node that goes has children
  up_stays : {m q : ℕ} → up m ≡ Some q → goes q ≡ false
  up_stays {m = m} {q = q} is =
      ⊎_elim (λ t. absurd (no_parent h q (above_zero q t) (λ a. d.bare q a t) m is)) (λ f. f) (cases_Bool (goes q))

  -- the nodes that aren't below n come to the root as before
  avoid : {m : ℕ} → Comes up 1 m → goes m ≡ false → Comes up n m ⊎ Comes up' 1 m
  avoid (here e) f = inr (here e)
  avoid {m = m} (above is c) f =
      ⊎_elim
      (λ e. inl (here e))
      (λ ne. ⊎_elim (λ b. inl (above is b)) (λ b. inr (above (d.kept m ne f ∙ is) b)) (avoid c (up_stays is)))
      (cases_eq m n)

  parent_out : Comes up' 1 p
  parent_out = ⊎_elim (λ b. absurd (d.apart b)) (λ b. b) (avoid d.there d.stays.1)

  below_out : {m : ℕ} → Comes up n m → goes m ≡ false → Comes up' 1 m
  below_out (here e) f = subst (λ a. Comes up' 1 a) (sym e) (above d.at parent_out)
  below_out {m = m} (above is c) f =
      ⊎_elim (λ e. subst (λ a. Comes up' 1 a) (sym e) (above d.at parent_out)) (λ ne. above (d.kept m ne f ∙ is) (below_out c (up_stays is))) (cases_eq m n)

  once_put : (a m : ℕ) → 0 < a → listed' a m ≡ hit (up' m) a
  once_put a m some =
      ⊎_elim
      (λ t. d.dropped a m t ∙ sym (ap (λ o. hit o a) (d.gone m t)))
      (λ f. ⊎_elim
      (λ t. d.empty a m t ∙ sym (none_below m a f t))
      (λ g. ⊎_elim
      (λ e. ap (listed' a) e ∙ d.seat a g ∙ sym (ap (λ o. hit o a) (ap up' e ∙ d.at)))
      (λ ne. d.same a m g f ne ∙ h.once a m some ∙ sym (ap (λ o. hit o a) (d.kept m ne f)))
      (cases_eq m n))
      (cases_Bool (goes a)))
      (cases_Bool (goes m)) where
        none_below : (m a : ℕ) → goes m ≡ false → goes a ≡ true → hit (up' m) a ≡ 0
        none_below m a f t =
            ⊎_elim
            (λ e. ap (λ o. hit o a) (ap up' e ∙ d.at) ∙ hit_other (Some p) a (λ k. is_kept a t (ap goes (sym (same_number p a k)) ∙ d.stays.1)))
            (λ ne. ap (λ o. hit o a) (d.kept m ne f) ∙ sym (h.once a m (above_zero a t)) ∙ d.bare a m t)
            (cases_eq m n)

  pub hangs_after_put : Hangs up' listed'
  hangs_after_put = record {
    root = d.kept 1 d.other.0 d.stays.3 ∙ h.root;
    none = d.kept 0 d.other.1 d.stays.2 ∙ h.none;
    once = once_put;
    reached = λ m q is.
        let f : goes m ≡ false = ⊎_elim (λ t. no_number (up' m) q (d.gone m t) is) (λ f. f) (cases_Bool (goes m)) in
        ⊎_elim
        (λ e. subst (λ a. Comes up' 1 a) (sym e) (above d.at parent_out))
        (λ ne. ⊎_elim (λ b. below_out b f) (λ b. b) (avoid (h.reached m q (sym (d.kept m ne f) ∙ is)) f))
        (cases_eq m n);
  }
