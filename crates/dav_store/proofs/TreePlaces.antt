-- Trees in which a node takes a place: what holds of each tree still holds.
use Rattle.std.proofs.Common.{◌≡◌, ◌≢◌, ◌+◌, ◌<◌, ℕ, [], Option, Some, None, Bool, true, false, cond, refl, sym, ap, ◌∙◌, arith, ⊎_elim}
use Rattle.std.specs.Prelude.{◌==◌, if◌then◌else◌}
use Rattle.std.specs.Option.{option_map, option_map_or}
use Rattle.std.proofs.lemmas.Bool.{cases_eq, eqb-true, eq-eqb, ne_eqb}
use Rattle.dav_store.specs.Tree.{Tree, IsRooted, node, without, without_old, has_children, times_listed}
use Rattle.dav_store.proofs.TreeForest.{Comes, here, Hangs, Puts, hit, hit_is, same_number, no_number, hangs_after_put, no_loop, not_zero}
use Rattle.dav_store.proofs.TreeNodes.{order-taken, times, one_if}
use Rattle.dav_store.proofs.TreeHangs.{IsInOrder, up, rooted, gone_here, gone_there, bare_node, unlisted_elsewhere, one_other, one_self}

-- a number that counts where two are the same
abbrev pub part : ℕ → ℕ → ℕ → ℕ
part p a x = cond (p == a) x 0

pub part_yes : (p a x : ℕ) → p ≡ a → part p a x ≡ x
part_yes p a x e = ap (λ b. cond b x 0) (eq-eqb p a e)

pub part_no : (p a x : ℕ) → p ≢ a → part p a x ≡ 0
part_no p a x ne = ap (λ b. cond b x 0) (ne_eqb p a ne)

pub part_zero : (p a : ℕ) → part p a 0 ≡ 0
part_zero p a = ⊎_elim (λ e. part_yes p a 0 e) (λ ne. part_no p a 0 ne) (cases_eq p a)

-- how often a number is the one that goes
abbrev pub times_old : Option ℕ → ℕ → ℕ
times_old old m = option_map_or (λ o. one_if o m) old 0

-- whether a number goes
abbrev pub goes : Option ℕ → ℕ → Bool
goes old m = option_map_or (λ o. o == m) old false

stays_not_old : (old : Option ℕ) (m : ℕ) → goes old m ≡ false → times_old old m ≡ 0
stays_not_old None m f = refl
stays_not_old (Some o) m f = ap (λ b. if b then 1 else 0) f

module _ {K D : Type 0} where
  -- a node has taken a place below p; what stood there still has to go
  pub record Placed (t s : Tree K D) (old : Option ℕ) (n p : ℕ) (from : ℕ → ℕ → ℕ) : Type 0 where
    pub order : IsInOrder s
    pub seat_is : up s n ≡ Some p
    pub others : (m : ℕ) → m ≢ n → up s m ≡ up t m
    pub count : (a m : ℕ) → times_listed s a m + from a m + part p a (times_old old m) ≡ times_listed t a m + part p a (one_if n m)
    pub from_other : (a m : ℕ) → m ≢ n → from a m ≡ 0
    pub from_is : (a : ℕ) → times_listed t a n ≡ from a n

  -- what goes is another child of p, without children
  abbrev pub OldIs : Tree K D → Option ℕ → ℕ → ℕ → Type 0
  OldIs t None n p = Unit {0}
  OldIs t (Some o) n p = (up t o ≡ Some p) × (has_children t o ≡ false) × (o ≢ n)

  module _ {t s : Tree K D} {n p : ℕ} {from : ℕ → ℕ → ℕ} (h : Hangs (up t) (times_listed t)) where
    same_count : (old : Option ℕ) → Placed t s old n p from → (a m : ℕ) → goes old m ≡ false → m ≢ n → times_listed s a m ≡ times_listed t a m
    same_count old d a m f ne =
        let gone : part p a (times_old old m) ≡ 0 = ap (part p a) (stays_not_old old m f) ∙ part_zero p a in
        let come : part p a (one_if n m) ≡ 0 = ap (part p a) (one_other n m ne) ∙ part_zero p a in
        omega (arith, d.count a m, d.from_other a m ne, gone, come)

    seat_count : (old : Option ℕ) → Placed t s old n p from → goes old n ≡ false → (a : ℕ) → times_listed s a n ≡ hit (Some p) a
    seat_count old d f a =
        let gone : part p a (times_old old n) ≡ 0 = ap (part p a) (stays_not_old old n f) ∙ part_zero p a in
        let come : part p a (one_if n n) ≡ hit (Some p) a = ap (part p a) (one_self n) in
        omega (arith, d.count a n, d.from_is a, gone, come)

    pub puts_new : Placed t s None n p from → Comes (up t) 1 p → (1 ≢ n) × (0 ≢ n) → (Comes (up t) n p → ⊥) → Puts (up t) (times_listed t) (up s) (times_listed s) (goes None) n p
    puts_new d there other apart = record {
      at = d.seat_is;
      kept = λ m ne f. d.others m ne;
      gone = λ g e. absurd (let e : false ≡ true = e in cc);
      bare = λ g m e. absurd (let e : false ≡ true = e in cc);
      empty = λ g m e. absurd (let e : false ≡ true = e in cc);
      dropped = λ a g e. absurd (let e : false ≡ true = e in cc);
      same = λ a m f g ne. same_count None d a m g ne;
      seat = λ a f. seat_count None d refl a;
      stays = (refl, refl, refl, refl);
      apart = apart;
      there = there;
      other = other;
    }

    -- the one that goes isn't counted any more
    dropped_count : (o : ℕ) → Placed t s (Some o) n p from → up t o ≡ Some p → o ≢ n → 0 < p → (a : ℕ) → times_listed s a o ≡ 0
    dropped_count o d is ne pos a =
        ⊎_elim
        (λ e. let one : times_listed t a o ≡ 1 = ap (λ b. times_listed t b o) (sym e) ∙ h.once p o pos ∙ hit_is (up t o) p is in
        let gone : part p a (one_if o o) ≡ 1 = part_yes p a (one_if o o) e ∙ one_self o in
        let come : part p a (one_if n o) ≡ 0 = ap (part p a) (one_other n o ne) ∙ part_zero p a in
        omega (arith, d.count a o, one, gone, come))
        (λ other. let zero : times_listed t a o ≡ 0 = unlisted_elsewhere t a o p h is (λ e. other (sym e)) in
        let come : part p a (one_if n o) ≡ 0 = part_no p a (one_if n o) other in
        omega (arith, d.count a o, zero, come))
        (cases_eq p a)

    pub puts_old : (o q : ℕ) → Placed t s (Some o) n p from → OldIs t (Some o) n p → up t p ≡ Some q → (1 ≢ n) × (0 ≢ n) → (Comes (up t) n p → ⊥)
        → Puts (up t) (times_listed t) (up (without s o)) (times_listed (without s o)) (goes (Some o)) n p
    puts_old o q d old there other apart =
        let pos : 0 < p = not_zero h p q there in
        let not_self : o ≢ p = λ e. no_loop h p p (ap (up t) (sym e) ∙ old.0) (here refl) in
        let not_none : o ≢ 0 = λ e. no_number (up t 0) p h.none (ap (up t) (sym e) ∙ old.0) in
        let not_root : o ≢ 1 = λ e. absurd (omega (arith, pos, same_number 0 p (sym h.root ∙ ap (up t) (sym e) ∙ old.0))) in
        let is : (g : ℕ) → (o == g) ≡ true → o ≡ g = eqb-true o in
        let isnt : (g : ℕ) → (o == g) ≡ false → o ≢ g = λ g f e. absurd (let y : true ≡ false = sym (eq-eqb o g e) ∙ f in cc) in
        let nothing : (m : ℕ) → times_listed (without s o) o m ≡ 0 = λ m. ap (λ x. times m (option_map_or (λ z. z.children) x [])) (gone_here s o d.order) in
        let others : (a m : ℕ) → o ≢ a → times_listed (without s o) a m ≡ times_listed s a m =
        λ a m ne. ap (λ x. times m (option_map_or (λ z. z.children) x [])) (gone_there s o a d.order ne) in
        record {
          at = ap (option_map (λ x. x.parent)) (gone_there s o n d.order old.2) ∙ d.seat_is;
          kept = λ m ne f. ap (option_map (λ x. x.parent)) (gone_there s o m d.order (isnt m f)) ∙ d.others m ne;
          gone = λ g e. ap (option_map (λ x. x.parent)) (ap (node (without s o)) (sym (is g e)) ∙ gone_here s o d.order);
          bare = λ g m e. ap (λ a. times_listed t a m) (sym (is g e)) ∙ bare_node m (node t o) old.1;
          empty = λ g m e. ap (λ a. times_listed (without s o) a m) (sym (is g e)) ∙ nothing m;
          dropped = λ a g e.
              ap (times_listed (without s o) a) (sym (is g e))
              ∙ ⊎_elim (λ k. ap (λ b. times_listed (without s o) b o) (sym k) ∙ nothing o) (λ ne. others a o ne ∙ dropped_count o d old.0 old.2 pos a) (cases_eq o a);
          same = λ a m f g ne. others a m (isnt a f) ∙ same_count (Some o) d a m g ne;
          seat = λ a f. others a n (isnt a f) ∙ seat_count (Some o) d (ne_eqb o n old.2) a;
          stays = (ne_eqb o n old.2, ne_eqb o p not_self, ne_eqb o 0 not_none, ne_eqb o 1 not_root);
          apart = apart;
          there = h.reached p q there;
          other = other;
        }

  pub rooted_placed : (t s : Tree K D) (old : Option ℕ) (n p q : ℕ) (from : ℕ → ℕ → ℕ) → Hangs (up t) (times_listed t) → Placed t s old n p from → OldIs t old n p → up t p ≡ Some q
      → (1 ≢ n) × (0 ≢ n) → (Comes (up t) n p → ⊥) → IsRooted (without_old old s)
  rooted_placed t s None n p q from h d old there other apart = rooted s d.order (hangs_after_put h (puts_new h d (h.reached p q there) other apart))
  rooted_placed t s (Some o) n p q from h d old there other apart =
      rooted (without s o) (order-taken o s.nodes d.order) (hangs_after_put h (puts_old h o q d old there other apart))
