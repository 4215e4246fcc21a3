-- The nodes of a tree after one step.
use Rattle.std.proofs.Common.{◌≡◌, ℕ, List, [], ◌∷◌, Some, None, Option, refl, sym, ap, subst, ◌∙◌}
use Rattle.std.proofs.Common.{◌+◌, ◌-◌, arith, Bool, true, false, cond}
use Rattle.std.specs.Ordering.{nat_cmp, is_eq, match_ordering}
use Rattle.std.specs.Cmp.{nat_cmp_total, tied_itself}
use Rattle.std.specs.declared.cmp.Ordering.{Ordering}
use Rattle.std.specs.declared.cmp.Ordering.TheVariants.{Less, Equal, Greater}
use Rattle.std.specs.BTreeMap.{is_at, insert_entry}
use Rattle.std.specs.Map.{lookup, set_value, remove_entry}
use Rattle.std.specs.List.{AllZip}
use Rattle.std.proofs.lemmas.Map.Steps.{set_value_same}
use Rattle.dav_store.specs.Tree.{Tree, Node, NoneAbove, shrunk, grown, leaf, node, is_within, DoesOrLacks}
use Rattle.std.proofs.Common.{Result, Ok, Err, inl, inr}
use Rattle.dav_core.specs.declared.errors.FsError.{FsError}
use Rattle.dav_core.specs.declared.errors.FsError.TheVariants.{InsufficientStorage}
use Rattle.std.specs.Prelude.{zero, suc, ◌<◌, ◌==◌, if◌then◌else◌}
use Rattle.std.specs.Option.{option_map_or}
use Rattle.std.proofs.lemmas.Bool.{eq-eqb}

-- what a look-up of a node found, written back, changes nothing
pub written_back : {X : Type 0} (n : ℕ) (es : List (ℕ × X)) (b : X) → lookup (is_at (nat_cmp n)) es ≡ Some b → set_value (is_at (nat_cmp n)) es b ≡ es
written_back n es b is = set_value_same (is_at (nat_cmp n)) es b is

-- a number that isn't there isn't there after a change of a node
miss_step : {X : Type 0} (q n : ℕ) (e : ℕ × X) (es : List (ℕ × X)) (b : X) (at to : Bool) → cond at (Some e.1) (lookup (is_at (nat_cmp q)) es) ≡ None
    → is_at (nat_cmp q) e.0 ≡ at → (lookup (is_at (nat_cmp q)) es ≡ None → lookup (is_at (nat_cmp q)) (set_value (is_at (nat_cmp n)) es b) ≡ None)
    → lookup (is_at (nat_cmp q)) (cond to ((e.0, b) ∷ es) (e ∷ set_value (is_at (nat_cmp n)) es b)) ≡ None
miss_step q n e es b true to h was ih = cc
miss_step q n e es b false true h was ih = ap (λ c. cond c (Some b) (lookup (is_at (nat_cmp q)) es)) was ∙ h
miss_step q n e es b false false h was ih = ap (λ c. cond c (Some e.1) (lookup (is_at (nat_cmp q)) (set_value (is_at (nat_cmp n)) es b))) was ∙ ih h

pub miss_set_value : {X : Type 0} (q n : ℕ) (es : List (ℕ × X)) (b : X) → lookup (is_at (nat_cmp q)) es ≡ None → lookup (is_at (nat_cmp q)) (set_value (is_at (nat_cmp n)) es b) ≡ None
miss_set_value q n [] b h = h
miss_set_value q n (e ∷ es) b h = miss_step q n e es b (is_at (nat_cmp q) e.0) (is_at (nat_cmp n) e.0) h refl (miss_set_value q n es b)

-- a number that isn't there, put in and taken out again
back_step : {X : Type 0} (n : ℕ) (e : ℕ × X) (es : List (ℕ × X)) (b : X) (o : Ordering) → nat_cmp n e.0 ≡ o → cond (is_eq o) (Some e.1) (lookup (is_at (nat_cmp n)) es) ≡ None
    → (lookup (is_at (nat_cmp n)) es ≡ None → remove_entry (is_at (nat_cmp n)) (insert_entry nat_cmp es n b) ≡ es)
    → remove_entry (is_at (nat_cmp n)) (match_ordering o ((n, b) ∷ e ∷ es) ((e.0, b) ∷ es) (e ∷ insert_entry nat_cmp es n b)) ≡ e ∷ es
back_step n e es b Less was h ih = ap (λ c. cond (is_eq c) (e ∷ es) ((n, b) ∷ remove_entry (is_at (nat_cmp n)) (e ∷ es))) (tied_itself nat_cmp_total n)
back_step n e es b Equal was h ih = cc
back_step n e es b Greater was h ih =
    ap (λ c. cond (is_eq c) (insert_entry nat_cmp es n b) (e ∷ remove_entry (is_at (nat_cmp n)) (insert_entry nat_cmp es n b))) was ∙ ap (λ r. e ∷ r) (ih h)

pub back_insert_entry : {X : Type 0} (n : ℕ) (es : List (ℕ × X)) (b : X) → lookup (is_at (nat_cmp n)) es ≡ None → remove_entry (is_at (nat_cmp n)) (insert_entry nat_cmp es n b) ≡ es
back_insert_entry n [] b h = ap (λ c. cond (is_eq c) [] ((n, b) ∷ [])) (tied_itself nat_cmp_total n)
back_insert_entry n (e ∷ es) b h = back_step n e es b (nat_cmp n e.0) refl h (back_insert_entry n es b)

-- a tree that grew and shrank is as it was
pub taken_back : {K D : Type 0} (t : Tree K D) (parent : ℕ) (value : D) → NoneAbove t → shrunk (grown t parent value) ≡ t
taken_back t parent value none =
    λ i. record { nodes = back_insert_entry (t.last + 1) t.nodes (leaf parent value) (none (t.last + 1) (omega arith)) i; last = minus_plus t.last i } where
      minus_plus : (n : ℕ) → n + 1 - 1 ≡ n
      minus_plus n = omega arith

-- one step of a climb that hasn't come to its top
pub step_up : {K D : Type 0} (t : Tree K D) (top n : ℕ) (x : Node K D) (steps : ℕ) → node t n ≡ Some x → (n == top) ≡ false
    → is_within (suc steps) t top n ≡ is_within steps t top x.parent
step_up t top n x steps is other =
    ap (λ b. if b then true else option_map_or (λ x. is_within steps t top x.parent) (node t n) false) other
    ∙ ap (λ o. option_map_or (λ x. is_within steps t top x.parent) o false) is

pub out_of_steps : {K D : Type 0} (t : Tree K D) (top n steps : ℕ) → steps ≡ 0 → is_within steps t top n ≡ false
out_of_steps t top n steps e = ap (λ s. is_within s t top n) e

pub at_top : {K D : Type 0} (t : Tree K D) (top n steps : ℕ) → 0 < steps → n ≡ top → is_within steps t top n ≡ true
at_top t top n zero h e = absurd (omega (arith, h))
at_top t top n (suc steps) h e = ap (λ b. if b then true else option_map_or (λ x. is_within steps t top x.parent) (node t n) false) (eq-eqb n top e)

pub no_node : {K D : Type 0} (t : Tree K D) (top n steps : ℕ) → node t n ≡ None → (n == top) ≡ false → is_within steps t top n ≡ false
no_node t top n zero is other = refl
no_node t top n (suc steps) is other =
    ap (λ b. if b then true else option_map_or (λ x. is_within steps t top x.parent) (node t n) false) other
    ∙ ap (λ o. option_map_or (λ x. is_within steps t top x.parent) o false) is

-- one round of the loop that climbs
pub climbed : {K D : Type 0} (t : Tree K D) (top n : ℕ) (x : Node K D) (round rounds : ℕ) → round < rounds → node t n ≡ Some x → (n == top) ≡ false
    → is_within (rounds - (round + 1)) t top x.parent ≡ is_within (rounds - round) t top n
climbed t top n x round rounds more is other =
    sym (ap (λ s. is_within s t top n) (one_less round rounds more) ∙ step_up t top n x (rounds - (round + 1)) is other) where
      one_less : (i n : ℕ) → i < n → n - i ≡ suc (n - (i + 1))
      one_less i n h = omega (arith, h)

-- a call that no rule refuses is made
pub is_done : {X Y : Type 0} (takes : Bool) (refusal : Option FsError) (answer : Y) (made old new : X) (result : Result Y FsError)
    → refusal ≡ None → result ≡ Ok answer → new ≡ made → DoesOrLacks takes refusal answer made result old new
is_done takes refusal answer made old new result free ok is = subst (λ r. DoesOrLacks takes r answer made result old new) (sym free) (inl (ok, is))

-- or lacks memory
pub is_lacking : {X Y : Type 0} (takes : Bool) (refusal : Option FsError) (answer : Y) (made old new : X) (result : Result Y FsError)
    → refusal ≡ None → takes ≡ true → result ≡ Err InsufficientStorage → new ≡ old → DoesOrLacks takes refusal answer made result old new
is_lacking takes refusal answer made old new result free memory err same =
    subst (λ r. DoesOrLacks takes r answer made result old new) (sym free) (inr (memory, err, same))

-- a number that isn't there isn't there in a clone
cloned_step : {X : Type 0} (q m n : ℕ) (x y : X) (es ds : List (ℕ × X)) (at : Bool) → is_at (nat_cmp q) m ≡ at → n ≡ m → cond at (Some x) (lookup (is_at (nat_cmp q)) es) ≡ None
    → (lookup (is_at (nat_cmp q)) es ≡ None → lookup (is_at (nat_cmp q)) ds ≡ None) → cond (is_at (nat_cmp q) n) (Some y) (lookup (is_at (nat_cmp q)) ds) ≡ None
cloned_step q m n x y es ds true was e h ih = cc
cloned_step q m n x y es ds false was e h ih = ap (λ c. cond c (Some y) (lookup (is_at (nat_cmp q)) ds)) (ap (is_at (nat_cmp q)) e ∙ was) ∙ ih h

pub none_cloned : {X : Type 0} (R : X → X → Type 0) (q : ℕ) (es ds : List (ℕ × X)) → AllZip (λ e c. (c.0 ≡ e.0) × R e.1 c.1) es ds
    → lookup (is_at (nat_cmp q)) es ≡ None → lookup (is_at (nat_cmp q)) ds ≡ None
none_cloned R q [] [] z h = h
none_cloned R q [] (d ∷ ds) z h = absurd z
none_cloned R q (e ∷ es) [] z h = absurd z
none_cloned R q (e ∷ es) (d ∷ ds) z h = cloned_step q e.0 d.0 e.1 d.1 es ds (is_at (nat_cmp q) e.0) refl z.0.0 h (none_cloned R q es ds z.1)
