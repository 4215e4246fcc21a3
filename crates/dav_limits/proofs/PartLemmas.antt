-- How much of what is at a path and below it passes a test.
use Rattle.std.proofs.Common.{◌≡◌, inl, inr, ◌&&◌, ◌||◌, ◌+◌, ℕ, Bool, true, false, not, cond, T, true≢false, min, MatchOption, [], ◌∷◌, length, Option, Some, None, refl, sym, ap, ◌∙◌, arith}
use Rattle.std.specs.FinMap.{find, is_sorted}
use Rattle.std.specs.FinMap.Entries.{find-where_key, is_sorted-where_key, same_entries}
use Rattle.std.specs.List.{filter, sum_by}
use Rattle.dav_core.specs.Numbers.{max_u64}
use Rattle.dav_core.specs.Path.{Path, is_at_or_under, is_same_path, path_cmp}
use Rattle.dav_core.specs.World.{Node, Nodes}
use Rattle.dav_core.proofs.NodesLemmas.{path_exact, path_total, same_path}
use Rattle.dav_store.specs.declared.memfs.used.Amount.{Amount}
use Rattle.dav_store.specs.Subtrees.{under}
use Rattle.dav_store.specs.Used.{amount_alone, amount_of, len_of, size_of}
use Rattle.dav_engine.proofs.FaultLemmas.{below_trans, one_line}
use Rattle.dav_limits.specs.Added.{nothing}
use Rattle.dav_limits.specs.Parts.{under_where}
use Rattle.dav_limits.proofs.SumLemmas.{len_parts, none_left, one, same_filter, sum_parts}

-- ---- tests

-- a test that follows from another is that test where both hold
joined : (a b : Bool) → (b ≡ true → a ≡ true) → (a && b) ≡ b
joined true b so = refl
joined false true so = let clash : false ≡ true = so refl in cc
joined false false so = refl

joined_left : (a b : Bool) → (a ≡ true → b ≡ true) → (a && b) ≡ a
joined_left true b so = so refl
joined_left false b so = refl

never_both : (a b : Bool) → (a ≡ true → b ≡ true → ⊥) → (a && b) ≡ false
never_both true true bad = absurd (bad refl refl)
never_both true false bad = refl
never_both false b bad = refl

either_is : (a b : Bool) → (b ≡ true → a ≡ true) → (a || b) ≡ a
either_is true b so = refl
either_is false true so = let clash : false ≡ true = so refl in cc
either_is false false so = refl

either_right : (a b : Bool) → (a ≡ true → b ≡ true) → (a || b) ≡ b
either_right true b so = sym (so refl)
either_right false b so = refl

first_of : (t a b : Bool) → (t && (a || b)) && a ≡ (t && a)
first_of true true b = refl
first_of true false true = refl
first_of true false false = refl
first_of false a b = refl

second_of : (t a b : Bool) → (a ≡ true → b ≡ true → ⊥) → ((t && (a || b)) && not a) ≡ (t && b)
second_of true true true bad = absurd (bad refl refl)
second_of true true false bad = refl
second_of true false true bad = refl
second_of true false false bad = refl
second_of false a b bad = refl

-- ---- what is at two paths and below them

-- below the upper one of two paths
pub lower : (top p : Path) (ns : Nodes) → is_at_or_under top p ≡ true → under_where top (λ q. is_at_or_under q p) ns ≡ under top ns
lower top p ns within =
    same_filter (λ e. is_at_or_under e.0 top && is_at_or_under e.0 p) (λ e. is_at_or_under e.0 top)
    (λ e. joined_left (is_at_or_under e.0 top) (is_at_or_under e.0 p) (λ is. below_trans p top e.0 within is)) ns

pub upper : (top p : Path) (ns : Nodes) → is_at_or_under p top ≡ true → under_where top (λ q. is_at_or_under q p) ns ≡ under p ns
upper top p ns within =
    same_filter (λ e. is_at_or_under e.0 top && is_at_or_under e.0 p) (λ e. is_at_or_under e.0 p)
    (λ e. joined (is_at_or_under e.0 top) (is_at_or_under e.0 p) (λ is. below_trans top p e.0 within is)) ns

not_true : (b : Bool) → b ≡ false → b ≡ true → ⊥
not_true b bad is = true≢false (sym is ∙ bad)

-- nothing is below two paths neither of which is below the other
apart : (a b q : Path) → is_at_or_under a b ≡ false → is_at_or_under b a ≡ false → is_at_or_under q a ≡ true → is_at_or_under q b ≡ true → ⊥
apart a b q bad other within both =
    elim (one_line a b q within both) [
      | inl second ↦ not_true (is_at_or_under b a) other second
      | inr first ↦ not_true (is_at_or_under a b) bad first
    ]

pub nowhere : (top p : Path) (ns : Nodes) → is_at_or_under top p ≡ false → is_at_or_under p top ≡ false → under_where top (λ q. is_at_or_under q p) ns ≡ []
nowhere top p ns bad other =
    same_filter (λ e. is_at_or_under e.0 top && is_at_or_under e.0 p) (λ e. false)
    (λ e. never_both (is_at_or_under e.0 top) (is_at_or_under e.0 p) (apart top p e.0 bad other)) ns ∙ none_left ns

-- ---- what is at a path alone

found_one : (q p : Path) (o : Option Node) → is_same_path q p ≡ true → o ≡ find path_cmp q (one p o)
found_one q p None same = refl
found_one q p (Some n) same = sym (ap (λ b. cond b (Some n) None) same)

missing_one : (q p : Path) (o : Option Node) → is_same_path q p ≡ false → None ≡ find path_cmp q (one p o)
missing_one q p None other = refl
missing_one q p (Some n) other = sym (ap (λ b. cond b (Some n) None) other)

by_same : (q p : Path) (b : Bool) → is_same_path q p ≡ b → (ns : Nodes) → cond b (find path_cmp q ns) None ≡ find path_cmp q (one p (find path_cmp p ns))
by_same q p true same ns = found_one q p (find path_cmp q ns) same ∙ ap (λ (r : Path). find path_cmp q (one p (find path_cmp r ns))) (same_path q p same)
by_same q p false other ns = missing_one q p (find path_cmp p ns) other

one_rises : (p : Path) (o : Option Node) → T (is_sorted path_cmp (one p o))
one_rises p None = tt
one_rises p (Some n) = tt

at_alone : (p : Path) (ns : Nodes) → T (is_sorted path_cmp ns) → filter (λ e. is_same_path e.0 p) ns ≡ one p (find path_cmp p ns)
at_alone p ns sorted =
    same_entries path_cmp path_total path_exact (filter (λ e. is_same_path e.0 p) ns) (one p (find path_cmp p ns))
    (is_sorted-where_key path_cmp (λ q. is_same_path q p) ns sorted) (one_rises p (find path_cmp p ns))
    (λ q. find-where_key path_cmp (λ r. is_same_path r p) q (λ x e. ap (λ (r : Path). is_same_path r p) (sym (path_exact q x e))) ns ∙ by_same q p (is_same_path q p) refl ns)

amount_one : (p : Path) (o : Option Node) → amount_of (one p o) ≡ amount_alone o
amount_one p None = refl
amount_one p (Some n) = λ i. record { files = 1; bytes = min (alone i) max_u64 }
  where
    alone : sum_by len_of ((p, n) ∷ []) ≡ size_of n
    alone = omega arith

pub amount_single : (top p : Path) (ns : Nodes) → T (is_sorted path_cmp ns) → is_at_or_under p top ≡ true
    → amount_of (under_where top (λ q. is_same_path q p) ns) ≡ amount_alone (find path_cmp p ns)
amount_single top p ns sorted within =
    ap amount_of (
    same_filter (λ e. is_at_or_under e.0 top && is_same_path e.0 p) (λ e. is_same_path e.0 p)
    (λ e. joined (is_at_or_under e.0 top) (is_same_path e.0 p) (λ is. ap (λ (q : Path). is_at_or_under q top) (same_path e.0 p is) ∙ within)) ns
    ∙ at_alone p ns sorted
    ) ∙ amount_one p (find path_cmp p ns)

pub amount_elsewhere : (top p : Path) (ns : Nodes) → is_at_or_under p top ≡ false → amount_of (under_where top (λ q. is_same_path q p) ns) ≡ nothing
amount_elsewhere top p ns bad =
    ap amount_of (
    same_filter (λ e. is_at_or_under e.0 top && is_same_path e.0 p) (λ e. false)
    (λ e. never_both (is_at_or_under e.0 top) (is_same_path e.0 p) (λ under is. not_true (is_at_or_under p top) bad (ap (λ (q : Path). is_at_or_under q top) (sym (same_path e.0 p is)) ∙ under))) ns
    ∙ none_left ns
    )

-- ---- either of two paths

abbrev both_under : Path → Path → Path → Nodes → Nodes
both_under top p d ns = under_where top (λ q. is_at_or_under q p || is_at_or_under q d) ns

pub either_first : (top p d : Path) (ns : Nodes) → is_at_or_under d p ≡ true → both_under top p d ns ≡ under_where top (λ q. is_at_or_under q p) ns
either_first top p d ns within =
    same_filter (λ e. is_at_or_under e.0 top && (is_at_or_under e.0 p || is_at_or_under e.0 d)) (λ e. is_at_or_under e.0 top && is_at_or_under e.0 p)
    (λ e. ap (λ b. is_at_or_under e.0 top && b) (either_is (is_at_or_under e.0 p) (is_at_or_under e.0 d) (λ is. below_trans p d e.0 within is))) ns

pub either_second : (top p d : Path) (ns : Nodes) → is_at_or_under p d ≡ true → both_under top p d ns ≡ under_where top (λ q. is_at_or_under q d) ns
either_second top p d ns within =
    same_filter (λ e. is_at_or_under e.0 top && (is_at_or_under e.0 p || is_at_or_under e.0 d)) (λ e. is_at_or_under e.0 top && is_at_or_under e.0 d)
    (λ e. ap (λ b. is_at_or_under e.0 top && b) (either_right (is_at_or_under e.0 p) (is_at_or_under e.0 d) (λ is. below_trans d p e.0 within is))) ns

module _ (top p d : Path) (ns : Nodes) (bad : is_at_or_under d p ≡ false) (other : is_at_or_under p d ≡ false) where
  abbrev Whole : Path × Node → Bool
  Whole e = is_at_or_under e.0 top && (is_at_or_under e.0 p || is_at_or_under e.0 d)

  here : filter (λ e. Whole e && is_at_or_under e.0 p) ns ≡ under_where top (λ q. is_at_or_under q p) ns
  here =
      same_filter (λ e. Whole e && is_at_or_under e.0 p) (λ e. is_at_or_under e.0 top && is_at_or_under e.0 p)
      (λ e. first_of (is_at_or_under e.0 top) (is_at_or_under e.0 p) (is_at_or_under e.0 d)) ns

  there : filter (λ e. Whole e && not (is_at_or_under e.0 p)) ns ≡ under_where top (λ q. is_at_or_under q d) ns
  there =
      same_filter (λ e. Whole e && not (is_at_or_under e.0 p)) (λ e. is_at_or_under e.0 top && is_at_or_under e.0 d)
      (λ e. second_of (is_at_or_under e.0 top) (is_at_or_under e.0 p) (is_at_or_under e.0 d) (apart p d e.0 other bad)) ns

  capped : (a b m : ℕ) → min (min a m + min b m) m ≡ min (a + b) m
  capped a b m = omega arith

  pub either_sum : (one two sum : Amount) → one ≡ amount_of (under_where top (λ q. is_at_or_under q p) ns) → two ≡ amount_of (under_where top (λ q. is_at_or_under q d) ns)
      → sum.files ≡ one.files + two.files → sum.bytes ≡ min (one.bytes + two.bytes) max_u64 → sum ≡ amount_of (both_under top p d ns)
  either_sum one two sum is are files bytes =
      let all_files : length (both_under top p d ns) ≡ length (under_where top (λ q. is_at_or_under q p) ns) + length (under_where top (λ q. is_at_or_under q d) ns) =
      len_parts Whole (λ e. is_at_or_under e.0 p) ns ∙ (λ i. length (here i) + length (there i)) in
      let all_bytes : sum_by len_of (both_under top p d ns) ≡ sum_by len_of (under_where top (λ q. is_at_or_under q p) ns) + sum_by len_of (under_where top (λ q. is_at_or_under q d) ns) =
      sum_parts Whole (λ e. is_at_or_under e.0 p) ns ∙ (λ i. sum_by len_of (here i) + sum_by len_of (there i)) in
      let s = sum_by len_of (under_where top (λ q. is_at_or_under q p) ns) in
      let t = sum_by len_of (under_where top (λ q. is_at_or_under q d) ns) in
      let f : sum.files ≡ length (both_under top p d ns) = files ∙ (λ i. (is i).files + (are i).files) ∙ sym all_files in
      let b : sum.bytes ≡ min (sum_by len_of (both_under top p d ns)) max_u64 =
      bytes ∙ (λ i. min ((is i).bytes + (are i).bytes) max_u64) ∙ capped s t max_u64 ∙ ap (λ (n : ℕ). min n max_u64) (sym all_bytes) in
      λ i. record { files = f i; bytes = b i }

-- ---- nothing, and what may be too much

-- a test that nothing passes leaves nothing
pub amount_none : (top : Path) (test : Path → Bool) (ns : Nodes) → ((q : Path) → test q ≡ false) → nothing ≡ amount_of (under_where top test ns)
amount_none top test ns never =
    ap amount_of (sym (
    same_filter (λ e. is_at_or_under e.0 top && test e.0) (λ e. false) (λ e. never_both (is_at_or_under e.0 top) (test e.0) (λ at is. not_true (test e.0) (never e.0) is)) ns
    ∙ none_left ns
    ))

-- tests that say the same count the same
pub amount_same : (top : Path) (test other : Path → Bool) (ns : Nodes) → ((q : Path) → test q ≡ other q) → amount_of (under_where top test ns) ≡ amount_of (under_where top other ns)
amount_same top test other ns same =
    ap amount_of (same_filter (λ e. is_at_or_under e.0 top && test e.0) (λ e. is_at_or_under e.0 top && other e.0) (λ e. ap (λ b. is_at_or_under e.0 top && b) (same e.0)) ns)

pub match_weaker : {A : Type 0} (N : Type 0) (P Q : A → Type 0) → ((a : A) → P a → Q a) → (o : Option A) → MatchOption o N P → MatchOption o N Q
match_weaker N P Q weaker None m = m
match_weaker N P Q weaker (Some a) m = weaker a m
