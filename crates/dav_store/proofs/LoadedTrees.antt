-- A tree that grows by the nodes of a listing, one after another.
use Rattle.std.proofs.Common.{◌≡◌, ◌≢◌, ◌++◌, ◌+◌, ◌<◌, ℕ, Bool, true, false, T, length, get_or, take, drop, List, [], ◌∷◌, Option, Some, None, refl, sym, ap, subst, ◌∙◌, arith}
use Rattle.std.specs.List.{AllByRecursion, remove}
use Rattle.std.specs.FinMap.{find, put, is_sorted}
use Rattle.std.specs.declared.cmp.Ordering.TheVariants.{Less, Equal, Greater}
use Rattle.std.proofs.lemmas.List.{length-take-le}
use Rattle.dav_core.specs.Path.{Path, path_cmp, parent_of}
use Rattle.dav_core.specs.World.{Node, Nodes, is_folder_node}
use Rattle.dav_store.specs.Loaded.{IsApart, AreApart, IsListing, HaveFolders}
use Rattle.dav_store.specs.Makings.{IsUnmade}
use Rattle.dav_store.proofs.LoadedNodes.{AreBelow, are_below, free_above, put_last, parent_less, folder_before, all_push}
use Rattle.dav_store.proofs.LoadedWorlds.{along, apart_middle, split_at, one_more, behind_first}

-- a node of a listing after the first, and the nodes before it
pub record IsNext (ns : Nodes) (i : ℕ) (x : Path × Node) : Type 0 where
  pub within : i < length ns
  pub is : x ≡ get_or ns i x
  pub some : 0 < i

pub next_is : (ns others : Nodes) (n : ℕ) (x : Path × Node) → others ≡ remove ns 0 → n < length others → x ≡ get_or others n x → IsNext ns (n + 1) x
next_is ns others n x removed lt at = let b = behind_first ns others n x removed lt at in record { within = b.0; is = b.1; some = omega arith }

not_root : (p : Path) (es : Nodes) → AreBelow p es → 0 < length es → p ≢ []
not_root p [] h some e = absurd (omega (arith, some))
not_root p ((q, n) ∷ es) h some e = by q (ap (path_cmp q) (sym e) ∙ h.0) where
  by : (q : Path) → path_cmp q [] ≡ Less → ⊥
  by [] is = cc
  by (x ∷ q) is = cc

module _ (ns : Nodes) (listing : IsListing ns) (i : ℕ) (x : Path × Node) (next : IsNext ns i x) where
  abbrev before : Nodes
  before = take i ns

  split : ns ≡ before ++ x ∷ drop (i + 1) ns
  split = split_at ns i x next.within next.is

  below : AreBelow x.0 before
  below = are_below before x (drop (i + 1) ns) (subst (λ (ms : Nodes). T (is_sorted path_cmp ms)) split listing.sorted)

  apart : AllByRecursion (λ e. IsApart e x) before
  apart = apart_middle before x (drop (i + 1) ns) (subst AreApart split listing.apart)

  pub free_next : find path_cmp x.0 before ≡ None
  free_next = free_above x.0 before below

  pub unmade_next : IsUnmade x.1.made before
  unmade_next = along (λ e a. a.1.0) before apart

  parent_below : (p : Path) → x.0 ≡ p → path_cmp (parent_of p) p ≡ Less
  parent_below [] e = absurd (not_root x.0 before below (let len = length-take-le i ns (omega (arith, next.within)) in omega (arith, len, next.some)) e)
  parent_below (y ∷ p) e = parent_less y p

  -- its folder is among the nodes before it, where it is among all
  pub folder_next : find path_cmp (parent_of x.0) ns ≡ find path_cmp (parent_of x.0) before
  folder_next =
      ap (find path_cmp (parent_of x.0)) split
      ∙ folder_before (parent_of x.0) before x (drop (i + 1) ns) (subst (λ (ms : Nodes). T (is_sorted path_cmp ms)) split listing.sorted) (parent_below x.0 refl)

  pub grown_next : put path_cmp x.0 x.1 before ≡ take (i + 1) ns
  grown_next = put_last x.0 x.1 before below ∙ sym (one_more ns i x next.within next.is)

  pub folders_next : HaveFolders ns before → is_folder_node (find path_cmp (parent_of x.0) before) ≡ true → HaveFolders ns (take (i + 1) ns)
  folders_next have folder =
      subst (λ (ms : Nodes). HaveFolders ns ms) (sym (one_more ns i x next.within next.is))
      (all_push (λ e. is_folder_node (find path_cmp (parent_of e.0) ns) ≡ true) before x have (ap is_folder_node folder_next ∙ folder))
