-- How much a request may change, by its method.
use Rattle.std.proofs.Common.{◌≡◌, ◌⊎◌, inl, inr, ◌&&◌, ◌||◌, Bool, true, false, true≢false, None, Some, refl, sym, subst}
use Rattle.dav_core.specs.declared.method.DavMethod.{DavMethod}
use Rattle.dav_core.specs.declared.method.DavMethod.TheVariants.{Get, Head, Put, Patch, Options, PropFind, MkCol, Delete, Copy, Move, PropPatch, Lock as LockMethod, Unlock, Report, MkCalendar, MkAddressbook}
use Rattle.dav_core.specs.Path.{Path, is_at_or_under, is_same_path, names}
use Rattle.dav_core.specs.World.{Nodes}
use Rattle.dav_confined.specs.Asked.{AskedView}
use Rattle.dav_confined.specs.ConfinedSteps.{changes_below, changes_target}
use Rattle.dav_confined.specs.Reached.{changes_destination, is_at_or_under_any, reaches}
use Rattle.dav_store.specs.Used.{amount_of}
use Rattle.dav_limits.specs.Added.{nothing}
use Rattle.dav_limits.specs.Parts.{part_of, under_where}
use Rattle.dav_limits.proofs.PartLemmas.{amount_none, amount_same}

pub or_false : (b : Bool) → (b || false) ≡ b
or_false true = refl
or_false false = refl

abbrev reach_by : DavMethod → Bool → Bool → Bool → Bool
reach_by m s b d = (changes_target m && s) || ((changes_below m && b) || (changes_destination m && d))

reach_target : (m : DavMethod) → changes_target m ≡ true → (s b d : Bool) → reach_by m s b d ≡ s
reach_target Put is s b d = or_false s
reach_target Patch is s b d = or_false s
reach_target MkCol is s b d = or_false s
reach_target PropPatch is s b d = or_false s
reach_target LockMethod is s b d = or_false s
reach_target _ is s b d = absurd (true≢false (sym is))

reach_none : (x y z : Bool) → x ≡ false → y ≡ false → z ≡ false → (s b d : Bool) → ((x && s) || ((y && b) || (z && d))) ≡ false
reach_none true y z bad is also s b d = cc
reach_none false true z is bad also s b d = cc
reach_none false false true is also bad s b d = cc
reach_none false false false is also too s b d = refl

abbrev Unchanging : DavMethod → Type 0
Unchanging m = (changes_target m ≡ false) × (changes_below m ≡ false) × (changes_destination m ≡ false)

by : (m n : DavMethod) → m ≡ n → Unchanging n → Unchanging m
by m n e is = subst Unchanging (sym e) is

-- a method that changes no content
abbrev pub IsQuiet : DavMethod → Type 0
IsQuiet m =
    (m ≡ Get) ⊎ ((m ≡ Head) ⊎ ((m ≡ Options) ⊎ ((m ≡ PropFind) ⊎ ((m ≡ Unlock) ⊎ ((m ≡ Report) ⊎ ((m ≡ MkCalendar) ⊎ (m ≡ MkAddressbook)))))))

quiet : (m : DavMethod) → IsQuiet m → (changes_target m ≡ false) × (changes_below m ≡ false) × (changes_destination m ≡ false)
quiet m is = elim is [
  | inl e ↦ by m Get e (refl, refl, refl)
  | inr (inl e) ↦ by m Head e (refl, refl, refl)
  | inr (inr (inl e)) ↦ by m Options e (refl, refl, refl)
  | inr (inr (inr (inl e))) ↦ by m PropFind e (refl, refl, refl)
  | inr (inr (inr (inr (inl e)))) ↦ by m Unlock e (refl, refl, refl)
  | inr (inr (inr (inr (inr (inl e))))) ↦ by m Report e (refl, refl, refl)
  | inr (inr (inr (inr (inr (inr (inl e)))))) ↦ by m MkCalendar e (refl, refl, refl)
  | inr (inr (inr (inr (inr (inr (inr e)))))) ↦ by m MkAddressbook e (refl, refl, refl)
]

module _ (top : Path) (a : AskedView) (ns : Nodes) where
  pub quiet_part : IsQuiet a.method → nothing ≡ amount_of (part_of top (Some a) ns)
  quiet_part is =
      let (target, below, destination) = quiet a.method is in
      amount_none top (reaches a) ns
      (λ q. reach_none (changes_target a.method) (changes_below a.method) (changes_destination a.method) target below destination (is_same_path q (names a.path)) (is_at_or_under q (names a.path)) (is_at_or_under_any q a.destination))

  pub target_part : changes_target a.method ≡ true → amount_of (under_where top (λ q. is_same_path q (names a.path)) ns) ≡ amount_of (part_of top (Some a) ns)
  target_part is =
      amount_same top (λ q. is_same_path q (names a.path)) (reaches a) ns
      (λ q. sym (reach_target a.method is (is_same_path q (names a.path)) (is_at_or_under q (names a.path)) (is_at_or_under_any q a.destination)))

  pub delete_part : a.method ≡ Delete → amount_of (under_where top (λ q. is_at_or_under q (names a.path)) ns) ≡ amount_of (part_of top (Some a) ns)
  delete_part is =
      amount_same top (λ q. is_at_or_under q (names a.path)) (reaches a) ns
      (λ q. subst (λ (m : DavMethod). is_at_or_under q (names a.path) ≡ reach_by m (is_same_path q (names a.path)) (is_at_or_under q (names a.path)) (is_at_or_under_any q a.destination)) (sym is)
      (sym (or_false (is_at_or_under q (names a.path)))))

  pub copy_part : a.method ≡ Copy → amount_of (under_where top (λ q. is_at_or_under_any q a.destination) ns) ≡ amount_of (part_of top (Some a) ns)
  copy_part is =
      amount_same top (λ q. is_at_or_under_any q a.destination) (reaches a) ns
      (λ q. subst (λ (m : DavMethod). is_at_or_under_any q a.destination ≡ reach_by m (is_same_path q (names a.path)) (is_at_or_under q (names a.path)) (is_at_or_under_any q a.destination)) (sym is) refl)

  pub move_part : a.method ≡ Move → amount_of (under_where top (λ q. is_at_or_under q (names a.path) || is_at_or_under_any q a.destination) ns) ≡ amount_of (part_of top (Some a) ns)
  move_part is =
      amount_same top (λ q. is_at_or_under q (names a.path) || is_at_or_under_any q a.destination) (reaches a) ns
      (λ q. subst (λ (m : DavMethod). (is_at_or_under q (names a.path) || is_at_or_under_any q a.destination)
      ≡ reach_by m (is_same_path q (names a.path)) (is_at_or_under q (names a.path)) (is_at_or_under_any q a.destination)) (sym is) refl)

  pub moved_alone : amount_of (under_where top (λ q. is_at_or_under q (names a.path)) ns) ≡ amount_of (under_where top (λ q. is_at_or_under q (names a.path) || is_at_or_under_any q None) ns)
  moved_alone =
      amount_same top (λ q. is_at_or_under q (names a.path)) (λ q. is_at_or_under q (names a.path) || is_at_or_under_any q None) ns (λ q. sym (or_false (is_at_or_under q (names a.path))))

pub unread_part : (top : Path) (ns : Nodes) → nothing ≡ amount_of (part_of top None ns)
unread_part top ns = amount_none top (λ q. false) ns (λ q. refl)
