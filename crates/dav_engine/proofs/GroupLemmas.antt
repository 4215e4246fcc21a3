-- Properties under their statuses, as code groups them in a map.
use Rattle.std.proofs.Common.{◌≡◌, ◌⊎◌, inl, inr, ℕ, Bool, true, false, List, [], ◌∷◌, ◌++◌, map, Some, None, refl, sym, ap, ◌∙◌, arith, ◌==◌, nat_lt}
use Rattle.std.proofs.lemmas.Bool.Decides.{nat_tests}
use Rattle.std.proofs.lemmas.Cmp.{nat_cmp_total}
use Rattle.std.proofs.lemmas.Map.{lookup-none}
use Rattle.std.proofs.lemmas.Map.Entries.{none_below_head}
use Rattle.std.specs.BTreeMap.{is_at, insert_entry}
use Rattle.std.specs.Global.{Vec}
use Rattle.std.specs.List.Sorted.{IsStrictlySortedBy}
use Rattle.std.specs.Map.{keys_of, lookup, set_value}
use Rattle.std.specs.Ordering.{nat_cmp}
use Rattle.dav_core.specs.Element.{ElementTree}
use Rattle.dav_engine.specs.Properties.{Group}
use Rattle.dav_engine.specs.Proppatch.{Told, told_under, grouped_onto}

-- an entry of a map by statuses
abbrev pub Entry : Type 0
Entry = ℕ × Vec ElementTree

abbrev pub group_of : Entry → Group
group_of entry = (entry.0, entry.1.items)

either : (b : Bool) → (b ≡ true) ⊎ (b ≡ false)
either true = inl refl
either false = inr refl

-- the status is that of the first entry
found_here : (s : ℕ) (e : ElementTree) (g : Entry) (gs : List Entry) (v w : Vec ElementTree) → nat_lt s g.0 ≡ false → (s == g.0) ≡ true
    → lookup (is_at (nat_cmp s)) (g ∷ gs) ≡ Some v → w.items ≡ v.items ++ e ∷ []
    → map group_of (set_value (is_at (nat_cmp s)) (g ∷ gs) w) ≡ told_under s e (map group_of (g ∷ gs))
found_here s e g gs v w below here found more =
    rw (below, here) (let same : Some g.1 ≡ Some v = rw (below, here) at found in
    let first : g.1 ≡ v = cc in
    ap (λ items. (g.0, items) ∷ map group_of gs) (more ∙ ap (λ (u : Vec ElementTree). u.items ++ e ∷ []) (sym first)))

-- a property more under a status that the map has
pub told_found : (s : ℕ) (e : ElementTree) (es : List Entry) (v w : Vec ElementTree) → IsStrictlySortedBy nat_cmp (keys_of es)
    → lookup (is_at (nat_cmp s)) es ≡ Some v → w.items ≡ v.items ++ e ∷ []
    → map group_of (set_value (is_at (nat_cmp s)) es w) ≡ told_under s e (map group_of es)
unfolding IsStrictlySortedBy
told_found s e [] v w sorted found more = absurd (cc)
told_found s e (g ∷ gs) v w sorted found more =
    elim (either (nat_lt s g.0)) [
      | inl below ↦ absurd (let none = lookup-none (is_at (nat_cmp s)) (g ∷ gs) (none_below_head nat_cmp_total s g gs sorted (rw below)) in cc)
      | inr above ↦ elim (either (s == g.0)) [
        | inl here ↦ found_here s e g gs v w above here found more
        | inr apart ↦ rw (above, apart) (ap (λ rest. group_of g ∷ rest) (told_found s e gs v w sorted.1 (rw (above, apart) at found) more))
      ]
    ]

-- a property under a status that the map lacks
pub told_new : (s : ℕ) (e : ElementTree) (es : List Entry) (w : Vec ElementTree) → lookup (is_at (nat_cmp s)) es ≡ None → w.items ≡ e ∷ []
    → map group_of (insert_entry nat_cmp es s w) ≡ told_under s e (map group_of es)
told_new s e [] w none one = ap (λ items. (s, items) ∷ []) one
told_new s e (g ∷ gs) w none one =
    elim (either (nat_lt s g.0)) [
      | inl below ↦ (let apart : (s == g.0) ≡ false = grind (arith, nat_tests) in rw (below, apart) (ap (λ items. (s, items) ∷ group_of g ∷ map group_of gs) one))
      | inr above ↦ elim (either (s == g.0)) [
        | inl here ↦ absurd (let some : Some g.1 ≡ None = rw (above, here) at none in cc)
        | inr apart ↦ rw (above, apart) (ap (λ rest. group_of g ∷ rest) (told_new s e gs w (rw (above, apart) at none) one))
      ]
    ]

-- one property more
pub grouped_more : (gs : List Group) (told : List Told) (one : Told) → grouped_onto gs (told ++ one ∷ []) ≡ told_under one.0 one.1 (grouped_onto gs told)
grouped_more gs [] one = refl
grouped_more gs (t ∷ told) one = grouped_more (told_under t.0 t.1 gs) told one
