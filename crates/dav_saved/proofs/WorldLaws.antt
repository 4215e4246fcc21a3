-- A world that is read is the world that was saved, and what was saved is read again.
use Rattle.std.proofs.Common.{◌≡◌, ℕ, zero, suc, List, [], ◌∷◌, ◌++◌, Some, refl, sym, ap, subst, ◌∙◌}
use Rattle.dav_core.specs.World.{World, Kind, Folder, File}
use Rattle.dav_saved.specs.Spelling.{number, sized, pair, many}
use Rattle.dav_saved.specs.Reading.{number_at, sized_at, pair_at, list_at}
use Rattle.dav_saved.specs.Trees.{IsPair}
use Rattle.dav_saved.specs.Parts.{both, both_at, value, value_at, Fits64, HasLength64, AreAll, AreBoth, IsValue}
use Rattle.dav_saved.specs.Worlds.{kind, kind_at, path, property, fields_of, node_of, fields, node, entry, world, world_of, property_at, fields_at, node_at, entry_at, world_at, IsKind, IsSaveableNode, IsSaveableWorld}
use Rattle.dav_saved.proofs.Fields.{IsBytes-rest, bind_some, some_is, Takes, TakesBy, AgainBy, sized_takes, sized_again, pair_takes, pair_again, list_takes}
use Rattle.dav_saved.proofs.PartLaws.{both_takes, both_again, as_takes, as_again, numbers_take, numbers_again, lists_again, value_takes, value_again}

kind_takes : TakesBy kind kind_at
unfolding kind_at
kind_takes [] x fits e = absurd cc
kind_takes (zero ∷ bytes) x fits e =
    subst (λ (y : Kind × List ℕ). Takes (0 ∷ bytes) (kind y.0) y.1) (some_is (Folder, bytes) x e) (record { parts = refl; rest_fits = IsBytes-rest 0 bytes fits })
kind_takes (suc zero ∷ bytes) x fits e =
    let b = bind_some (sized_at bytes) (λ t. Some (File t.0, t.1)) x e in
    let t = sized_takes bytes b.0 (IsBytes-rest 1 bytes fits) b.1 in
    subst (λ (y : Kind × List ℕ). Takes (1 ∷ bytes) (kind y.0) y.1) (some_is (File b.0.0, b.0.1) x b.2) (record { parts = ap (λ (w : List ℕ). 1 ∷ w) t.parts; rest_fits = t.rest_fits })
kind_takes (suc (suc b) ∷ bytes) x fits e = absurd cc

kind_again : AgainBy IsKind kind kind_at
unfolding kind_at
kind_again Folder rest h = refl
kind_again (File bytes) rest h = rw (sized_again bytes rest h) refl

-- ---- nodes

property_takes : (levels : ℕ) → TakesBy property (property_at levels)
unfolding property_at
property_takes levels = both_takes pair value pair_at (value_at levels) pair_takes (value_takes levels)

property_again : (levels : ℕ) → AgainBy (AreBoth IsPair (IsValue levels)) property (property_at levels)
unfolding property_at
property_again levels = both_again IsPair (IsValue levels) pair value pair_at (value_at levels) pair_again (value_again levels)

fields_take : (levels : ℕ) → TakesBy fields (fields_at levels)
unfolding fields_at
fields_take levels =
    let times = both_takes number number number_at number_at numbers_take numbers_take in
    let kept = both_takes (many property) (both number number) (list_at (property_at levels)) (both_at number_at number_at) (list_takes property (property_at levels) (property_takes levels)) times in
    let what = both_takes kind (both (many property) (both number number)) kind_at (both_at (list_at (property_at levels)) (both_at number_at number_at)) kind_takes kept in
    let numbered = both_takes number (both kind (both (many property) (both number number))) number_at (both_at kind_at (both_at (list_at (property_at levels)) (both_at number_at number_at))) numbers_take what in
    both_takes number (both number (both kind (both (many property) (both number number)))) number_at (both_at number_at (both_at kind_at (both_at (list_at (property_at levels)) (both_at number_at number_at)))) numbers_take numbered

fields_again : (levels : ℕ) → AgainBy (AreBoth Fits64 (AreBoth Fits64 (AreBoth IsKind (AreBoth (AreAll (AreBoth IsPair (IsValue levels))) (AreBoth Fits64 Fits64))))) fields (fields_at levels)
unfolding fields_at
fields_again levels =
    let P = AreAll (AreBoth IsPair (IsValue levels)) in
    let T = AreBoth Fits64 Fits64 in
    let times = both_again Fits64 Fits64 number number number_at number_at numbers_again numbers_again in
    let kept = both_again P T (many property) (both number number) (list_at (property_at levels)) (both_at number_at number_at) (lists_again (AreBoth IsPair (IsValue levels)) property (property_at levels) (property_again levels)) times in
    let what = both_again IsKind (AreBoth P T) kind (both (many property) (both number number)) kind_at (both_at (list_at (property_at levels)) (both_at number_at number_at)) kind_again kept in
    let numbered = both_again Fits64 (AreBoth IsKind (AreBoth P T)) number (both kind (both (many property) (both number number))) number_at (both_at kind_at (both_at (list_at (property_at levels)) (both_at number_at number_at))) numbers_again what in
    both_again Fits64 (AreBoth Fits64 (AreBoth IsKind (AreBoth P T))) number (both number (both kind (both (many property) (both number number)))) number_at (both_at number_at (both_at kind_at (both_at (list_at (property_at levels)) (both_at number_at number_at)))) numbers_again numbered

pub node_takes : (levels : ℕ) → TakesBy node (node_at levels)
unfolding node_at
node_takes levels = as_takes node_of fields_of fields (fields_at levels) (λ f. refl) (fields_take levels)

pub node_again : (levels : ℕ) → AgainBy (IsSaveableNode levels) node (node_at levels)
unfolding node_at
node_again levels = as_again node_of fields_of (AreBoth Fits64 (AreBoth Fits64 (AreBoth IsKind (AreBoth (AreAll (AreBoth IsPair (IsValue levels))) (AreBoth Fits64 Fits64))))) fields (fields_at levels) (λ n. refl) (fields_again levels)

-- ---- worlds

entry_takes : (levels : ℕ) → TakesBy entry (entry_at levels)
unfolding entry_at
entry_takes levels = both_takes path node (list_at sized_at) (node_at levels) (list_takes sized sized_at sized_takes) (node_takes levels)

entry_again : (levels : ℕ) → AgainBy (AreBoth (AreAll HasLength64) (IsSaveableNode levels)) entry (entry_at levels)
unfolding entry_at
entry_again levels = both_again (AreAll HasLength64) (IsSaveableNode levels) path node (list_at sized_at) (node_at levels) (lists_again HasLength64 sized sized_at sized_again) (node_again levels)

pub world_takes : (levels : ℕ) → TakesBy world (world_at levels)
unfolding world_at
world_takes levels = as_takes world_of (λ w. (w.next, w.nodes)) (both number (many entry)) (both_at number_at (list_at (entry_at levels))) (λ p. refl)
    (both_takes number (many entry) number_at (list_at (entry_at levels)) numbers_take (list_takes entry (entry_at levels) (entry_takes levels)))

pub world_again : (levels : ℕ) → AgainBy (IsSaveableWorld levels) world (world_at levels)
unfolding world_at
world_again levels =
    let E = AreBoth (AreAll HasLength64) (IsSaveableNode levels) in
    as_again world_of (λ w. (w.next, w.nodes)) (AreBoth Fits64 (AreAll E)) (both number (many entry)) (both_at number_at (list_at (entry_at levels))) (λ w. refl)
    (both_again Fits64 (AreAll E) number (many entry) number_at (list_at (entry_at levels)) numbers_again (lists_again E entry (entry_at levels) (entry_again levels)))

pub worlds_apart : (levels : ℕ) (v w : World) (r s : List ℕ) → IsSaveableWorld levels v → IsSaveableWorld levels w → world v ++ r ≡ world w ++ s → (v ≡ w) × (r ≡ s)
worlds_apart levels v w r s fv fw e =
    let same : ◌≡◌ {A = World × List ℕ} (v, r) (w, s) = some_is (v, r) (w, s) (sym (world_again levels v r fv) ∙ ap (world_at levels) e ∙ world_again levels w s fw) in
    (ap (λ (p : World × List ℕ). p.0) same, ap (λ (p : World × List ℕ). p.1) same)
