-- What was saved of a server is loaded as the same server.
use Rattle.std.proofs.Common.{◌≡◌, ◌++◌, ℕ, false, List, [], Some, sym, ap, ◌∙◌}
use Rattle.std.proofs.lemmas.List.{append-nil}
use Rattle.dav_core.specs.Locks.{Lock}
use Rattle.dav_core.specs.World.{World}
use Rattle.dav_engine.specs.Plan.{Locks}
use Rattle.dav_saved.specs.Locks.{locks, locks_at, AreSaveableLocks}
use Rattle.dav_saved.specs.Worlds.{world, world_at, IsSaveableWorld}
use Rattle.dav_saved.proofs.Fields.{some_is}
use Rattle.dav_saved.proofs.LockLaws.{locks_again}
use Rattle.dav_saved.proofs.WorldLaws.{world_again}
use Rattle.dav_server.specs.Server.{Server}
use Rattle.dav_http.specs.Saved.{SavedIsLoaded, LoadsOneServer, IsSaveable, listed, most_levels, saved_bytes}

pub world_read : (s : Server) (is : IsSaveable s) → world_at most_levels (saved_bytes s) ≡ Some (s.state.store.world, locks is.list)
world_read s is =
    ap (λ (o : Locks). world_at most_levels (world s.state.store.world ++ locks (listed o))) is.is_list
    ∙ world_again most_levels s.state.store.world (locks is.list) is.world

pub locks_read : (s : Server) (is : IsSaveable s) → locks_at most_levels (locks is.list) ≡ Some (is.list, [])
locks_read s is = ap (locks_at most_levels) (sym (append-nil (locks is.list))) ∙ locks_again most_levels is.list [] is.locks

pub saved_is_loaded : SavedIsLoaded
saved_is_loaded first state loaded settings is l =
    let first-part : ◌≡◌ {A = World × List ℕ} (l.world, l.rest) (state.state.store.world, locks is.list) =
    some_is (l.world, l.rest) (state.state.store.world, locks is.list) (sym l.reads ∙ world_read state is) in
    let rest : l.rest ≡ locks is.list = ap (λ (p : World × List ℕ). p.1) first-part in
    let second-part : ◌≡◌ {A = List Lock × List ℕ} (l.locks, []) (is.list, []) =
    some_is (l.locks, []) (is.list, []) (sym l.reads_locks ∙ ap (locks_at most_levels) rest ∙ locks_read state is) in
    let world-is : l.world ≡ state.state.store.world = ap (λ (p : World × List ℕ). p.0) first-part in
    let locks-are : Some l.locks ≡ state.state.locks = ap (λ (p : List Lock × List ℕ). Some p.0) second-part ∙ sym is.is_list in
    l.is ∙ (λ i. record {
      settings = sym settings i;
      state = record { store = record { world = world-is i; refusals = sym is.unrefused i; short = sym is.ample i }; locks = locks-are i };
    })

pub loads_one_server : LoadsOneServer
loads_one_server first one other bytes l m =
    let first-part : ◌≡◌ {A = World × List ℕ} (l.world, l.rest) (m.world, m.rest) = some_is (l.world, l.rest) (m.world, m.rest) (sym l.reads ∙ m.reads) in
    let rest : l.rest ≡ m.rest = ap (λ (p : World × List ℕ). p.1) first-part in
    let second-part : ◌≡◌ {A = List Lock × List ℕ} (l.locks, []) (m.locks, []) =
    some_is (l.locks, []) (m.locks, []) (sym l.reads_locks ∙ ap (locks_at most_levels) rest ∙ m.reads_locks) in
    let world-is : l.world ≡ m.world = ap (λ (p : World × List ℕ). p.0) first-part in
    let locks-are : l.locks ≡ m.locks = ap (λ (p : List Lock × List ℕ). p.0) second-part in
    l.is ∙ (λ i. record {
      settings = first.settings;
      state = record { store = record { world = world-is i; refusals = []; short = false }; locks = Some (locks-are i) };
    }) ∙ sym m.is

-- the parts that are read of what was saved are those that were saved
pub parts_are : (bytes : List ℕ) (w v : World) (ls ks : List Lock) (rest : List ℕ) → bytes ≡ world w ++ locks ls → IsSaveableWorld most_levels w → AreSaveableLocks most_levels ls
    → world_at most_levels bytes ≡ Some (v, rest) → locks_at most_levels rest ≡ Some (ks, []) → (v ≡ w) × (ks ≡ ls)
parts_are bytes w v ls ks rest is fits listed reads reads_locks =
    let first-part : ◌≡◌ {A = World × List ℕ} (v, rest) (w, locks ls) =
    some_is (v, rest) (w, locks ls) (sym reads ∙ ap (world_at most_levels) is ∙ world_again most_levels w (locks ls) fits) in
    let behind : rest ≡ locks ls = ap (λ (p : World × List ℕ). p.1) first-part in
    let second-part : ◌≡◌ {A = List Lock × List ℕ} (ks, []) (ls, []) =
    some_is (ks, []) (ls, []) (sym reads_locks ∙ ap (locks_at most_levels) (behind ∙ sym (append-nil (locks ls))) ∙ locks_again most_levels ls [] listed) in
    (ap (λ (p : World × List ℕ). p.0) first-part, ap (λ (p : List Lock × List ℕ). p.0) second-part)
