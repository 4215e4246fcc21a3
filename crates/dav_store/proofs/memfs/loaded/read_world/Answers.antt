use Rattle.std.proofs.Common.{◌≡◌, ◌≤◌, ℕ, List, length, Some, refl, sym, ap, subst, ◌∙◌}
use Rattle.std.proofs.lemmas.Result.{err_from_is_err_and}
use Rattle.dav_core.specs.World.{World, Nodes, IsWorld}
use Rattle.dav_saved.specs.declared.errors.LoadError.{LoadError}
use Rattle.dav_saved.specs.declared.errors.LoadError.TheVariants.{Memory, NotSaved}
use Rattle.dav_saved.specs.Reading.{Read}
use Rattle.dav_saved.specs.Worlds.{world_at}
use Rattle.dav_saved.proofs.Fields.{some_is}
use Rattle.dav_store.specs.Entries.{Held}
use Rattle.dav_store.specs.Loaded.{Refuses, IsListing, HaveFolders}
use Rattle.dav_store.specs.Makings.{AreMadeBefore}
use Rattle.dav_store.proofs.LoadedReads.{AreFit, passed_on}
use Rattle.dav_store.proofs.LoadedWorlds.{fit_of, listing_of, folders_of, names_of_fit, is_world, few_nodes, made_before}
use Rattle.dav_store.proofs.memfs.loaded.read_world.Goals as goal

-- the world that was read is the only one
only : (read : Read World) (w : World) (rest : List ℕ) (y : World × List ℕ) → read ≡ Some (w, rest) → read ≡ Some y → y.0 ≡ w
only read w rest y is e = ap (λ (z : World × List ℕ). z.0) (some_is y (w, rest) (sym e ∙ is))

unfoldered : (e : LoadError) (read : Read World) (w : World) (rest : List ℕ) → read ≡ Some (w, rest) → (e ≡ NotSaved → ¬ HaveFolders w.nodes w.nodes) → Refuses IsWorld e read
unfoldered Memory read w rest is none = tt
unfoldered NotSaved read w rest is none = λ y e holds. none refl (folders_of w (subst IsWorld (only read w rest y is e) holds))

pub returns-in_err-next-clause-exact : goal.returns-in_err-next-clause-exact
returns-in_err-next-clause-exact c =
    let p = err_from_is_err_and c.from_residual.result c.from_residual.ensures.1 in
    let read = world_at c.args.levels c.args.bytes.now in
    rw (p.1, p.2) (passed_on AreFit IsWorld c.in_err-next.field-0.0 read read (λ none y is holds. none y is (fit_of y.0 holds)) c.in_err-next.ensures.read)

pub returns-then-not-branch-clause-exact : goal.returns-then-not-branch-clause-exact
returns-then-not-branch-clause-exact c = λ y e holds.
    let w : World = record { nodes = c.in_ok-next.list.items; next = c.in_ok-next.next } in
    let same : y.0 ≡ w = only (world_at c.args.levels c.args.bytes.now) w c.in_ok-next.rest.now y c.in_ok-next.ensures.read.0 e in
    let listing : IsListing c.deref.result.now = subst IsListing (sym c.deref.ensures.value) (listing_of w (subst IsWorld same holds)) in
    let yes = c.in_ok-is_listing.ensures.1 listing in
    let no = c.if-not-branch.true in cc

pub tree_of-requires-clause-names : goal.tree_of-requires-clause-names
tree_of-requires-clause-names c = names_of_fit c.in_ok-next.next c.in_ok-next.list.items c.in_ok-next.ensures.read.1

pub returns-in_err-entries-clause-exact : goal.returns-in_err-entries-clause-exact
returns-in_err-entries-clause-exact c =
    let p = err_from_is_err_and c.from_residual-in_err-entries.result c.from_residual-in_err-entries.ensures.1 in
    let w : World = record { nodes = c.in_ok-next.list.items; next = c.in_ok-next.next } in
    rw (p.1, p.2) (unfoldered c.in_err-entries.field-0.0 (world_at c.args.levels c.args.bytes.now) w c.in_ok-next.rest.now c.in_ok-next.ensures.read.0 c.in_err-entries.ensures)

pub invariant_of-fs : goal.invariant_of-fs
invariant_of-fs c =
    let ns = c.in_ok-next.list.items in
    let fit = c.in_ok-next.ensures.read.1 in
    let listing : IsListing ns = subst IsListing c.deref.ensures.value (c.in_ok-is_listing.ensures.0 c.if-not-branch.false) in
    let few : length ns ≤ c.in_ok-next.next = few_nodes c.in_ok-next.next ns fit listing.apart in
    let held = c.in_ok-entries.ensures.0 in
    record {
      made = subst (AreMadeBefore c.in_ok-next.next) (sym (ap (λ (h : Held). h.nodes) held)) (made_before c.in_ok-next.next ns fit);
      tree = subst (λ (n : ℕ). n ≤ c.in_ok-next.next) (sym (ap (λ (h : Held). h.last) held)) few;
    }

pub returns-clause-exact : goal.returns-clause-exact
returns-clause-exact c =
    let ns = c.in_ok-next.list.items in
    let fit = c.in_ok-next.ensures.read.1 in
    let listing : IsListing ns = subst IsListing c.deref.ensures.value (c.in_ok-is_listing.ensures.0 c.if-not-branch.false) in
    let held = ap (λ (h : Held). h.nodes) c.in_ok-entries.ensures.0 in
    let w = is_world c.in_ok-next.next ns c.in_ok-next.ensures.next listing fit c.in_ok-entries.ensures.1 in (
      c.in_ok-next.ensures.read.0 ∙ ap (λ (ms : Nodes). Some (record { nodes = ms; next = c.in_ok-next.next }, c.in_ok-next.rest.now)) (sym held),
      subst (λ (ms : Nodes). IsWorld (record { nodes = ms; next = c.in_ok-next.next })) (sym held) w,
    )
