use Rattle.std.proofs.Common.{ℕ, List, [], ◌∷◌, ◌++◌, refl, sym, ap, ◌∙◌}
use Rattle.dav_store.specs.Placed.{named, found, bare}
use Rattle.dav_store.specs.LockIndex.{Seats, count_of}
use Rattle.dav_store.proofs.SeatLemmas.{tree_came, found_came, counts_came}
use Rattle.dav_store.proofs.memls.index.Counts.add.Goals as goal

pub invariant_of-self : goal.invariant_of-self
invariant_of-self c =
    let name_is = c.in_ok-name.ensures.items_if_clones_equal (λ x y e. e) in
    let free = ap (λ (u : Seats). named u c.args.parent c.in_ok-name.name.items) c.self.view_is ∙ ap (λ (k : List ℕ). named c.args.self.now c.args.parent k) name_is ∙ c.requires in
    tree_came c.self.inside.tree c.self.invariant c.args.parent c.in_ok-name.name c.bare.result free c.bare.ensures c.add_child.result c.add_child.new.self c.add_child.ensures c.add_child.result refl

pub invariant_of-self-2 : goal.invariant_of-self-2
invariant_of-self-2 c =
    let name_is = c.in_ok-name.ensures.items_if_clones_equal (λ x y e. e) in
    let free = ap (λ (u : Seats). named u c.args.parent c.in_ok-name.name.items) c.self.view_is ∙ ap (λ (k : List ℕ). named c.args.self.now c.args.parent k) name_is ∙ c.requires in
    tree_came c.self.inside.tree c.self.invariant c.args.parent c.in_ok-name.name c.bare.result free c.bare.ensures c.add_child.result c.add_child.new.self c.add_child.ensures c.add_child.result refl

pub returns-clause-walks : goal.returns-clause-walks
returns-clause-walks c q at =
    let name_is = c.in_ok-name.ensures.items_if_clones_equal (λ x y e. e) in
    let free = ap (λ (u : Seats). named u c.args.parent c.in_ok-name.name.items) c.self.view_is ∙ ap (λ (k : List ℕ). named c.args.self.now c.args.parent k) name_is ∙ c.requires in
    ap (λ (k : List ℕ). found (bare c.add_child.new.self) (q ++ k ∷ [])) (sym name_is)
    ∙ found_came c.self.inside.tree c.self.invariant c.args.parent c.in_ok-name.name c.bare.result free c.bare.ensures c.add_child.result c.add_child.new.self c.add_child.ensures c.in-Ok.id c.in-Ok.is q
    (ap (λ (u : Seats). found u q) c.self.view_is ∙ at)

pub returns-clause-counts : goal.returns-clause-counts
returns-clause-counts c q at k =
    let name_is = c.in_ok-name.ensures.items_if_clones_equal (λ x y e. e) in
    let free = ap (λ (u : Seats). named u c.args.parent c.in_ok-name.name.items) c.self.view_is ∙ ap (λ (k : List ℕ). named c.args.self.now c.args.parent k) name_is ∙ c.requires in
    counts_came c.self.inside.tree c.self.invariant c.args.parent c.in_ok-name.name c.bare.result free c.bare.ensures c.add_child.result c.add_child.new.self c.add_child.ensures c.in-Ok.id c.in-Ok.is q
    (ap (λ (u : Seats). found u q) c.self.view_is ∙ at) k
    ∙ ap (λ (u : Seats). count_of u k) c.self.view_is
