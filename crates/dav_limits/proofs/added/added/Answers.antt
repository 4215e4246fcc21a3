use Rattle.std.proofs.Common.{◌≡◌, ◌⊎◌, inl, inr, ℕ, List, Option, ap, sym, subst, ◌∙◌}
use Rattle.std.specs.FinMap.{find}
use Rattle.dav_core.specs.declared.method.DavMethod.{DavMethod}
use Rattle.dav_core.specs.declared.method.DavMethod.TheVariants.{MkCol, Lock as LockMethod}
use Rattle.dav_core.specs.Path.{PathText, names, path_cmp}
use Rattle.dav_core.specs.World.{Nodes}
use Rattle.dav_confined.specs.Asked.{AskedView}
use Rattle.dav_limits.specs.Added.{added_by, added_file}
use Rattle.dav_limits.proofs.added.added.Goals as goal

made : (ns : Nodes) (m : DavMethod) (p : PathText) (body : List ℕ) (firsts : Option ℕ × Option ℕ) → (m ≡ MkCol) ⊎ (m ≡ LockMethod)
    → added_file (find path_cmp (names p) ns) 0 ≡ added_by ns m p body firsts
made ns m p body firsts (inl is) = ap (λ (k : DavMethod). added_by ns k p body firsts) (sym is)
made ns m p body firsts (inr is) = ap (λ (k : DavMethod). added_by ns k p body firsts) (sym is)

pub returns-in-MkCol : goal.returns-in-MkCol
returns-in-MkCol c =
    let ns = c.args.handler.now.server.state.store.world.nodes in
    let now = c.args.asked.now in
    c.added_empty.ensures
    ∙ ap (λ (a : AskedView). added_file (find path_cmp (names a.path) ns) 0) c.asked.view_is
    ∙ made ns now.method now.path c.args.body.now c.args.firsts (subst (λ (a : AskedView). (a.method ≡ MkCol) ⊎ (a.method ≡ LockMethod)) c.asked.view_is c.in-MkCol.is)
