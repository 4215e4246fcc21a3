use Rattle.std.proofs.Common.{◌≡◌, All, [], ◌∷◌, false, take, refl, sym, ap, ◌∙◌}
use Rattle.std.proofs.lemmas.Result.{IfOk-weaker}
use Rattle.std.proofs.lemmas.List.{append-nil, take_all}
use Rattle.dav_core.specs.Path.{Path, PathText, IsName, joined, names, names_of}
use Rattle.dav_core.proofs.Theorems.{names_kept}
use Rattle.dav_store.proofs.memfs.loaded.path_of.Goals as goal

names_joined : (ps : Path) → All IsName ps → names_of (joined ps) ≡ ps
names_joined [] are = refl
names_joined (p ∷ ps) are = ap names_of (sym (append-nil (joined (p ∷ ps)))) ∙ names_kept (p ∷ ps) false are

pub returns : goal.returns
returns c =
    let ps = c.args.path.now in
    let all : take c.loop-name.name-index c.as_slice-name-items.result.now ≡ c.as_slice-name-items.result.now = take_all c.loop-name.name-index c.as_slice-name-items.result.now c.loop-name-test.false in
    let bytes : c.deref.result.now ≡ joined ps = c.deref.ensures.value ∙ c.loop-name.invariant ∙ ap joined all ∙ ap joined c.as_slice-name-items.ensures in
    IfOk-weaker c.from_parts.result (λ p. p ≡ record { prefix = []; bytes = c.deref.result.now }) (λ p. names p ≡ ps)
    (λ p is. ap (λ (x : PathText). names x) is ∙ ap names_of bytes ∙ names_joined ps c.requires) c.from_parts.ensures
