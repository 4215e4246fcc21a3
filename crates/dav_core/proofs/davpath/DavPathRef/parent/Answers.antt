use Rattle.std.proofs.Common.{◌∙◌, sym, ap, subst}
use Rattle.dav_core.specs.Path.{IsParent}
use Rattle.dav_core.specs.PathEnds.{parent_by}
use Rattle.dav_core.proofs.ParentLemmas.{parent_is}
use Rattle.dav_core.proofs.davpath.DavPathRef.parent.Goals as goal

pub returns : goal.returns
returns c = subst (IsParent c.args.self.bytes.now) (sym (c.parent.ensures ∙ ap (λ b. parent_by b c.args.self.bytes.now) c.is_root.ensures)) (parent_is c.args.self.bytes.now)
