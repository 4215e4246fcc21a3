use Rattle.std.proofs.Common.{◌≡◌, length, drop, sym, ap, subst, rules}
use Rattle.std.proofs.lemmas.List.{length-take-le}
use Rattle.dav_core.specs.Path.{PathText, IsParent}
use Rattle.dav_core.specs.PathEnds.{parent_bytes}
use Rattle.dav_core.specs.PathRef.{ref_bytes}
use Rattle.dav_core.proofs.EndLemmas.{parent_within, parent_text, parent_prefix}
use Rattle.dav_core.proofs.ParentLemmas.{parent_is, parent_as}
use Rattle.dav_core.proofs.davpath.DavPath.parent.Goals as goal

pub slice_bounds-from_slice-end : goal.slice_bounds-from_slice-end
slice_bounds-from_slice-end c =
    let text = drop c.self.inside.prefix_len c.self.inside.full.items in
    let bytes : c.as_bytes.result.now ≡ parent_bytes text = parent_as text (ref_bytes c.as_ref.result) (ref_bytes c.parent.result) c.as_bytes.result.now (search rules) (search rules) c.parent.ensures in
    let within = parent_within c.self.inside.full.items c.self.inside.prefix_len c.self.invariant.0 in
    rw (c.deref.ensures.value, bytes) (sym (length-take-le _ _ within))

pub returns : goal.returns
returns c =
    let text = drop c.self.inside.prefix_len c.self.inside.full.items in
    let bytes : c.as_bytes.result.now ≡ parent_bytes text = parent_as text (ref_bytes c.as_ref.result) (ref_bytes c.parent.result) c.as_bytes.result.now (search rules) (search rules) c.parent.ensures in
    let whole = parent_text c.self.inside.full.items c.self.inside.prefix_len in
    let front = parent_prefix c.self.inside.full.items c.self.inside.prefix_len (length (parent_bytes text)) in
    rw (c.in_ok-from_slice.ensures.items, c.deref.ensures.value, bytes, whole, front) (record {
      prefix = ap (λ (t : PathText). t.prefix) c.self.view_is;
      parent = subst (λ (t : PathText). IsParent t.bytes (parent_bytes text)) c.self.view_is (parent_is text);
    })
