use Rattle.std.proofs.Common.{true≢false, refl, sym}
use Rattle.dav_http.specs.Steps.{nothing, as_bytes}
use Rattle.dav_http.proofs.SentRequests.{no_bytes, some_bytes, by_tree, by_fault}
use Rattle.dav_http.proofs.handler.body_of.Goals as goal

pub returns-then-is_empty : goal.returns-then-is_empty
returns-then-is_empty c = nothing (no_bytes c.args.body c.if-is_empty.ensures)

pub returns-then-not-takes_tree : goal.returns-then-not-takes_tree
returns-then-not-takes_tree c = as_bytes (some_bytes c.args.body c.if-is_empty.ensures) (λ takes. true≢false (sym (c.if-not-takes_tree.ensures.1 takes)))

pub returns-in-Ok : goal.returns-in-Ok
returns-in-Ok c =
    by_tree c.args.method.now c.args.moment c.args.body c.as_slice.result.now c.in-Ok.tree c.in_ok-tree-in-Ok.tree c.in_ok-with_prefixed_owners-in-Ok.field-0 (some_bytes c.args.body c.if-is_empty.ensures) (c.if-not-takes_tree.ensures.0 refl)
    c.as_slice.ensures c.in-Ok.ensures c.in_ok-tree-in-Ok.ensures c.in_ok-with_prefixed_owners-in-Ok.ensures

pub returns : goal.returns
returns c =
    by_fault c.args.method.now c.args.moment c.args.body c.as_slice.result.now c.in-Err-Fault.field-0 c.in-Err-Fault.field-0-0 (some_bytes c.args.body c.if-is_empty.ensures) (c.if-not-takes_tree.ensures.0 refl)
    c.as_slice.ensures c.in-Err-Fault.field-0-is c.in-Err-Fault.ensures
