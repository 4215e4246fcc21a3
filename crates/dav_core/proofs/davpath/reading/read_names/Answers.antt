use Rattle.std.proofs.Common.{rules, tests, [], eqb}
use Rattle.std.proofs.lemmas.List.{map_push}
use Rattle.std.proofs.lemmas.Iterator.Splits.{YieldsList-from_slice_split}
use Rattle.std.proofs.lemmas.Result.{err_from_is_err_and}
use Rattle.dav_core.specs.Target.{nothing}
use Rattle.dav_core.proofs.BufferLemmas.{refused_at, kept_at_end}
use Rattle.dav_core.proofs.LoopLemmas.{turn_parts, end_parts}
use Rattle.dav_core.proofs.davpath.reading.read_names.Goals as goal

pub loop-piece-init : goal.loop-piece-init
loop-piece-init c = ([], nothing, c.new-buf.ensures.items)

pub loop-piece-preserved : goal.loop-piece-preserved
loop-piece-preserved c =
    let kept = c.in_ok-add_piece.ensures _ c.loop-piece.invariant in
    rw (map_push, map_push) kept

pub returns-in_err-add_piece : goal.returns-in_err-add_piece
returns-in_err-add_piece c =
    let p = err_from_is_err_and c.from_residual.result c.from_residual.ensures.1 in
    let parts = turn_parts c.loop-piece.yielded _ c.loop-piece.yielded_by (YieldsList-from_slice_split _ (λ b. eqb b 47) c.before_query.result.now (cc) (cc) (cc) (λ x b q k. search (rules, tests))) _ _ c.in-Some.piece c.in-Some.is c.next.ensures.steps in
    rw (p.1, p.2) (refused_at c.args.src.now c.before_query.result.now _ parts.0 c.in-Some.piece.now _ _ c.before_query.ensures parts.1 c.loop-piece.invariant (c.in_err-add_piece.ensures _ c.loop-piece.invariant))

pub returns : goal.returns
returns c =
    let e = end_parts c.loop-piece.yielded _ c.loop-piece.yielded_by (YieldsList-from_slice_split _ (λ b. eqb b 47) c.before_query.result.now (cc) (cc) (cc) (λ x b q k. search (rules, tests))) _ _ c.in-None.is c.next.ensures.steps in
    kept_at_end c.args.src.now c.before_query.result.now _ _ c.before_query.ensures e c.loop-piece.invariant
