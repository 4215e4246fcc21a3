use Rattle.std.proofs.Common.{rules, ◌≡◌, ◌-◌, [], sym, length, take, drop, subst, refl, arith}
use Rattle.std.proofs.lemmas.List.{drop_all, length-drop, take_all}
use Rattle.dav_journal.specs.File.{AreZeros}
use Rattle.dav_journal.proofs.block.is_begun.Goals as goal

pub returns-then-bytes-le-FRONT : goal.returns-then-bytes-le-FRONT
returns-then-bytes-le-FRONT c =
    let bytes = c.args.bytes.now in
    let none : drop 24 bytes ≡ [] = drop_all 24 bytes (omega (arith, c.if-bytes-le-FRONT.true)) in (
      λ yes. (omega (arith, c.if-bytes.false), c.may_begin.ensures.0 (search (rules, c.if-not-may_begin.false)), subst AreZeros (sym none) refl),
      λ begun. search (rules, c.if-bytes-le-FRONT.true),
    )

pub returns-else-bytes-le-FRONT : goal.returns-else-bytes-le-FRONT
returns-else-bytes-le-FRONT c =
    let bytes = c.args.bytes.now in
    let rest : take (length bytes - 24) (drop 24 bytes) ≡ drop 24 bytes = take_all (length bytes - 24) (drop 24 bytes) (omega (arith, length-drop 24 bytes)) in (
      λ yes. (omega (arith, c.if-bytes.false), c.may_begin.ensures.0 (search (rules, c.if-not-may_begin.false)), subst AreZeros rest (c.are_zeros.ensures.0 yes)),
      λ begun. c.are_zeros.ensures.1 (subst AreZeros (sym rest) (begun.2)),
    )
