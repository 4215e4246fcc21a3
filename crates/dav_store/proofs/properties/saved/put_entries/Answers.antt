use Rattle.std.proofs.Common.{◌++◌, ◌<◌, ◌^◌, length, arith}
use Rattle.dav_saved.specs.Spelling.{many}
use Rattle.dav_saved.specs.Trees.{IsPair}
use Rattle.dav_saved.specs.Parts.{AreBoth, IsValue, IsWithin}
use Rattle.dav_saved.specs.Worlds.{property}
use Rattle.dav_saved.proofs.Lists.{begins, turn, ends, all_at, all_turn, all_done}
use Rattle.dav_store.proofs.properties.saved.put_entries.Goals as goal

pub loop-entry-init : goal.loop-entry-init
loop-entry-init c = (begins property c.args.out.now.items c.put_number.new.out.items c.args.entries.now c.in_ok-put_number.ensures, λ levels within rest. rest)

pub loop-entry-preserved : goal.loop-entry-preserved
loop-entry-preserved c =
    let es = c.args.entries.now in
    let i = c.loop-entry.entry-index in
    let x = c.entry-item.result in
    let lt = c.loop-entry-test.true in (
      turn property c.loop-entry.out.items c.put_entry.new.out.items (c.args.out.now.items ++ many property es) es i x lt c.entry-item.is c.in_ok-put_entry.ensures.added c.loop-entry.invariant.0,
      λ levels within.
          let one : AreBoth IsPair (IsValue levels) x = c.in_ok-put_entry.ensures.saveable levels (all_at (λ p. IsWithin levels p.1) es i x lt c.entry-item.is within) in
          all_turn (AreBoth IsPair (IsValue levels)) es i x lt c.entry-item.is one (c.loop-entry.invariant.1 levels within),
    )

pub returns-clause-added : goal.returns-clause-added
returns-clause-added c = ends property c.loop-entry.out.items (c.args.out.now.items ++ many property c.args.entries.now) c.args.entries.now c.loop-entry.entry-index c.loop-entry-test.false c.loop-entry.invariant.0

pub returns-clause-saveable : goal.returns-clause-saveable
returns-clause-saveable c =
    let few : length c.args.entries.now < 2 ^ 64 = omega arith in
    λ levels within. (few, all_done (AreBoth IsPair (IsValue levels)) c.args.entries.now c.loop-entry.entry-index c.loop-entry-test.false (c.loop-entry.invariant.1 levels within))
