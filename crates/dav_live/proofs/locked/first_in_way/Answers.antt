use Rattle.std.proofs.Common.{Bool, false, map, not, refl, string_bytes, sym}
use Rattle.std.specs.Option.{option_copied}
use Rattle.dav_core.specs.Locks.{Requester, is_free_for, requester_of}
use Rattle.dav_core.specs.Path.{names}
use Rattle.dav_live.specs.declared.locked.Place.{Place}
use Rattle.dav_live.proofs.LockedLemmas.{is_free, is_in_way, none_turn}
use Rattle.dav_live.proofs.locked.first_in_way.Goals as goal

pub returns-in-Err : goal.returns-in-Err
returns-in-Err c =
    let who : Requester = requester_of (map string_bytes c.args.tokens.now) false (option_copied c.args.principal) in
    let place : Place = c.place-item.result in
    let hit = is_in_way place.deep who (names place.path) c.args.ls.now _ c.in-Err.lock.now refl c.in-Err.ensures in
    (place, (c.loop-place.place-index, c.loop-place-test.true, sym c.place-item.is), hit.0, hit.1)

pub loop-place-preserved : goal.loop-place-preserved
loop-place-preserved c =
    let who : Requester = requester_of (map string_bytes c.args.tokens.now) false (option_copied c.args.principal) in
    let place : Place = c.place-item.result in
    none_turn (λ (p : Place). not (is_free_for p.deep who (names p.path) c.args.ls.now)) c.args.places.now c.loop-place.place-index place c.loop-place-test.true c.place-item.is
    c.loop-place.invariant (is_free place.deep who (names place.path) c.args.ls.now _ _ refl c.in-Ok.ensures)
