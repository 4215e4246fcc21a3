use Rattle.std.proofs.Common.{List, option_map, subst, ℕ}
use Rattle.std.proofs.lemmas.Result.{IfOk-weaker}
use Rattle.dav_core.specs.Path.{names}
use Rattle.dav_kept.specs.Records.{RequestView}
use Rattle.dav_server.specs.Server.{Server}
use Rattle.dav_http.specs.Listing.{IsBegun}
use Rattle.dav_http.specs.Presented.{leaves_out}
use Rattle.dav_http.specs.Room.{room_in, room_of}
use Rattle.dav_live.proofs.machine.Machine.listing_for.Goals as goal

pub returns : goal.returns
returns c =
    let store = c.in_ok-store.store in
    let place = option_map (λ p. names p.now) store.place in
    IfOk-weaker c.new.result _ _
    (λ listing begun. (
      place,
      store.available,
      subst (λ (s : Server). IsBegun (leaves_out c.args.head.now) (room_of s place store.available) c.args.request.now.body listing) c.in_ok-store.ensures
          (subst (λ (q : RequestView). IsBegun (leaves_out c.args.head.now) (room_in store) q.body listing) c.request.view_is
          (subst (λ (b : List ℕ). IsBegun (leaves_out c.args.head.now) (room_in store) b listing) c.as_slice.ensures begun)),
    ))
    c.new.ensures
