use Rattle.std.proofs.Common.{◌∙◌}
use Rattle.dav_http.proofs.ListingLemmas.{begun}
use Rattle.dav_http.proofs.presented.listing.Listing.new.Goals as goal

pub returns : goal.returns
returns c =
    begun c.in_ok-preferred.preferred.leaves_out _ c.in_ok-room.room _ c.args.body.now _ c.in_ok-asked.asked c.in_ok-preferred.ensures.leaves_out c.in_ok-asked.ensures
    (λ e. c.in_ok-room.ensures (c.asks_for_room.ensures ∙ e)) c.new.ensures
