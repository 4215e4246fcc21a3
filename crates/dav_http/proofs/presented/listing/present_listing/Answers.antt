use Rattle.dav_http.proofs.ListingLemmas.{listing_shown}
use Rattle.dav_http.proofs.PresentedLemmas.{on_ok}
use Rattle.dav_http.proofs.presented.listing.present_listing.Goals as goal

pub returns-clause-shown : goal.returns-clause-shown
returns-clause-shown c = on_ok c.fill_listing.result (listing_shown c.args.head.now c.args.reply c.args.listing c.fill_listing.new.response) c.fill_listing.ensures
