use Rattle.dav_engine.proofs.HrefLemmas.{properties_lead_back, responses_lead_back}
use Rattle.dav_engine.proofs.ListingsTold.{listings_are_whole}
use Rattle.dav_engine.proofs.UnrefusedListings.{unrefused_runs_list}
use Rattle.dav_engine.proofs.laws.hrefs_lead_back.Goals as goal

pub returns : goal.returns
returns c = record { properties = properties_lead_back; responses = responses_lead_back; listings = listings_are_whole; unrefused = unrefused_runs_list }
