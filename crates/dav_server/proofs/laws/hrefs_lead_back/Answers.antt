use Rattle.dav_server.proofs.HrefLemmas.{targets_are_served, texts_lead_back, statuses_lead_back, properties_lead_back}
use Rattle.dav_server.proofs.HrefReplies.{replies_lead_back}
use Rattle.dav_server.proofs.laws.hrefs_lead_back.Goals as goal

pub returns : goal.returns
returns c = record {
  served = targets_are_served;
  texts = texts_lead_back;
  statuses = statuses_lead_back;
  properties = properties_lead_back;
  replies = replies_lead_back;
}
