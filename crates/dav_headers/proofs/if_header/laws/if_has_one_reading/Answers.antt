use Rattle.dav_headers.proofs.IfLawLemmas.{says_one, some_conditions, utf8_tokens}
use Rattle.dav_headers.proofs.if_header.laws.if_has_one_reading.Goals as goal

pub returns : goal.returns
returns c = record {
  one = says_one;
  some = some_conditions;
  tokens = utf8_tokens;
}
