pub mod BasicLemmas
mod AmountLemmas
mod CryptLemmas
mod EncodingLemmas
mod LimitLemmas
mod LoginLemmas
pub mod RuleLemmas
mod RulesTextLemmas
mod SecretLemmas
mod UserLemmas
