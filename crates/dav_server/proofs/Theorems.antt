-- What the proofs of the crates above rest on.
pub use Rattle.dav_server.proofs.RunLaws.{runs_join}
pub use Rattle.dav_server.proofs.RunLemmas.{rest_after_one, turns_of}
pub use Rattle.dav_server.proofs.TurnLemmas.{all_yielded}
pub use Rattle.dav_server.proofs.HeadlineLemmas.{headline_holds}
pub use Rattle.dav_server.proofs.MeansWorld.{all_front}
pub use Rattle.dav_server.proofs.PromiseLemmas.{runs_promise}
