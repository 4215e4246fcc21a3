-- The theorems on the grammars that other crates cite.
pub use Rattle.dav_headers.proofs.AgainLemmas.{one_destination, one_language_list, one_etag, read_tag_is_text, etag_again, content_range_again, content_length_again}
pub use Rattle.dav_headers.proofs.IfLawLemmas.{says_one, some_conditions, utf8_tokens, asked_for, entity_tag_one}
pub use Rattle.dav_headers.proofs.LawLemmas.{one_overwrite, one_depth, one_update_range, one_timeout, overwrite_again, depth_again, update_range_again, same_number}
pub use Rattle.dav_headers.proofs.LoopLemmas.{drop_turn, take_turn}
pub use Rattle.dav_headers.proofs.OneReading.{one_tag_list, one_content_range, one_content_length}
pub use Rattle.dav_headers.proofs.TimeoutAgain.{timeout_again}
pub use Rattle.dav_headers.proofs.LanguageLemmas.{IsReadable, languages_are_readable, readable_are_languages}
