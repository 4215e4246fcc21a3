use Rattle.std.proofs.Common.{◌∙◌, bytes_eq, string_bytes}
use Rattle.dav_store.proofs.LockLemmas.{any_mapped}
use Rattle.dav_store.proofs.memls.has_token.Goals as goal

pub returns : goal.returns
returns c = c.any_is.ensures ∙ any_mapped string_bytes (bytes_eq c.args.token.now) c.args.tokens.now
