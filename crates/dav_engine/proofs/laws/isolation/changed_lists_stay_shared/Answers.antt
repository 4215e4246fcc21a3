use Rattle.dav_engine.proofs.ListChangeLemmas.{changes_keep_shared, changes_bring_tokens}
use Rattle.dav_engine.proofs.laws.isolation.changed_lists_stay_shared.Goals as goal

pub returns-clause-shared : goal.returns-clause-shared
returns-clause-shared c = changes_keep_shared

pub returns-clause-tokens : goal.returns-clause-tokens
returns-clause-tokens c = changes_bring_tokens
