use Rattle.std.proofs.lemmas.Bool.{false≢true}
use Rattle.dav_engine.proofs.TagPathLemmas.{refused_names_none, outside_names_none, below_names, speaks_of_none}
use Rattle.dav_engine.proofs.conditions.tagged_path.Goals as goal

pub returns-in-Err : goal.returns-in-Err
returns-in-Err c =
    speaks_of_none c.args.prefix.now c.args.url.now c.in-Err.error c.no_path.result c.no_path.ensures
    (refused_names_none c.args.prefix.now c.args.url.now c.path.result.now c.in-Err.error c.path.ensures.value c.in-Err.ensures.err)

pub returns-in-Err-set_prefix : goal.returns-in-Err-set_prefix
returns-in-Err-set_prefix c =
    speaks_of_none c.args.prefix.now c.args.url.now c.in-Err-set_prefix.error c.no_path-in-Err-set_prefix.result c.no_path-in-Err-set_prefix.ensures
    (outside_names_none c.args.prefix.now c.args.url.now c.path.result.now c.in-Ok.path c.in-Err-set_prefix.error c.path.ensures.value c.in-Ok.ensures.ok.0 c.in-Ok.ensures.ok.1 c.in-Err-set_prefix.ensures.err)

pub returns-in-Ok-set_prefix : goal.returns-in-Ok-set_prefix
returns-in-Ok-set_prefix c =
    below_names c.args.prefix.now c.args.url.now c.path.result.now c.in-Ok.path c.set_prefix.new.self c.path.ensures.value c.in-Ok.ensures.ok.0 c.in-Ok.ensures.ok.1
    (λ is. false≢true (c.if-is_star.ensures.1 is)) c.in-Ok-set_prefix.ensures.ok
