use Rattle.dav_engine.proofs.DeclaringLemmas.{opened_by, opened_plain_by}
use Rattle.dav_engine.proofs.properties.response_writer.opened.Goals as goal

pub returns-then-not-declares_namespaces : goal.returns-then-not-declares_namespaces
returns-then-not-declares_namespaces c = opened_plain_by c.args.telling c.args.properties.now c.multistatus-element.result c.if-not-declares_namespaces.ensures c.multistatus-element.ensures

pub returns : goal.returns
returns c =
    opened_by c.args.telling c.args.properties.now c.multistatus-element.result c.declare-element.result c.declare-element-2.result c.declare-element-3.result c.declare.result c.if-not-declares_namespaces.ensures
    c.multistatus-element.ensures c.declare-element.ensures c.declare-element-2.ensures c.declare-element-3.ensures c.declare.ensures
