use Rattle.std.proofs.Common.{inl, inr, refl}
use Rattle.std.proofs.lemmas.Bool.{false≢true}
use Rattle.dav_server.specs.Target.{formless}
use Rattle.dav_server.proofs.TargetLemmas.{fragment_formless, unspelled_formless, partial_formless, absolute_text, read_named}
use Rattle.dav_server.proofs.target.read.Goals as goal

pub returns-then-begins_with_slash-clause-path : goal.returns-then-begins_with_slash-clause-path
returns-then-begins_with_slash-clause-path c =
    read_named c.args.target.now c.args.target.now c.named.result (inl (c.if-begins_with_slash.ensures.0 refl, refl)) c.named.ensures

pub returns-then-has_fragment-clause-path : goal.returns-then-has_fragment-clause-path
returns-then-has_fragment-clause-path c =
    inr (formless (fragment_formless c.args.target.now (λ slash. false≢true (c.if-begins_with_slash.ensures.1 slash)) (c.if-has_fragment.ensures.0 refl)))

pub returns-in-Err-Invalid-clause-path : goal.returns-in-Err-Invalid-clause-path
returns-in-Err-Invalid-clause-path c =
    let none = rw c.in-Err-Invalid.field-0-is at c.in-Err-Invalid.ensures.err in
    inr (formless (unspelled_formless c.args.target.now (λ slash. false≢true (c.if-begins_with_slash.ensures.1 slash)) (none false≢true)))

pub returns-in-Some-clause-path : goal.returns-in-Some-clause-path
returns-in-Some-clause-path c =
    read_named c.args.target.now c.in-Some.text.now c.named-in-Some.result
    (absolute_text c.args.target.now c.in-Some.text.now c.in-Ok.uri (λ slash. false≢true (c.if-begins_with_slash.ensures.1 slash))
    (λ has. false≢true (c.if-has_fragment.ensures.1 has)) c.in-Ok.ensures.ok c.in-Some.ensures) c.named-in-Some.ensures

pub returns-clause-path : goal.returns-clause-path
returns-clause-path c =
    inr (formless (partial_formless c.args.target.now c.in-Ok.uri (λ slash. false≢true (c.if-begins_with_slash.ensures.1 slash)) c.in-Ok.ensures.ok c.in-None.ensures))
