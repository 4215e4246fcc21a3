use Rattle.std.proofs.Common.{Bool, IfOk, map, string_bytes, subst, sym, ◌∙◌}
use Rattle.std.proofs.lemmas.Result.{IfOk-weaker}
use Rattle.dav_confined.specs.Asked.{AskedView}
use Rattle.dav_live.specs.Locked.{AreCounted, AreTokensOf}
use Rattle.dav_live.proofs.locked.tokens_of.Goals as goal

pub returns-then-counts_tokens : goal.returns-then-counts_tokens
returns-then-counts_tokens c =
    subst (λ (a : AskedView). IfOk c.tokens_in.result (λ tokens. AreTokensOf a.method c.args.head.now a.path (map string_bytes tokens.items))) c.asked.view_is
    (IfOk-weaker c.tokens_in.result _ _
    (λ tokens is. subst (λ (b : Bool). AreCounted b c.args.head.now c.asked.inside.path (map string_bytes tokens.items)) (sym (sym c.counts_tokens.ensures ∙ c.if-counts_tokens.true)) is)
    c.tokens_in.ensures)
