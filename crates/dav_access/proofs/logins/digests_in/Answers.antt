use Rattle.std.proofs.Common.{◌≡◌, ◌∙◌, ◌≤◌, ◌∷◌, ◌++◌, [], ℕ, All, List, ap, length, subst, sym, take, drop, arith}
use Rattle.std.proofs.lemmas.List.{length-append}
use Rattle.std.specs.List.{flat_map}
use Rattle.dav_access.proofs.LoginLemmas.{each_more, joined_more}
use Rattle.dav_access.proofs.logins.digests_in.Goals as goal

-- src/logins.rt:180:5
pub loop-digest-preserved : goal.loop-digest-preserved
loop-digest-preserved c =
    let digests : List (List ℕ) = c.loop-digest.digests.items in
    let rest : List ℕ = c.loop-digest.rest.now in
    let more : c.push.new.self.items ≡ digests ++ take 32 rest ∷ [] = c.in_ok-push.ensures.items ∙ ap (λ (d : List ℕ). digests ++ d ∷ []) c.in-Some.ensures.cases.0 in
    let after : c.in-Some.after.now ≡ drop 32 rest = c.in-Some.ensures.cases.1 in
    let some : 32 ≤ length rest = omega (arith, c.in-Some.ensures.cases.2) in (
      ap (λ (l : List (List ℕ)). flat_map (λ d. d) l ++ c.in-Some.after.now) more ∙ ap (λ (l : List ℕ). flat_map (λ d. d) (digests ++ take 32 rest ∷ []) ++ l) after
          ∙ joined_more digests rest c.args.bytes.now c.loop-digest.invariant.0,
      subst (All (λ d. length d ≡ 32)) (sym more) (each_more digests rest some c.loop-digest.invariant.1),
      omega (arith, ap length more, length-append digests (take 32 rest ∷ []), c.in-Some.ensures.cases.2, c.loop-digest.invariant.2),
      c.loop-digest.invariant.3,
    )
