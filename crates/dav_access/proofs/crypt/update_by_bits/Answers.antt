use Rattle.std.proofs.Common.{◌≡◌, ℕ, ◌/◌, ◌%◌, ◌+◌, ◌^◌, ◌==◌, List, ◌++◌, if◌then◌else◌, length, rules, sym, ap, ◌∙◌, append-nil, add-one}
use Rattle.std.proofs.Math.Nat.{div-div-eq-div-mul, pow-suc}
use Rattle.std.specs.List.{flat_map, range_with_len}
use Rattle.dav_access.proofs.CryptLemmas.{range_more}
use Rattle.dav_access.proofs.crypt.update_by_bits.Goals as goal

halved : (n i : ℕ) → n / 2 ^ i / 2 ≡ n / 2 ^ (i + 1)
halved n i = div-div-eq-div-mul n (2 ^ i) 2 ∙ ap (λ k. n / k) (sym (pow-suc 2 i) ∙ ap (λ k. 2 ^ k) (sym (add-one i)))

pub loop-i-init : goal.loop-i-init
loop-i-init c = (search rules, λ m holds. rw (append-nil m) holds)

pub loop-i-preserved : goal.loop-i-preserved
loop-i-preserved c =
    let f : ℕ → List ℕ = λ i. if length c.args.password.now / 2 ^ i % 2 == 1 then c.args.digest.now else c.args.password.now in (
      ap (λ k. k / 2) c.loop-i.invariant.0 ∙ halved (length c.args.password.now) c.loop-i.i,
      λ m holds.
          rw (range_more f c.loop-i.i m)
          (rw c.loop-i.invariant.0 at (c.update_either.ensures (m ++ flat_map f (range_with_len 0 c.loop-i.i)) (c.loop-i.invariant.1 m holds))),
    )
